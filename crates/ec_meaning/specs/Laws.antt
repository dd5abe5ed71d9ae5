-- The start comes to the meaning, and steps that open a work, call, branch, end an activation or return come to what the
-- state before came to.
use Rattle.std.specs.Prelude.{◌≡◌, ℕ, suc, ◌≤◌, Bool, true, false, List, [], ◌∷◌, ◌++◌, map, slice_get, Some, ℤ}
use Rattle.ec_syntax.specs.declared.item.Program.{Program as Source}
use Rattle.ec_types.specs.Meaning.Values.{Val, Num}
use Rattle.ec_types.specs.Meaning.State.{Core, Here, inner, opened as opened_at, set_all, unset}
use Rattle.ec_types.specs.Meaning.Tree.{Function, Stmt}
use Rattle.ec_types.specs.Meaning.Evaluation.{Program}
use Rattle.ec_types.specs.Meaning.Programs.{main_or, mean, root, told}
use Rattle.ec_types.specs.Meaning.Resolution as resolution
use Rattle.ec_meaning.specs.Works.{Placement, Work, Declare, Statement, Statements, Branch, Enter, GiveBack, Hand}
use Rattle.ec_meaning.specs.Acts.{last_values, operands, site, top, without}
use Rattle.ec_meaning.specs.Opened.{Opened, opened}
use Rattle.ec_meaning.specs.Machine.{Awaits, AwaitsValue, AwaitsVars, Waiting, Machine, Turns, above, answered, comes_to, completed}

-- an activation that runs, those that wait, and what they share
abbrev pub running : List Work → Hand → List Waiting → Core → Machine
running ws h us c = record { works = ws; hand = h; waiting = us; core = c }

abbrev pub waits : Awaits → List Work → Hand → Waiting
waits awaits ws h = record { awaits = awaits; works = ws; hand = h }

-- a fresh activation has nothing but its variables at hand
abbrev pub body_of : Function → List Work
body_of g = Declare g.decls ∷ Statements g.body ∷ []

abbrev pub fresh : (ℕ → Val) → Hand
fresh vs = record { values = []; accesses = []; vars = vs }

-- ---- steps

-- a work is opened, with a tick or without
abbrev pub OpeningKeeps : Type 0
OpeningKeeps =
    (p : Program) (pointer : Bool) (w : Work) (h : Hand) (ws : List Work) (us : List Waiting) (c : Core) (o : Opened) →
    opened w h c.births ≡ Some o →
    Turns p pointer o.ticks (running (w ∷ ws) h us c) (running (o.works ++ ws) o.hand us c)

-- a function is called, with a tick
abbrev pub CallingKeeps : Type 0
CallingKeeps =
    (p : Program) (pointer : Bool) (kind : Placement) (f k : ℕ) (g : Function) (h : Hand) (ws : List Work)
    (us : List Waiting) (c : Core) → slice_get p f ≡ Some g →
    let args = without (operands kind) h in
    Turns p pointer true (running (Enter kind f k ∷ ws) h us c)
    (running (body_of g) (fresh (set_all g.params (last_values k args) unset))
    (waits (AwaitsValue g.pointer) ws (without k args) ∷ us) (opened_at (site kind (top h)) (inner c)))

-- a branch or body begins, with a tick
abbrev pub BranchingKeeps : Type 0
BranchingKeeps =
    (p : Program) (pointer : Bool) (s : Stmt) (h : Hand) (ws : List Work) (us : List Waiting) (c : Core) →
    Turns p pointer true (running (Branch s ∷ ws) h us c)
    (running (Statement s ∷ []) (fresh h.vars) (waits AwaitsVars ws h ∷ us) (opened_at Here (inner c)))

-- an activation comes to its end, or returns
abbrev pub CompletingKeeps : Type 0
CompletingKeeps =
    (p : Program) (pointer : Bool) (h : Hand) (u : Waiting) (us : List Waiting) (c : Core) →
    Turns p pointer false (running [] h (u ∷ us) c) (running u.works (completed u.awaits h u.hand) us (above c))

abbrev pub ReturningKeeps : Type 0
ReturningKeeps =
    (p : Program) (pointer : Bool) (h : Hand) (ws : List Work) (u : Waiting) (us : List Waiting) (c : Core) →
    Turns p pointer false (running (GiveBack ∷ ws) h (u ∷ us) c)
    (running u.works (answered u.awaits (top h) u.hand) us (above c))

-- ---- the start

-- what main's activation comes to, once its tick is spent, is what the program means
abbrev pub StartMeans : Type 0
StartMeans =
    (s : Source) (args : List ℤ) (n j : ℕ) → j ≤ n →
    let q = resolution.program s in
    let g = main_or (slice_get q (resolution.main_number s)) in
    let start = running (body_of g) (fresh (set_all g.params (map Num args) unset)) [] (opened_at Here root) in
    told (suc j) (comes_to q n g.pointer start j) ≡ mean s args (suc j)
