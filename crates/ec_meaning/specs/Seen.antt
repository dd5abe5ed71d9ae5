-- The evaluator's values, works and state as those of the definitions: block numbers stand for birth paths.
use Rattle.std.specs.Prelude.{◌≡◌, ℕ, List, ◌++◌, map, reverse, drop, find, get_or, slice_get, Option, Some, None, option_map, Ok, Err, Result}
use Rattle.ec_base.specs.Words.{same}
use Rattle.ec_base.specs.declared.fail.Fail.{Fail}
use Rattle.ec_base.specs.declared.fail.Fail.TheVariants.{Memory, Refused}
use Rattle.ec_base.specs.declared.trap.Trap.{Trap}
use Rattle.ec_resolve.specs.Erased as erased
use Rattle.ec_types.specs.Meaning.Values as values
use Rattle.ec_types.specs.Meaning.Values.{Path, Val, zero_value}
use Rattle.ec_types.specs.Meaning.State as state
use Rattle.ec_types.specs.Meaning.State.{Placed, Fork, Out, With, Traps, Vars}
use Rattle.ec_types.specs.Meaning.Memory as memory
use Rattle.ec_types.specs.Meaning.Tree as tree
use Rattle.ec_types.specs.Meaning.Evaluation.{Caller}
use Rattle.ec_meaning.specs.declared.value.Value.{Value}
use Rattle.ec_meaning.specs.declared.value.Value.TheVariants as value
use Rattle.ec_meaning.specs.declared.value.Block.{Block}
use Rattle.ec_meaning.specs.declared.value.Access.{Access}
use Rattle.ec_meaning.specs.declared.work.Placement.{Placement}
use Rattle.ec_meaning.specs.declared.work.Placement.TheVariants as placed
use Rattle.ec_meaning.specs.declared.work.Loop.{Loop}
use Rattle.ec_meaning.specs.declared.work.Loop.TheVariants as looped
use Rattle.ec_meaning.specs.declared.work.Work.{Work}
use Rattle.ec_meaning.specs.declared.work.Work.TheVariants as todo
use Rattle.ec_meaning.specs.declared.hand.Hand.{Hand}
use Rattle.ec_meaning.specs.declared.hand.Awaits.{Awaits}
use Rattle.ec_meaning.specs.declared.hand.Awaits.TheVariants as waits
use Rattle.ec_meaning.specs.declared.hand.Frame.{Frame}
use Rattle.ec_meaning.specs.declared.hand.Waiting.{Waiting}
use Rattle.ec_meaning.specs.declared.shared_state.Core.{Core}
use Rattle.ec_meaning.specs.Works as w
use Rattle.ec_meaning.specs.Acts.{acts}
use Rattle.ec_meaning.specs.Opened.{Opened, opened}
use Rattle.ec_meaning.specs.Machine as m

-- what the evaluator doesn't keep: the path that a block's number stands for, placements and forks
pub record Untold : Type 0 where
  pub paths : ℕ → Path
  pub places : List Placed
  pub forks : List Fork

module _ (u : Untold) where
  abbrev pub val : Value → Val
  val (value.Int n) = values.Num n
  val value.Null = values.Null
  val (value.To k) = values.To (u.paths k)

  abbrev pub access : Access → memory.Access
  access a = record {
    at = a.at;
    base = val a.base;
    index = a.index;
    size = a.size;
    first = a.field.first;
    item = a.item;
    length = a.field.length;
  }

  -- ---- works

  abbrev pub placement : Placement → w.Placement
  placement placed.Here = w.Here
  placement placed.OwnerOf = w.OwnerOf
  placement placed.Home = w.Home
  placement placed.Node = w.Node
  placement placed.Anywhere = w.Anywhere

  abbrev pub loop : Loop → w.Loop
  loop (looped.While e s) = w.WhileLoop (erased.expression e.now) (erased.statement s.now)
  loop (looped.For h s) =
      w.ForLoop (erased.optional h.now.test) (option_map erased.assignment h.now.last) (erased.statement s.now)
  loop (looped.Forall h s) = w.ForallLoop (erased.expression h.now.test) (erased.assignment h.now.last) (erased.statement s.now)

  abbrev pub work : Work → w.Work
  work (todo.Value e) = w.Value (erased.expression e.now)
  work (todo.Constant v) = w.Constant (val v)
  work (todo.Reach p) = w.Reach (erased.place p.now)
  work (todo.Arguments es) = w.Arguments (erased.expressions es.now)
  work (todo.Call i) = w.Call (erased.invocation i.now)
  work (todo.Operate op) = w.Operate op
  work (todo.Combine at op) = w.Combine at op
  work (todo.AndThen e) = w.AndThen (erased.expression e.now)
  work (todo.OrElse e) = w.OrElse (erased.expression e.now)
  work todo.AsTruth = w.AsTruth
  work (todo.ToElement at size) = w.ToElement at size
  work (todo.ToBehind at size f) = w.ToBehind at size (erased.field f)
  work (todo.ToField at f) = w.ToField at (erased.field f)
  work (todo.ToItem at) = w.ToItem at
  work todo.LoadFrom = w.LoadFrom
  work (todo.LoadShared at) = w.LoadShared at
  work (todo.Allocate at pointers) = w.Allocate at (map erased.first_value pointers.now)
  work todo.Share = w.Share
  work todo.SaveTo = w.SaveTo
  work todo.CopyTo = w.CopyTo
  work (todo.SendTo at) = w.SendTo at
  work (todo.AddUp at) = w.AddUp at
  work (todo.Enter p f n) = w.Enter (placement p) f n
  work todo.Drop = w.Drop
  work (todo.Assign a) = w.Assign (erased.assignment a.now)
  work (todo.SetTo x) = w.SetTo x
  work (todo.Declare ds) = w.Declare (map erased.declaration ds.now)
  work (todo.Statement s) = w.Statement (erased.statement s.now)
  work (todo.Statements ss) = w.Statements (erased.statements ss.now)
  work (todo.Branches ss) = w.Branches (erased.statements ss.now)
  work (todo.Branch s) = w.Branch (erased.statement s.now)
  work (todo.Decide s z) = w.Decide (erased.statement s.now) (tree.otherwise (option_map (λ z. erased.statement z.now) z))
  work (todo.Turn l) = w.Turn (loop l)
  work (todo.Again l) = w.Again (loop l)
  work (todo.Joined births) = w.Joined births
  work (todo.PrintOut string n) = w.PrintOut string.now n
  work todo.GiveBack = w.GiveBack

  abbrev pub works : List Work → List w.Work
  works ws = map work ws

  -- ---- activations

  abbrev pub table : List Value → Vars
  table vs x = get_or (map val vs) x zero_value

  abbrev pub hand : Hand → w.Hand
  hand h = record { values = map val h.values; accesses = map access h.accesses; vars = table h.vars.items }

  abbrev pub awaits : Awaits → m.Awaits
  awaits (waits.Value pointer) = m.AwaitsValue pointer
  awaits waits.Vars = m.AwaitsVars

  abbrev pub waiting : Waiting → m.Waiting
  waiting f = record { awaits = awaits f.awaits; works = works f.frame.works; hand = hand f.frame.hand }

  -- ---- what they share

  abbrev pub cells : Block → List Val
  cells b = map val b.cells.items

  abbrev pub store : List Block → Path → Option (List Val)
  store blocks p = option_map cells (find (λ b. same b.path p) blocks)

  abbrev pub core : Core → state.Core
  core c = record {
    path = reverse (drop 1 c.births);
    births = get_or c.births 0 0;
    most = c.most;
    output = c.output.items;
    store = store c.blocks.items;
    places = u.places;
    forks = u.forks;
  }

  abbrev pub machine : Frame → List Waiting → Core → m.Machine
  machine f fs c = record { works = works f.works; hand = hand f.hand; waiting = map waiting fs; core = core c }

-- the paths are those of the blocks, and no two of them are the same
pub record Tells (u : Untold) (c : Core) : Type 0 where
  pub blocks : (k : ℕ) (b : Block) → slice_get c.blocks.items k ≡ Some b → u.paths k ≡ b.path
  pub apart : (i j : ℕ) → u.paths i ≡ u.paths j → i ≡ j

-- an answer is what a part does with so many ticks, in the core behind it; or memory was wanted
abbrev pub Performs : {A B : Type 0} → (A → B) → Result A (Fail Trap) → Out B → state.Core → ℕ → Type 0
Performs f (Ok a) out c r = out ≡ (With (f a), c, r)
Performs f (Err (Refused t)) out c r = out ≡ (Traps t, c, r)
Performs f (Err Memory) out c r = Unit {0}

-- a work was opened, or is none that only opens or touches the hand
pub record Opens (u : Untold) (taken : Work) (births : ℕ) (old new : Frame) : Type 0 where
  pub result : Opened
  pub is : opened (work u taken) (hand u old.hand) births ≡ Some result
  pub works : works u new.works ≡ result.works ++ works u old.works
  pub hand : hand u new.hand ≡ result.hand

-- works that do more are handed back, and the frame is as before
pub record HandsBack (u : Untold) (taken back : Work) (births : ℕ) (old new : Frame) : Type 0 where
  pub is : opened (work u taken) (hand u old.hand) births ≡ None
  pub same : back ≡ taken
  pub frame : new ≡ old

abbrev pub Takes : Work → ℕ → Frame → Frame → Option Work → Type 0
Takes taken births old new None = (u : Untold) → Opens u taken births old new
Takes taken births old new (Some back) = (u : Untold) → HandsBack u taken back births old new

-- a work was done within its activation, or trapped
abbrev pub Does : Work → Hand → Core → Hand → Core → Result (Unit {0}) (Fail Trap) → Type 0
Does taken h c h' c' result =
    (u : Untold) (call : Caller) (n r : ℕ) → Tells u c' →
    Performs (λ done. hand u h') result (acts call n (work u taken) (hand u h) (core u c) r) (core u c') r
