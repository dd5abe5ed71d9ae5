-- What a fiber does up to its end.
use Rattle.std.proofs.Common.{◌≡◌, ◌≤◌, ◌+◌, ◌&&◌, nat_le, ℕ, true, false, List, [], ◌∷◌, ◌++◌, length, map, refl, ap, sym, ◌∙◌, append_assoc, length-append, arith}
use Rattle.std.proofs.lemmas.Bool.{and_parts, ltb-true}
use Rattle.std.specs.List.{list_all, range_with_len}
use Rattle.ec_base.specs.declared.limits.TheConstants.{MAX_PRINT_ARGUMENTS, MAX_STRING}
use Rattle.ec_base.specs.Format.{formatted, conversions}
use Rattle.ec_base.specs.declared.value.Value.{Value}
use Rattle.ec_core.specs.declared.code.Instr.{Instr}
use Rattle.ec_core.specs.declared.code.Instr.TheVariants as i
use Rattle.ec_core.specs.declared.code.Fiber.{Fiber}
use Rattle.ec_core.specs.declared.message.Entry.TheVariants as e
use Rattle.ec_core.specs.declared.message.Message.{Message}
use Rattle.ec_core.specs.declared.message.Message.TheVariants as m
use Rattle.ec_core.specs.State.{Exec}
use Rattle.ec_core.specs.Fiber.{does}
use Rattle.ec_small.specs.declared.tree.Expr.{Expr}
use Rattle.ec_small.specs.declared.tree.Stmt.{Stmt}
use Rattle.ec_small.specs.declared.tree.Stmt.TheVariants.{Set, Print}
use Rattle.ec_small.specs.declared.tree.Program.{Program}
use Rattle.ec_small.specs.Meaning.{State, value, done, all_done, last_state}
use Rattle.ec_small.specs.Sound.{Sound, is_sound, is_sound_stmt, asks}
use Rattle.ec_split.specs.Cut.{main_of, fiber, fibers as fibers_from, instrs, print_instrs, temporaries, widest, stmt_width}
use Rattle.ec_agree.proofs.Shapes.Cells.{frames_with, in_main}
use Rattle.ec_agree.proofs.Shapes.Stages.{Point, Next, Asks, Answers, GoodNext, Shows, frames_at, messages, main_back, answer}
use Rattle.ec_agree.proofs.Runs.Expressions.{evaluates}
use Rattle.ec_agree.proofs.Runs.Statements.{arguments, assigns}
use Rattle.ec_agree.proofs.Runs.Fibers.{rest_of}

-- instructions end a fiber as the meaning says
pub record Halts (p : Program) (code : List Instr) (out : List ℕ) (before : List Value) : Type 0 where
  pub next : Next
  pub runs : (u : Exec) →
      does 0 1 code (in_main before u) ≡ record u { frames = frames_at next; outbox = u.outbox ++ messages next }
  pub good : GoodNext p out next

-- the statements that are left, for a fiber that has begun
pub record Left (p : Program) (k : ℕ) (ss : List Stmt) (state : State) (cells : List Value) : Type 0 where
  pub before : List Fiber
  pub begun : List Instr
  pub passed : length before ≡ k
  pub fibers : (main_of p).fibers ≡ before ++ fibers_from (length p.inits) k begun ss p.result
  pub last : all_done ss state ≡ last_state p
  pub shows : Shows p state.vars cells
  pub sound : list_all (is_sound_stmt (length p.inits)) ss ≡ true
  pub wide : widest stmt_width ss ≤ temporaries p

two_more : {A : Type 0} (xs : List A) (x y : A) → (xs ++ x ∷ []) ++ y ∷ [] ≡ xs ++ (x ∷ y ∷ [])
two_more xs x y = append_assoc xs (x ∷ []) (y ∷ [])

-- ---- the last fiber

answers : (p : Program) → Sound p → (k : ℕ) (state : State) (cells : List Value) → Left p k [] state cells →
    Halts p (rest_of (length p.inits) k [] p.result) state.output cells
answers p sound k state cells left =
    let n = length p.inits in
    let result = value state.vars p.result in
    let some = (evaluates p.result).takes in
    let size = left.shows.size in
    let one = (evaluates p.result).gives n state.vars n n cells (and_parts _ _ sound.result).0 (record {
      under = omega arith;
      there = omega (arith, size, some);
      room = omega (arith, size);
      shown = left.shows.shown;
    }) in
    let filled = λ (x : Value). m.Work 0 (e.Fill 0 0 (0 ∷ []) (x ∷ [])) in
    record {
      next = Answers result;
      runs = λ u.
          one.leads (i.EndFunction (n ∷ []) ∷ []) u
          ∙ (λ j. record u {
            frames = frames_with false [];
            outbox = (ap (λ z. (u.outbox ++ filled z ∷ []) ++ m.EndFrame 1 ∷ []) one.holds
                ∙ two_more u.outbox (m.Work 0 (answer result)) (m.EndFrame 1)) j;
          });
      good = record { output = ap (λ z. z.output) left.last; result = ap (λ z. value z.vars p.result) left.last };
    }

-- ---- a fiber that prints

args_sound : (n : ℕ) (s : List ℕ) (es : List Expr) → is_sound_stmt n (Print s es) ≡ true →
    list_all (is_sound n) es ≡ true
args_sound n s es h =
    (and_parts (nat_le (length s) MAX_STRING && asks (conversions s) (length es) && nat_le (length es) MAX_PRINT_ARGUMENTS) (list_all (is_sound n) es) h).1

-- where main stands behind a print
abbrev after_print : ℕ → List ℕ → List Expr → List Stmt → State → List Value → Point
after_print k s es ss state cells = record { fiber = k + 1; stmts = ss; state = done (Print s es) state; cells = cells }

prints :
    (p : Program) (k : ℕ) (s : List ℕ) (es : List Expr) (ss : List Stmt) (state : State) (cells : List Value) →
    Left p k (Print s es ∷ ss) state cells →
    Halts p (rest_of (length p.inits) k (Print s es ∷ ss) p.result) state.output cells
prints p k s es ss state cells left =
    let n = length p.inits in
    let sounds = and_parts (is_sound_stmt n (Print s es)) (list_all (is_sound_stmt n) ss) left.sound in
    let size = left.shows.size in
    let wide = left.wide in
    let all = arguments es n state.vars n cells (args_sound n s es sounds.0) (omega arith) (omega (arith, size, wide)) left.shows.shown in
    let bytes = formatted s (map (value state.vars) es) in
    let ends : List Instr = i.InitSync 0 1 1 (k + 1) ∷ i.PrintSync s (range_with_len n (length es)) 0 ∷ i.EndFiber ∷ [] in
    let init : Message = m.Init 1 0 1 1 (k + 1) in
    let printed = fiber (left.begun ++ print_instrs n k s es) in
    record {
      next = Asks bytes (after_print k s es ss state all.cells);
      runs = λ u.
          all.leads ends u
          ∙ (λ j. record u {
            frames = frames_with true all.cells;
            outbox = (ap (λ z. (u.outbox ++ init ∷ []) ++ m.Work 0 (e.Print (formatted s z) main_back) ∷ []) all.holds
                ∙ two_more u.outbox init (m.Work 0 (e.Print bytes main_back))) j;
          });
      good = record {
        ahead = record {
          before = left.before ++ printed ∷ [];
          passed = length-append left.before (printed ∷ []) ∙ ap (λ z. z + 1) left.passed;
          fibers = left.fibers ∙ sym (append_assoc left.before (printed ∷ []) (fibers_from n (k + 1) [] ss p.result));
          last = left.last;
          shows = record {
            count = left.shows.count;
            size = all.size ∙ left.shows.size;
            shown = λ c h. all.below c h ∙ left.shows.shown c h;
          };
          sound = sounds.1;
          wide = omega (arith, wide);
        };
        output = refl;
      };
    }

-- ---- any fiber

pub halts : (p : Program) → Sound p → (k : ℕ) (ss : List Stmt) (state : State) (cells : List Value) →
    Left p k ss state cells → Halts p (rest_of (length p.inits) k ss p.result) state.output cells
halts p sound k [] state cells left = answers p sound k state cells left
halts p sound k (Print s es ∷ ss) state cells left = prints p k s es ss state cells left
halts p sound k (Set x e ∷ ss) state cells left =
    let n = length p.inits in
    let sounds = and_parts (is_sound_stmt n (Set x e)) (list_all (is_sound_stmt n) ss) left.sound in
    let wide = left.wide in
    let set = and_parts _ _ sounds.0 in
    let one = assigns p x e state.vars cells (ltb-true x n set.0) set.1 (omega (arith, wide)) left.shows in
    let more = halts p sound k ss (done (Set x e) state) one.cells (record {
      before = left.before;
      begun = left.begun ++ instrs x n e;
      passed = left.passed;
      fibers = left.fibers;
      last = left.last;
      shows = one.shows;
      sound = sounds.1;
      wide = omega (arith, wide);
    }) in
    record { next = more.next; runs = λ u. one.leads (rest_of n k ss p.result) u ∙ more.runs u; good = more.good }
