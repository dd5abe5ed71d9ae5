-- What the instructions of statements and declarations do.
use Rattle.std.proofs.Common.{◌≡◌, ◌≢◌, ◌≤◌, ◌<◌, ◌+◌, ◌⊎◌, inl, inr, ℕ, true, List, [], ◌∷◌, ◌++◌, length, map, Option, Some, None, ℤ, refl, ap, sym, ◌∙◌, subst, slice_get, slice_set, arith}
use Rattle.std.proofs.lemmas.Bool.{and_parts, cases_eq}
use Rattle.std.specs.List.{list_all, range_with_len}
use Rattle.std.proofs.lemmas.List.{length-set}
use Rattle.ec_base.specs.declared.value.Value.{Value}
use Rattle.ec_base.specs.declared.value.Value.TheVariants.{Int}
use Rattle.ec_core.specs.declared.code.Instr.{Instr}
use Rattle.ec_core.specs.Fiber.{held_in, as_int}
use Rattle.ec_small.specs.declared.tree.Expr.{Expr}
use Rattle.ec_small.specs.declared.tree.Program.{Program}
use Rattle.ec_small.specs.Meaning.{State, value, or_zero, initialised, declared_from}
use Rattle.ec_small.specs.Sound.{is_sound, is_sound_init}
use Rattle.ec_split.specs.Cut.{instrs, width, args_instrs, args_width, init_instrs, init_width, temporaries, widest}
use Rattle.ec_agree.proofs.Shapes.Cells.{Leads, leads_on, Shown, Keeps, keeps_all, shown_kept, var_same, var_other}
use Rattle.ec_agree.proofs.Shapes.Stages.{Shows}
use Rattle.ec_agree.proofs.Runs.Expressions.{Gives, evaluates}

-- ---- arguments

-- instructions give the cells from the base on the values of expressions, and leave those below as they are
pub record GivesAll (base : ℕ) (vars : List ℤ) (es : List Expr) (before : List Value) : Type 0 where
  pub cells : List Value
  pub leads : Leads (args_instrs base es) before cells
  pub size : length cells ≡ length before
  pub holds : map (λ c. as_int (held_in cells c)) (range_with_len base (length es)) ≡ map (value vars) es
  pub below : Keeps base before cells

one_more : (base : ℕ) (vars : List ℤ) (e : Expr) (es : List Expr) (before : List Value) →
    (one : Gives (instrs base base e) base base (value vars e) before) → GivesAll (base + 1) vars es one.cells →
    GivesAll base vars (e ∷ es) before
one_more base vars e es before one more =
    let first : as_int (held_in more.cells base) ≡ value vars e = ap as_int (more.below base (omega arith) ∙ one.holds) in
    record {
      cells = more.cells;
      leads = leads_on (instrs base base e) (args_instrs (base + 1) es) before one.cells more.cells one.leads more.leads;
      size = more.size ∙ one.size;
      holds = λ i. first i ∷ more.holds i;
      below = λ c h. more.below c (omega (arith, h)) ∙ one.below c h (λ e. absurd (omega (arith, h, e)));
    }

pub arguments : (es : List Expr) (count : ℕ) (vars : List ℤ) (base : ℕ) (before : List Value) →
    list_all (is_sound count) es ≡ true → count ≤ base → base + args_width es ≤ length before →
    Shown count vars before → GivesAll base vars es before
arguments [] count vars base before sound under room shown =
    record { cells = before; leads = λ rest u. refl; size = refl; holds = refl; below = λ c h. refl }
arguments (e ∷ es) count vars base before sound under room shown =
    let sounds = and_parts (is_sound count e) (list_all (is_sound count) es) sound in
    let some = (evaluates e).takes in
    let one = (evaluates e).gives count vars base base before (and_parts _ _ sounds.0).0
    (record { under = under; there = omega (arith, room, some); room = omega (arith, room); shown = shown }) in
    let size = one.size in
    let kept = keeps_all base base before one.cells (omega arith) one.below in
    one_more base vars e es before one
    (arguments es count vars (base + 1) one.cells sounds.1 (omega (arith, under)) (omega (arith, room, size))
    (shown_kept count vars base before one.cells under kept shown))

-- ---- assignments

-- instructions bring main's cells to where they show these variables
pub record Brings (p : Program) (code : List Instr) (vars : List ℤ) (before : List Value) : Type 0 where
  pub cells : List Value
  pub leads : Leads code before cells
  pub shows : Shows p vars cells

brings_on : (p : Program) (xs ys : List Instr) (us vs : List ℤ) (before : List Value) →
    (one : Brings p xs us before) →
    Brings p ys vs one.cells → Brings p (xs ++ ys) vs before
brings_on p xs ys us vs before one more = record {
  cells = more.cells;
  leads = leads_on xs ys before one.cells more.cells one.leads more.leads;
  shows = more.shows;
}

-- one cell and one variable are set, and the others stay
one_set : (vars : List ℤ) (k : ℕ) (n : ℤ) (before cells : List Value) (c : ℕ) → held_in cells k ≡ Int n →
    (c ≢ k → held_in cells c ≡ held_in before c) → k < length vars →
    held_in before c ≡ Int (or_zero (slice_get vars c)) → (c ≡ k) ⊎ (c ≡ k → ⊥) →
    held_in cells c ≡ Int (or_zero (slice_get (slice_set vars k n) c))
one_set vars k n before cells c holds other there shown (inl e) =
    subst (λ z. held_in cells z ≡ Int (or_zero (slice_get (slice_set vars k n) z))) (sym e)
    (holds ∙ ap (λ z. Int z) (sym (var_same vars k n there)))
one_set vars k n before cells c holds other there shown (inr e) =
    other e ∙ (shown ∙ ap (λ z. Int (or_zero z)) (sym (var_other vars k c n e)))

pub assigns : (p : Program) (k : ℕ) (e : Expr) (vars : List ℤ) (before : List Value) → k < length p.inits →
    is_sound (length p.inits) e ≡ true → width e ≤ temporaries p → Shows p vars before →
    Brings p (instrs k (length p.inits) e) (slice_set vars k (value vars e)) before
assigns p k e vars before declared sound wide shows =
    let n = value vars e in
    let size = shows.size in
    let count = shows.count in
    let one = (evaluates e).gives (length p.inits) vars k (length p.inits) before (and_parts _ _ sound).0 (record {
      under = omega arith;
      there = omega (arith, size, declared);
      room = omega (arith, size, wide);
      shown = shows.shown;
    }) in
    record {
      cells = one.cells;
      leads = one.leads;
      shows = record {
        count = length-set vars k n ∙ shows.count;
        size = one.size ∙ shows.size;
        shown = λ c h.
            one_set vars k n before one.cells c one.holds (one.below c h) (omega (arith, count, declared))
            (shows.shown c h) (cases_eq c k);
      };
    }

-- ---- declarations

pub declares : (p : Program) (os : List (Option Expr)) (k : ℕ) (state : State) (before : List Value) →
    k + length os ≤ length p.inits → list_all (is_sound_init (length p.inits)) os ≡ true →
    widest init_width os ≤ temporaries p → Shows p state.vars before →
    Brings p (init_instrs (length p.inits) k os) (declared_from k os state).vars before
declares p [] k state before room sound wide shows = record { cells = before; leads = λ rest u. refl; shows = shows }
declares p (None ∷ os) k state before room sound wide shows =
    declares p os (k + 1) state before (omega (arith, room)) sound (omega (arith, wide)) shows
declares p (Some e ∷ os) k state before room sound wide shows =
    let n = length p.inits in
    let sounds = and_parts (is_sound n e) (list_all (is_sound_init n) os) sound in
    let one = assigns p k e state.vars before (omega (arith, room)) sounds.0 (omega (arith, wide)) shows in
    brings_on p (instrs k n e) (init_instrs n (k + 1) os) (slice_set state.vars k (value state.vars e))
    (declared_from (k + 1) os (initialised k (Some e) state)).vars before one
    (declares p os (k + 1) (initialised k (Some e) state) one.cells (omega (arith, room)) sounds.1 (omega (arith, wide)) one.shows)

-- declarations print nothing
pub declares_silently : (os : List (Option Expr)) (k : ℕ) (state : State) →
    (declared_from k os state).output ≡ state.output
declares_silently [] k state = refl
declares_silently (None ∷ os) k state = declares_silently os (k + 1) state
declares_silently (Some e ∷ os) k state = declares_silently os (k + 1) (initialised k (Some e) state)
