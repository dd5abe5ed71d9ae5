-- What the instructions of an expression do.
use Rattle.std.proofs.Common.{◌≡◌, ◌≤◌, ◌<◌, ◌+◌, ℕ, Bool, true, List, [], ◌∷◌, ◌++◌, length, ℤ, refl, ap, sym, ◌∙◌, subst, slice_set, arith}
use Rattle.std.proofs.lemmas.Bool.{and_parts, ltb-true}
use Rattle.std.proofs.lemmas.List.{length-set}
use Rattle.ec_base.specs.declared.value.Value.{Value}
use Rattle.ec_base.specs.declared.value.Value.TheVariants.{Int}
use Rattle.ec_core.specs.declared.code.Instr.{Instr}
use Rattle.ec_core.specs.declared.code.Instr.TheVariants as i
use Rattle.ec_core.specs.Fiber.{held_in, as_int}
use Rattle.ec_small.specs.declared.tree.Operator.{Operator}
use Rattle.ec_small.specs.declared.tree.Operator.TheVariants as operator
use Rattle.ec_small.specs.declared.tree.Expr.{Expr, roll-Expr, map-Expr, fold-Expr, fold-roll-Expr, ind-Expr}
use Rattle.ec_small.specs.declared.tree.Expr.TheOpen.{Expr-F}
use Rattle.ec_small.specs.Meaning.{value, value_of, combined}
use Rattle.ec_small.specs.Sound.{is_declared, declared_in}
use Rattle.ec_split.specs.Owes.{operation}
use Rattle.ec_split.specs.Cut.{Places, instrs, expr_instrs, width, expr_width}
use Rattle.ec_agree.proofs.Shapes.Cells.{Leads, leads_on, held_same, held_other, Shown, KeepsBut, keeps_all, shown_kept}

-- instructions give cell d a value, and leave the cells below the base but d as they are
pub record Gives (code : List Instr) (d base : ℕ) (n : ℤ) (before : List Value) : Type 0 where
  pub cells : List Value
  pub leads : Leads code before cells
  pub size : length cells ≡ length before
  pub holds : held_in cells d ≡ Int n
  pub below : KeepsBut d base before cells

-- the variables are shown below the base, and there is room for the value and the temporaries
pub record Room (count : ℕ) (vars : List ℤ) (d base wide : ℕ) (cells : List Value) : Type 0 where
  pub under : count ≤ base
  pub there : d < length cells
  pub room : base + wide ≤ length cells
  pub shown : Shown count vars cells

-- ---- one layer

abbrev wide_of : Expr-F Expr → ℕ
wide_of x = expr_width (map-Expr Expr ℕ width x)

abbrev layer_instrs : Expr-F Expr → Places
layer_instrs x = expr_instrs (map-Expr Expr Places (fold-Expr Places expr_instrs) x)

abbrev known : ℕ → Expr-F Expr → Bool
known count x = declared_in count (map-Expr Expr Bool (is_declared count) x)

abbrev given : List ℤ → Expr-F Expr → ℤ
given vars x = value_of vars (map-Expr Expr ℤ (value vars) x)

-- a layer of an expression takes some cells, and gives its value
record Layer (x : Expr-F Expr) : Type 0 where
  takes : 1 ≤ wide_of x
  gives : (count : ℕ) (vars : List ℤ) (d base : ℕ) (cells : List Value) → known count x ≡ true →
      Room count vars d base (wide_of x) cells → Gives (layer_instrs x d base) d base (given vars x) cells

-- an expression takes some cells, and gives its value
pub record Evaluates (e : Expr) : Type 0 where
  pub takes : 1 ≤ width e
  pub gives : (count : ℕ) (vars : List ℤ) (d base : ℕ) (cells : List Value) → is_declared count e ≡ true →
      Room count vars d base (width e) cells → Gives (instrs d base e) d base (value vars e) cells

-- one instruction sets cell d
sets : (instr : Instr) (d base : ℕ) (x : Value) (n : ℤ) (cells : List Value) →
    Leads (instr ∷ []) cells (slice_set cells d x) → d < length cells → x ≡ Int n →
    Gives (instr ∷ []) d base n cells
sets instr d base x n cells leads there is = record {
  cells = slice_set cells d x;
  leads = leads;
  size = length-set cells d x;
  holds = held_same cells d x there ∙ is;
  below = λ c l other. held_other cells d c x other;
}

number_layer : (n : ℤ) → Layer (Expr-F.Number n)
number_layer n = record {
  takes = omega arith;
  gives = λ count vars d base cells h room. sets (i.Const d n) d base (Int n) n cells (λ rest u. refl) room.there refl;
}

variable_layer : (k : ℕ) → Layer (Expr-F.Var k)
variable_layer k = record {
  takes = omega arith;
  gives = λ count vars d base cells h room.
      sets (i.Copy d k) d base (held_in cells k) (given vars (Expr-F.Var k)) cells (λ rest u. refl) room.there
      (room.shown k (ltb-true k count h));
}

-- what an operator gives, of two cells
abbrev of_cells : Operator → ℕ → ℕ → List Value → ℤ
of_cells op x y cells = combined op (as_int (held_in cells x)) (as_int (held_in cells y))

operates : (op : Operator) (d x y : ℕ) (cells : List Value) →
    Leads (operation op d x y ∷ []) cells (slice_set cells d (Int (of_cells op x y cells)))
operates operator.Add d x y cells = λ rest u. refl
operates operator.Sub d x y cells = λ rest u. refl
operates operator.Mul d x y cells = λ rest u. refl

operation_gives : (op : Operator) (d base : ℕ) (n m : ℤ) (cells : List Value) → d < length cells →
    held_in cells base ≡ Int n → held_in cells (base + 1) ≡ Int m →
    Gives (operation op d base (base + 1) ∷ []) d base (combined op n m) cells
operation_gives op d base n m cells there left right =
    let is : of_cells op base (base + 1) cells ≡ combined op n m =
    ap (λ z. combined op (as_int z) (as_int (held_in cells (base + 1)))) left ∙ ap (λ z. combined op n (as_int z)) right in
    sets (operation op d base (base + 1)) d base (Int (of_cells op base (base + 1) cells)) (combined op n m) cells
    (operates op d base (base + 1) cells) there (ap (λ z. Int z) is)

-- the left operand's value stays while the right one comes about
left_stays : (xs ys : List Instr) (base : ℕ) (n m : ℤ) (cells : List Value) →
    (one : Gives xs base base n cells)
    (two : Gives ys (base + 1) (base + 1) m one.cells) → held_in two.cells base ≡ Int n
left_stays xs ys base n m cells one two = two.below base (omega arith) (λ e. absurd (omega (arith, e))) ∙ one.holds

-- the left operand's code, the right one's, and the operation
in_turn : (xs ys : List Instr) (x : Instr) (d base : ℕ) (n m k : ℤ) (cells : List Value) →
    (one : Gives xs base base n cells) (two : Gives ys (base + 1) (base + 1) m one.cells) →
    (last : Gives (x ∷ []) d base k two.cells) → Gives (xs ++ ys ++ x ∷ []) d base k cells
in_turn xs ys x d base n m k cells one two last = record {
  cells = last.cells;
  leads =
      leads_on (xs ++ ys) (x ∷ []) cells two.cells last.cells
      (leads_on xs ys cells one.cells two.cells one.leads two.leads) last.leads;
  size = last.size ∙ (two.size ∙ one.size);
  holds = last.holds;
  below = λ c l other.
      last.below c l other
      ∙ (two.below c (omega (arith, l)) (λ e. absurd (omega (arith, l, e))) ∙ one.below c l (λ e. absurd (omega (arith, l, e))));
}

binary_gives : (op : Operator) (a b : Expr) → Evaluates a → Evaluates b →
    (count : ℕ) (vars : List ℤ) (d base : ℕ) (cells : List Value) → known count (Expr-F.Binary op a b) ≡ true →
    Room count vars d base (wide_of (Expr-F.Binary op a b)) cells →
    Gives (layer_instrs (Expr-F.Binary op a b) d base) d base (given vars (Expr-F.Binary op a b)) cells
binary_gives op a b ha hb count vars d base cells h room =
    let declared = and_parts (is_declared count a) (is_declared count b) h in
    let under = room.under in
    let there = room.there in
    let enough = room.room in
    let some = hb.takes in
    let one = ha.gives count vars base base cells declared.0 (record {
      under = under;
      there = omega (arith, enough, some);
      room = omega (arith, enough);
      shown = room.shown;
    }) in
    let size1 = one.size in
    let kept = keeps_all base base cells one.cells (omega arith) one.below in
    let two = hb.gives count vars (base + 1) (base + 1) one.cells declared.1 (record {
      under = omega (arith, under);
      there = omega (arith, enough, some, size1);
      room = omega (arith, enough, size1);
      shown = shown_kept count vars base cells one.cells under kept room.shown;
    }) in
    let size2 = two.size in
    let left = left_stays (instrs base base a) (instrs (base + 1) (base + 1) b) base (value vars a) (value vars b) cells one two in
    let last = operation_gives op d base (value vars a) (value vars b) two.cells (omega (arith, there, size1, size2)) left two.holds in
    in_turn (instrs base base a) (instrs (base + 1) (base + 1) b) (operation op d base (base + 1)) d base
    (value vars a) (value vars b) (combined op (value vars a) (value vars b)) cells one two last

binary_layer : (op : Operator) (a b : Expr) → Evaluates a → Evaluates b → Layer (Expr-F.Binary op a b)
binary_layer op a b ha hb = record {
  takes = let some = hb.takes in omega (arith, some);
  gives = λ count vars d base cells h room. binary_gives op a b ha hb count vars d base cells h room;
}

-- ---- all layers

layer : (x : Expr-F Expr) (y : Expr-F ((e : Expr) × Evaluates e)) →
    map-Expr ((e : Expr) × Evaluates e) Expr (λ e. e.0) y ≡ x → Layer x
layer x (Expr-F.Number n) is = subst Layer is (number_layer n)
layer x (Expr-F.Var k) is = subst Layer is (variable_layer k)
layer x (Expr-F.Binary op a b) is = subst Layer is (binary_layer op a.0 b.0 a.1 b.1)

rolled : (x : Expr-F Expr) → Layer x → Evaluates (roll-Expr x)
rolled x h =
    let wide : width (roll-Expr x) ≡ wide_of x = fold-roll-Expr ℕ expr_width x in
    record {
      takes = subst (λ z. 1 ≤ z) (sym wide) h.takes;
      gives = λ count vars d base cells declared room.
          let before : known count x ≡ true = sym (fold-roll-Expr Bool (declared_in count) x) ∙ declared in
          let code : layer_instrs x d base ≡ instrs d base (roll-Expr x) =
          ap (λ z. z d base) (sym (fold-roll-Expr Places expr_instrs x)) in
          let gives : given vars x ≡ value vars (roll-Expr x) = sym (fold-roll-Expr ℤ (value_of vars) x) in
          let of_layer = h.gives count vars d base cells before (subst (λ z. Room count vars d base z cells) wide room) in
          subst (λ z. Gives z d base (value vars (roll-Expr x)) cells) code
          (subst (λ z. Gives (layer_instrs x d base) d base z cells) gives of_layer);
    }

pub evaluates : (e : Expr) → Evaluates e
evaluates = ind-Expr Evaluates (λ x y is. rolled x (layer x y is))
