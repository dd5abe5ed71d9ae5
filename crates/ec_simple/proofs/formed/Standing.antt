-- Parts of lists stand at numbers of the whole: the variables of a function that code sets, and the functions of a program.
use Rattle.std.proofs.Common.{◌≡◌, refl, ap, ◌∙◌, ℕ, zero, suc, ◌+◌, ◌<◌, Bool, true, List, [], ◌∷◌, ◌++◌, length, slice_get, map, Option, Some, None, arith}
use Rattle.std.proofs.lemmas.List.{length-append}
use Rattle.ec_simple.specs.declared.form.FuncKind.TheVariants.{Written}
use Rattle.ec_simple.specs.declared.form.SFunc.{SFunc}
use Rattle.ec_simple.specs.declared.form.Form.{Form}
use Rattle.ec_simple.specs.declared.form.SVar.{SVar}
use Rattle.ec_simple.specs.Expressions.{Scope, Low, variable_at, function_at, of_variable, pointer, points}
use Rattle.ec_simple.specs.Formed.{Kind, kind_among, all_formed}
use Rattle.ec_simple.specs.Kinds.{parameters_point, given}
use Rattle.ec_simple.specs.Sound.{IsIn}
use Rattle.ec_types.specs.Meaning.Layout.{or_zero}
use Rattle.ec_types.specs.Meaning.Tree.{Expr, Function}

-- the part stands in the whole from this number on
abbrev pub At : {A : Type 0} → List A → ℕ → List A → Type 0
At whole n part = (k : ℕ) → k < length part → slice_get whole (n + k) ≡ slice_get part k

-- ---- what stands where code of a function does

-- variables in scope have their numbers in the function
abbrev pub Placed : Scope → List SVar → List ℕ → Type 0
Placed c vars sc = (x : ℕ) → IsIn x sc → slice_get vars (c.place x) ≡ Some (of_variable (variable_at c x))

-- what a function gives, as the kinds of its results
abbrev pub given_kinds : Option Bool → List Kind
given_kinds None = []
given_kinds (Some b) = Some b ∷ []

-- the simple form of a function that may be called
pub record Callable (s : Form) (k : ℕ) (f : Function) : Type 0 where
  pub function : SFunc
  pub there : slice_get s.funcs k ≡ Some function
  pub written : function.kind ≡ Written
  pub params : map (kind_among function.vars) function.params ≡ map Some (parameters_point f)
  pub results : map (kind_among function.vars) function.results ≡ given_kinds (given f)

-- the functions, variables and shapes of a scope are those of the form
pub record Stands (s : Form) (c : Scope) : Type 0 where
  pub functions : (k : ℕ) → k < length c.functions → Callable s k (function_at c k)
  pub variables : (x : ℕ) → or_zero (variable_at c x).pointer < length s.shapes
  pub results : (k : ℕ) → (function_at c k).shape < length s.shapes
  pub shared : (x : ℕ) → (variable_at c x).shared ≡ true → (variable_at c x).pointer ≡ Some 0
  pub shapes : 1 < length s.shapes

-- the variable is there, and is what the expression is
pub record Value (c : Scope) (vars : List SVar) (a : Expr) (x : ℕ) : Type 0 where
  pub variable : SVar
  pub there : slice_get vars x ≡ Some variable
  pub points : variable.pointer ≡ points c a
  pub shape : variable.shape ≡ or_zero (pointer c a)

-- the code of an expression is formed, and its variable is what the expression is
abbrev pub FormedLow : Form → SFunc → Scope → Expr → Low → Type 0
FormedLow s f c a l = (all_formed s f l.code ≡ true) × Value c f.vars a l.to

-- ---- parts of parts

module _ {A : Type 0} (whole : List A) where
  left_get : (a b : List A) (k : ℕ) → k < length a → slice_get (a ++ b) k ≡ slice_get a k
  left_get [] b k h = absurd (omega (arith, h))
  left_get (x ∷ a) b zero h = refl
  left_get (x ∷ a) b (suc k) h = left_get a b k (omega (arith, h))

  right_get : (a b : List A) (k : ℕ) → slice_get (a ++ b) (length a + k) ≡ slice_get b k
  right_get [] b k = let is : 0 + k ≡ k = omega arith in ap (slice_get b) is
  right_get (x ∷ a) b k =
      let is : suc (length a) + k ≡ suc (length a + k) = omega arith in
      ap (slice_get (x ∷ a ++ b)) is ∙ right_get a b k

  pub at_left : (n : ℕ) (a b : List A) → At whole n (a ++ b) → At whole n a
  at_left n a b h k i =
      h k (let e = length-append a b in omega (arith, i, e)) ∙ left_get a b k i

  pub at_right : (n : ℕ) (a b : List A) → At whole n (a ++ b) → At whole (n + length a) b
  at_right n a b h k i =
      let is : (n + length a) + k ≡ n + (length a + k) = omega arith in
      ap (slice_get whole) is
      ∙ h (length a + k) (let e = length-append a b in omega (arith, i, e)) ∙ right_get a b k

  pub at_first : (n : ℕ) (x : A) (a : List A) → At whole n (x ∷ a) → slice_get whole n ≡ Some x
  at_first n x a h =
      let is : n ≡ n + 0 = omega arith in
      ap (slice_get whole) is ∙ h 0 (omega arith)

  pub at_rest : (n : ℕ) (x : A) (a : List A) → At whole n (x ∷ a) → At whole (suc n) a
  at_rest n x a h k i =
      let is : suc n + k ≡ n + suc k = omega arith in ap (slice_get whole) is ∙ h (suc k) (omega (arith, i))

  -- one more behind others
  pub at_last : (n : ℕ) (a : List A) (x : A) → At whole n (a ++ x ∷ []) → slice_get whole (n + length a) ≡ Some x
  at_last n a x h = at_first (n + length a) x [] (at_right n a (x ∷ []) h)
