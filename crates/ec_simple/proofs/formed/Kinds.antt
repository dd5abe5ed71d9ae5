-- Kinds of variables: of those that are there, and of those that have the values of expressions.
use Rattle.std.proofs.Common.{◌≡◌, refl, ap, ◌∙◌, ℕ, Bool, true, false, ◌==◌, List, [], ◌∷◌, map, slice_get, Option, Some, None, is_some, option_map, eq-eqb, length}
use Rattle.std.proofs.lemmas.Bool.{lt-ltb}
use Rattle.std.proofs.lemmas.Option.{slice_get_within}
use Rattle.ec_simple.specs.declared.form.SFunc.{SFunc}
use Rattle.ec_simple.specs.declared.form.SVar.{SVar}
use Rattle.ec_simple.specs.declared.form.Form.{Form}
use Rattle.ec_simple.specs.Expressions.{Scope, pointer, points}
use Rattle.ec_simple.specs.Formed.{Kind, is_int, is_pointer, alike, all_alike, kind_among, kind_of, exists, has_shape, points_at}
use Rattle.ec_simple.specs.Kinds.{IsInt, IsPointer}
use Rattle.ec_simple.proofs.formed.Code.{both_true}
use Rattle.ec_simple.proofs.formed.Standing.{Value, given_kinds}
use Rattle.ec_types.specs.Meaning.Layout.{or_zero}
use Rattle.ec_types.specs.Meaning.Tree.{Expr}

-- ---- alike

pub alike_same : (b : Bool) → alike (Some b) (Some b) ≡ true
alike_same true = refl
alike_same false = refl

pub alike_are : (j k : Kind) (b : Bool) → j ≡ Some b → k ≡ Some b → alike j k ≡ true
alike_are j k b p q = ap (λ i. alike i k) p ∙ (ap (alike (Some b)) q ∙ alike_same b)

pub all_alike_same : (bs : List Bool) → all_alike (map Some bs) (map Some bs) ≡ true
all_alike_same [] = refl
all_alike_same (b ∷ bs) =
    both_true (alike (Some b) (Some b)) (all_alike (map Some bs) (map Some bs)) (alike_same b) (all_alike_same bs)

pub all_alike_are : (js ks : List Kind) (bs : List Bool) → js ≡ map Some bs → ks ≡ map Some bs → all_alike js ks ≡ true
all_alike_are js ks bs p q =
    ap (λ i. all_alike i ks) p ∙ (ap (all_alike (map Some bs)) q ∙ all_alike_same bs)

pub given_alike : (js ks : List Kind) (o : Option Bool) → js ≡ given_kinds o → ks ≡ given_kinds o → all_alike js ks ≡ true
given_alike js ks None p q = all_alike_are js ks [] p q
given_alike js ks (Some b) p q = all_alike_are js ks (b ∷ []) p q

-- ---- variables that are there

pub kind_there : (vars : List SVar) (x : ℕ) (v : SVar) → slice_get vars x ≡ Some v → kind_among vars x ≡ Some v.pointer
kind_there vars x v h = ap (λ (o : Option SVar). option_map (λ (u : SVar). u.pointer) o) h

module _ (s : Form) (f : SFunc) where
  pub exists_there : (x : ℕ) (v : SVar) → slice_get f.vars x ≡ Some v → exists s f x ≡ true
  exists_there x v h = lt-ltb x (length f.vars) (slice_get_within f.vars x v h)

  pub points_at_there : (shape x : ℕ) (v : SVar) → slice_get f.vars x ≡ Some v → v.pointer ≡ true → v.shape ≡ shape →
      points_at s f shape x ≡ true
  points_at_there shape x v h p q =
      ap (has_shape s f shape) h ∙ both_true v.pointer (v.shape == shape) p (eq-eqb v.shape shape q)

  -- ---- variables that have values of expressions

  module _ (c : Scope) (a : Expr) (x : ℕ) (v : Value c f.vars a x) where
    pub value_kind : kind_of s f x ≡ Some (points c a)
    value_kind = kind_there f.vars x v.variable v.there ∙ ap Some v.points

    pub value_exists : exists s f x ≡ true
    value_exists = exists_there x v.variable v.there

    pub value_int : IsInt c a → is_int (kind_of s f x) ≡ true
    value_int i = ap is_int (value_kind ∙ ap Some i)

    pub value_pointer : IsPointer c a → is_pointer (kind_of s f x) ≡ true
    value_pointer i = ap is_pointer (value_kind ∙ ap Some i)

    -- the elements behind it
    pub value_behind : IsPointer c a → points_at s f (or_zero (pointer c a)) x ≡ true
    value_behind i = points_at_there (or_zero (pointer c a)) x v.variable v.there (v.points ∙ i) v.shape

    pub value_at : (shape : ℕ) → pointer c a ≡ Some shape → points_at s f shape x ≡ true
    value_at shape e = points_at_there shape x v.variable v.there (v.points ∙ ap is_some e) (v.shape ∙ ap or_zero e)
