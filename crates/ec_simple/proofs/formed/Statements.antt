-- The code of statements without statements in them is formed.
use Rattle.std.proofs.Common.{◌≡◌, refl, ap, ◌∙◌, ℕ, ◌+◌, Bool, true, false, ◌&&◌, List, [], ◌∷◌, ◌++◌, length, map, Option, Some, None}
use Rattle.std.proofs.lemmas.Bool.{and_from}
use Rattle.ec_base.specs.declared.text.Text.{Text}
use Rattle.ec_base.specs.declared.token.Span.{Span}
use Rattle.ec_simple.specs.declared.form.Form.{Form}
use Rattle.ec_simple.specs.declared.form.SStmt.TheVariants as code
use Rattle.ec_simple.specs.Expressions.{Scope, low, low_list, low_call, function_at, points}
use Rattle.ec_simple.specs.Formed.{points_at, kind_of, is_int, is_written, all_alike, alike}
use Rattle.ec_simple.specs.Kinds.{IsInt, IsShared}
use Rattle.ec_simple.specs.Statements.{low_assignment, low_evaluated, unused}
use Rattle.ec_simple.proofs.formed.Arguments.{ints_print}
use Rattle.ec_simple.proofs.formed.Code.{formed_one, formed_last, write_formed, add_formed, print_formed, return_formed}
use Rattle.ec_simple.proofs.formed.Kinds.{value_kind, value_int, value_at, alike_are}
use Rattle.ec_simple.proofs.formed.Values.{value_formed, two_formed, list_formed}
use Rattle.ec_simple.proofs.formed.Spots.{Spot, in_scope, Leaf_forms}
use Rattle.ec_simple.proofs.formed.Standing.{Value, given_kinds}
use Rattle.ec_types.specs.Meaning.Tree.{Expr, Called, Part, Missing, Given, Exprs, Invocation, Invoke, Assignment, SetVar, Store, Copy, WriteTo, AddTo, Print, Return}

-- no functions come of these
pub assignment_none : (c : Scope) (a : Assignment) (t : ℕ) → (low_assignment c a t).funcs ≡ []
assignment_none c (SetVar at x a) t = refl
assignment_none c (Store p a) t = refl
assignment_none c (Copy p q) t = refl

pub evaluated_none : (c : Scope) (i : Invocation) (t : ℕ) → (low_evaluated c i t).funcs ≡ []
evaluated_none c (Invoke at f es q) t = go (function_at c f).void
  where
    go : (b : Bool) → (unused c (low_call c (Invoke at f es q) t) t b (Called (Invoke at f es q))).funcs ≡ []
    go true = refl
    go false = refl

module _ {s : Form} where
  -- ---- writes and adds to shared variables

  shared_and_int : (z : Spot s) (p a : Expr) (x y : ℕ) → Value z.scope z.function.vars p x →
      Value z.scope z.function.vars a y → IsShared z.scope p → IsInt z.scope a →
      (points_at s z.function 0 x && is_int (kind_of s z.function y)) ≡ true
  shared_and_int z p a x y v w h i =
      and_from (points_at s z.function 0 x) (is_int (kind_of s z.function y))
      (value_at s z.function z.scope p x v 0 h) (value_int s z.function z.scope a y w i)

  pub write_forms : (at : Span) (p a : Expr) → Leaf_forms s (WriteTo at p a)
  write_forms at p a z f k t g v =
      let lp = low z.scope p t in
      let la = low z.scope a (t + length lp.vars) in
      let two = two_formed s z.function z.scope z.sc z.stands (in_scope z) p a f.0 f.1 k.0 k.2 t v in (
        formed_last s z.function (lp.code ++ la.code) (code.Write lp.to la.to at) two.0
            (write_formed s z.function lp.to la.to at ∙ shared_and_int z p a lp.to la.to two.1 two.2 k.1 k.3),
        refl,
      )

  pub add_forms : (at : Span) (p a : Expr) → Leaf_forms s (AddTo at p a)
  add_forms at p a z f k t g v =
      let lp = low z.scope p t in
      let la = low z.scope a (t + length lp.vars) in
      let two = two_formed s z.function z.scope z.sc z.stands (in_scope z) p a f.0 f.1 k.0 k.2 t v in (
        formed_last s z.function (lp.code ++ la.code) (code.Add lp.to la.to at) two.0
            (add_formed s z.function lp.to la.to at ∙ shared_and_int z p a lp.to la.to two.1 two.2 k.1 k.3),
        refl,
      )

  -- ---- prints and returns

  pub print_forms : (string : Text) (es : Exprs) → Leaf_forms s (Print string es)
  print_forms string es z f k t g v =
      let l = low_list z.scope es t in
      let all = list_formed s z.function z.scope z.sc z.stands (in_scope z) es f k.0 t v in (
        formed_last s z.function l.code (code.Print string l.to) all.0
            (print_formed s z.function string l.to ∙ ints_print s z.function z.scope es l.to k.1 all.1),
        refl,
      )

  -- the results are the one that is given, or none
  returns_all : (z : Spot s) (gives : Option Bool) (xs : List ℕ) → z.may ≡ true → z.gives ≡ gives →
      all_alike (given_kinds gives) (map (kind_of s z.function) xs) ≡ true →
      (is_written s z.function z.function.kind
      && all_alike (map (kind_of s z.function) z.function.results) (map (kind_of s z.function) xs)) ≡ true
  returns_all z gives xs m e h =
      let r = z.returns m in
      and_from (is_written s z.function z.function.kind)
      (all_alike (map (kind_of s z.function) z.function.results) (map (kind_of s z.function) xs))
      (ap (is_written s z.function) r.0)
      (ap (λ ks. all_alike ks (map (kind_of s z.function) xs)) (r.1 ∙ ap given_kinds e) ∙ h)

  pub return_forms : (p : Part) → Leaf_forms s (Return p)
  return_forms Missing z f k t g v =
      (formed_one s z.function (code.Return None) (return_formed s z.function None ∙ returns_all z None [] f.0 k refl), refl)
  return_forms (Given a) z f k t g v =
      let la = low z.scope a t in
      let is = value_formed s z.function z.scope z.sc z.stands (in_scope z) a f.1 k.0 t v in
      let b = points z.scope a in
      let kind = kind_of s z.function la.to in (
        formed_last s z.function la.code (code.Return (Some la.to)) is.0
            (return_formed s z.function (Some la.to)
            ∙ returns_all z (Some b) (la.to ∷ []) f.0 k.1
            (and_from (alike (Some b) kind) true
            (alike_are (Some b) kind b refl (value_kind s z.function z.scope a la.to is.1)) refl)),
        refl,
      )
