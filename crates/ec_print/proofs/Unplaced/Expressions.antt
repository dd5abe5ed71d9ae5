-- What is written of an expression is written of its image without places.
use Rattle.std.proofs.Common.{◌≡◌, refl, sym, ◌∙◌, ap, ap₂, subst, List, [], ◌∷◌, map, codes, Option, Some, None}
use Rattle.ec_syntax.specs.declared.expression.Call.{Call, roll-Call}
use Rattle.ec_syntax.specs.declared.expression.Expr.{Expr, roll-Expr}
use Rattle.ec_syntax.specs.declared.expression.ExprKind.{ExprKind, roll-ExprKind}
use Rattle.ec_syntax.specs.declared.expression.ExprKind.TheFolds as F
use Rattle.ec_syntax.specs.declared.expression.ExprKind.TheOpen.{ExprKind-F, Placement-F, Call-F, Expr-F}
use Rattle.ec_syntax.specs.declared.expression.ExprKind.TheVariants as v
use Rattle.ec_syntax.specs.declared.expression.Placement.{Placement, roll-Placement}
use Rattle.ec_syntax.specs.declared.name.Base.{Base}
use Rattle.ec_syntax.specs.declared.name.Base.TheVariants.{Void, Int, Struct}
use Rattle.ec_syntax.specs.declared.name.Ty.{Ty}
use Rattle.ec_print.specs.Phrase.{Phrase, ◌then◌}
use Rattle.ec_print.specs.Sentence as S
use Rattle.ec_print.specs.Unplaced as U
use Rattle.ec_print.proofs.Again.Folds.{phrase, said, image_of, called_image, called_said}

-- what is written of an image is what is written of the value
abbrev pub Same : {A : Type 0} → (A → Phrase) → (A → A) → A → Type 0
Same written image a = written (image a) ≡ written a

pub optional_same : {A : Type 0} (written : A → Phrase) (image : A → A) → ((a : A) → Same written image a) → (o : Option A) → S.optional written (U.optional image o) ≡ S.optional written o
optional_same written image h None = refl
optional_same written image h (Some a) = h a

-- of each in a list
pub each_same : {A : Type 0} (written : A → Phrase) (image : A → A) → ((a : A) → Same written image a) → (xs : List A) → map written (map image xs) ≡ map written xs
each_same written image h [] = refl
each_same written image h (x ∷ xs) = ap₂ (λ y ys. y ∷ ys) (h x) (each_same written image h xs)

pub all_same : {A : Type 0} (written : A → Phrase) (image : A → A) (ys : List ((a : A) × Same written image a)) → map written (map image (map (λ y. y.0) ys)) ≡ map written (map (λ y. y.0) ys)
all_same written image [] = refl
all_same written image (y ∷ ys) = ap₂ (λ x xs. x ∷ xs) y.1 (all_same written image ys)

-- ---- types

base_same : (b : Base) → Same S.base U.base b
base_same Void = refl
base_same Int = refl
base_same (Struct n) = refl

pub type_same : (ty : Ty) → Same S.type U.type ty
type_same ty = ap (λ z. z then S.stars ty.stars) (base_same ty.base)

cast_same : (to : Option Ty) → S.optional S.cast (U.optional U.type to) ≡ S.optional S.cast to
cast_same = optional_same S.cast U.type (λ ty. ap S.bracketed (type_same ty))

-- ---- layers

abbrev Kind : ExprKind → Type 0
Kind = Same phrase U.kind

abbrev Place : Placement → Type 0
Place = Same S.placement U.placement

abbrev CallSame : Call → Type 0
CallSame = Same S.call U.call

abbrev Expression : Expr → Type 0
Expression = Same S.expression U.expression

-- children of which it is known
abbrev Kinds : Type 0
Kinds = (k : ExprKind) × Kind k

abbrev Places : Type 0
Places = (p : Placement) × Place p

abbrev Calls : Type 0
Calls = (c : Call) × CallSame c

abbrev Expressions : Type 0
Expressions = (e : Expr) × Expression e

abbrev bare : ExprKind-F Kinds Places Calls Expressions → ExprKind-F ExprKind Placement Call Expr
bare = F.map-ExprKind Kinds Places Calls Expressions ExprKind Placement Call Expr (λ e. e.0) (λ e. e.0) (λ e. e.0) (λ e. e.0)

abbrev layer_image : ExprKind-F ExprKind Placement Call Expr → ExprKind
layer_image x = U.of_kind (F.map-ExprKind ExprKind Placement Call Expr ExprKind Placement Call Expr U.kind U.placement U.call U.expression x)

abbrev layer_phrase : ExprKind-F ExprKind Placement Call Expr → Phrase
layer_phrase x = S.of_kind (F.map-ExprKind ExprKind Placement Call Expr Phrase Phrase Phrase Phrase phrase S.placement S.call S.expression x)

-- a layer whose image is this one
kind_by : (x w : ExprKind-F ExprKind Placement Call Expr) → layer_image x ≡ roll-ExprKind w → layer_phrase w ≡ layer_phrase x → Kind (roll-ExprKind x)
kind_by x w e h =
    ap phrase (F.fold-roll-ExprKind ExprKind Placement Call Expr U.of_kind roll-Placement U.of_call U.of_expression x ∙ e)
    ∙ F.fold-roll-ExprKind Phrase Phrase Phrase Phrase S.of_kind S.of_place S.of_call S.of_expression w ∙ h
    ∙ sym (F.fold-roll-ExprKind Phrase Phrase Phrase Phrase S.of_kind S.of_place S.of_call S.of_expression x)

kind_layer : (y : ExprKind-F Kinds Places Calls Expressions) → Kind (roll-ExprKind (bare y))
kind_layer (ExprKind-F.Number n) = kind_by (ExprKind-F.Number n) (ExprKind-F.Number n) refl refl
kind_layer ExprKind-F.Null = kind_by ExprKind-F.Null ExprKind-F.Null refl refl
kind_layer (ExprKind-F.Var x) = kind_by (ExprKind-F.Var x) (ExprKind-F.Var x) refl refl
kind_layer (ExprKind-F.Paren e) = kind_by (ExprKind-F.Paren e.0) (ExprKind-F.Paren (U.expression e.0)) refl (ap (λ z. S.of_kind (ExprKind-F.Paren z)) e.1)
kind_layer (ExprKind-F.Unary o e) = kind_by (ExprKind-F.Unary o e.0) (ExprKind-F.Unary o (U.expression e.0)) refl (ap (λ z. S.of_kind (ExprKind-F.Unary o z)) e.1)
kind_layer (ExprKind-F.Binary o a b) =
    kind_by (ExprKind-F.Binary o a.0 b.0) (ExprKind-F.Binary o (U.expression a.0) (U.expression b.0)) refl (ap₂ (λ y z. S.of_kind (ExprKind-F.Binary o y z)) a.1 b.1)
kind_layer (ExprKind-F.And a b) = kind_by (ExprKind-F.And a.0 b.0) (ExprKind-F.And (U.expression a.0) (U.expression b.0)) refl (ap₂ (λ y z. S.of_kind (ExprKind-F.And y z)) a.1 b.1)
kind_layer (ExprKind-F.Or a b) = kind_by (ExprKind-F.Or a.0 b.0) (ExprKind-F.Or (U.expression a.0) (U.expression b.0)) refl (ap₂ (λ y z. S.of_kind (ExprKind-F.Or y z)) a.1 b.1)
kind_layer (ExprKind-F.Deref e) = kind_by (ExprKind-F.Deref e.0) (ExprKind-F.Deref (U.expression e.0)) refl (ap (λ z. S.of_kind (ExprKind-F.Deref z)) e.1)
kind_layer (ExprKind-F.Index a b) = kind_by (ExprKind-F.Index a.0 b.0) (ExprKind-F.Index (U.expression a.0) (U.expression b.0)) refl (ap₂ (λ y z. S.of_kind (ExprKind-F.Index y z)) a.1 b.1)
kind_layer (ExprKind-F.Arrow e x) = kind_by (ExprKind-F.Arrow e.0 x) (ExprKind-F.Arrow (U.expression e.0) x) refl (ap (λ z. S.of_kind (ExprKind-F.Arrow z x)) e.1)
kind_layer (ExprKind-F.Dot e x) = kind_by (ExprKind-F.Dot e.0 x) (ExprKind-F.Dot (U.expression e.0) x) refl (ap (λ z. S.of_kind (ExprKind-F.Dot z x)) e.1)
kind_layer (ExprKind-F.Call c) = kind_by (ExprKind-F.Call c.0) (ExprKind-F.Call (U.call c.0)) refl (ap (λ z. S.of_kind (ExprKind-F.Call z)) c.1)
kind_layer (ExprKind-F.New to None ty) =
    kind_by (ExprKind-F.New to None ty) (ExprKind-F.New (U.optional U.type to) None (U.type ty)) (sym (v.rolls-New (U.optional U.type to) None (U.type ty)))
    (ap₂ (λ x z. x then S.word (codes "malloc") then S.bracketed (Phrase.nothing then S.word (codes "sizeof") then S.bracketed z)) (cast_same to) (type_same ty))
kind_layer (ExprKind-F.New to (Some e) ty) =
    kind_by (ExprKind-F.New to (Some e.0) ty) (ExprKind-F.New (U.optional U.type to) (Some (U.expression e.0)) (U.type ty))
    (sym (v.rolls-New (U.optional U.type to) (Some (U.expression e.0)) (U.type ty)))
    (ap₂ (λ x y. x then S.word (codes "malloc") then S.bracketed (S.factor y then S.word (codes "sizeof") then S.bracketed (S.type (U.type ty)))) (cast_same to) e.1
    ∙ ap (λ z. S.optional S.cast to then S.word (codes "malloc") then S.bracketed (S.factor (S.expression e.0) then S.word (codes "sizeof") then S.bracketed z)) (type_same ty))
kind_layer (ExprKind-F.ValueOf e) = kind_by (ExprKind-F.ValueOf e.0) (ExprKind-F.ValueOf (U.expression e.0)) refl (ap (λ z. S.of_kind (ExprKind-F.ValueOf z)) e.1)
kind_layer (ExprKind-F.Address x) = kind_by (ExprKind-F.Address x) (ExprKind-F.Address x) refl refl

abbrev bare_place : Placement-F Kinds Places Calls Expressions → Placement-F ExprKind Placement Call Expr
bare_place = F.map-Placement Kinds Places Calls Expressions ExprKind Placement Call Expr (λ e. e.0) (λ e. e.0) (λ e. e.0) (λ e. e.0)

abbrev place_image : Placement-F ExprKind Placement Call Expr → Placement-F ExprKind Placement Call Expr
place_image = F.map-Placement ExprKind Placement Call Expr ExprKind Placement Call Expr U.kind U.placement U.call U.expression

abbrev place_phrase : Placement-F ExprKind Placement Call Expr → Phrase
place_phrase x = S.of_place (F.map-Placement ExprKind Placement Call Expr Phrase Phrase Phrase Phrase phrase S.placement S.call S.expression x)

place_by : (x : Placement-F ExprKind Placement Call Expr) → place_phrase (place_image x) ≡ place_phrase x → Place (roll-Placement x)
place_by x h =
    ap S.placement (F.fold-roll-Placement ExprKind Placement Call Expr U.of_kind roll-Placement U.of_call U.of_expression x)
    ∙ F.fold-roll-Placement Phrase Phrase Phrase Phrase S.of_kind S.of_place S.of_call S.of_expression (place_image x) ∙ h
    ∙ sym (F.fold-roll-Placement Phrase Phrase Phrase Phrase S.of_kind S.of_place S.of_call S.of_expression x)

place_layer : (y : Placement-F Kinds Places Calls Expressions) → Place (roll-Placement (bare_place y))
place_layer Placement-F.Here = place_by Placement-F.Here refl
place_layer (Placement-F.OwnerOf e) = place_by (Placement-F.OwnerOf e.0) (ap (λ z. S.of_place (Placement-F.OwnerOf z)) e.1)
place_layer Placement-F.Home = place_by Placement-F.Home refl
place_layer (Placement-F.Node e) = place_by (Placement-F.Node e.0) (ap (λ z. S.of_place (Placement-F.Node z)) e.1)
place_layer Placement-F.Anywhere = place_by Placement-F.Anywhere refl

call_layer : (y : Call-F Kinds Places Calls Expressions) → CallSame (roll-Call (F.map-Call Kinds Places Calls Expressions ExprKind Placement Call Expr (λ e. e.0) (λ e. e.0) (λ e. e.0) (λ e. e.0) y))
call_layer y =
    let es = map (λ (e : Expressions). e.0) y.args in
    ap S.call (called_image y.name es y.place.0 y.at)
    ∙ called_said (U.name y.name) (map U.expression es) (U.placement y.place.0) U.nowhere
    ∙ ap₂ (λ x z. S.word y.name.text then S.bracketed (S.listed x) then z) (all_same S.expression U.expression y.args) y.place.1
    ∙ sym (called_said y.name es y.place.0 y.at)

expression_layer : (y : Expr-F Kinds Places Calls Expressions) → Expression (roll-Expr (F.map-Expr Kinds Places Calls Expressions ExprKind Placement Call Expr (λ e. e.0) (λ e. e.0) (λ e. e.0) (λ e. e.0) y))
expression_layer y = ap S.expression (image_of y.kind.0 y.at) ∙ said (U.kind y.kind.0) U.nowhere ∙ y.kind.1 ∙ sym (said y.kind.0 y.at)

-- ---- all together

pub expression_same : (e : Expr) → Same S.expression U.expression e
expression_same = F.ind-Expr Kind Place CallSame Expression
    (λ x y is. subst (λ z. Kind (roll-ExprKind z)) is (kind_layer y))
    (λ x y is. subst (λ z. Place (roll-Placement z)) is (place_layer y))
    (λ x y is. subst (λ z. CallSame (roll-Call z)) is (call_layer y))
    (λ x y is. subst (λ z. Expression (roll-Expr z)) is (expression_layer y))

pub call_same : (c : Call) → Same S.call U.call c
call_same = F.ind-Call Kind Place CallSame Expression
    (λ x y is. subst (λ z. Kind (roll-ExprKind z)) is (kind_layer y))
    (λ x y is. subst (λ z. Place (roll-Placement z)) is (place_layer y))
    (λ x y is. subst (λ z. CallSame (roll-Call z)) is (call_layer y))
    (λ x y is. subst (λ z. Expression (roll-Expr z)) is (expression_layer y))
