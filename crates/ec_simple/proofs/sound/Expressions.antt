-- The resolved trees of right expressions, by one induction over the expression.
use Rattle.std.proofs.Common.{◌≡◌, refl, subst, ℕ, Bool, true, List, [], map, Option, Some, None, Ok}
use Rattle.ec_base.specs.declared.reason.Reason.TheVariants.{Unknown}
use Rattle.ec_base.specs.declared.text.Text.{Text}
use Rattle.ec_base.specs.declared.token.Span.{Span}
use Rattle.ec_calls.specs.Items.{function_named}
use Rattle.ec_simple.specs.Expressions.{Scope}
use Rattle.ec_simple.specs.Kinds.{IsInt, Kinds}
use Rattle.ec_simple.specs.Lower.{shapes}
use Rattle.ec_simple.specs.Sound.{Sound}
use Rattle.ec_syntax.specs.declared.expression.Call.{Call, roll-Call}
use Rattle.ec_syntax.specs.declared.expression.Expr.{Expr}
use Rattle.ec_syntax.specs.declared.expression.ExprKind.{ExprKind, roll-ExprKind}
use Rattle.ec_syntax.specs.declared.expression.ExprKind.TheFolds.{ind-Expr, ind-Call, map-ExprKind, map-Placement, map-Call, map-Expr}
use Rattle.ec_syntax.specs.declared.expression.ExprKind.TheOpen.{ExprKind-F, Placement-F, Call-F, Expr-F}
use Rattle.ec_syntax.specs.declared.expression.ExprKind.TheViews.{roll-Placement, roll-Expr}
use Rattle.ec_syntax.specs.declared.expression.Placement.{Placement}
use Rattle.ec_syntax.specs.declared.item.Func.{Func}
use Rattle.ec_syntax.specs.declared.item.StructDef.{StructDef}
use Rattle.ec_syntax.specs.declared.statement.Decl.{Decl}
use Rattle.ec_types.specs.Arguments.{arguments, params_of}
use Rattle.ec_types.specs.Context.{Context, is_local_variable}
use Rattle.ec_types.specs.declared.value_type.ExprType.{ExprType}
use Rattle.ec_types.specs.declared.value_type.ValueType.{ValueType}
use Rattle.ec_types.specs.Expressions as typing
use Rattle.ec_types.specs.Expressions.{Placed}
use Rattle.ec_types.specs.Judged.{refused, ◌and◌}
use Rattle.ec_types.specs.Meaning.Resolution as resolution
use Rattle.ec_types.specs.Meaning.Resolution.{Resolved, Calling, value, variable}
use Rattle.ec_types.specs.Meaning.Tree.{Missing, Given, exprs}
use Rattle.ec_types.specs.Names.{variable_named}
use Rattle.ec_types.specs.Parts.{tested}
use Rattle.ec_types.specs.Types.{is_number, points}
use Rattle.ec_simple.proofs.sound.Accesses.{FieldsFit}
use Rattle.ec_simple.proofs.sound.Calls.{Becomes, CallBecomes, PlaceBecomes, FunctionsFit, GoodCall, arguments_sound, called_by}
use Rattle.ec_simple.proofs.sound.Each.{Each}
use Rattle.ec_simple.proofs.sound.ExpressionFolds.{of_both, judged_kind, resolved_kind, kind_parts, place_parts, call_parts, expr_parts, kind_values, place_values, call_values, expr_values, rolled_kind_parts, rolled_place_parts, rolled_call_parts, rolled_expr_parts, rolled_kind_values, rolled_place_values, rolled_call_values, rolled_expr_values}
use Rattle.ec_simple.proofs.sound.Good.{good_int, good_pointer}
use Rattle.ec_simple.proofs.sound.Layers.{of_number, of_null, of_unary, of_binary, of_and, of_or, of_deref, of_index, of_arrow, of_dot, of_new, of_value_of, of_call, of_variable, of_address, tested_is}
use Rattle.ec_simple.proofs.sound.Right.{also_left, and_right, not_right}
use Rattle.ec_simple.proofs.sound.Types.{pointer_stands, number_stands}
use Rattle.ec_simple.proofs.sound.Variables.{InScope}

-- what is known of a program and of one of its functions
pub record Program (ss : List StructDef) (fs : List Func) (vs : List Decl) (c : Scope) : Type 0 where
  pub fields : FieldsFit ss
  pub functions : FunctionsFit ss fs c
  pub variables : c.variables ≡ map (variable ss) vs

-- what is known where a part of the function stands
abbrev pub there : List StructDef → List Func → (Text → Option Span) → ValueType → Bool → List Decl → Context
there ss fs prints result inside scope =
    record { structs = ss; functions = fs; prints = prints; result = result; inside = inside; scope = scope }

abbrev pub resolving : List StructDef → List Func → List Decl → resolution.Scope
resolving ss fs vs = record { structs = ss; functions = fs; variables = vs }

module _ (ss : List StructDef) (fs : List Func) (vs : List Decl) (c : Scope) (program : Program ss fs vs c)
    (prints : Text → Option Span) (result : ValueType) (inside : Bool) (scope : List Decl) (sc : List ℕ)
    (in_scope : Each (InScope ss vs sc) scope) where
  abbrev x : Context
  x = there ss fs prints result inside scope

  abbrev s : resolution.Scope
  s = resolving ss fs vs

  -- ---- what is shown of each part

  abbrev Kind : ExprKind → Type 0
  Kind k = (at : Span) → Becomes ss c sc (judged_kind x k at) (resolved_kind s k at)

  abbrev Place : Placement → Type 0
  Place p = PlaceBecomes ss c sc (typing.placed x p) (resolution.placed s p)

  abbrev Called : Call → Type 0
  Called k = CallBecomes ss c sc (typing.judged_call x k) (resolution.resolved_call s k)

  abbrev Whole : Expr → Type 0
  Whole e = Becomes ss c sc (typing.judged x e) (resolution.resolved s e)

  -- ---- layers of children of which it is known

  abbrev SuchKind : Type 0
  SuchKind = (k : ExprKind) × Kind k

  abbrev SuchPlace : Type 0
  SuchPlace = (p : Placement) × Place p

  abbrev SuchCall : Type 0
  SuchCall = (k : Call) × Called k

  abbrev SuchExpr : Type 0
  SuchExpr = (e : Expr) × Whole e

  abbrev kind_trees : ExprKind-F SuchKind SuchPlace SuchCall SuchExpr → ExprKind-F ExprKind Placement Call Expr
  kind_trees y =
      map-ExprKind SuchKind SuchPlace SuchCall SuchExpr ExprKind Placement Call Expr
      (λ e. e.0) (λ e. e.0) (λ e. e.0) (λ e. e.0) y

  abbrev place_trees : Placement-F SuchKind SuchPlace SuchCall SuchExpr → Placement-F ExprKind Placement Call Expr
  place_trees y =
      map-Placement SuchKind SuchPlace SuchCall SuchExpr ExprKind Placement Call Expr
      (λ e. e.0) (λ e. e.0) (λ e. e.0) (λ e. e.0) y

  abbrev call_trees : Call-F SuchKind SuchPlace SuchCall SuchExpr → Call-F ExprKind Placement Call Expr
  call_trees y =
      map-Call SuchKind SuchPlace SuchCall SuchExpr ExprKind Placement Call Expr
      (λ e. e.0) (λ e. e.0) (λ e. e.0) (λ e. e.0) y

  abbrev expr_trees : Expr-F SuchKind SuchPlace SuchCall SuchExpr → Expr-F ExprKind Placement Call Expr
  expr_trees y =
      map-Expr SuchKind SuchPlace SuchCall SuchExpr ExprKind Placement Call Expr
      (λ e. e.0) (λ e. e.0) (λ e. e.0) (λ e. e.0) y

  -- an int is asked
  counted :
      (a : SuchExpr) → tested is_number (Some (typing.judged x a.0)) ≡ Ok true →
      Sound (shapes ss) c sc (value (resolution.resolved s a.0))
      × (Kinds (shapes ss) c (value (resolution.resolved s a.0)) × IsInt c (value (resolution.resolved s a.0)))
  counted a h =
      let k = tested_is is_number (typing.judged x a.0) h in
      let g = a.1 k.t k.is in
      let stands = number_stands k.t k.holds in (
        g.sound stands,
        (g.kinds stands, good_int ss c sc (typing.judged x a.0).form k.t (resolution.resolved s a.0) g k.holds),
      )

  kind_layer :
      (y : ExprKind-F SuchKind SuchPlace SuchCall SuchExpr) (at : Span) →
      Becomes ss c sc (typing.of_kind x (kind_parts x (kind_trees y)) at)
      (resolution.of_kind s (kind_values s (kind_trees y)) at)
  kind_layer (ExprKind-F.Number n) at = of_number ss c sc n at
  kind_layer ExprKind-F.Null at = of_null ss c sc at
  kind_layer (ExprKind-F.Var y) at =
      λ t e. of_variable ss fs vs c program.variables sc scope in_scope at y t (variable_named scope y) refl e
  kind_layer (ExprKind-F.Paren a) at = a.1
  kind_layer (ExprKind-F.Unary op a) at = of_unary ss c sc op at (typing.judged x a.0) (resolution.resolved s a.0) a.1
  kind_layer (ExprKind-F.Binary op a b) at =
      of_binary ss c sc op at (typing.judged x a.0) (typing.judged x b.0) (resolution.resolved s a.0)
      (resolution.resolved s b.0) a.1 b.1
  kind_layer (ExprKind-F.And a b) at =
      of_and ss c sc at (typing.judged x a.0) (typing.judged x b.0) (resolution.resolved s a.0)
      (resolution.resolved s b.0) a.1 b.1
  kind_layer (ExprKind-F.Or a b) at =
      of_or ss c sc at (typing.judged x a.0) (typing.judged x b.0) (resolution.resolved s a.0)
      (resolution.resolved s b.0) a.1 b.1
  kind_layer (ExprKind-F.Deref a) at =
      of_deref ss c sc (is_local_variable x (typing.judged x a.0).form) at (typing.judged x a.0)
      (resolution.resolved s a.0) a.1
  kind_layer (ExprKind-F.Index a b) at =
      of_index ss c sc (typing.indexes_locally x (typing.judged x a.0)) at (typing.judged x a.0) (typing.judged x b.0)
      (resolution.resolved s a.0) (resolution.resolved s b.0) a.1 b.1
  kind_layer (ExprKind-F.Arrow a f) at =
      of_arrow ss c sc program.fields x refl (is_local_variable x (typing.judged x a.0).form) at f
      (typing.judged x a.0) (resolution.resolved s a.0) a.1
  kind_layer (ExprKind-F.Dot a f) at =
      of_dot ss c sc program.fields x refl (typing.judged x a.0).local at f (typing.judged x a.0)
      (resolution.resolved s a.0) a.1
  kind_layer (ExprKind-F.Call k) at = of_call ss c sc at (typing.judged_call x k.0) (resolution.resolved_call s k.0) k.1
  kind_layer (ExprKind-F.New to None element) at = of_new ss c sc x refl to (Ok true) element at Missing (λ h. (tt, tt))
  kind_layer (ExprKind-F.New to (Some a) element) at =
      of_new ss c sc x refl to (tested is_number (Some (typing.judged x a.0))) element at
      (Given (value (resolution.resolved s a.0)))
      (λ h. counted a h)
  kind_layer (ExprKind-F.ValueOf a) at = of_value_of ss c sc at (typing.judged x a.0) (resolution.resolved s a.0) a.1
  kind_layer (ExprKind-F.Address y) at =
      λ t e. of_address ss fs vs c program.variables sc scope in_scope at y t (variable_named scope y) refl e

  place_layer :
      (y : Placement-F SuchKind SuchPlace SuchCall SuchExpr) →
      PlaceBecomes ss c sc (typing.of_place x (place_parts x (place_trees y)))
      (resolution.of_place s (place_values s (place_trees y)))
  place_layer Placement-F.Here e = (tt, tt)
  place_layer (Placement-F.OwnerOf a) e =
      let k = tested_is points (typing.judged x a.0) e in
      let g = a.1 k.t k.is in
      let stands = pointer_stands k.t k.holds in (
        g.sound stands,
        (
          g.kinds stands,
          good_pointer ss c sc (typing.judged x a.0).form k.t (resolution.resolved s a.0) g k.holds,
        ),
      )
  place_layer Placement-F.Home e = (tt, tt)
  place_layer (Placement-F.Node a) e = counted a e
  place_layer Placement-F.Anywhere e = (tt, tt)

  -- a call of this function with these arguments
  called_as :
      (y : Call-F SuchKind SuchPlace SuchCall SuchExpr) (t : ExprType) (o : Option Func) →
      function_named fs y.name.text ≡ o →
      typing.called x o y.name.at
      (arguments (typing.placed x y.place.0).lets (params_of o) (map (typing.judged x) (map (λ e. e.0) y.args)) and
      (typing.placed x y.place.0).fits) y.at
      ≡ Ok t →
      GoodCall ss c sc t (resolution.of_call s (call_values s (call_trees y)))
  called_as y t None named e =
      let fit =
      arguments (typing.placed x y.place.0).lets [] (map (typing.judged x) (map (λ e. e.0) y.args)) and
      (typing.placed x y.place.0).fits in
      not_right (also_left (refused Unknown y.name.at) fit t e)
  called_as y t (Some f) named e =
      let lets = (typing.placed x y.place.0).lets in
      let all = arguments lets f.params (map (typing.judged x) (map (λ e. e.0) y.args)) in
      let place = (typing.placed x y.place.0).fits in
      called_by ss fs c sc program.functions inside (prints f.name.text) y.name y.at f
      (exprs (map value (map (resolution.resolved s) (map (λ e. e.0) y.args)))) (resolution.placed s y.place.0)
      (all and place) t named
      (λ h. arguments_sound ss c sc (typing.judged x) (resolution.resolved s) (λ e. e.0) (λ e. e.1) lets f.params y.args
      (program.functions y.name.text f named).params (and_right all place h).0)
      (λ h. y.place.1 (and_right all place h).1)
      e

  call_layer :
      (y : Call-F SuchKind SuchPlace SuchCall SuchExpr) →
      CallBecomes ss c sc (typing.of_call x (call_parts x (call_trees y)))
      (resolution.of_call s (call_values s (call_trees y)))
  call_layer y t e = called_as y t (function_named fs y.name.text) refl e

  -- ---- the layers rolled into trees

  rolled_kind :
      (z : ExprKind-F ExprKind Placement Call Expr) →
      ((at : Span) → Becomes ss c sc (typing.of_kind x (kind_parts x z) at) (resolution.of_kind s (kind_values s z) at)) →
      Kind (roll-ExprKind z)
  rolled_kind z h =
      of_both (λ k l. (at : Span) → Becomes ss c sc (k at) (l at))
      (judged_kind x (roll-ExprKind z)) (typing.of_kind x (kind_parts x z))
      (resolved_kind s (roll-ExprKind z)) (resolution.of_kind s (kind_values s z))
      (rolled_kind_parts x z) (rolled_kind_values s z) h

  rolled_place :
      (z : Placement-F ExprKind Placement Call Expr) →
      PlaceBecomes ss c sc (typing.of_place x (place_parts x z)) (resolution.of_place s (place_values s z)) →
      Place (roll-Placement z)
  rolled_place z h =
      of_both (PlaceBecomes ss c sc)
      (typing.placed x (roll-Placement z)) (typing.of_place x (place_parts x z))
      (resolution.placed s (roll-Placement z)) (resolution.of_place s (place_values s z))
      (rolled_place_parts x z) (rolled_place_values s z) h

  rolled_call :
      (z : Call-F ExprKind Placement Call Expr) →
      CallBecomes ss c sc (typing.of_call x (call_parts x z)) (resolution.of_call s (call_values s z)) →
      Called (roll-Call z)
  rolled_call z h =
      of_both (CallBecomes ss c sc)
      (typing.judged_call x (roll-Call z)) (typing.of_call x (call_parts x z))
      (resolution.resolved_call s (roll-Call z)) (resolution.of_call s (call_values s z))
      (rolled_call_parts x z) (rolled_call_values s z) h

  rolled_expr :
      (z : Expr-F ExprKind Placement Call Expr) →
      Becomes ss c sc (typing.of_expression x (expr_parts x z)) (resolution.of_expression s (expr_values s z)) →
      Whole (roll-Expr z)
  rolled_expr z h =
      of_both (Becomes ss c sc)
      (typing.judged x (roll-Expr z)) (typing.of_expression x (expr_parts x z))
      (resolution.resolved s (roll-Expr z)) (resolution.of_expression s (expr_values s z))
      (rolled_expr_parts x z) (rolled_expr_values s z) h

  pub becomes : (e : Expr) → Becomes ss c sc (typing.judged x e) (resolution.resolved s e)
  becomes =
      ind-Expr Kind Place Called Whole
      (λ z y is. subst (λ w. Kind (roll-ExprKind w)) is (rolled_kind (kind_trees y) (kind_layer y)))
      (λ z y is. subst (λ w. Place (roll-Placement w)) is (rolled_place (place_trees y) (place_layer y)))
      (λ z y is. subst (λ w. Called (roll-Call w)) is (rolled_call (call_trees y) (call_layer y)))
      (λ z y is. subst (λ w. Whole (roll-Expr w)) is (rolled_expr (expr_trees y) (y.kind.1 y.at)))

  pub call_becomes : (k : Call) → CallBecomes ss c sc (typing.judged_call x k) (resolution.resolved_call s k)
  call_becomes =
      ind-Call Kind Place Called Whole
      (λ z y is. subst (λ w. Kind (roll-ExprKind w)) is (rolled_kind (kind_trees y) (kind_layer y)))
      (λ z y is. subst (λ w. Place (roll-Placement w)) is (rolled_place (place_trees y) (place_layer y)))
      (λ z y is. subst (λ w. Called (roll-Call w)) is (rolled_call (call_trees y) (call_layer y)))
      (λ z y is. subst (λ w. Whole (roll-Expr w)) is (rolled_expr (expr_trees y) (y.kind.1 y.at)))
