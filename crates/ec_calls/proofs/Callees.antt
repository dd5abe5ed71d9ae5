-- The functions that parts call, put together.
use Rattle.std.proofs.Common.{◌≡◌, ℕ, suc, ◌<◌, sym, ap, ◌∙◌, List, [], ◌∷◌, ◌++◌, map, drop, get_or, length, append_assoc, drop-cons, Result, Ok, Err, Option, option_map, OnOk, rules}
use Rattle.std.proofs.lemmas.List.Elements.{filter_map-append}
use Rattle.ec_base.specs.declared.operator.BinOp.{BinOp}
use Rattle.ec_base.specs.declared.text.Text.{Text}
use Rattle.ec_base.specs.declared.token.Span.{Span}
use Rattle.ec_syntax.specs.declared.expression.Call.{Call, out-Call}
use Rattle.ec_syntax.specs.declared.expression.Expr.{Expr}
use Rattle.ec_syntax.specs.declared.expression.ExprKind.TheFolds.{the_lemmas as folds}
use Rattle.ec_syntax.specs.declared.expression.ExprKind.TheVariants.{Binary, And, Or, Index}
use Rattle.ec_syntax.specs.declared.statement.Assign.{Assign}
use Rattle.ec_syntax.specs.declared.statement.Body.{Body, out-Body}
use Rattle.ec_syntax.specs.declared.statement.Decl.{Decl}
use Rattle.ec_syntax.specs.declared.statement.Stmt.{Stmt}
use Rattle.ec_syntax.specs.declared.statement.StmtKind.TheFolds.{the_lemmas as stmt_folds}
use Rattle.ec_syntax.specs.declared.statement.StmtKind.TheVariants.{If, While, For, Forall}
use Rattle.ec_calls.specs.Effects.{Effect, of_declaration, all_of, or_nothing, doing, statement_doing, a_call, effects, call_effects, placement_effects, joined}
use Rattle.ec_calls.specs.Seen.{callees, for_header_effects, forall_header_effects}

pub on_ok : {T E : Type 0} (r : Result T E) (P Q : Type 0) → (P → Q) → OnOk r P → OnOk r Q
on_ok (Ok v) P Q f p = f p
on_ok (Err e) P Q f p = tt

-- ---- one part and then another

pub two : (before : List Text) (a b : List Effect) → (before ++ callees a) ++ callees b ≡ before ++ callees (a ++ b)
two before a b = append_assoc before (callees a) (callees b)
    ∙ ap (λ v. before ++ v) (sym (filter_map-append (λ e. e.calls) a b))

-- a call: its name, and then its arguments and its placement
pub a_call_of :
    (before : List Text) (name : Text) (at : Span) (a b : List Effect)
    → ((before ++ name ∷ []) ++ callees a) ++ callees b ≡ before ++ callees (a_call name at ∷ a ++ b)
a_call_of before name at a b = two (before ++ name ∷ []) a b ∙ append_assoc before (name ∷ []) (callees (a ++ b))

is_call : (call : Call)
    → call_effects call
    ≡ a_call (out-Call call).name.text (out-Call call).at ∷ joined (map effects (out-Call call).args)
    ++ placement_effects (out-Call call).place
is_call call = search (rules, folds)

pub of_call :
    {T E : Type 0} (r : Result T E) (call : Call) (args : List Expr) (before named middle after : List Text)
    → args ≡ (out-Call call).args
    → named ≡ before ++ (out-Call call).name.text ∷ [] → middle ≡ named ++ callees (joined (map effects args))
    → OnOk r (after ≡ middle ++ callees (placement_effects (out-Call call).place))
    → OnOk r (after ≡ before ++ callees (call_effects call))
of_call r call args before named middle after is first second third =
    let y = out-Call call in
    let goes_on : middle ++ callees (placement_effects y.place) ≡ before ++ callees (call_effects call) =
    ap (λ v. v ++ callees (placement_effects y.place))
    (second ∙ ap (λ v. v ++ callees (joined (map effects args))) first)
    ∙ a_call_of before y.name.text y.at (joined (map effects args)) (placement_effects y.place)
    ∙ ap (λ v. before ++ callees (a_call y.name.text y.at ∷ joined (map effects v) ++ placement_effects y.place)) is
    ∙ ap (λ v. before ++ callees v) (sym (is_call call)) in
    on_ok r (after ≡ middle ++ callees (placement_effects y.place)) (after ≡ before ++ callees (call_effects call))
    (λ p. p ∙ goes_on) third

-- one element more of a list
pub one_more :
    {A : Type 0} (f : A → List Effect) (all : List A → List Effect)
    → ((x : A) (xs : List A) → all (x ∷ xs) ≡ f x ++ all xs)
    → (xs : List A) (i at : ℕ) (x : A) (now next end : List Text) → suc i ≡ at → i < length xs → x ≡ get_or xs i x
    → next ≡ now ++ callees (f x) → now ++ callees (all (drop i xs)) ≡ end → next ++ callees (all (drop at xs)) ≡ end
one_more f all step xs i at x now next end later h is adds so_far =
    let here : all (drop i xs) ≡ f x ++ all (drop at xs) =
    ap all (drop-cons xs i x h) ∙ step (get_or xs i x) (drop (suc i) xs)
    ∙ ap (λ v. f v ++ all (drop (suc i) xs)) (sym is)
    ∙ ap (λ n. f x ++ all (drop n xs)) later in
    ap (λ v. v ++ callees (all (drop at xs))) adds ∙ two now (f x) (all (drop at xs))
    ∙ ap (λ v. now ++ callees v) (sym here) ∙ so_far

-- two parts that were read from other places
pub of_two :
    {A B T E : Type 0} (f : A → List Effect) (g : B → List Effect)
    (r : Result T E) (whole : List Effect) (a x : A) (b y : B)
    (before middle after : List Text) → whole ≡ f a ++ g b → x ≡ a → y ≡ b → middle ≡ before ++ callees (f x)
    → OnOk r (after ≡ middle ++ callees (g y)) → OnOk r (after ≡ before ++ callees whole)
of_two f g r whole a x b y before middle after is left right first second =
    let goes_on : middle ++ callees (g y) ≡ before ++ callees whole =
    ap (λ v. v ++ callees (g y)) first ∙ two before (f x) (g y) ∙ ap (λ v. before ++ callees (f v ++ g y)) left
    ∙ ap (λ v. before ++ callees (f a ++ g v)) right ∙ ap (λ v. before ++ callees v) (sym is) in
    on_ok r (after ≡ middle ++ callees (g y)) (after ≡ before ++ callees whole) (λ p. p ∙ goes_on) second

-- three parts
pub of_three :
    {A B C T E : Type 0} (f : A → List Effect) (g : B → List Effect) (h : C → List Effect)
    (r : Result T E) (whole : List Effect)
    (a x : A) (b y : B) (d z : C) (before first second after : List Text) → whole ≡ f a ++ g b ++ h d → x ≡ a
    → y ≡ b → z ≡ d
    → first ≡ before ++ callees (f x) → second ≡ first ++ callees (g y)
    → OnOk r (after ≡ second ++ callees (h z)) → OnOk r (after ≡ before ++ callees whole)
of_three {A} {B} f g h r whole a x b y d z before first second after is left middle right goes goes_on ends =
    of_two {A = A × B} (λ v. f v.0 ++ g v.1) h r whole (a, b) (x, y) d z before second after
    is (λ j. (left j, middle j)) right
    (goes_on ∙ ap (λ v. v ++ callees (g y)) goes ∙ two before (f x) (g y)) ends

-- ---- what expressions and statements of two parts call

pub is_Binary : (e : Expr) (op : BinOp) (a b : Expr) → e.kind ≡ Binary op a b → effects e ≡ effects a ++ effects b
is_Binary e op a b q = search (rules, folds, q)

pub is_And : (e : Expr) (a b : Expr) → e.kind ≡ And a b → effects e ≡ effects a ++ effects b
is_And e a b q = search (rules, folds, q)

pub is_Or : (e : Expr) (a b : Expr) → e.kind ≡ Or a b → effects e ≡ effects a ++ effects b
is_Or e a b q = search (rules, folds, q)

pub is_Index : (e : Expr) (a b : Expr) → e.kind ≡ Index a b → effects e ≡ effects a ++ effects b
is_Index e a b q = search (rules, folds, q)

-- ---- statements

abbrev pub if_any : Option Stmt → List Effect
if_any o = (or_nothing (option_map statement_doing o)).effects

pub is_If :
    (s : Stmt) (e : Expr) (a : Stmt) (o : Option Stmt) → s.kind ≡ If e a o
    → (statement_doing s).effects ≡ effects e ++ ((statement_doing a).effects ++ if_any o)
is_If s e a o q = search (rules, stmt_folds, q)

pub is_While :
    (s : Stmt) (e : Expr) (a : Stmt) → s.kind ≡ While e a
    → (statement_doing s).effects ≡ effects e ++ (statement_doing a).effects
is_While s e a q = search (rules, stmt_folds, q)

abbrev pub for_effects : Option Assign × Option Expr × Option Assign → List Effect
for_effects h = for_header_effects h.0 h.1 h.2

pub is_For :
    (s : Stmt) (first : Option Assign) (test : Option Expr) (next : Option Assign) (a : Stmt)
    → s.kind ≡ For first test next a
    → (statement_doing s).effects ≡ for_effects (first, test, next) ++ (statement_doing a).effects
is_For s first test next a q = search (rules, stmt_folds, q)

abbrev pub forall_effects : Assign × Expr × Assign → List Effect
forall_effects h = forall_header_effects h.0 h.1 h.2

pub is_Forall :
    (s : Stmt) (first : Assign) (test : Expr) (next : Assign) (a : Stmt) → s.kind ≡ Forall first test next a
    → (statement_doing s).effects ≡ forall_effects (first, test, next) ++ (statement_doing a).effects
is_Forall s first test next a q = search (rules, stmt_folds, q)

abbrev pub all_declared : List Decl → List Effect
all_declared ds = (all_of (map of_declaration ds)).effects

abbrev pub all_done : List Stmt → List Effect
all_done ss = (all_of (map statement_doing ss)).effects

pub is_body : (b : Body) → (doing b).effects ≡ all_declared (out-Body b).decls ++ all_done (out-Body b).stmts
is_body b = search (rules, stmt_folds)
