-- The simple form of expressions. A variable stands for itself; every other node that gives a value has a temporary of its own,
-- which is set in the order of evaluation. An access that is stored to, copied, or taken further by `.f` and `[i]` gives none.
use Rattle.std.specs.Prelude.{ℕ, ◌+◌, Bool, true, false, not, ◌&&◌, ◌||◌, if◌then◌else◌, List, [], ◌∷◌, ◌++◌, length, get_or, Some, None, ℤ, pos}
use Rattle.std.specs.Option.{is_some}
use Rattle.ec_base.specs.declared.operator.BinOp.{BinOp}
use Rattle.ec_base.specs.declared.operator.BinOp.TheVariants.{Eq, Ne}
use Rattle.ec_base.specs.declared.operator.UnOp.{UnOp}
use Rattle.ec_base.specs.declared.operator.UnOp.TheVariants.{Not}
use Rattle.ec_base.specs.declared.text.Text.{Text}
use Rattle.ec_base.specs.declared.token.Span.{Span}
use Rattle.ec_simple.specs.declared.form.SCall.{SCall}
use Rattle.ec_simple.specs.declared.form.SExpr.{SExpr}
use Rattle.ec_simple.specs.declared.form.SExpr.TheVariants as e
use Rattle.ec_simple.specs.declared.form.SPlace.{SPlace}
use Rattle.ec_simple.specs.declared.form.SPlace.TheVariants as p
use Rattle.ec_simple.specs.declared.form.SPlaceOf.{SPlaceOf}
use Rattle.ec_simple.specs.declared.form.SStmt.{SStmt}
use Rattle.ec_simple.specs.declared.form.SStmt.TheVariants as s
use Rattle.ec_simple.specs.declared.form.SVar.{SVar}
use Rattle.ec_simple.specs.Uses.{member}
use Rattle.ec_types.specs.Meaning.Layout.{or_zero}
use Rattle.ec_types.specs.Meaning.Tree.{Shape as ShapeNumber, Pointer, Expr, Number, Nil, Var, Unary, Binary, And, Or, Load, Called, New, ValueOf, Part, Missing, Given, Place, Element, Behind, Field as FieldOf, Item, Invocation, Invoke, Exprs, Last, Arg, Placing, OnThis, OnOwner, OnHome, OnNode, OnAny, End, Variable, Function}

abbrev pub Code : Type 0
Code = List SStmt

-- The functions of the program; of the written function that is lowered, its name, its variables, and the number of its first
-- branch or body; and which number a variable has in the function that is made.
pub record Scope : Type 0 where
  pub functions : List Function
  pub name : Text
  pub params : List ℕ
  pub variables : List Variable
  pub first : ℕ
  pub place : ℕ → ℕ

-- ---- variables

abbrev pub no_variable : Variable
no_variable = record { at = record { from = 0; to = 0 }; shared = false; local = false; pointer = None }

abbrev pub variable_at : Scope → ℕ → Variable
variable_at c x = get_or c.variables x no_variable

-- a temporary is never local
abbrev pub temporary : Span → Pointer → SVar
temporary at pointer = record { at = at; local = false; pointer = is_some pointer; shape = or_zero pointer }

abbrev pub of_variable : Variable → SVar
of_variable v = record { at = v.at; local = v.local; pointer = is_some v.pointer; shape = or_zero v.pointer }

-- ---- what values are

abbrev pub no_function : Function
no_function = record { params = []; variables = []; void = true; pointer = false; shape = 0; decls = []; body = End }

abbrev pub function_at : Scope → ℕ → Function
function_at c f = get_or c.functions f no_function

abbrev pub gives : Function → Pointer
gives f = if f.pointer then Some f.shape else None

abbrev pub pointer : Scope → Expr → Pointer
pointer c (Nil at) = Some 0
pointer c (Var at x) = (variable_at c x).pointer
pointer c (Load q a) = q
pointer c (Called (Invoke at f es q)) = gives (function_at c f)
pointer c (New at shape element count) = Some shape
pointer c a = None

abbrev pub points : Scope → Expr → Bool
points c a = is_some (pointer c a)

-- ---- code, with the temporaries that it sets

-- the code, the variable that then has the value, and the temporaries
pub record Low : Type 0 where
  pub code : Code
  pub to : ℕ
  pub vars : List SVar

pub record Lows : Type 0 where
  pub code : Code
  pub to : List ℕ
  pub vars : List SVar

-- the access that may then be made
pub record LowPlace : Type 0 where
  pub code : Code
  pub place : SPlaceOf
  pub vars : List SVar

-- the call that may then be made
pub record LowCall : Type 0 where
  pub code : Code
  pub func : ℕ
  pub args : List ℕ
  pub place : SPlace
  pub at : Span
  pub vars : List SVar

-- one temporary more, set behind other code; t is the number of the first temporary of that code
abbrev pub ends : ℕ → Code → List SVar → SVar → (ℕ → SStmt) → Low
ends t code vars v x =
    record { code = code ++ x (t + length vars) ∷ []; to = t + length vars; vars = vars ++ v ∷ [] }

abbrev pub constant : Span → ℤ → ℕ → Low
constant at n t = ends t [] [] (temporary at None) (λ x. s.Set x (e.Number n))

abbrev pub unary : UnOp → Bool → ℕ → SExpr
unary Not true x = e.IsNull x
unary op b x = e.Unary op x

-- pointers are compared by their blocks
abbrev pub compared : ℕ → Span → BinOp → Low → Low → Low
compared t at Eq a b = ends t (a.code ++ b.code) (a.vars ++ b.vars) (temporary at None) (λ x. s.Set x (e.SameBlock a.to b.to))
compared t at Ne a b = not_same (ends t (a.code ++ b.code) (a.vars ++ b.vars) (temporary at None) (λ x. s.Set x (e.SameBlock a.to b.to)))
  where
    not_same : Low → Low
    not_same l = ends t l.code l.vars (temporary at None) (λ x. s.Set x (e.Unary Not l.to))
compared t at op a b =
    ends t (a.code ++ b.code) (a.vars ++ b.vars) (temporary at None) (λ x. s.Set x (e.Binary op a.to b.to at))

abbrev pub binary : Bool → ℕ → Span → BinOp → Low → Low → Low
binary true t at op a b = compared t at op a b
binary false t at op a b =
    ends t (a.code ++ b.code) (a.vars ++ b.vars) (temporary at None) (λ x. s.Set x (e.Binary op a.to b.to at))

abbrev pub truth : ℕ → ℤ → Code
truth x n = s.Set x (e.Number n) ∷ []

-- 1 or 0, by a test
abbrev pub decided : ℕ → Low → Code
decided x b = b.code ++ s.If b.to (truth x (pos 1)) (truth x (pos 0)) ∷ []

abbrev pub both : ℕ → Span → Low → Low → Low
both t at a b =
    ends t a.code (a.vars ++ b.vars) (temporary at None) (λ x. s.If a.to (decided x b) (truth x (pos 0)))

abbrev pub either : ℕ → Span → Low → Low → Low
either t at a b =
    ends t a.code (a.vars ++ b.vars) (temporary at None) (λ x. s.If a.to (truth x (pos 1)) (decided x b))

-- an element, by its pointer and index
abbrev pub element_place : Span → ShapeNumber → ℕ → Low → Low → LowPlace
element_place at shape field base index = record {
  code = base.code ++ index.code;
  place = record { base = base.to; index = index.to; shape = shape; field = field; sub = None; at = at };
  vars = base.vars ++ index.vars;
}

abbrev pub of_field : Span → ℕ → LowPlace → LowPlace
of_field at field l = record l { place = record l.place { field = field; at = at } }

abbrev pub of_item : Span → LowPlace → Low → LowPlace
of_item at l index = record {
  code = l.code ++ index.code;
  place = record l.place { sub = Some index.to; at = at };
  vars = l.vars ++ index.vars;
}

-- `&` and a shared variable, which isn't a parameter, has a temporary as an argument
abbrev pub passed : Scope → Expr → ℕ → Low → Low
passed c (Var at x) t l =
    if (variable_at c x).shared && not (member x c.params)
    then ends t l.code l.vars (temporary at (Some 0)) (λ y. s.Set y (e.Var l.to)) else l
passed c a t l = l

abbrev pub arg : Low → Lows → Lows
arg a l = record { code = a.code ++ l.code; to = a.to ∷ l.to; vars = a.vars ++ l.vars }

-- a call without uses, which stands in no construct as a branch or body
abbrev pub plain_call : LowCall → List ℕ → SCall
plain_call l to =
    record { func = l.func; args = l.args; to = to; place = l.place; at = l.at; reads = []; writes = [] }

abbrev pub placed : Span → ℕ → Lows → (ℕ → SPlace) → Low → LowCall
placed at f es q operand = record {
  code = es.code ++ operand.code;
  func = f;
  args = es.to;
  place = q operand.to;
  at = at;
  vars = es.vars ++ operand.vars;
}

abbrev pub unplaced : Span → ℕ → Lows → SPlace → LowCall
unplaced at f es q = record { code = es.code; func = f; args = es.to; place = q; at = at; vars = es.vars }

-- the call's value has a temporary
abbrev pub result : Pointer → ℕ → LowCall → Low
result q t l = ends t l.code l.vars (temporary l.at q) (λ x. s.Call (plain_call l (x ∷ [])))

abbrev pub gives_of : Scope → Invocation → Pointer
gives_of c (Invoke at f es q) = gives (function_at c f)

module _ (c : Scope) where
  -- ---- expressions

  abbrev mutual
    pub low : Expr → ℕ → Low
    low (Number at n) t = constant at n t
    low (Nil at) t = ends t [] [] (temporary at (Some 0)) (λ x. s.Set x e.Null)
    low (Var at x) t = record { code = []; to = c.place x; vars = [] }
    low (Unary at op a) t =
        let la = low a t in ends t la.code la.vars (temporary at None) (λ x. s.Set x (unary op (points c a) la.to))
    low (Binary at op a b) t =
        let la = low a t in binary (points c a || points c b) t at op la (low b (t + length la.vars))
    low (And at a b) t = let la = low a t in both t at la (low b (t + length la.vars))
    low (Or at a b) t = let la = low a t in either t at la (low b (t + length la.vars))
    low (Load q a) t =
        let la = low_place a t in ends t la.code la.vars (temporary la.place.at q) (λ x. s.Load x la.place)
    low (Called i) t = result (gives_of c i) t (low_call i t)
    low (New at shape element count) t =
        let l = low_part at (pos 1) count t in ends t l.code l.vars (temporary at (Some shape)) (λ x. s.New x shape l.to at)
    low (ValueOf at a) t =
        let la = low a t in ends t la.code la.vars (temporary at None) (λ x. s.Read la.to x at)

    -- what is missing has a temporary of its own
    pub low_part : Span → ℤ → Part → ℕ → Low
    low_part at n Missing t = constant at n t
    low_part at n (Given a) t = low a t

    pub low_place : Place → ℕ → LowPlace
    low_place (Element at size base index) t =
        let lb = low base t in
        element_place at (or_zero (pointer c base)) 0 lb (low_part at (pos 0) index (t + length lb.vars))
    low_place (Behind at size f base) t =
        let lb = low base t in
        element_place at (or_zero (pointer c base)) f.number lb (constant at (pos 0) (t + length lb.vars))
    low_place (FieldOf at f a) t = of_field at f.number (low_place a t)
    low_place (Item at a index) t = let la = low_place a t in of_item at la (low index (t + length la.vars))

    -- the arguments, and then the placement's operand
    pub low_call : Invocation → ℕ → LowCall
    low_call (Invoke at f es q) t = let l = low_list es t in low_placing at f l q (t + length l.vars)

    pub low_list : Exprs → ℕ → Lows
    low_list Last t = record { code = []; to = []; vars = [] }
    low_list (Arg a es) t = let la = passed c a t (low a t) in arg la (low_list es (t + length la.vars))

    pub low_placing : Span → ℕ → Lows → Placing → ℕ → LowCall
    low_placing at f l OnThis t = unplaced at f l p.Here
    low_placing at f l (OnOwner a) t = placed at f l p.Owner (low a t)
    low_placing at f l OnHome t = unplaced at f l p.Home
    low_placing at f l (OnNode a) t = placed at f l p.Node (low a t)
    low_placing at f l OnAny t = unplaced at f l p.Anywhere
