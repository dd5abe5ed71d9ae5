-- How the evaluator takes a work: with or without a tick it changes the hand and puts smaller works in the work's place.
use Rattle.std.specs.Prelude.{ℕ, suc, Bool, true, false, if◌then◌else◌, List, [], ◌∷◌, Option, Some, None, pos}
use Rattle.ec_base.specs.declared.token.Span.{Span}
use Rattle.ec_types.specs.Meaning.Memory.{Access}
use Rattle.ec_types.specs.Meaning.Values.{Val, Num, Null, zero_value, holds, truth, unary_value}
use Rattle.ec_types.specs.Meaning.State.{set}
use Rattle.ec_types.specs.Meaning.Tree as t
use Rattle.ec_types.specs.Meaning.Branches.{is_call_branch}
use Rattle.ec_meaning.specs.Works.{Placement, Here, OwnerOf, Home, Node, Anywhere, Loop, WhileLoop, ForLoop, ForallLoop, Work, Value, Constant, Reach, Arguments, Call, Operate, Combine, AndThen, OrElse, AsTruth, ToElement, ToBehind, ToField, ToItem, LoadFrom, LoadShared, Allocate, Share, SaveTo, CopyTo, SendTo, AddUp, Enter, Drop, Assign, SetTo, Declare, Statement, Statements, Branches, Branch, Decide, Turn, Again, Joined, PrintOut, GiveBack, Hand}
use Rattle.ec_types.specs.Meaning.Evaluation.{element_of, field_of, item_of}
use Rattle.ec_meaning.specs.Acts.{top, second, push, without, replaced, access, reached, left_behind, with_vars}

-- ---- works for parts

-- the value of a part, or of what is missing
abbrev pub part : Val → t.Part → Work
part v t.Missing = Constant v
part v (t.Given e) = Value e

abbrev pub optional : Option t.Assignment → List Work
optional None = []
optional (Some a) = Assign a ∷ []

abbrev pub count : t.Exprs → ℕ
count t.Last = 0
count (t.Arg e es) = suc (count es)

-- the operand of a placement, and its kind
abbrev pub operand : t.Placing → List Work
operand (t.OnOwner e) = Value e ∷ []
operand (t.OnNode e) = Value e ∷ []
operand p = []

abbrev pub kind : t.Placing → Placement
kind t.OnThis = Here
kind (t.OnOwner e) = OwnerOf
kind t.OnHome = Home
kind (t.OnNode e) = Node
kind t.OnAny = Anywhere

-- ---- what stands in the place of a work

abbrev pub of_value : t.Expr → Hand → List Work
of_value (t.Number at n) h = Constant (Num n) ∷ []
of_value (t.Nil at) h = Constant Null ∷ []
of_value (t.Var at x) h = Constant (h.vars x) ∷ []
of_value (t.Unary at op a) h = Value a ∷ Operate op ∷ []
of_value (t.Binary at op a b) h = Value a ∷ Value b ∷ Combine at op ∷ []
of_value (t.And at a b) h = Value a ∷ AndThen b ∷ []
of_value (t.Or at a b) h = Value a ∷ OrElse b ∷ []
of_value (t.Load pointer p) h = Reach p ∷ LoadFrom ∷ []
of_value (t.Called i) h = Call i ∷ []
of_value (t.New at shape element n) h = part (Num (pos 1)) n ∷ Allocate at element ∷ []
of_value (t.ValueOf at a) h = Value a ∷ LoadShared at ∷ []

-- the right side of `&&` and of `||`, where it is needed
abbrev pub of_conjunction : Bool → t.Expr → List Work
of_conjunction left e = if left then Value e ∷ AsTruth ∷ [] else Constant (Num (pos 0)) ∷ []

abbrev pub of_disjunction : Bool → t.Expr → List Work
of_disjunction left e = if left then Constant (Num (pos 1)) ∷ [] else Value e ∷ AsTruth ∷ []

-- an access spends the ticks of its nodes itself
abbrev pub value_ticks : t.Expr → Bool
value_ticks (t.Load pointer p) = false
value_ticks e = true

abbrev pub of_place : t.Place → List Work
of_place (t.Element at size base index) = Value base ∷ part zero_value index ∷ ToElement at size ∷ []
of_place (t.Behind at size f base) = Value base ∷ ToBehind at size f ∷ []
of_place (t.Field at f p) = Reach p ∷ ToField at f ∷ []
of_place (t.Item at p index) = Reach p ∷ Value index ∷ ToItem at ∷ []

abbrev pub of_arguments : t.Exprs → List Work
of_arguments t.Last = []
of_arguments (t.Arg e es) = Value e ∷ Arguments es ∷ []

abbrev pub of_call : t.Invocation → List Work
of_call (t.Invoke at f es t.OnThis) = Arguments es ∷ Enter Here f (count es) ∷ []
of_call (t.Invoke at f es (t.OnOwner e)) = Arguments es ∷ Value e ∷ Enter OwnerOf f (count es) ∷ []
of_call (t.Invoke at f es t.OnHome) = Arguments es ∷ Enter Home f (count es) ∷ []
of_call (t.Invoke at f es (t.OnNode e)) = Arguments es ∷ Value e ∷ Enter Node f (count es) ∷ []
of_call (t.Invoke at f es t.OnAny) = Arguments es ∷ Enter Anywhere f (count es) ∷ []

abbrev pub of_assignment : t.Assignment → List Work
of_assignment (t.SetVar at x e) = Value e ∷ SetTo x ∷ []
of_assignment (t.Store p e) = Reach p ∷ Value e ∷ SaveTo ∷ []
of_assignment (t.Copy p q) = Reach p ∷ Reach q ∷ CopyTo ∷ []

-- the body of a function
abbrev pub of_function : t.Function → List Work
of_function f = Declare f.decls ∷ Statements f.body ∷ []

-- a variable is unset in its own initialiser
abbrev pub of_declarations : List t.Decl → List Work
of_declarations [] = []
of_declarations (t.Plain x v init ∷ ds) = Constant v ∷ SetTo x ∷ part v init ∷ SetTo x ∷ Declare ds ∷ []
of_declarations (t.Shared x ∷ ds) = Share ∷ SetTo x ∷ Declare ds ∷ []

abbrev pub of_statement : t.Stmt → ℕ → List Work
of_statement t.Skip births = []
of_statement (t.Block ds ss) births = Declare ds ∷ Statements ss ∷ []
of_statement (t.Par at ss) births = Branches ss ∷ Joined births ∷ []
of_statement (t.If e s z) births = Value e ∷ Decide s z ∷ []
of_statement (t.While e s) births = Turn (WhileLoop e s) ∷ []
of_statement (t.For at a e b s) births = first a
  where
    first : Option t.Assignment → List Work
    first None = Turn (ForLoop e b s) ∷ []
    first (Some x) = Assign x ∷ Turn (ForLoop e b s) ∷ []
of_statement (t.Forall at a e b s) births = Assign a ∷ Turn (ForallLoop e b s) ∷ Joined births ∷ []
of_statement (t.Set a) births = Assign a ∷ []
of_statement (t.Eval i) births = Call i ∷ Drop ∷ []
of_statement (t.WriteTo at p e) births = Value p ∷ Value e ∷ SendTo at ∷ []
of_statement (t.AddTo at p e) births = Value p ∷ Value e ∷ AddUp at ∷ []
of_statement (t.Print string es) births = Arguments es ∷ PrintOut string (count es) ∷ []
of_statement (t.Return e) births = part zero_value e ∷ GiveBack ∷ []

abbrev pub of_statements : t.Stmts → List Work
of_statements t.End = []
of_statements (t.Then s ss) = Statement s ∷ Statements ss ∷ []

-- one that is its call's activation is a statement
abbrev pub branch : t.Stmt → Work
branch s = if is_call_branch s then Statement s else Branch s

abbrev pub of_branches : t.Stmts → List Work
of_branches t.End = []
of_branches (t.Then s ss) = branch s ∷ Branches ss ∷ []

abbrev pub of_decision : Bool → t.Stmt → t.Else → List Work
of_decision true s z = Statement s ∷ []
of_decision false s t.NoElse = []
of_decision false s (t.Otherwise z) = Statement z ∷ []

abbrev pub test : Loop → Work
test (WhileLoop e s) = Value e
test (ForLoop e a s) = part (Num (pos 1)) e
test (ForallLoop e a s) = Value e

abbrev pub of_turn : Loop → List Work
of_turn l = test l ∷ Again l ∷ []

abbrev pub of_repetition : Loop → List Work
of_repetition (WhileLoop e s) = Statement s ∷ Turn (WhileLoop e s) ∷ []
of_repetition (ForLoop e None s) = Statement s ∷ Turn (ForLoop e None s) ∷ []
of_repetition (ForLoop e (Some a) s) = Statement s ∷ Assign a ∷ Turn (ForLoop e (Some a) s) ∷ []
of_repetition (ForallLoop e a s) = Branch s ∷ Assign a ∷ Turn (ForallLoop e a s) ∷ []

-- a field of the element behind a pointer
abbrev pub behind : Span → ℕ → t.FieldAt → Val → Access
behind at size f base = field_of at f (element_of at size base zero_value)

-- ---- works that only open or touch the hand

-- whether a tick is spent, what is put in the place of the work, and the hand
pub record Opened : Type 0 where
  pub ticks : Bool
  pub works : List Work
  pub hand : Hand

abbrev pub spending : List Work → Hand → Option Opened
spending ws h = Some (record { ticks = true; works = ws; hand = h })

abbrev pub freely : List Work → Hand → Option Opened
freely ws h = Some (record { ticks = false; works = ws; hand = h })

-- none where the work has to do with more than the hand
abbrev pub opened : Work → Hand → ℕ → Option Opened
opened (Value e) h births = Some (record { ticks = value_ticks e; works = of_value e h; hand = h })
opened (Constant v) h births = freely [] (push v h)
opened (Reach p) h births = spending (of_place p) h
opened (Arguments es) h births = freely (of_arguments es) h
opened (Call i) h births = freely (of_call i) h
opened (Operate op) h births = freely [] (replaced 1 (unary_value op (top h)) h)
opened (AndThen e) h births = freely (of_conjunction (holds (top h)) e) (without 1 h)
opened (OrElse e) h births = freely (of_disjunction (holds (top h)) e) (without 1 h)
opened AsTruth h births = freely [] (replaced 1 (truth (holds (top h))) h)
opened (ToElement at size) h births = freely [] (reached (element_of at size (second h) (top h)) (without 2 h))
opened (ToBehind at size f) h births =
    freely [] (reached (behind at size f (top h)) (without 1 h))
opened (ToField at f) h births = freely [] (reached (field_of at f (access h)) (left_behind 1 h))
opened (ToItem at) h births = freely [] (reached (item_of at (access h) (top h)) (left_behind 1 (without 1 h)))
opened Drop h births = freely [] (without 1 h)
opened (Assign a) h births = freely (of_assignment a) h
opened (SetTo x) h births = freely [] (with_vars (set x (top h) h.vars) (without 1 h))
opened (Declare ds) h births = freely (of_declarations ds) h
opened (Statement s) h births = spending (of_statement s births) h
opened (Statements ss) h births = freely (of_statements ss) h
opened (Branches ss) h births = freely (of_branches ss) h
opened (Decide s z) h births = freely (of_decision (holds (top h)) s z) (without 1 h)
opened (Turn l) h births = spending (of_turn l) h
opened (Again l) h births = freely (if holds (top h) then of_repetition l else []) (without 1 h)
opened w h births = None

-- which of them spend a tick
abbrev pub spends : Work → Bool
spends (Value e) = value_ticks e
spends (Reach p) = true
spends (Statement s) = true
spends (Turn l) = true
spends w = false
