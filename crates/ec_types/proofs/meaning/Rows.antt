-- Small programs by computation, as resolved trees: what they come to, and in how many ticks.
use Rattle.std.proofs.Common.{◌≡◌, refl, ℕ, Bool, true, false, List, [], ◌∷◌, map, Option, Some, None, ℤ, pos, negsuc}
use Rattle.ec_base.specs.declared.operator.BinOp.TheVariants.{Add, Sub, Div, Lt}
use Rattle.ec_base.specs.declared.operator.UnOp.TheVariants.{Neg, Not}
use Rattle.ec_base.specs.declared.token.Span.{Span}
use Rattle.ec_base.specs.declared.trap.TrapKind.{TrapKind}
use Rattle.ec_base.specs.declared.trap.TrapKind.TheVariants as kind
use Rattle.ec_types.specs.Meaning.Values.{Path, Val, Num, Null, zero_value}
use Rattle.ec_types.specs.Meaning.State.{Here, Node}
use Rattle.ec_types.specs.Meaning.Tree.{Shape, Pointer, FieldAt, Variable, Expr, Number, Var, Unary, Binary, And, Or, Load, Called, New, ValueOf, Missing, Given, Place, Element, Behind, Item, Invocation, Invoke, Exprs, Last, Arg, Placing, OnThis, OnNode, Assignment, SetVar, Store, Copy, Decl, Plain, Shared, Stmt, Skip, Block, Par, If, While, For, Forall, Set, Eval, AddTo, Return, Otherwise, Stmts, End, Then, Function}
use Rattle.ec_types.specs.Meaning.Evaluation.{Program}
use Rattle.ec_types.specs.Meaning.Programs.{Ending, Ended, Trapped, Unfinished, Meaning, told, run}

-- ---- what rows say

-- how it ends, the result, and the ticks; and blocks
abbrev pub Row : Type 0
Row = Ending × ℤ × ℕ

abbrev pub row : Meaning → Row
row m = (m.ending, m.result, m.ticks)

abbrev blocks : List Path → Meaning → List (Option (List Val))
blocks ps m = map m.store ps

-- the last function is main, without arguments
abbrev meaning : Program → ℕ → Meaning
meaning p main = told 40 (run p main [] 40)

abbrev pub ends : ℤ → ℕ → Row
ends n ticks = (Ended, n, ticks)

abbrev traps : TrapKind → Span → ℕ → Row
traps kind at ticks = (Trapped (record { kind = kind; at = at }), pos 0, ticks)

-- ---- trees

abbrev span : ℕ → ℕ → Span
span from to = record { from = from; to = to }

abbrev nowhere : Span
nowhere = span 0 0

-- its parameters among its variables; it gives an int
abbrev takes : List ℕ → List Variable → List Decl → Stmts → Function
takes xs vs ds ss =
    record { params = xs; variables = vs; void = false; pointer = false; shape = 0; decls = ds; body = ss }

abbrev variable : Bool → Pointer → Variable
variable shared pointer = record { at = nowhere; shared = shared; local = false; pointer = pointer }

abbrev int : Variable
int = variable false None

abbrev pointer_to : Shape → Variable
pointer_to shape = variable false (Some shape)

abbrev shared_int : Variable
shared_int = variable true (Some 0)

abbrev one : Stmt → Stmts
one s = Then s End

abbrev number : ℕ → Expr
number n = Number nowhere (pos n)

abbrev var : ℕ → Expr
var x = Var nowhere x

abbrev load : Place → Expr
load p = Load None p

abbrev invoke : ℕ → Exprs → Placing → Invocation
invoke f es p = Invoke nowhere f es p

abbrev returns : Expr → Stmts
returns e = one (Return (Given e))

abbrev to : ℕ → Expr → Assignment
to x e = SetVar nowhere x e

abbrev sets : ℕ → Expr → Stmt
sets x e = Set (to x e)

abbrev an_int : ℕ → Decl
an_int x = Plain x zero_value Missing

abbrev a_pointer : ℕ → Decl
a_pointer x = Plain x Null Missing

-- f(n) { return n; }
abbrev same : Function
same = takes (0 ∷ []) (int ∷ []) [] (returns (var 0))

-- ---- numbers, conditions and loops

-- int main(){ }
nothing_takes_1 : row (meaning (takes [] [] [] End ∷ []) 0) ≡ ends (pos 0) 1
nothing_takes_1 = refl

-- int main(){ return 0; }
return_takes_3 : row (meaning (takes [] [] [] (returns (number 0)) ∷ []) 0) ≡ ends (pos 0) 3
return_takes_3 = refl

-- int main(){ int x = 2; x = x - 5; return x; }
abbrev pub less : Program
less =
    takes [] (int ∷ []) (Plain 0 zero_value (Given (number 2)) ∷ [])
    (Then (sets 0 (Binary nowhere Sub (var 0) (number 5))) (returns (var 0))) ∷ []

pub less_takes_8 : row (meaning less 0) ≡ ends (negsuc 2) 8
less_takes_8 = refl

-- int main(){ int x = (1 + (2)); (x) = -x; return !x; }
abbrev minus : Program
minus =
    takes [] (int ∷ []) (Plain 0 zero_value (Given (Binary nowhere Add (number 1) (number 2))) ∷ [])
    (Then (sets 0 (Unary nowhere Neg (var 0))) (returns (Unary nowhere Not (var 0)))) ∷ []

minus_takes_10 : row (meaning minus 0) ≡ ends (pos 0) 10
minus_takes_10 = refl

-- int main(){ if (1 && 0) ; else { } return 1 || 0; }
abbrev chooses : Program
chooses =
    takes [] [] []
    (Then (If (And nowhere (number 1) (number 0)) Skip (Otherwise (Block [] End)))
    (returns (Or nowhere (number 1) (number 0)))) ∷ []

chooses_takes_9 : row (meaning chooses 0) ≡ ends (pos 1) 9
chooses_takes_9 = refl

-- int main(){ while (0) ; for (;0;) ; return 0; }
abbrev turns_not : Program
turns_not =
    takes [] [] []
    (Then (While (number 0) Skip) (Then (For nowhere None (Given (number 0)) None Skip) (returns (number 0)))) ∷ []

turns_not_takes_9 : row (meaning turns_not 0) ≡ ends (pos 0) 9
turns_not_takes_9 = refl

abbrev below_two : Expr
below_two = Binary nowhere Lt (var 0) (number 2)

abbrev next : Expr
next = Binary nowhere Add (var 0) (number 1)

abbrev counts : Stmt → Program
counts loop = takes [] (int ∷ []) (an_int 0 ∷ []) (Then loop (returns (var 0))) ∷ []

-- int main(){ int i; for (i = 0; i < 2; i++) ; return i; }
abbrev counts_in_turn : Program
counts_in_turn = counts (For nowhere (Some (to 0 (number 0))) (Given below_two) (Some (to 0 next)) Skip)

for_takes_25 : row (meaning counts_in_turn 0) ≡ ends (pos 2) 25
for_takes_25 = refl

-- the same with `forall`
abbrev counts_at_once : Program
counts_at_once = counts (Forall nowhere (to 0 (number 0)) below_two (to 0 next) Skip)

forall_takes_27 : row (meaning counts_at_once 0) ≡ ends (pos 2) 27
forall_takes_27 = refl

forall_forks : (meaning counts_at_once 0).forks ≡ record { path = []; births = 1 ∷ 2 ∷ [] } ∷ []
forall_forks = refl

-- ---- memory

-- int main(){ int *a; a = malloc(2 * sizeof(int)); a[1] = 3; return a[1]; }
abbrev second : Place
second = Element nowhere 1 (var 0) (Given (number 1))

abbrev writes : Program
writes =
    takes [] (pointer_to 0 ∷ []) (a_pointer 0 ∷ [])
    (Then (sets 0 (New nowhere 0 (zero_value ∷ []) (Given (number 2))))
    (Then (Set (Store second (number 3))) (returns (load second)))) ∷ []

writes_take_13 : row (meaning writes 0) ≡ ends (pos 3) 13
writes_take_13 = refl

writes_store : blocks ((1 ∷ []) ∷ (2 ∷ []) ∷ []) (meaning writes 0) ≡ Some (Num (pos 0) ∷ Num (pos 3) ∷ []) ∷ None ∷ []
writes_store = refl

-- int main(){ shared int s; addto(&s, 2); return valueof(&s); }
abbrev shares : Program
shares =
    takes [] (shared_int ∷ []) (Shared 0 ∷ [])
    (Then (AddTo nowhere (var 0) (number 2)) (returns (ValueOf nowhere (var 0)))) ∷ []

shares_take_7 : row (meaning shares 0) ≡ ends (pos 2) 7
shares_take_7 = refl

-- struct s { int a[2]; struct s *n; };
-- int main(){ struct s *p; p = malloc(sizeof(struct s)); p->a[1] = 4; *p = *p; return p->a[1]; }
-- the first field, an array of so many elements
abbrev first_field : ℕ → FieldAt
first_field length = record { number = 0; first = 0; length = length }

abbrev item : Place
item = Item nowhere (Behind nowhere 3 (first_field 2) (var 0)) (number 1)

abbrev whole : Place
whole = Element nowhere 3 (var 0) Missing

abbrev pub copies : Program
copies =
    takes [] (pointer_to 2 ∷ []) (a_pointer 0 ∷ [])
    (Then (sets 0 (New nowhere 2 (zero_value ∷ zero_value ∷ Null ∷ []) Missing))
    (Then (Set (Store item (number 4))) (Then (Set (Copy whole whole)) (returns (load item))))) ∷ []

pub copies_take_19 : row (meaning copies 0) ≡ ends (pos 4) 19
copies_take_19 = refl

copies_store : blocks ((1 ∷ []) ∷ []) (meaning copies 0) ≡ Some (Num (pos 0) ∷ Num (pos 4) ∷ Null ∷ []) ∷ []
copies_store = refl

-- ---- calls and branches

-- int f(int n){ return n; } int main(){ int x; f(1); x = f(2)@NODE(3); return x; }
abbrev pub calls : Program
calls =
    same ∷ takes [] (int ∷ []) (an_int 0 ∷ [])
    (Then (Eval (invoke 0 (Arg (number 1) Last) OnThis))
    (Then (sets 0 (Called (invoke 0 (Arg (number 2) Last) (OnNode (number 3))))) (returns (var 0)))) ∷ []

pub calls_take_15 : row (meaning calls 1) ≡ ends (pos 2) 15
calls_take_15 = refl

calls_places : (meaning calls 1).places ≡ record { path = []; site = Here } ∷ record { path = 1 ∷ []; site = Here } ∷ record { path = 2 ∷ []; site = Node (Num (pos 3)) } ∷ []
calls_places = refl

-- int f(int n){ return n; } int main(){ int x; int y; {^ x = 1; y = f(x + 1); ^} return y; }
abbrev branches : Program
branches =
    same ∷ takes [] (int ∷ int ∷ []) (an_int 0 ∷ an_int 1 ∷ [])
    (Then (Par nowhere (Then (sets 0 (number 1)) (one (sets 1 (Called (invoke 0 (Arg next Last) OnThis))))))
    (returns (var 1))) ∷ []

branches_take_15 : row (meaning branches 1) ≡ ends (pos 2) 15
branches_take_15 = refl

branches_fork : (meaning branches 1).forks ≡ record { path = []; births = 1 ∷ 2 ∷ [] } ∷ []
branches_fork = refl

branches_most : (meaning branches 1).most ≡ 2
branches_most = refl

-- int main(){ {^ ^} ; {^ ; {} ^} return 0;}
abbrev idle : Program
idle =
    takes [] [] []
    (Then (Par nowhere End)
    (Then Skip (Then (Par nowhere (Then Skip (one (Block [] End)))) (returns (number 0))))) ∷ []

idle_takes_10 : row (meaning idle 0) ≡ ends (pos 0) 10
idle_takes_10 = refl

-- int g(){ shared int s; return 1; } int main(){ {^ g(); { int *p; p = malloc(sizeof(int)); } ^} return 0; }
abbrev gets : Stmt
gets = sets 0 (New nowhere 0 (zero_value ∷ []) Missing)

abbrev bears : Program
bears =
    takes [] (shared_int ∷ []) (Shared 0 ∷ []) (returns (number 1)) ∷ takes [] (pointer_to 0 ∷ []) []
    (Then (Par nowhere (Then (Eval (invoke 0 Last OnThis)) (one (Block (a_pointer 0 ∷ []) (one gets)))))
    (returns (number 0))) ∷ []

bears_takes_12 : row (meaning bears 1) ≡ ends (pos 0) 12
bears_takes_12 = refl

bears_store : blocks ((1 ∷ 1 ∷ []) ∷ (2 ∷ 1 ∷ []) ∷ (1 ∷ []) ∷ (2 ∷ []) ∷ []) (meaning bears 1) ≡ Some (zero_value ∷ []) ∷ Some (zero_value ∷ []) ∷ None ∷ None ∷ []
bears_store = refl

-- ---- traps

-- a pointer to elements of this shape, and nothing else
abbrev points : Shape → Stmts → Program
points shape ss = takes [] (pointer_to shape ∷ []) (a_pointer 0 ∷ []) ss ∷ []

-- int main(){ int *p; return *p; }
null_traps : row (meaning (points 0 (returns (load (Element (span 27 29) 1 (var 0) Missing)))) 0) ≡ traps kind.Null (span 27 29) 4
null_traps = refl

-- int main(){ return 1 / 0; }
zero_traps : row (meaning (takes [] [] [] (returns (Binary (span 19 24) Div (number 1) (number 0))) ∷ []) 0) ≡ traps kind.DivZero (span 19 24) 5
zero_traps = refl

-- int main(){ int *p; p = malloc(0 * sizeof(int)); return 0; }, or with 3 and `return p[3]`
abbrev allocates : ℕ → Expr → Program
allocates n e = points 0 (Then (sets 0 (New (span 24 47) 0 (zero_value ∷ []) (Given (number n)))) (returns e))

size_traps : row (meaning (allocates 0 (number 0)) 0) ≡ traps kind.BadSize (span 24 47) 4
size_traps = refl

bounds_trap : row (meaning (allocates 3 (load (Element (span 56 60) 1 (var 0) (Given (number 3))))) 0) ≡ traps kind.Bounds (span 56 60) 8
bounds_trap = refl

-- the array's index comes before NULL
-- struct s { int a[2]; }; int main(){ struct s *p; return p->a[2]; }
abbrev beyond : Place
beyond = Item (span 56 63) (Behind nowhere 2 (first_field 2) (var 0)) (number 2)

item_traps : row (meaning (points 2 (returns (load beyond))) 0) ≡ traps kind.Bounds (span 56 63) 6
item_traps = refl

-- the source comes first
-- struct s { int v; }; int main(){ struct s *p; struct s *q; *p = *q; return 0; }
abbrev copied : Stmt
copied = Set (Copy (Element (span 59 61) 1 (var 0) Missing) (Element (span 64 66) 1 (var 1) Missing))

abbrev nulls : Program
nulls =
    takes [] (pointer_to 2 ∷ pointer_to 2 ∷ []) (a_pointer 0 ∷ a_pointer 1 ∷ [])
    (Then copied (returns (number 0))) ∷ []

source_traps : row (meaning nulls 0) ≡ traps kind.Null (span 64 66) 6
source_traps = refl

-- ---- more ticks

-- int main(){ return 0; } within 2
goes_on : row (told 2 (run (takes [] [] [] (returns (number 0)) ∷ []) 0 [] 2)) ≡ (Unfinished, pos 0, 2)
goes_on = refl
