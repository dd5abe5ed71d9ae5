-- Which branches of parallel sequences are the activations of their calls.
use Rattle.std.specs.Prelude.{Bool, true, false, ◌&&◌}
use Rattle.ec_types.specs.Meaning.Tree.{Expr, Number, Nil, Var, Unary, Binary, And, Or, Called, Exprs, Last, Arg, Invocation, Invoke, Placing, OnOwner, OnNode, SetVar, Stmt, Set, Eval}

-- only variables, numbers, NULL, `&x` and operators on values
abbrev pub is_plain : Expr → Bool
is_plain (Number at n) = true
is_plain (Nil at) = true
is_plain (Var at x) = true
is_plain (Unary at op a) = is_plain a
is_plain (Binary at op a b) = is_plain a && is_plain b
is_plain (And at a b) = is_plain a && is_plain b
is_plain (Or at a b) = is_plain a && is_plain b
is_plain e = false

abbrev pub are_plain : Exprs → Bool
are_plain Last = true
are_plain (Arg e es) = is_plain e && are_plain es

abbrev pub is_plain_place : Placing → Bool
is_plain_place (OnOwner e) = is_plain e
is_plain_place (OnNode e) = is_plain e
is_plain_place p = true

abbrev pub is_plain_call : Invocation → Bool
is_plain_call (Invoke at f es p) = are_plain es && is_plain_place p

-- a call, whether its result is used or not
abbrev pub is_call : Expr → Bool
is_call (Called i) = is_plain_call i
is_call e = false

-- one call statement, or one assignment of a call to a variable
abbrev pub is_call_branch : Stmt → Bool
is_call_branch (Eval i) = is_plain_call i
is_call_branch (Set (SetVar at x e)) = is_call e
is_call_branch s = false
