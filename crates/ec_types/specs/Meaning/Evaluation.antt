-- What resolved trees do, from left to right. `small` and `big` tell what spends ticks: `small` nodes of expressions and
-- statements, `big` activations and tests of loops. In the meaning of a program both do.
use Rattle.std.specs.Prelude.{ℕ, zero, suc, ◌-◌, Bool, if◌then◌else◌, List, [], ◌∷◌, ◌++◌, map, Option, Some, None, slice_get, pos}
use Rattle.ec_base.specs.Format.{formatted}
use Rattle.ec_base.specs.declared.token.Span.{Span}
use Rattle.ec_base.specs.declared.trap.TrapKind.TheVariants as kind
use Rattle.ec_types.specs.Meaning.Values.{Val, Num, Null, zero_value, number, holds, truth, unary_value, binary_value}
use Rattle.ec_types.specs.Meaning.State.{Site, Here, OwnerOf, Home, Node, Anywhere, Out, Does, With, Returns, Traps, Going, ◌>>=◌, pure, trap, give_back, going, tick, Vars, set, set_all, unset, enter, births_after}
use Rattle.ec_types.specs.Meaning.Memory.{Access, load, save, copy, shared, add, allocate, born}
use Rattle.ec_types.specs.Meaning.Tree.{FieldAt, Expr, Number, Nil, Var, Unary, Binary, And, Or, Load, Called, New, ValueOf, Part, Missing, Given, Place, Element, Behind, Field, Item, Invocation, Invoke, Exprs, Last, Arg, Placing, OnThis, OnOwner, OnHome, OnNode, OnAny, Assignment, SetVar, Store, Copy, Decl, Plain, Shared, Stmt, Skip, Block, Par, If, While, For, Forall, Set, Eval, WriteTo, AddTo, Print, Return, Else, NoElse, Otherwise, Stmts, End, Then, Function}
use Rattle.ec_types.specs.Meaning.Branches.{is_call_branch}

-- what calls of a function do
abbrev pub Caller : Type 0
Caller = ℕ → List Val → Site → Does Val

abbrev pub divided : Span → Option Val → Does Val
divided at None = trap kind.DivZero at
divided at (Some v) = pure v

abbrev pub print : List ℕ → Does (Unit {0})
print bytes = λ c r. (With tt, record c { output = c.output ++ bytes }, r)

-- ---- accesses whose operands have these values

abbrev pub element_of : Span → ℕ → Val → Val → Access
element_of at size base index =
    record { at = at; base = base; index = number index; size = size; first = 0; item = pos 0; length = 1 }

abbrev pub field_of : Span → FieldAt → Access → Access
field_of at f a = record a { at = at; first = f.first; length = f.length }

abbrev pub item_of : Span → Access → Val → Access
item_of at a i = record a { at = at; item = number i }

module _ (small : Bool) (call : Caller) where
  -- ---- expressions

  abbrev mutual
    pub value : Expr → Vars → Does Val
    value (Number at n) vs = tick small (pure (Num n))
    value (Nil at) vs = tick small (pure Null)
    value (Var at x) vs = tick small (pure (vs x))
    value (Unary at op a) vs = tick small (value a vs >>= (λ v. pure (unary_value op v)))
    value (Binary at op a b) vs = tick small (value a vs >>= (λ v. value b vs >>= (λ w. divided at (binary_value op v w))))
    value (And at a b) vs =
        tick small (value a vs >>= (λ v. if holds v then (value b vs >>= (λ w. pure (truth (holds w)))) else pure (Num (pos 0))))
    value (Or at a b) vs =
        tick small (value a vs >>= (λ v. if holds v then pure (Num (pos 1)) else (value b vs >>= (λ w. pure (truth (holds w))))))
    value (Load pointer p) vs = place p vs >>= load
    value (Called i) vs = tick small (invoked i vs)
    value (New at shape element count) vs = tick small (given (Num (pos 1)) count vs >>= allocate at element)
    value (ValueOf at a) vs = tick small (value a vs >>= (λ v. load (shared at v)))

    -- what is missing has a value of its own
    pub given : Val → Part → Vars → Does Val
    given v Missing vs = pure v
    given v (Given e) vs = value e vs

    -- the pointer, the index of the element, and then that in an array field
    pub place : Place → Vars → Does Access
    place (Element at size base index) vs =
        tick small (value base vs >>= (λ b. given zero_value index vs >>= (λ i. pure (element_of at size b i))))
    place (Behind at size f base) vs =
        tick small (value base vs >>= (λ b. pure (field_of at f (element_of at size b zero_value))))
    place (Field at f p) vs = tick small (place p vs >>= (λ a. pure (field_of at f a)))
    place (Item at p index) vs = tick small (place p vs >>= (λ a. value index vs >>= (λ i. pure (item_of at a i))))

    -- the arguments, then the placement's operand, and then the call
    pub invoked : Invocation → Vars → Does Val
    invoked (Invoke at f es p) vs = values es vs >>= (λ us. site p vs >>= (λ s. call f us s))

    pub values : Exprs → Vars → Does (List Val)
    values Last vs = pure []
    values (Arg e es) vs = value e vs >>= (λ v. values es vs >>= (λ us. pure (v ∷ us)))

    pub site : Placing → Vars → Does Site
    site OnThis vs = pure Here
    site (OnOwner e) vs = value e vs >>= (λ v. pure (OwnerOf v))
    site OnHome vs = pure Home
    site (OnNode e) vs = value e vs >>= (λ v. pure (Node v))
    site OnAny vs = pure Anywhere

  -- ---- assignments and declarations

  abbrev pub assigned : Assignment → Vars → Does Vars
  assigned (SetVar at x e) vs = value e vs >>= (λ v. pure (set x v vs))
  assigned (Store p e) vs = place p vs >>= (λ a. value e vs >>= (λ v. save a v >>= (λ u. pure vs)))
  assigned (Copy p q) vs = place p vs >>= (λ a. place q vs >>= (λ b. copy a b >>= (λ u. pure vs)))

  abbrev pub optional : Option Assignment → Vars → Does Vars
  optional None vs = pure vs
  optional (Some a) vs = assigned a vs

  -- a variable is unset in its own initialiser
  abbrev pub declared : Decl → Vars → Does Vars
  declared (Plain x v init) vs = given v init (set x v vs) >>= (λ w. pure (set x w vs))
  declared (Shared x) vs = born (zero_value ∷ []) >>= (λ p. pure (set x p vs))

  abbrev pub all_declared : List Decl → Vars → Does Vars
  all_declared [] vs = pure vs
  all_declared (d ∷ ds) vs = declared d vs >>= all_declared ds

  -- ---- statements: n is room for turns of loops

  module _ (big : Bool) (n : ℕ) where
    -- a loop tests, and where that holds does its body and tests again
    abbrev pub turns : ℕ → (Vars → Does Val) → (Vars → Does Vars) → Vars → Does Vars
    turns zero test body vs = going
    turns (suc m) test body vs =
        tick big (test vs >>= (λ v. if holds v then (body vs >>= turns m test body) else pure vs))

    -- what a construct does, and that its births behind the first so many were forked
    abbrev pub forked : ℕ → Out Vars → Out Vars
    forked n (With vs, c, r) = (With vs, record c { forks = c.forks ++ record { path = c.path; births = births_after n (c.births - n) } ∷ [] }, r)
    forked n (Returns v, c, r) = (Returns v, c, r)
    forked n (Traps t, c, r) = (Traps t, c, r)
    forked n (Going, c, r) = (Going, c, r)

    abbrev pub fork : Does Vars → Does Vars
    fork d = λ c r. forked c.births (d c r)

    -- a branch or body; none returns, and one that did would change no variable
    abbrev pub branched : Vars → Out Vars → Out Vars
    branched vs (With ws, c, r) = (With ws, c, r)
    branched vs (Returns v, c, r) = (With vs, c, r)
    branched vs (Traps t, c, r) = (Traps t, c, r)
    branched vs (Going, c, r) = (Going, c, r)

    abbrev pub branch : Does Vars → Vars → Does Vars
    branch d vs = enter big Here (λ c r. branched vs (d c r))

    abbrev mutual
      pub does : Stmt → Vars → Does Vars
      does Skip vs = tick small (pure vs)
      does (Block ds ss) vs = tick small (all_declared ds vs >>= all ss)
      does (Par at bs) vs = tick small (fork (branches bs vs))
      does (If e s z) vs = tick small (value e vs >>= (λ v. if holds v then does s vs else otherwise z vs))
      does (While e s) vs = tick small (turns n (value e) (does s) vs)
      does (For at a e b s) vs =
          tick small (optional a vs >>= turns n (given (Num (pos 1)) e) (λ ws. does s ws >>= optional b))
      does (Forall at a e b s) vs =
          tick small (fork (assigned a vs >>= turns n (value e) (λ ws. branch (does s ws) ws >>= assigned b)))
      does (Set a) vs = tick small (assigned a vs)
      does (Eval i) vs = tick small (invoked i vs >>= (λ v. pure vs))
      does (WriteTo at p e) vs = tick small (value p vs >>= (λ a. value e vs >>= (λ v. save (shared at a) v >>= (λ u. pure vs))))
      does (AddTo at p e) vs = tick small (value p vs >>= (λ a. value e vs >>= (λ v. add at a v >>= (λ u. pure vs))))
      does (Print string es) vs = tick small (values es vs >>= (λ us. print (formatted string (map number us)) >>= (λ u. pure vs)))
      does (Return e) vs = tick small (given zero_value e vs >>= give_back)

      pub otherwise : Else → Vars → Does Vars
      otherwise NoElse vs = pure vs
      otherwise (Otherwise s) vs = does s vs

      pub all : Stmts → Vars → Does Vars
      all End vs = pure vs
      all (Then s ss) vs = does s vs >>= all ss

      -- one after the other: a call branch is its call's activation, every other one an activation of its own
      pub branches : Stmts → Vars → Does Vars
      branches End vs = pure vs
      branches (Then s ss) vs = (if is_call_branch s then does s vs else branch (does s vs) vs) >>= branches ss

-- ---- activations

-- a function that ends without `return` gives 0 or NULL
abbrev pub result : Bool → Out Vars → Out Val
result pointer (With vs, c, r) = (With (if pointer then Null else zero_value), c, r)
result pointer (Returns v, c, r) = (With v, c, r)
result pointer (Traps t, c, r) = (Traps t, c, r)
result pointer (Going, c, r) = (Going, c, r)

abbrev pub Program : Type 0
Program = List Function

module _ (small big : Bool) where
  -- the body with these arguments; parameters without one are 0
  abbrev pub body : Caller → ℕ → Function → List Val → Does Val
  body call n f us = λ c r. result f.pointer ((all_declared small call f.decls (set_all f.params us unset) >>= all small call big n f.body) c r)

  abbrev pub run_function : Caller → ℕ → Option Function → List Val → Site → Does Val
  run_function call n None us s = pure zero_value
  run_function call n (Some f) us s = enter big s (body call n f us)

  -- calls within n activations and turns
  abbrev pub calls : Program → ℕ → Caller
  calls p zero f us s = going
  calls p (suc n) f us s = run_function (calls p n) n (slice_get p f) us s
