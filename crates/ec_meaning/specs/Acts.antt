-- What works do to the hand, by the meaning of the trees that they hold.
use Rattle.std.specs.Prelude.{ℕ, ◌-◌, true, if◌then◌else◌, List, [], ◌∷◌, ◌++◌, map, reverse, take, drop, get_or, pos}
use Rattle.ec_base.specs.Format.{formatted}
use Rattle.ec_types.specs.Meaning.Values.{Val, Num, zero_value, number, holds, truth, unary_value, binary_value}
use Rattle.ec_types.specs.Meaning.State as state
use Rattle.ec_types.specs.Meaning.State.{Site, Core, Does, With, ◌>>=◌, pure, give_back, Vars, set, births_after}
use Rattle.ec_types.specs.Meaning.Memory.{Access, load, save, copy, shared, add, allocate, born}
use Rattle.ec_types.specs.Meaning.Evaluation.{Caller, divided, print, element_of, field_of, item_of, value, given, place, invoked, values, assigned, optional, all_declared, turns, branch, does, otherwise, all, branches}
use Rattle.ec_meaning.specs.Works.{Placement, Here, OwnerOf, Home, Node, Anywhere, Loop, WhileLoop, ForLoop, ForallLoop, Work, Value, Constant, Reach, Arguments, Call, Operate, Combine, AndThen, OrElse, AsTruth, ToElement, ToBehind, ToField, ToItem, LoadFrom, LoadShared, Allocate, Share, SaveTo, CopyTo, SendTo, AddUp, Enter, Drop, Assign, SetTo, Declare, Statement, Statements, Branches, Branch, Decide, Turn, Again, Joined, PrintOut, GiveBack, Hand}

-- ---- the hand; what is missing is 0

abbrev pub no_access : Access
no_access = shared (record { from = 0; to = 0 }) zero_value

abbrev pub top : Hand → Val
top h = get_or h.values 0 zero_value

abbrev pub second : Hand → Val
second h = get_or h.values 1 zero_value

abbrev pub push : Val → Hand → Hand
push v h = record h { values = v ∷ h.values }

abbrev pub without : ℕ → Hand → Hand
without n h = record h { values = drop n h.values }

-- values instead of the last n ones
abbrev pub replaced : ℕ → Val → Hand → Hand
replaced n v h = push v (without n h)

-- the last n values, in the order in which they came
abbrev pub last_values : ℕ → Hand → List Val
last_values n h = reverse (take n h.values)

abbrev pub push_all : List Val → Hand → Hand
push_all us h = record h { values = reverse us ++ h.values }

abbrev pub access : Hand → Access
access h = get_or h.accesses 0 no_access

abbrev pub second_access : Hand → Access
second_access h = get_or h.accesses 1 no_access

abbrev pub reached : Access → Hand → Hand
reached a h = record h { accesses = a ∷ h.accesses }

abbrev pub left_behind : ℕ → Hand → Hand
left_behind n h = record h { accesses = drop n h.accesses }

abbrev pub with_vars : Vars → Hand → Hand
with_vars vs h = record h { vars = vs }

-- ---- placements

abbrev pub operands : Placement → ℕ
operands OwnerOf = 1
operands Node = 1
operands p = 0

abbrev pub site : Placement → Val → Site
site Here v = state.Here
site OwnerOf v = state.OwnerOf v
site Home v = state.Home
site Node v = state.Node v
site Anywhere v = state.Anywhere

-- what is at hand below the operand of a placement, where it has one
abbrev pub below_operand : Placement → Hand → Hand
below_operand p h = without (operands p) h

-- nothing is at hand, and these parameters have the values of their arguments
abbrev pub entered : List ℕ → List Val → Hand
entered params args = record { values = []; accesses = []; vars = state.set_all params args state.unset }

-- ---- works

module _ (call : Caller) (n : ℕ) where
  abbrev pub tests : Loop → Vars → Does Val
  tests (WhileLoop e s) = value true call e
  tests (ForLoop e a s) = given true call (Num (pos 1)) e
  tests (ForallLoop e a s) = value true call e

  abbrev pub repeats : Loop → Vars → Does Vars
  repeats (WhileLoop e s) = does true call true n s
  repeats (ForLoop e a s) = λ vs. does true call true n s vs >>= optional true call a
  repeats (ForallLoop e a s) = λ vs. branch true call true n (does true call true n s vs) vs >>= assigned true call a

  abbrev pub loop : Loop → Vars → Does Vars
  loop l = turns true call true n n (tests l) (repeats l)

  -- the variables are as the part left them
  abbrev pub keeping : Hand → Does Vars → Does Hand
  keeping h d = d >>= (λ vs. pure (with_vars vs h))

  -- the values are those of the hand, but for the last m ones, and one more
  abbrev pub giving : ℕ → Hand → Does Val → Does Hand
  giving m h d = d >>= (λ v. pure (replaced m v h))

  abbrev pub acts : Work → Hand → Does Hand
  acts (Value e) h = giving 0 h (value true call e h.vars)
  acts (Constant v) h = pure (push v h)
  acts (Reach p) h = place true call p h.vars >>= (λ a. pure (reached a h))
  acts (Arguments es) h = values true call es h.vars >>= (λ us. pure (push_all us h))
  acts (Call i) h = giving 0 h (invoked true call i h.vars)
  acts (Operate op) h = pure (replaced 1 (unary_value op (top h)) h)
  acts (Combine at op) h = giving 2 h (divided at (binary_value op (second h) (top h)))
  acts (AndThen e) h =
      if holds (top h) then giving 1 h (value true call e h.vars >>= (λ w. pure (truth (holds w))))
      else pure (replaced 1 (Num (pos 0)) h)
  acts (OrElse e) h =
      if holds (top h) then pure (replaced 1 (Num (pos 1)) h)
      else giving 1 h (value true call e h.vars >>= (λ w. pure (truth (holds w))))
  acts AsTruth h = pure (replaced 1 (truth (holds (top h))) h)
  acts (ToElement at size) h = pure (reached (element_of at size (second h) (top h)) (without 2 h))
  acts (ToBehind at size f) h = pure (reached (field_of at f (element_of at size (top h) zero_value)) (without 1 h))
  acts (ToField at f) h = pure (reached (field_of at f (access h)) (left_behind 1 h))
  acts (ToItem at) h = pure (reached (item_of at (access h) (top h)) (left_behind 1 (without 1 h)))
  acts LoadFrom h = load (access h) >>= (λ v. pure (push v (left_behind 1 h)))
  acts (LoadShared at) h = giving 1 h (load (shared at (top h)))
  acts (Allocate at element) h = giving 1 h (allocate at element (top h))
  acts Share h = giving 0 h (born (zero_value ∷ []))
  acts SaveTo h = save (access h) (top h) >>= (λ u. pure (left_behind 1 (without 1 h)))
  acts CopyTo h = copy (second_access h) (access h) >>= (λ u. pure (left_behind 2 h))
  acts (SendTo at) h = save (shared at (second h)) (top h) >>= (λ u. pure (without 2 h))
  acts (AddUp at) h = add at (second h) (top h) >>= (λ u. pure (without 2 h))
  acts (Enter p f m) h =
      giving m (without (operands p) h) (call f (last_values m (without (operands p) h)) (site p (top h)))
  acts Drop h = pure (without 1 h)
  acts (Assign a) h = keeping h (assigned true call a h.vars)
  acts (SetTo x) h = pure (with_vars (set x (top h) h.vars) (without 1 h))
  acts (Declare ds) h = keeping h (all_declared true call ds h.vars)
  acts (Statement s) h = keeping h (does true call true n s h.vars)
  acts (Statements ss) h = keeping h (all true call true n ss h.vars)
  acts (Branches ss) h = keeping h (branches true call true n ss h.vars)
  acts (Branch s) h = keeping h (branch true call true n (does true call true n s h.vars) h.vars)
  acts (Decide s z) h =
      if holds (top h) then keeping (without 1 h) (does true call true n s h.vars)
      else keeping (without 1 h) (otherwise true call true n z h.vars)
  acts (Turn l) h = keeping h (loop l h.vars)
  acts (Again l) h =
      if holds (top h) then keeping (without 1 h) (repeats l h.vars >>= loop l) else pure (without 1 h)
  acts (Joined before) h = λ c r.
      (With h, record c { forks = c.forks ++ record { path = c.path; births = births_after before (c.births - before) } ∷ [] }, r)
  acts (PrintOut string m) h = print (formatted string (map number (last_values m h))) >>= (λ u. pure (without m h))
  acts GiveBack h = give_back (top h)

  -- one after the other
  abbrev pub act_all : List Work → Hand → Does Hand
  act_all [] h = pure h
  act_all (w ∷ ws) h = acts w h >>= act_all ws
