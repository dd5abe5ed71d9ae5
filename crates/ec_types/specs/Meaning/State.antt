-- What an activation knows, and what a part of a program does within its ticks.
use Rattle.std.specs.Prelude.{ℕ, zero, suc, max, Bool, true, false, if◌then◌else◌, ◌==◌, List, [], ◌∷◌, ◌++◌, length, Option}
use Rattle.ec_base.specs.declared.token.Span.{Span}
use Rattle.ec_base.specs.declared.trap.Trap.{Trap}
use Rattle.ec_base.specs.declared.trap.TrapKind.{TrapKind}
use Rattle.ec_types.specs.Meaning.Values.{Path, Val, zero_value}

-- where a call is placed, with its operand's value
pub data Site : Type 0 where
  Here : Site
  OwnerOf : Val → Site
  Home : Site
  Node : Val → Site
  Anywhere : Site

-- an activation and its placement
pub record Placed : Type 0 where
  pub path : Path
  pub site : Site

-- a parallel sequence or `forall` that was executed: the activation in which it stands, and its births in order
pub record Fork : Type 0 where
  pub path : Path
  pub births : List ℕ

-- The activation's path and its births so far; and what all activations share: the most that were open at once, the output,
-- the store, the placements and the forks.
pub record Core : Type 0 where
  pub path : Path
  pub births : ℕ
  pub most : ℕ
  pub output : List ℕ
  pub store : Path → Option (List Val)
  pub places : List Placed
  pub forks : List Fork

-- ---- what a part comes to

pub data Ends (A : Type 0) : Type 0 where
  With : A → Ends A
  Returns : Val → Ends A
  Traps : Trap → Ends A
  Going : Ends A

-- how it ends, what is known then, and the ticks that are left
abbrev pub Out : Type 0 → Type 0
Out A = Ends A × Core × ℕ

-- what a part does, with so many ticks left
abbrev pub Does : Type 0 → Type 0
Does A = Core → ℕ → Out A

abbrev pub and_then : {A B : Type 0} → Out A → (A → Does B) → Out B
and_then (With a, c, r) f = f a c r
and_then (Returns v, c, r) f = (Returns v, c, r)
and_then (Traps t, c, r) f = (Traps t, c, r)
and_then (Going, c, r) f = (Going, c, r)

infixl 10 ◌>>=◌
abbrev pub ◌>>=◌ : {A B : Type 0} → Does A → (A → Does B) → Does B
d >>= f = λ c r. and_then (d c r) f

abbrev pub pure : {A : Type 0} → A → Does A
pure a = λ c r. (With a, c, r)

abbrev pub trap : {A : Type 0} → TrapKind → Span → Does A
trap kind at = λ c r. (Traps (record { kind = kind; at = at }), c, r)

abbrev pub give_back : {A : Type 0} → Val → Does A
give_back v = λ c r. (Returns v, c, r)

abbrev pub going : {A : Type 0} → Does A
going = λ c r. (Going, c, r)

-- ---- ticks

-- one tick before all else: where none is left, it goes on past them
abbrev pub spend : {A : Type 0} → Does A → Core → ℕ → Out A
spend d c zero = (Going, c, zero)
spend d c (suc r) = d c r

-- a tick, where ticks are spent
abbrev pub tick : {A : Type 0} → Bool → Does A → Does A
tick true d = spend d
tick false d = d

-- ---- variables, by their numbers

abbrev pub Vars : Type 0
Vars = ℕ → Val

abbrev pub set : ℕ → Val → Vars → Vars
set x v vs = λ y. if y == x then v else vs y

abbrev pub set_all : List ℕ → List Val → Vars → Vars
set_all [] us vs = vs
set_all (x ∷ xs) [] vs = vs
set_all (x ∷ xs) (u ∷ us) vs = set_all xs us (set x u vs)

abbrev pub unset : Vars
unset = λ y. zero_value

-- ---- births and activations

abbrev pub next_path : Core → Path
next_path c = c.path ++ suc c.births ∷ []

-- a child activation at the next birth
abbrev pub inner : Core → Core
inner c = record c { path = next_path c; births = 0 }

-- back in the parent, which has one birth more
abbrev pub back_in : Core → Core → Core
back_in c d = record d { path = c.path; births = suc c.births }

abbrev pub outer : {A : Type 0} → Core → Out A → Out A
outer c (e, d, r) = (e, back_in c d, r)

-- the activation and those in which it stands are open
abbrev pub depth : Path → ℕ
depth p = suc (length p)

abbrev pub opened : Site → Core → Core
opened site c = record c { most = max c.most (depth c.path); places = c.places ++ record { path = c.path; site = site } ∷ [] }

-- an activation starts: a tick, and then it is open
abbrev pub activate : {A : Type 0} → Bool → Site → Does A → Does A
activate b site d = tick b (λ c r. d (opened site c) r)

abbrev pub enter : {A : Type 0} → Bool → Site → Does A → Does A
enter b site d = λ c r. outer c (activate b site d (inner c) r)

-- the numbers from the one behind n on, so many
abbrev pub births_after : ℕ → ℕ → List ℕ
births_after n zero = []
births_after n (suc m) = suc n ∷ births_after (suc n) m
