-- The words in which meanings are written, and what it is for a relation of meanings to be closed under each.
use Rattle.std.proofs.Common.{ℕ, Bool, if◌then◌else◌, List}
use Rattle.ec_types.specs.Meaning.Values.{Val, holds}
use Rattle.ec_types.specs.Meaning.State.{Site, Core, Out, Does, With, Returns, Traps, Going, ◌>>=◌, pure, tick, enter, Vars}
use Rattle.ec_types.specs.Meaning.Evaluation.{Caller, turns, fork}
use Rattle.ec_types.proofs.meaning.Steps.{Step}

-- what returns is caught, as the result of a call or at the end of a branch
abbrev pub caught : {A B : Type 0} → (A → B) → (Val → B) → Out A → Out B
caught f g (With a, c, r) = (With (f a), c, r)
caught f g (Returns v, c, r) = (With (g v), c, r)
caught f g (Traps t, c, r) = (Traps t, c, r)
caught f g (Going, c, r) = (Going, c, r)

abbrev pub catch : {A B : Type 0} → (A → B) → (Val → B) → Does A → Does B
catch f g d = λ c r. caught f g (d c r)

-- a turn of a loop, behind its tick, and then the rest
abbrev pub turned : (Vars → Does Val) → (Vars → Does Vars) → (Vars → Does Vars) → Vars → Does Vars
turned test body rest vs = test vs >>= (λ v. if holds v then (body vs >>= rest) else pure vs)

-- what is done on either side
abbrev pub Relation : Type 1
Relation = (A : Type 0) → Does A → Does A → Type 0

-- after each value, and in each call
abbrev pub Each : Relation → (A B : Type 0) → (A → Does B) → (A → Does B) → Type 0
Each R A B f g = (a : A) → R B (f a) (g a)

abbrev pub EachCall : Relation → Caller → Caller → Type 0
EachCall R call call' = (f : ℕ) (us : List Val) (s : Site) → R Val (call f us s) (call' f us s)

-- ---- closed under words

abbrev pub Steps : Relation → Type 1
Steps R = (A : Type 0) (d : Does A) → ((c : Core) → Step d c) → R A d d

abbrev pub Binds : Relation → Type 1
Binds R = (A B : Type 0) (d e : Does A) (f g : A → Does B) → R A d e → Each R A B f g → R B (d >>= f) (e >>= g)

abbrev pub Catches : Relation → Type 1
Catches R = (A B : Type 0) (f : A → B) (g : Val → B) (d e : Does A) → R A d e → R B (catch f g d) (catch f g e)

abbrev pub Ticks : Relation → Bool → Bool → Type 1
Ticks R b b' = (A : Type 0) (d e : Does A) → R A d e → R A (tick b d) (tick b' e)

abbrev pub Enters : Relation → Bool → Bool → Type 1
Enters R b b' = (s : Site) (A : Type 0) (d e : Does A) → R A d e → R A (enter b s d) (enter b' s e)

-- small, calls, big and room for turns, on either side
module _ (R : Relation) (small small' : Bool) (call call' : Caller) (big big' : Bool) (n n' : ℕ) where
  abbrev pub Forks : Type 0
  Forks = (d e : Does Vars) → R Vars d e → R Vars (fork small call big n d) (fork small' call' big' n' e)

  abbrev pub Loops : Type 0
  Loops =
      (test test' : Vars → Does Val) (body body' : Vars → Does Vars) →
      Each R Vars Val test test' → Each R Vars Vars body body' →
      Each R Vars Vars (turns small call big n n test body) (turns small' call' big' n' n' test' body')
