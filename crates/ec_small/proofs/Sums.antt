-- What is told of sums to the rules above them.
use Rattle.std.proofs.Common.{◌≡◌, ◌<◌, refl, ℕ, zero, suc, [], ◌∷◌, length}
use Rattle.std.specs.Prelude.{Ok}
use Rattle.ec_base.specs.declared.token.TokenKind.TheVariants as t
use Rattle.ec_base.specs.declared.token.Mark.TheVariants as m
use Rattle.ec_small.specs.declared.tree.Expr.{Expr}
use Rattle.ec_small.specs.Grammar.{Kinds, Names, IsSum}
use Rattle.ec_small.specs.Descent.{Sized, sum, factor_operator, term_operator}
use Rattle.ec_small.proofs.Rules.{Rule, Local, Judged}
use Rattle.ec_small.proofs.Levels.{Halts}
use Rattle.ec_small.proofs.Judges.{Ends, Both, judged_as}
use Rattle.ec_small.proofs.Agrees.{SumsOf}
use Rattle.ec_small.proofs.Agrees as agrees
use Rattle.ec_small.proofs.Prefix.{Any}
use Rattle.ec_small.proofs.Prefix as prefix

-- a sum with its tree and the room that it leaves
abbrev pub Sums : ℕ → Names → ℕ → Rule Sized
Sums n names i ts p rest = IsSum n i names ts p.0 p.1 rest

-- no operator that there is room for stands here
abbrev pub Stops : ℕ → Kinds → Type 0
Stops zero rest = Unit {0}
Stops (suc j) (t.Mark m.Star ∷ rest) = ⊥
Stops (suc j) (t.Mark m.Plus ∷ rest) = ⊥
Stops (suc j) (t.Mark m.Minus ∷ rest) = ⊥
Stops (suc j) rest = Unit {0}

-- a sum that nothing goes on
abbrev pub WholeSums : ℕ → Names → ℕ → Rule Sized
WholeSums n names i ts p rest = IsSum n i names ts p.0 p.1 rest × Stops p.1 rest

halting : (j : ℕ) (rest : Kinds) → Stops j rest → Halts factor_operator j rest × Halts term_operator j rest
halting zero rest s = (refl, refl)
halting (suc j) [] s = (refl, refl)
halting (suc j) (t.Mark m.Star ∷ rest) s = absurd s
halting (suc j) (t.Mark m.Plus ∷ rest) s = absurd s
halting (suc j) (t.Mark m.Minus ∷ rest) s = absurd s
halting (suc j) (_ ∷ rest) s = (refl, refl)

stopped : (j : ℕ) (rest : Kinds) → Halts factor_operator j rest → Halts term_operator j rest → Stops j rest
stopped zero rest f g = tt
stopped (suc j) [] f g = tt
stopped (suc j) (t.Mark m.Star ∷ rest) f g = cc
stopped (suc j) (t.Mark m.Plus ∷ rest) f g = cc
stopped (suc j) (t.Mark m.Minus ∷ rest) f g = cc
stopped (suc j) (_ ∷ rest) f g = tt

pub local_sum : (n i : ℕ) (names : Names) (ts : Kinds) (e : Expr) (j : ℕ) (rest : Kinds) → IsSum n i names ts e j rest → Local (Sums n names i) ts (e, j) rest
local_sum n i names ts e j rest h = agrees.local_sum h

-- a sum that nothing goes on is read
pub read_sum : (n i : ℕ) (names : Names) (ts : Kinds) (e : Expr) (j : ℕ) (rest : Kinds) → IsSum n i names ts e j rest → Stops j rest → sum n names i ts ≡ Ok ((e, j), rest)
read_sum n i names ts e j rest h s = let l = halting j rest s in agrees.read_sum h l.0 l.1

-- what is read of a sum is right
pub judged_sum : (n : ℕ) (names : Names) (i : ℕ) (ts : Kinds) → Judged (WholeSums n names i) (Sums n names i) (sum n names i) ts (sum n names i ts)
judged_sum n names i ts =
    judged_as (Ends (SumsOf n names i) (Both term_operator (Both factor_operator Any))) (WholeSums n names i) (Sums n names i) (sum n names i) ts (sum n names i ts)
    (λ p rest h. (h.0, stopped p.1 rest h.1.0.1 h.1.1)) (prefix.judged_sum n names i ts)

-- what is read of a sum is fewer tokens than there were
pub shorter_sum : (n i : ℕ) (names : Names) (ts : Kinds) (e : Expr) (j : ℕ) (rest : Kinds) → IsSum n i names ts e j rest → length rest < length ts
shorter_sum n i names ts e j rest h = agrees.shorter_sum h
