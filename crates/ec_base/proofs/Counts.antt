-- A count so far beside what is counted of the rest.
use Rattle.std.proofs.Common.{◌≡◌, ℕ, ◌+◌, Option, Some, None, refl, ap, arith}
use Rattle.ec_base.specs.Format.{one_more}

-- so many more
abbrev pub more : ℕ → Option ℕ → Option ℕ
more k None = None
more k (Some n) = Some (k + n)

pub more_none : (o : Option ℕ) → o ≡ more 0 o
more_none None = refl
more_none (Some n) = ap Some (omega arith)

pub more_convert : (k : ℕ) (o : Option ℕ) → more k (one_more o) ≡ more (k + 1) o
more_convert k None = refl
more_convert k (Some n) = ap Some (omega arith)

pub ruleset counts = (more_none, more_convert)
