-- What a call answers where want of memory may come anywhere.
use Rattle.std.specs.Prelude.{◌≡◌, Result, Ok, Err}
use Rattle.ec_base.specs.declared.fail.Fail.{Fail}
use Rattle.ec_base.specs.declared.fail.Fail.TheVariants.{Memory, Refused}

-- the answer is the value or the refusal that is told, or memory was wanted
abbrev pub Answers : {T R : Type 0} → Result T (Fail R) → Result T R → Type 0
Answers (Ok v) told = told ≡ Ok v
Answers (Err (Refused r)) told = told ≡ Err r
Answers (Err Memory) told = Unit {0}

-- the fact holds where the call refuses
abbrev pub OnRefused : {T R : Type 0} → Result T (Fail R) → Type 0 → Type 0
OnRefused (Ok v) P = Unit {0}
OnRefused (Err (Refused r)) P = P
OnRefused (Err Memory) P = Unit {0}

-- the refusal, where the call refuses, is such
abbrev pub IfRefused : {T R : Type 0} → Result T (Fail R) → (R → Type 0) → Type 0
IfRefused (Ok v) P = Unit {0}
IfRefused (Err (Refused r)) P = P r
IfRefused (Err Memory) P = Unit {0}
