-- Functions at their numbers in a form.
use Rattle.std.proofs.Common.{◌≡◌, refl, ap, ◌∙◌, subst, ℕ, suc, ◌+◌, List, [], ◌∷◌, ◌++◌, length, arith, length-append, Some, slice_get}
use Rattle.ec_simple.specs.declared.form.SFunc.{SFunc}

-- these stand there from number g on
abbrev pub Holds : List SFunc → ℕ → List SFunc → Type 0
Holds fs g [] = Unit {0}
Holds fs g (x ∷ xs) = (slice_get fs g ≡ Some x) × Holds fs (suc g) xs

pub holds_front : (fs : List SFunc) (g : ℕ) (xs ys : List SFunc) → Holds fs g (xs ++ ys) → Holds fs g xs
holds_front fs g [] ys h = tt
holds_front fs g (x ∷ xs) ys h = (h.0, holds_front fs (suc g) xs ys h.1)

pub holds_back : (fs : List SFunc) (g : ℕ) (xs ys : List SFunc) → Holds fs g (xs ++ ys) → Holds fs (g + length xs) ys
holds_back fs g [] ys h = subst (λ n. Holds fs n ys) (omega arith) h
holds_back fs g (x ∷ xs) ys h = subst (λ n. Holds fs n ys) (omega arith) (holds_back fs (suc g) xs ys h.1)

at_end : (before xs : List SFunc) (y : SFunc) → slice_get (before ++ y ∷ xs) (length before) ≡ Some y
at_end [] xs y = refl
at_end (x ∷ before) xs y = at_end before xs y

-- a list holds itself, from any place on
holds_rest : (before xs : List SFunc) → Holds (before ++ xs) (length before) xs
holds_rest before [] = tt
holds_rest before (x ∷ xs) = (
  at_end before xs x,
  subst (λ l. Holds l (suc (length before)) xs) (more before)
      (subst (λ n. Holds ((before ++ x ∷ []) ++ xs) n xs) (length-append before (x ∷ []) ∙ omega arith)
      (holds_rest (before ++ x ∷ []) xs)),
)
  where
    more : (l : List SFunc) → (l ++ x ∷ []) ++ xs ≡ l ++ x ∷ xs
    more [] = refl
    more (y ∷ l) = ap (λ r. y ∷ r) (more l)

pub holds_all : (fs : List SFunc) → Holds fs 0 fs
holds_all fs = holds_rest [] fs
