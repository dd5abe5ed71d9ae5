-- Parts that aren't plain begin one behind the other where parts stand one behind the other.
use Rattle.std.proofs.Common.{◌≡◌, refl, sym, ◌∙◌, ap, ap₂, append_assoc, ◌==◌, ◌≤◌, ◌<◌, ℕ, suc, Bool, true, false, if◌then◌else◌, List, [], ◌∷◌, ◌++◌, arith}
use Rattle.std.specs.List.{All, AllPairs}
use Rattle.std.proofs.lemmas.List.Elements.{All-nil, All-cons}
use Rattle.std.proofs.lemmas.List.Kept.{AllPairs-cons}
use Rattle.ec_base.specs.declared.token.Span.{Span}
use Rattle.ec_syntax.specs.Parts.{is_plain, Parts, ◌ahead_of◌, but_plain, expression, program}
use Rattle.ec_syntax.specs.Places.{Stands, Marked, marked, BothSidesCount, MarksRise, MarksDiffer}
use Rattle.ec_syntax.proofs.Places.Programs.{parts_stand}

-- ---- the marks of parts

pub marked-ahead_of : (a b : Parts) → marked (a ahead_of b) ≡ marked a ++ marked b
marked-ahead_of Parts.nothing b = refl
marked-ahead_of (Parts.part role at within behind) b = by (is_plain role) (marked-ahead_of behind b)
  where
    mark : Marked
    mark = record { role = role; at = at }

    by : (c : Bool) → marked (behind ahead_of b) ≡ marked behind ++ marked b →
        (if c then marked within ++ marked (behind ahead_of b) else mark ∷ marked within ++ marked (behind ahead_of b))
        ≡ (if c then marked within ++ marked behind else mark ∷ marked within ++ marked behind) ++ marked b
    by true e = ap (λ z. marked within ++ z) e ∙ sym (append_assoc (marked within) (marked behind) (marked b))
    by false e =
        ap (λ z. mark ∷ marked within ++ z) e
        ∙ ap (λ z. mark ∷ z) (sym (append_assoc (marked within) (marked behind) (marked b)))
marked-ahead_of (Parts.sides a behind) b = marked-ahead_of behind b

pub marked-but_plain : (a : Parts) → marked (but_plain a) ≡ marked a
marked-but_plain Parts.nothing = refl
marked-but_plain (Parts.part role at within behind) =
    by (is_plain role) (marked-but_plain within) (marked-but_plain behind) refl
  where
    mark : Marked
    mark = record { role = role; at = at }

    by : (c : Bool) → marked (but_plain within) ≡ marked within → marked (but_plain behind) ≡ marked behind →
        is_plain role ≡ c →
        marked (if c then but_plain within ahead_of but_plain behind else Parts.part role at (but_plain within)
        (but_plain behind))
        ≡ (if c then marked within ++ marked behind else mark ∷ marked within ++ marked behind)
    by true e f k = marked-ahead_of (but_plain within) (but_plain behind) ∙ ap₂ (λ x y. x ++ y) e f
    by false e f k =
        ap (λ c. if c then marked (but_plain within) ++ marked (but_plain behind) else mark ∷ marked (but_plain within)
        ++ marked (but_plain behind)) k
        ∙ ap₂ (λ x y. mark ∷ x ++ y) e f
marked-but_plain (Parts.sides a behind) = marked-but_plain behind

pub both_sides_count : BothSidesCount
both_sides_count a = by (a.left.at.from == a.right.at.from)
  where
    by : (c : Bool) →
        marked (expression a.left ahead_of (if c then but_plain (expression a.right) else expression a.right))
        ≡ marked (expression a.left) ++ marked (expression a.right)
    by true =
        marked-ahead_of (expression a.left) (but_plain (expression a.right))
        ∙ ap (λ z. marked (expression a.left) ++ z) (marked-but_plain (expression a.right))
    by false = marked-ahead_of (expression a.left) (expression a.right)

-- ---- where they begin

-- marks between two places, each of which begins behind the beginning of the one before
abbrev Climbs : ℕ → ℕ → List Marked → Type 0
Climbs from to [] = from ≤ to
Climbs from to (x ∷ xs) = from ≤ x.at.from × Climbs (suc x.at.from) to xs

climbs_earlier : (xs : List Marked) (from low to : ℕ) → from ≤ low → Climbs low to xs → Climbs from to xs
climbs_earlier [] from low to e h = omega (arith, e, h)
climbs_earlier (x ∷ xs) from low to e (h, rest) = (omega (arith, e, h), rest)

climbs-append : (xs ys : List Marked) (from mid to : ℕ) → Climbs from mid xs → Climbs mid to ys →
    Climbs from to (xs ++ ys)
climbs-append [] ys from mid to h k = climbs_earlier ys from mid to h k
climbs-append (x ∷ xs) ys from mid to (h, rest) k = (h, climbs-append xs ys (suc x.at.from) mid to rest k)

climbs : (a : Parts) (from to : ℕ) → Stands from to a → Climbs from to (marked a)
climbs Parts.nothing from to h = h
climbs (Parts.part role at within behind) from to (h, k, inside, rest) =
    by (is_plain role) (λ low i. climbs within low at.to i) (climbs behind at.to to rest) inside
  where
    by : (b : Bool) → ((low : ℕ) → Stands low at.to within → Climbs low at.to (marked within)) →
        Climbs at.to to (marked behind) →
        Stands (if b then at.from else suc at.from) at.to within →
        Climbs from to (if b then marked within ++ marked behind else record { role = role; at = at } ∷ marked within ++
        marked behind)
    by true f g i =
        climbs-append (marked within) (marked behind) from at.to to
        (climbs_earlier (marked within) from at.from at.to h (f at.from i)) g
    by false f g i = (h, climbs-append (marked within) (marked behind) (suc at.from) at.to to (f (suc at.from) i) g)
climbs (Parts.sides a behind) from to (apart, h) = climbs behind from to h

abbrev pub Before : Marked → Marked → Type 0
Before a b = a.at.from < b.at.from

all_behind : (x : Marked) (xs : List Marked) (from to : ℕ) → x.at.from < from → Climbs from to xs → All (Before x) xs
all_behind x [] from to e h = All-nil (Before x)
all_behind x (y ∷ ys) from to e (h, rest) =
    All-cons (Before x) y ys (omega (arith, e, h)) (all_behind x ys (suc y.at.from) to (omega (arith, e, h)) rest)

rise : (xs : List Marked) (from to : ℕ) → Climbs from to xs → AllPairs Before xs
rise [] from to h = λ i j d small within. absurd (omega (arith, within))
rise (x ∷ xs) from to (h, rest) =
    AllPairs-cons Before x xs (all_behind x xs (suc x.at.from) to (omega arith) rest) (rise xs (suc x.at.from) to rest)

-- of any parts that stand somewhere, the marks begin one behind the other
pub stands_rise : (a : Parts) (from to : ℕ) → Stands from to a → AllPairs Before (marked a)
stands_rise a from to h = rise (marked a) from to (climbs a from to h)

pub marks_rise : MarksRise
marks_rise tokens p are reads = stands_rise (program p) 0 p.end.from (parts_stand tokens p are reads)

pub marks_differ : MarksDiffer
marks_differ tokens p are reads i j d small within e =
    let less = marks_rise tokens p are reads i j d small within in
    let same = ap (λ (z : Span). z.from) e in
    omega (arith, less, same)
