-- Parts that stand one behind the other.
use Rattle.std.proofs.Common.{◌≡◌, refl, sym, ◌∙◌, ap, subst, ◌≤◌, ℕ, suc, Bool, true, false, List, [], ◌∷◌, ◌++◌, map, arith, if◌then◌else◌}
use Rattle.ec_base.specs.declared.token.Span.{Span}
use Rattle.ec_syntax.specs.Grammar.Language.{span}
use Rattle.ec_syntax.specs.Parts.{Role, is_plain, Parts, one, ◌ahead_of◌, joined}
use Rattle.ec_syntax.specs.Parts.Role.{Plain}
use Rattle.ec_syntax.specs.Places.{first, Stands}

-- ---- lists of parts

pub ahead_of_nothing : (a : Parts) → a ahead_of Parts.nothing ≡ a
ahead_of_nothing Parts.nothing = refl
ahead_of_nothing (Parts.part role at within behind) = ap (λ z. Parts.part role at within z) (ahead_of_nothing behind)
ahead_of_nothing (Parts.sides a behind) = ap (λ z. Parts.sides a z) (ahead_of_nothing behind)

pub ahead_of_assoc : (a b c : Parts) → (a ahead_of b) ahead_of c ≡ a ahead_of (b ahead_of c)
ahead_of_assoc Parts.nothing b c = refl
ahead_of_assoc (Parts.part role at within behind) b c =
    ap (λ z. Parts.part role at within z) (ahead_of_assoc behind b c)
ahead_of_assoc (Parts.sides a behind) b c = ap (λ z. Parts.sides a z) (ahead_of_assoc behind b c)

pub joined-more : {A : Type 0} (parts : A → Parts) (xs : List A) (x : A) →
    joined (map parts (xs ++ x ∷ [])) ≡ joined (map parts xs) ahead_of parts x
joined-more parts [] x = ahead_of_nothing (parts x)
joined-more parts (y ∷ xs) x =
    ap (λ z. parts y ahead_of z) (joined-more parts xs x)
    ∙ sym (ahead_of_assoc (parts y) (joined (map parts xs)) (parts x))

-- ---- where they stand

pub stands_up : (a : Parts) (from to : ℕ) → Stands from to a → from ≤ to
stands_up Parts.nothing from to h = h
stands_up (Parts.part role at within behind) from to (h, k, inside, rest) =
    let up : at.to ≤ to = stands_up behind at.to to rest in omega (arith, h, k, up)
stands_up (Parts.sides a behind) from to (apart, h) = stands_up behind from to h

pub stands_earlier : (a : Parts) (from low to : ℕ) → from ≤ low → Stands low to a → Stands from to a
stands_earlier Parts.nothing from low to e h = omega (arith, e, h)
stands_earlier (Parts.part role at within behind) from low to e (h, k, inside, rest) =
    (omega (arith, e, h), k, inside, rest)
stands_earlier (Parts.sides a behind) from low to e (apart, h) = (apart, stands_earlier behind from low to e h)

pub stands_later : (a : Parts) (from to high : ℕ) → to ≤ high → Stands from to a → Stands from high a
stands_later Parts.nothing from to high e h = omega (arith, e, h)
stands_later (Parts.part role at within behind) from to high e (h, k, inside, rest) =
    (h, k, inside, stands_later behind at.to to high e rest)
stands_later (Parts.sides a behind) from to high e (apart, h) = (apart, stands_later behind from to high e h)

-- where the ones end and the others begin
pub record Parted (a b : Parts) (from to : ℕ) : Type 0 where
  pub mid : ℕ
  pub before : Stands from mid a
  pub after : Stands mid to b

pub parted : (a b : Parts) (from to : ℕ) → Stands from to (a ahead_of b) → Parted a b from to
parted Parts.nothing b from to h = record { mid = from; before = omega arith; after = h }
parted (Parts.part role at within behind) b from to (h, k, inside, rest) =
    let p = parted behind b at.to to rest in
    record { mid = p.mid; before = (h, k, inside, p.before); after = p.after }
parted (Parts.sides a behind) b from to (apart, h) =
    let p = parted behind b from to h in
    record { mid = p.mid; before = (apart, p.before); after = p.after }

pub stands_ahead_of : (a b : Parts) (from mid to : ℕ) → Stands from mid a → Stands mid to b →
    Stands from to (a ahead_of b)
stands_ahead_of Parts.nothing b from mid to h k = stands_earlier b from mid to h k
stands_ahead_of (Parts.part role at within behind) b from mid to (h, g, inside, rest) k =
    (h, g, inside, stands_ahead_of behind b at.to mid to rest k)
stands_ahead_of (Parts.sides a behind) b from mid to (apart, h) k = (apart, stands_ahead_of behind b from mid to h k)

-- ---- what stands so that other parts do

pub record Gives (a b : Parts) : Type 0 where
  pub on : (from to : ℕ) → Stands from to a → Stands from to b

pub gives_self : {a : Parts} → Gives a a
gives_self = record { on = λ from to h. h }

pub gives_same : {a b : Parts} → a ≡ b → Gives a b
gives_same e = record { on = λ from to h. subst (λ z. Stands from to z) e h }

pub gives_on : {a b c : Parts} → Gives a b → Gives b c → Gives a c
gives_on f g = record { on = λ from to h. g.on from to (f.on from to h) }

-- the ones behind others
pub gives_behind : (us a b : Parts) → Gives a b → Gives (us ahead_of a) (us ahead_of b)
gives_behind us a b f = record {
  on =
      λ from to h. let p = parted us a from to h in stands_ahead_of us b from p.mid to p.before (f.on p.mid to p.after);
}

-- ---- a part of its own

pub first_below : (role : Role) (from : ℕ) → first role from ≤ suc from
first_below role from = by (is_plain role)
  where
    by : (b : Bool) → (if b then from else suc from) ≤ suc from
    by true = omega arith
    by false = omega arith

-- a part with all that follows as one
pub wrapped : (role : Role) (at : Span) (within behind : Parts) (from to : ℕ) →
    Stands from to (Parts.part role at within behind) →
    Stands from to (one Plain (span at.from to) (Parts.part role at within behind))
wrapped role at within behind from to (h, k, inside, rest) =
    let up : at.to ≤ to = stands_up behind at.to to rest in
    (h, omega (arith, k, up), (omega arith, k, inside, rest), omega arith)

-- two parts as one
pub paired : (r q : Role) (a b : Span) (within within' : Parts) → Gives (Parts.part r a within (one q b within'))
    (one Plain (span a.from b.to) (Parts.part r a within (one q b within')))
paired r q a b within within' = record { on = by }
  where
    by : (from to : ℕ) → Stands from to (Parts.part r a within (one q b within')) →
        Stands from to (one Plain (span a.from b.to) (Parts.part r a within (one q b within')))
    by from to (h, k, inside, (l, m, inside', n)) =
        (h, omega (arith, k, l, m), (omega arith, k, inside, (l, m, inside', omega arith)), n)

-- a part within a plain one of the same place
pub doubled : (role : Role) (at : Span) (within : Parts) → Gives (one role at within)
    (one Plain at (one role at within))
doubled role at within = record { on = by }
  where
    by : (from to : ℕ) → Stands from to (one role at within) → Stands from to (one Plain at (one role at within))
    by from to (h, k, inside, rest) = (h, k, (omega arith, k, inside, omega arith), rest)
