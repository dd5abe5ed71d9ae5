-- Activations start and end in the code as in the definitions.
use Rattle.std.proofs.Common.{◌≡◌, refl, ap, ◌∙◌, ℕ, suc, ◌+◌, ◌-◌, ◌≤◌, ◌<◌, arith, max, List, [], ◌∷◌, ◌++◌, length, take, drop, reverse, get_or, Option, length-append, length-drop, add-one}
use Rattle.std.proofs.lemmas.List.{reverse-append, length-reverse}
use Rattle.ec_types.specs.Meaning.Values.{Path, Val}
use Rattle.ec_types.specs.Meaning.State as state
use Rattle.ec_types.specs.Meaning.State.{Site, next_path, inner, opened, depth}
use Rattle.ec_base.specs.declared.limits.TheConstants.{MAX_ACTIVATIONS}
use Rattle.ec_meaning.specs.declared.shared_state.Core.{Core}
use Rattle.ec_meaning.specs.Activations.{Enters}
use Rattle.ec_meaning.specs.Machine.{above}
use Rattle.ec_meaning.specs.Order.{InOrder, paths}
use Rattle.ec_meaning.specs.Seen.{Untold, store, core}
use Rattle.ec_meaning.proofs.Enters.{path_above, birth_above}
use Rattle.ec_meaning.proofs.Order.{InOrder-entered, InOrder-left}
use Rattle.ec_meaning.proofs.Views.{with_told, store_same}

reverse-cons : (n : ℕ) (ns : List ℕ) → reverse (n ∷ ns) ≡ reverse ns ++ n ∷ []
reverse-cons n ns = reverse-append (n ∷ []) ns

-- ---- starts

abbrev core_as : state.Core → Path → ℕ → ℕ → List ℕ → (Path → Option (List Val)) → state.Core
core_as c p b n o s = record c { path = p; births = b; most = n; output = o; store = s }

-- the placements and forks when an activation has started
abbrev pub placed : Untold → Site → Core → Untold
placed u site c = with_told u (u.places ++ record { path = next_path (core u c); site = site } ∷ []) u.forks

deeper : (births : List ℕ) (b : ℕ) → suc (suc (length (drop 1 births))) ≡ depth (reverse (drop 1 births) ++ b ∷ [])
deeper births b = rw (length-append, length-reverse) (omega arith)

pub core-entered :
    (u : Untold) (site : Site) (c d : Core) → Enters c d → core (placed u site c) d ≡ opened site (inner (core u c))
core-entered u site c d e =
    let rest = drop 1 c.births in
    let b = get_or c.births 0 0 in
    let path : reverse (drop 1 d.births) ≡ next_path (core u c) =
    ap (λ bs. reverse (drop 1 bs)) e.births ∙ reverse-cons (b + 1) rest ∙ ap (λ n. reverse rest ++ n ∷ []) (add-one b) in
    let births : get_or d.births 0 0 ≡ 0 = ap (λ bs. get_or bs 0 0) e.births in
    let most : d.most ≡ max c.most (depth (next_path (core u c))) =
    e.most ∙ ap (max c.most) (ap length e.births ∙ deeper c.births (suc b)) in
    let stored : store (placed u site c) d.blocks.items ≡ store u c.blocks.items =
    store_same u (placed u site c).places u.forks d.blocks.items ∙ ap (λ bs. store u bs.items) e.blocks in
    let k = core (placed u site c) d in
    ap (λ p. core_as k p k.births k.most k.output k.store) path
    ∙ ap (λ b. core_as k (next_path (core u c)) b k.most k.output k.store) births
    ∙ ap (λ n. core_as k (next_path (core u c)) 0 n k.output k.store) most
    ∙ ap (λ o. core_as k (next_path (core u c)) 0 (max c.most (depth (next_path (core u c)))) o.items k.store) e.output
    ∙ ap (λ s. core_as k (next_path (core u c)) 0 (max c.most (depth (next_path (core u c)))) c.output.items s) stored

-- one more is open than were so before
pub deep-entered :
    (u : Untold) (site : Site) (c : Core) → MAX_ACTIVATIONS ≤ length c.births →
    MAX_ACTIVATIONS < (opened site (inner (core u c))).most
deep-entered u site c l =
    let deep = deeper c.births (suc (get_or c.births 0 0)) in
    omega (arith, l, deep, length-drop 1 c.births)

-- ---- ends

path-left : (rest : List ℕ) → reverse (drop 1 rest) ≡ take (length (reverse rest) - 1) (reverse rest)
path-left [] = refl
path-left (a ∷ rest) = rw (reverse-cons a rest, path_above (reverse rest) a) refl

births-left : (rest : List ℕ) → get_or rest 0 0 ≡ get_or (reverse rest) (length (reverse rest) - 1) 0
births-left [] = refl
births-left (a ∷ rest) = rw (reverse-cons a rest, birth_above (reverse rest) a) refl

abbrev pub left : Core → Core
left c = record c { births = drop 1 c.births }

pub core-left : (u : Untold) (c : Core) → core u (left c) ≡ above (core u c)
core-left u c =
    let k = core u c in
    ap (λ p. record k { path = p; births = get_or (drop 1 c.births) 0 0 }) (path-left (drop 1 c.births))
    ∙ ap (λ b. record k { path = take (length k.path - 1) k.path; births = b }) (births-left (drop 1 c.births))

-- ---- births

-- where there are some, there is a first one
pub first_birth : (bs : List ℕ) → 0 < length bs → bs ≡ get_or bs 0 0 ∷ drop 1 bs
first_birth [] l = absurd (omega (arith, l))
first_birth (b ∷ bs) l = refl

pub two_births : (bs : List ℕ) → 1 < length bs → bs ≡ get_or bs 0 0 ∷ get_or (drop 1 bs) 0 0 ∷ drop 2 bs
two_births [] l = absurd (omega (arith, l))
two_births (b ∷ []) l = absurd (omega (arith, l))
two_births (b ∷ a ∷ bs) l = refl

pub ordered-entered : (c d : Core) → 0 < length c.births → Enters c d → InOrder c → InOrder d
ordered-entered c d some e o =
    InOrder-entered c d o (get_or c.births 0 0) (drop 1 c.births) (first_birth c.births some) e.births
    (ap (λ bs. paths bs.items) e.blocks)

pub ordered-left : (c : Core) → 1 < length c.births → InOrder c → InOrder (left c)
ordered-left c some o =
    let two = two_births c.births some in
    InOrder-left c (left c) o (get_or c.births 0 0) (get_or (drop 1 c.births) 0 0) (drop 2 c.births) two
    (ap (drop 1) two) refl
