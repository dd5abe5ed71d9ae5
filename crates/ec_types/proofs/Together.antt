-- Names that are declared one after the other.
use Rattle.std.proofs.Common.{◌≡◌, sym, ◌∙◌, ap, subst, ℕ, suc, ◌+◌, ◌<◌, List, [], ◌∷◌, ◌++◌, append_assoc, length, map, drop, get_or, Result, arith}
use Rattle.std.proofs.Math.Seq.{drop-cons}
use Rattle.std.proofs.lemmas.List.{append-nil}
use Rattle.ec_base.specs.declared.fail.Fail.{Fail}
use Rattle.ec_syntax.specs.declared.name.Name.{Name}
use Rattle.ec_types.specs.declared.refusal.TypeRefusal.{TypeRefusal}
use Rattle.ec_types.specs.Judged.{fine, Gives, ◌also◌}
use Rattle.ec_types.specs.Names.{distinct, fresh, earlier}
use Rattle.ec_types.proofs.Bodies.Lists.{also_assoc, also_fine}

distinct_behind : (before ns : List Name) (n : Name) →
    distinct before (ns ++ n ∷ []) ≡ (distinct before ns also fresh (earlier (before ++ ns) n) n)
distinct_behind before [] n =
    also_fine (fresh (earlier before n) n) ∙ ap (λ l. fine also fresh (earlier l n) n) (sym (append-nil before))
distinct_behind before (x ∷ ns) n =
    ap (λ v. fresh (earlier before x) x also v) (distinct_behind (before ++ x ∷ []) ns n)
    ∙ sym (also_assoc (fresh (earlier before x) x) (distinct (before ++ x ∷ []) ns) (fresh (earlier ((before ++ x ∷ []) ++ ns) n) n))
    ∙ ap (λ l. (fresh (earlier before x) x also distinct (before ++ x ∷ []) ns) also fresh (earlier l n) n) (append_assoc before (x ∷ []) ns)

-- one name more
pub declares_one :
    (ns after : List Name) (n : Name) (r : Result (Unit {0}) (Fail TypeRefusal)) → after ≡ ns ++ n ∷ [] →
    Gives r (distinct [] ns also fresh (earlier ns n) n) → Gives r (distinct [] after)
declares_one ns after n r is p = subst (λ l. Gives r (distinct [] l)) (sym is) (subst (Gives r) (sym (distinct_behind [] ns n)) p)

-- a loop that takes one item after the other comes to all of them
pub takes_one :
    {A B : Type 0} (f : A → B) (all : List A) (k : ℕ) (x : A) (done after whole : List B) → k < length all → x ≡ get_or all k x
    → after ≡ done ++ f x ∷ [] → done ++ map f (drop k all) ≡ whole → after ++ map f (drop (k + 1) all) ≡ whole
takes_one f all k x done after whole within is more so_far =
    let next : k + 1 ≡ suc k = omega arith in
    ap (λ l. l ++ map f (drop (k + 1) all)) more
    ∙ append_assoc done (f x ∷ []) (map f (drop (k + 1) all))
    ∙ ap (λ n. done ++ f x ∷ map f (drop n all)) next
    ∙ ap (λ y. done ++ f y ∷ map f (drop (suc k) all)) is
    ∙ ap (λ l. done ++ map f l) (sym (drop-cons all k x within))
    ∙ so_far
