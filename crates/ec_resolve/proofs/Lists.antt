-- Lists as loops put them together.
use Rattle.std.proofs.Common.{◌≡◌, ◌∙◌, ap, sym, ℕ, suc, ◌+◌, ◌<◌, arith, List, [], ◌∷◌, ◌++◌, append_assoc, length, map, get_or, drop, drop-cons}
use Rattle.std.proofs.lemmas.List.{map-append}

-- what is still to come, the next of it first
next_comes :
    {B C D : Type 0} (each : C → D) (now : B → C) (xs : List B) (k : ℕ) (x : B) → k < length xs → x ≡ get_or xs k x
    → map each (map now (drop k xs)) ≡ each (now x) ∷ map each (map now (drop (k + 1) xs))
next_comes each now xs k x inside is =
    let one_more : suc k ≡ k + 1 = omega arith in
    ap (λ l. map each (map now l)) (drop-cons xs k x inside)
    ∙ ap (λ y. each (now y) ∷ map each (map now (drop (suc k) xs))) (sym is)
    ∙ ap (λ n. each (now x) ∷ map each (map now (drop n xs))) one_more

-- where the next was made and put behind the others
pub goes_on :
    {A B C D : Type 0} (one : A → D) (each : C → D) (now : B → C) (all : List D) (done more : List A) (xs : List B) (k : ℕ) (r : A) (x : B)
    → k < length xs → x ≡ get_or xs k x → one r ≡ each (now x) → more ≡ done ++ r ∷ []
    → map one done ++ map each (map now (drop k xs)) ≡ all
    → map one more ++ map each (map now (drop (k + 1) xs)) ≡ all
goes_on one each now all done more xs k r x inside is same pushed before =
    let rest = map each (map now (drop (k + 1) xs)) in
    ap (λ l. map one l ++ rest) pushed
    ∙ ap (λ l. l ++ rest) (map-append one done (r ∷ []))
    ∙ append_assoc (map one done) (one r ∷ []) rest
    ∙ ap (λ v. map one done ++ v ∷ rest) same
    ∙ ap (λ l. map one done ++ l) (sym (next_comes each now xs k x inside is))
    ∙ before
