-- Judgements of lists, as loops put them together.
use Rattle.std.proofs.Common.{◌≡◌, refl, ◌∙◌, sym, ap, subst, ℕ, zero, suc, ◌<◌, arith}
use Rattle.std.proofs.Common.{List, [], ◌∷◌, append_assoc, length, map, take, get_or, Result, Ok, Err}
use Rattle.ec_base.specs.declared.fail.Fail.{Fail}
use Rattle.ec_types.specs.declared.refusal.TypeRefusal.{TypeRefusal}
use Rattle.ec_types.specs.Judged.{Judged, Fine, fine, Gives, ◌also◌, every}

pub also_assoc :
    {A B C : Type 0} (x : Judged A) (y : Judged B) (z : Judged C) → ((x also y) also z) ≡ (x also (y also z))
also_assoc (Ok a) (Ok b) (Ok c) = refl
also_assoc (Ok a) (Ok b) (Err z) = refl
also_assoc (Ok a) (Err y) (Ok c) = refl
also_assoc (Ok a) (Err y) (Err z) = refl
also_assoc (Err x) (Ok b) (Ok c) = refl
also_assoc (Err x) (Ok b) (Err z) = refl
also_assoc (Err x) (Err y) (Ok c) = refl
also_assoc (Err x) (Err y) (Err z) = ap Err (append_assoc x y z)

pub also_fine : (x : Fine) → (x also fine) ≡ (fine also x)
also_fine (Ok tt) = refl
also_fine (Err why) = refl

-- A judgement of lists that judges one item after the other.
pub record Goes {A : Type 0} (one : A → Fine) (all : List A → Fine) : Type 0 where
  pub none : all [] ≡ fine
  pub more : (x : A) (xs : List A) → all (x ∷ xs) ≡ (one x also all xs)

-- one item more, from the front
one_more :
    {A : Type 0} {one : A → Fine} {all : List A → Fine} → Goes one all → (xs : List A) (k : ℕ) (x : A)
    → k < length xs → get_or xs k x ≡ x → all (take (suc k) xs) ≡ (all (take k xs) also one x)
one_more goes [] k x h is = absurd (omega arith)
one_more {one = one} {all = all} goes (y ∷ ys) zero x h is =
    goes.more y [] ∙ ap (λ v. one y also v) goes.none ∙ also_fine (one y) ∙ ap (λ v. fine also one v) is
    ∙ sym (ap (λ v. v also one x) goes.none)
one_more {one = one} {all = all} goes (y ∷ ys) (suc k) x h is =
    goes.more y (take (suc k) ys) ∙ ap (λ v. one y also v) (one_more goes ys k x (omega arith) is)
    ∙ sym (also_assoc (one y) (all (take k ys)) (one x)) ∙ sym (ap (λ v. v also one x) (goes.more y (take k ys)))

-- the same as an answer
pub goes_on_with :
    {A : Type 0} {one : A → Fine} {all : List A → Fine} → Goes one all → (xs : List A) (k at : ℕ) (x : A)
    (r : Result (Unit {0}) (Fail TypeRefusal)) → at ≡ suc k → k < length xs → get_or xs k x ≡ x
    → Gives r (all (take k xs) also one x) → Gives r (all (take at xs))
goes_on_with {all = all} goes xs k at x r next h is p =
    subst (λ n. Gives r (all (take n xs))) (sym next) (subst (Gives r) (sym (one_more goes xs k x h is)) p)

pub every_goes : {A : Type 0} (one : A → Fine) → Goes one (λ xs. every (map one xs))
every_goes one = record { none = refl; more = λ x xs. refl }
