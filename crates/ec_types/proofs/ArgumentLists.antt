-- Arguments, taken from the last one to the first.
use Rattle.std.proofs.Common.{◌≡◌, refl, ℕ, zero, suc, ◌<◌, ◌≤◌, ◌∙◌, sym, ap, subst, Bool, List, [], ◌∷◌, length, map, drop, get_or, None, Some, Option, Result, Ok, Bor, arith}
use Rattle.std.specs.Prelude.{leb}
use Rattle.std.specs.List.{slice_get, HoldsAt}
use Rattle.std.specs.Option.{MatchOption, option_copied}
use Rattle.std.proofs.lemmas.Option.{slice_get_past, slice_get_read}
use Rattle.std.proofs.lemmas.Bool.Decides.{nat_tests}
use Rattle.ec_base.specs.declared.fail.Fail.{Fail}
use Rattle.ec_types.specs.declared.refusal.TypeRefusal.{TypeRefusal}
use Rattle.ec_syntax.specs.declared.expression.Expr.{Expr}
use Rattle.ec_syntax.specs.declared.statement.Decl.{Decl}
use Rattle.ec_types.specs.Arguments.{arguments, fits, is_none_left}
use Rattle.ec_types.specs.Judged.{Gives, ◌and◌}
use Rattle.ec_types.specs.Parts.{Form, Part}

pub none_left : (ds : List Decl) (n : ℕ) → leb (length ds) n ≡ is_none_left (drop n ds)
none_left [] zero = grind (arith, nat_tests)
none_left [] (suc n) = grind (arith, nat_tests)
none_left (d ∷ ds) zero = grind (arith, nat_tests)
none_left (d ∷ ds) (suc n) = (grind (arith, nat_tests)) ∙ none_left ds n

drop_none : {A : Type 0} (n : ℕ) → drop {A = A} n [] ≡ []
drop_none zero = refl
drop_none (suc n) = refl

drop_all : {A : Type 0} (xs : List A) → drop (length xs) xs ≡ []
drop_all [] = refl
drop_all (x ∷ xs) = drop_all xs

-- no argument yet, from behind
pub starts :
    (lets : Form → Bool) (j : Expr → Part) (ds : List Decl) (es : List Expr)
    → Gives (Ok (leb (length ds) (length es))) (arguments lets (drop (length es) ds) (map j (drop (length es) es)))
starts lets j ds es =
    subst
    (λ v. Gives (Ok (leb (length ds) (length es))) (arguments lets (drop (length es) ds) (map j v)))
    (sym (drop_all es)) (none_left ds (length es))

-- one argument more, from behind
pub one_more :
    (lets : Form → Bool) (j : Expr → Part) (ds : List Decl) (es : List Expr) (k : ℕ) (e : Expr) → k < length es → get_or es k e ≡ e
    → arguments lets (drop k ds) (map j (drop k es)) ≡ (fits lets (slice_get ds k) (j e) and arguments lets (drop (suc k) ds) (map j (drop (suc k) es)))
one_more lets j ds [] k e h is = absurd (omega arith)
one_more lets j ds (x ∷ xs) zero e h is =
    ap (λ v. fits lets (slice_get ds 0) (j v) and arguments lets (drop 1 ds) (map j xs)) is
one_more lets j [] (x ∷ xs) (suc k) e h is =
    subst
    (λ v. arguments lets v (map j (drop k xs)) ≡ (fits lets None (j e) and arguments lets [] (map j (drop (suc k) xs))))
    (drop_none k) (one_more lets j [] xs k e (omega arith) is)
one_more lets j (d ∷ ds) (x ∷ xs) (suc k) e h is = one_more lets j ds xs k e (omega arith) is

-- the same as an answer
pub goes_back :
    (lets : Form → Bool) (j : Expr → Part) (ds : List Decl) (es : List Expr) (k at : ℕ) (e : Expr) (r : Result Bool (Fail TypeRefusal))
    → suc k ≡ at → k < length es → get_or es k e ≡ e
    → Gives r (fits lets (slice_get ds k) (j e) and arguments lets (drop at ds) (map j (drop at es)))
    → Gives r (arguments lets (drop k ds) (map j (drop k es)))
goes_back lets j ds es k at e r next h is p =
    subst (Gives r) (sym (one_more lets j ds es k e h is))
    (subst (λ n. Gives r (fits lets (slice_get ds k) (j e) and arguments lets (drop n ds) (map j (drop n es)))) (sym next) p)

-- what a look-up in a slice finds
pub found :
    {A : Type 0} (ds : List A) (k : ℕ) (r : Option (Bor A))
    → MatchOption r (length ds ≤ k) (λ x. (k < length ds) × HoldsAt (λ y. x.now ≡ y) ds k) → option_copied r ≡ slice_get ds k
found ds k None h = sym (slice_get_past ds k h)
found ds k (Some x) h = sym (slice_get_read ds (length ds) k x.now refl h.0 (h.1 x.now))
