-- Parameters get the values of their arguments one by one.
use Rattle.std.proofs.Common.{◌≡◌, refl, sym, ap, ◌∙◌, ℕ, zero, suc, ◌+◌, add-one, ◌≤◌, ◌<◌, arith, min, List, [], ◌∷◌, length, drop, get_or}
use Rattle.ec_types.specs.Meaning.Values.{Val, zero_value}
use Rattle.ec_types.specs.Meaning.State.{Vars, set, set_all, unset}
use Rattle.ec_meaning.specs.Acts.{with_vars}
use Rattle.ec_meaning.specs.Works.{Hand}

-- the parameters behind the first so many ones are still to be set
pub record Fills (params : List ℕ) (args : List Val) (i : ℕ) (h : Hand) : Type 0 where
  pub values : h.values ≡ []
  pub accesses : h.accesses ≡ []
  pub vars : set_all (drop i params) (drop i args) h.vars ≡ set_all params args unset

pub fills-start :
    (params : List ℕ) (args : List Val) (h : Hand) → h ≡ record { values = []; accesses = []; vars = unset } →
    Fills params args 0 h
fills-start params args h is = record {
  values = ap (λ g. g.values) is;
  accesses = ap (λ g. g.accesses) is;
  vars = ap (λ g. set_all params args g.vars) is;
}

set_all-next :
    (params : List ℕ) (args : List Val) (vs : Vars) (i : ℕ) → i < length params → i < length args →
    set_all (drop i params) (drop i args) vs
    ≡ set_all (drop (suc i) params) (drop (suc i) args) (set (get_or params i 0) (get_or args i zero_value) vs)
set_all-next [] args vs i l m = absurd (omega (arith, l))
set_all-next (p ∷ params) [] vs i l m = absurd (omega (arith, m))
set_all-next (p ∷ params) (a ∷ args) vs zero l m = refl
set_all-next (p ∷ params) (a ∷ args) vs (suc i) l m = set_all-next params args vs i (omega (arith, l)) (omega (arith, m))

set_all-nil : (params : List ℕ) (vs : Vars) → set_all params [] vs ≡ vs
set_all-nil [] vs = refl
set_all-nil (p ∷ params) vs = refl

set_all-done :
    (params : List ℕ) (args : List Val) (vs : Vars) (i : ℕ) → min (length params) (length args) ≤ i →
    set_all (drop i params) (drop i args) vs ≡ vs
set_all-done [] args vs zero l = refl
set_all-done [] args vs (suc i) l = refl
set_all-done (p ∷ params) [] vs zero l = refl
set_all-done (p ∷ params) [] vs (suc i) l = set_all-nil (drop i params) vs
set_all-done (p ∷ params) (a ∷ args) vs zero l = absurd (omega (arith, l))
set_all-done (p ∷ params) (a ∷ args) vs (suc i) l = set_all-done params args vs i (omega (arith, l))

pub fills-next :
    (params : List ℕ) (args : List Val) (i : ℕ) (h k : Hand) (p : ℕ) (a : Val) → i < length params → i < length args →
    get_or params i 0 ≡ p → get_or args i zero_value ≡ a → k ≡ with_vars (set p a h.vars) h →
    Fills params args i h → Fills params args (i + 1) k
fills-next params args i h k p a l m is_p is_a is_k f = rw add-one (record {
  values = ap (λ g. g.values) is_k ∙ f.values;
  accesses = ap (λ g. g.accesses) is_k ∙ f.accesses;
  vars =
      ap (λ g. set_all (drop (suc i) params) (drop (suc i) args) g.vars) is_k
      ∙ ap (λ q. set_all (drop (suc i) params) (drop (suc i) args) (set q a h.vars)) (sym is_p)
      ∙ ap (λ b. set_all (drop (suc i) params) (drop (suc i) args) (set (get_or params i 0) b h.vars)) (sym is_a)
      ∙ sym (set_all-next params args h.vars i l m) ∙ f.vars;
})

pub fills-done :
    (params : List ℕ) (args : List Val) (i : ℕ) (h : Hand) → min (length params) (length args) ≤ i →
    Fills params args i h → h ≡ record { values = []; accesses = []; vars = set_all params args unset }
fills-done params args i h l f =
    let vars : h.vars ≡ set_all params args unset = sym (set_all-done params args h.vars i l) ∙ f.vars in
    rw (f.values, f.accesses, vars) refl
