-- What is put behind what was put before.
use Rattle.std.proofs.Common.{◌≡◌, sym, ap, ◌∙◌, ℕ, ◌+◌, List, [], ◌∷◌, ◌++◌, length, append-nil, append_assoc, arith}
use Rattle.std.proofs.lemmas.List.{length-append}
use Rattle.ec_simple.specs.declared.form.SStmt.{SStmt}
use Rattle.ec_simple.specs.declared.form.SVar.{SVar}
use Rattle.ec_simple.specs.declared.numbered.Numbered.{Numbered}
use Rattle.ec_simple.specs.Expressions.{Code, ends}
use Rattle.ec_simple.specs.Puts.{Vars, more, Sets, Puts}

abbrev numbered : {A : Type 0} → List A → ℕ → Numbered A
numbered all n = record { all = all; next = n }

pub more_more : {A : Type 0} (o : Numbered A) (a b : List A) → more (more o a) b ≡ more o (a ++ b)
more_more o a b =
    let n : (o.next + length a) + length b ≡ o.next + length (a ++ b) = omega (arith, length-append a b) in
    ap (λ l. numbered l ((o.next + length a) + length b)) (append_assoc o.all a b) ∙ ap (numbered (o.all ++ (a ++ b))) n

pub more_none : {A : Type 0} (o : Numbered A) → o ≡ more o []
more_none o =
    let n : o.next ≡ o.next + 0 = omega arith in
    ap (λ l. numbered l o.next) (sym (append-nil o.all)) ∙ ap (numbered (o.all ++ [])) n

pub more_then : {A : Type 0} (o m n : Numbered A) (a b : List A) → m ≡ more o a → n ≡ more m b → n ≡ more o (a ++ b)
more_then o m n a b h k = k ∙ ap (λ z. more z b) h ∙ more_more o a b

-- code and temporaries, and then more of them
module _ (old mid new : Code) (vold vmid vnew : Vars) (code more_code : Code) (vars more_vars : List SVar) where
  pub code_behind : mid ≡ old ++ code → new ≡ mid ++ more_code → new ≡ old ++ (code ++ more_code)
  code_behind a b = b ∙ ap (λ z. z ++ more_code) a ∙ append_assoc old code more_code

  pub vars_behind : vmid ≡ more vold vars → vnew ≡ more vmid more_vars → vnew ≡ more vold (vars ++ more_vars)
  vars_behind a b = b ∙ ap (λ z. more z more_vars) a ∙ more_more vold vars more_vars

-- code, and behind it one temporary more
pub ends_puts :
    (old mid new code : Code) (vold vmid vnew : Vars) (vars : List SVar) (v : SVar) (x : ℕ → SStmt) (to : ℕ) →
    mid ≡ old ++ code → vmid ≡ more vold vars → Sets v x mid new vmid vnew to →
    Puts (ends vold.next code vars v x) old new vold vnew to
ends_puts old mid new code vold vmid vnew vars v x to a b s =
    let n : vmid.next ≡ vold.next + length vars = ap (λ z. z.next) b in (
      s.0 ∙ ap (λ z. z ++ x vmid.next ∷ []) a ∙ append_assoc old code (x vmid.next ∷ [])
          ∙ ap (λ k. old ++ (code ++ x k ∷ [])) n,
      s.1 ∙ ap (λ z. more z (v ∷ [])) b ∙ more_more vold vars (v ∷ []),
      s.2 ∙ n,
    )
