-- What the lowering of expressions puts, by their parts.
use Rattle.std.proofs.Common.{◌≡◌, sym, ap, ◌∙◌, subst, ℕ, ◌+◌, List, [], ◌∷◌, ◌++◌, length, append_assoc, IfOk, Result, Ok, Err, None, pos, arith}
use Rattle.std.proofs.lemmas.List.{length-append}
use Rattle.ec_base.specs.declared.token.Span.{Span}
use Rattle.ec_simple.specs.declared.form.SStmt.{SStmt}
use Rattle.ec_simple.specs.declared.form.SStmt.TheVariants as s
use Rattle.ec_simple.specs.declared.form.SVar.{SVar}
use Rattle.ec_simple.specs.Expressions.{Code, Low, ends, temporary, truth, decided, both, either}
use Rattle.ec_simple.specs.Puts.{Vars, more, Sets, Puts, Decides}
use Rattle.ec_simple.proofs.puts.Behind.{ends_puts, vars_behind, code_behind}

-- ---- one operand, and then a temporary

-- an operand has put code and temporaries, and is what was wanted
abbrev pub Had : {Y : Type 0} → Code → List SVar → Y → Code → Code → Vars → Vars → Y → Type 0
Had code vars want old mid vold vmid y = (mid ≡ old ++ code) × (vmid ≡ more vold vars) × (y ≡ want)

pub one_operand :
    {Y E : Type 0} (r : Result ℕ E) (v : Y → SVar) (x : Y → ℕ → SStmt) (code : Code) (vars : List SVar) (y want : Y) (old mid new : Code) (vold vmid vnew : Vars) →
    Had code vars want old mid vold vmid y → IfOk r (λ to. Sets (v y) (x y) mid new vmid vnew to) →
    IfOk r (λ to. Puts (ends vold.next code vars (v want) (x want)) old new vold vnew to)
one_operand (Ok to) v x code vars y want old mid new vold vmid vnew h k =
    ends_puts old mid new code vold vmid vnew vars (v want) (x want) to h.0 h.1
    (subst (λ z. Sets (v z) (x z) mid new vmid vnew to) h.2 k)
one_operand (Err b) v x code vars y want old mid new vold vmid vnew h k = tt

-- ---- a test of one operand, and the other apart

module _ (at : Span) (a b : Low) (old mid new : Code) (vold vmid vnew : Vars) (test x : ℕ) where
  tested_vars : vmid ≡ more vold a.vars → vnew ≡ more vmid (b.vars ++ temporary at None ∷ []) → vnew ≡ more vold ((a.vars ++ b.vars) ++ temporary at None ∷ [])
  tested_vars m n =
      vars_behind old mid new vold vmid vnew [] [] a.vars (b.vars ++ temporary at None ∷ []) m n
      ∙ ap (more vold) (sym (append_assoc a.vars b.vars (temporary at None ∷ [])))

  tested_to : vmid ≡ more vold a.vars → x ≡ vmid.next + length b.vars → x ≡ vold.next + length (a.vars ++ b.vars)
  tested_to m n =
      let next : vmid.next ≡ vold.next + length a.vars = ap (λ z. z.next) m in
      omega (arith, n, next, length-append a.vars b.vars)

  pub both_puts :
      (inside : Code) → Puts a old mid vold vmid test → Decides b at inside vmid vnew x →
      new ≡ mid ++ s.If test inside (truth x (pos 0)) ∷ [] → Puts (both vold.next at a b) old new vold vnew x
  both_puts inside p d n =
      let to = tested_to p.1 d.2 in
      let is : s.If test inside (truth x (pos 0)) ≡ s.If a.to (decided x b) (truth x (pos 0)) =
      ap (λ z. s.If z inside (truth x (pos 0))) p.2 ∙ ap (λ z. s.If a.to z (truth x (pos 0))) d.0 in (
        code_behind old mid new vold vmid vnew a.code _ [] [] p.0
            (n ∙ ap (λ z. mid ++ z ∷ []) (is ∙ ap (λ z. s.If a.to (decided z b) (truth z (pos 0))) to)),
        tested_vars p.1 d.1,
        to,
      )

  pub either_puts :
      (inside : Code) → Puts a old mid vold vmid test → Decides b at inside vmid vnew x →
      new ≡ mid ++ s.If test (truth x (pos 1)) inside ∷ [] → Puts (either vold.next at a b) old new vold vnew x
  either_puts inside p d n =
      let to = tested_to p.1 d.2 in
      let is : s.If test (truth x (pos 1)) inside ≡ s.If a.to (truth x (pos 1)) (decided x b) =
      ap (λ z. s.If z (truth x (pos 1)) inside) p.2 ∙ ap (λ z. s.If a.to (truth x (pos 1)) z) d.0 in (
        code_behind old mid new vold vmid vnew a.code _ [] [] p.0
            (n ∙ ap (λ z. mid ++ z ∷ []) (is ∙ ap (λ z. s.If a.to (truth z (pos 1)) (decided z b)) to)),
        tested_vars p.1 d.1,
        to,
      )
