-- How calls open: the arguments are the last values at hand, and behind them stands the operand.
use Rattle.std.proofs.Common.{◌≡◌, refl, sym, ap, ◌∙◌, ℕ, suc, true, false, List, [], ◌∷◌, ◌++◌, length, reverse, take, drop}
use Rattle.std.proofs.Math.Seq.{take-append_seam, drop-append_seam}
use Rattle.std.proofs.lemmas.List.{reverse-reverse, length-reverse}
use Rattle.ec_types.specs.Meaning.Values.{Val}
use Rattle.ec_types.specs.Meaning.State as state
use Rattle.ec_types.specs.Meaning.State.{Site, Does, ◌>>=◌, pure, Vars}
use Rattle.ec_types.specs.Meaning.Evaluation.{Caller, value, values}
use Rattle.ec_types.specs.Meaning.Tree as t
use Rattle.ec_meaning.specs.Works.{Hand, Call}
use Rattle.ec_meaning.specs.Acts.{push, without, last_values, push_all, giving}
use Rattle.ec_meaning.specs.Opened.{of_call, count}
use Rattle.ec_meaning.proofs.Binds.{then_then, then_same, then_pure}
use Rattle.ec_meaning.proofs.Expressions.{Opens}

-- ---- as many values as arguments

last-append : (us vs : List Val) → take (length us) (reverse us ++ vs) ≡ reverse us
last-append us vs =
    ap (λ m. take m (reverse us ++ vs)) (sym (length-reverse us)) ∙ take-append_seam (reverse us) vs

pub last_values-push_all : (m : ℕ) (us : List Val) (h : Hand) → length us ≡ m → last_values m (push_all us h) ≡ us
last_values-push_all m us h e =
    ap (λ k. reverse (take k (reverse us ++ h.values))) (sym e) ∙ ap reverse (last-append us h.values)
    ∙ reverse-reverse us

pub without-push_all : (m : ℕ) (us : List Val) (h : Hand) → length us ≡ m → without m (push_all us h) ≡ h
without-push_all m us h e =
    ap (λ vs. record h { values = vs })
    (ap (λ k. drop k (reverse us ++ h.values)) (sym e ∙ sym (length-reverse us))
    ∙ drop-append_seam (reverse us) h.values)

module _ (call : Caller) (n : ℕ) where
  pub counted :
      {B : Type 0} (es : t.Exprs) (vs : Vars) (f g : List Val → Does B) →
      ((us : List Val) → length us ≡ count es → f us ≡ g us) →
      values true call es vs >>= f ≡ values true call es vs >>= g
  counted t.Last vs f g k = k [] refl
  counted (t.Arg e es) vs f g k =
      let d = values true call es vs in
      then_then (value true call e vs) (λ v. d >>= (λ us. pure (v ∷ us))) f
      ∙ then_same (value true call e vs) _ _ (λ v.
      then_then d (λ us. pure (v ∷ us)) f
      ∙ counted es vs (λ us. f (v ∷ us)) (λ us. g (v ∷ us)) (λ us h. k (v ∷ us) (ap suc h))
      ∙ sym (then_then d (λ us. pure (v ∷ us)) g))
      ∙ sym (then_then (value true call e vs) (λ v. d >>= (λ us. pure (v ∷ us))) g)

  -- ---- calls

  -- with m arguments at hand
  abbrev pub called_from : ℕ → ℕ → Site → Hand → Does Hand
  called_from f m s h = giving call n m h (call f (last_values m h) s)

  called :
      (f m : ℕ) (us : List Val) (s : Site) (h : Hand) → length us ≡ m →
      call f us s >>= (λ v. pure (push v h)) ≡ called_from f m s (push_all us h)
  called f m us s h e =
      ap (λ k. call f us s >>= (λ v. pure (push v k))) (sym (without-push_all m us h e))
      ∙ ap (λ vs. call f vs s >>= (λ v. pure (push v (without m (push_all us h)))))
      (sym (last_values-push_all m us h e))

  -- without an operand
  call_at :
      (f : ℕ) (es : t.Exprs) (s : Site) (h : Hand) →
      giving call n 0 h (values true call es h.vars >>= (λ us. call f us s))
      ≡ values true call es h.vars >>= (λ us. called_from f (count es) s (push_all us h))
  call_at f es s h =
      then_then (values true call es h.vars) (λ us. call f us s) (λ v. pure (push v h))
      ∙ counted es h.vars _ _ (λ us e. called f (count es) us s h e)

  -- with one
  call_behind :
      (f : ℕ) (es : t.Exprs) (e : t.Expr) (at : Val → Site) (h : Hand) →
      let placed = value true call e h.vars >>= (λ v. pure (at v)) in
      giving call n 0 h (values true call es h.vars >>= (λ us. placed >>= (λ s. call f us s)))
      ≡ values true call es h.vars >>= (λ us. value true call e h.vars >>= (λ v.
      called_from f (count es) (at v) (push_all us h)))
  call_behind f es e at h =
      then_then (values true call es h.vars) _ (λ v. pure (push v h))
      ∙ counted es h.vars _ _ (λ us k.
      simp then_then (then_same (value true call e h.vars) _ _ (λ v. called f (count es) us (at v) h k)))

  pub call_opens : (i : t.Invocation) (h : Hand) → Opens call n false (Call i) h (of_call i) h
  call_opens (t.Invoke at f es t.OnThis) h = call_at f es state.Here h ∙ simp (then_then, then_pure)
  call_opens (t.Invoke at f es (t.OnOwner e)) h = call_behind f es e state.OwnerOf h ∙ simp (then_then, then_pure)
  call_opens (t.Invoke at f es t.OnHome) h = call_at f es state.Home h ∙ simp (then_then, then_pure)
  call_opens (t.Invoke at f es (t.OnNode e)) h = call_behind f es e state.Node h ∙ simp (then_then, then_pure)
  call_opens (t.Invoke at f es t.OnAny) h = call_at f es state.Anywhere h ∙ simp (then_then, then_pure)
