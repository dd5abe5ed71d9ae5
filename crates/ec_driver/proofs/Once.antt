-- A source is refused once: it has one cut, of its tokens one is the first that fits no program of the whole language, and
-- one the first that fits no small program.
use Rattle.std.proofs.Common.{◌≡◌, ◌≤◌, ◌<◌, ◌+◌, ◌⊎◌, inl, inr, ℕ, List, ◌++◌, take, drop, ap, sym, ◌∙◌, subst, append_assoc, arith, Some, slice_get}
use Rattle.std.proofs.lemmas.Option.{same_Some}
use Rattle.std.proofs.lemmas.List.{take-append-drop, take-take}
use Rattle.std.proofs.lemmas.Bool.{cases_order}
use Rattle.ec_base.specs.declared.token.Token.{Token}
use Rattle.ec_reader.specs.Refusals.{Refuses}
use Rattle.ec_small.specs.Grammar as small
use Rattle.ec_driver.specs.declared.status.Refusal.{Refusal}
use Rattle.ec_types.specs.Programs.{IsFirst}
use Rattle.ec_driver.specs.Built.{first_parallel}
use Rattle.ec_driver.specs.Lines.{not_program, not_token, not_typed, not_yet}
use Rattle.ec_driver.specs.Once.{AreRefusedOnce}
use Rattle.ec_driver.specs.Source.{Breaks, Misfits, Mistypes, Rejects, StopsAt, Unbuilt, Unchecked, Untyped}
use Rattle.ec_driver.proofs.Unique.{Layers, checked_is_right, is_typed, no_misfit, not_both, same_tokens, same_tree, unbroken}

-- ---- of the tokens of a program that isn't small

joined : (ts : small.Kinds) (i j : ℕ) (others : small.Kinds) → i ≤ j → take j ts ++ others ≡ take i ts ++ (drop i (take j ts) ++ others)
joined ts i j others h =
    ap (λ l. l ++ others) (sym (take-append-drop i (take j ts)) ∙ ap (λ l. l ++ drop i (take j ts)) (take-take i j ts h))
    ∙ append_assoc (take i ts) (drop i (take j ts)) others

-- what stands before the beginning of a program begins one
shorter : (ts : small.Kinds) (i j : ℕ) → i ≤ j → small.Begins (take j ts) → small.Begins (take i ts)
shorter ts i j h b = (drop i (take j ts) ++ b.0, b.1, subst (λ l. small.IsProgram l b.1) (joined ts i j b.0 h) b.2)

any_kinds : (ts : small.Kinds) → small.BeginsLexically ts → small.Begins ts
any_kinds ts b = (b.0, b.1, b.2)

not_before : (tokens : List Token) (i j : ℕ) → small.Refuses tokens i → small.Refuses tokens j → i < j → ⊥
not_before tokens i j a b h = a.here (omega (arith, b.within)) (shorter (small.kinds tokens) (i + 1) j (omega arith) (any_kinds (take j (small.kinds tokens)) b.before))

by_order : (tokens : List Token) (i j : ℕ) → small.Refuses tokens i → small.Refuses tokens j → ((i ≡ j) ⊎ ((i < j) ⊎ (j < i))) → i ≡ j
by_order tokens i j a b (inl h) = h
by_order tokens i j a b (inr (inl h)) = absurd (not_before tokens i j a b h)
by_order tokens i j a b (inr (inr h)) = absurd (not_before tokens j i b a h)

same_stop : (tokens : List Token) (r s : Refusal) → StopsAt tokens r → StopsAt tokens s → r ≡ s
same_stop tokens r s a b =
    let same : a.at ≡ b.at = by_order tokens a.at b.at a.refuses b.refuses (cases_order a.at b.at) in
    let there : Some a.token ≡ Some b.token = sym a.there ∙ ap (slice_get tokens) same ∙ b.there in
    a.is ∙ ap (λ t. not_yet t.at) (same_Some a.token b.token there) ∙ sym b.is

-- ---- of a text

module _ (laws : Layers) (bytes : List ℕ) where
  same_break : (r s : Refusal) → Breaks bytes r → Breaks bytes s → r ≡ s
  same_break r s a b =
      let same : Some a.first ≡ Some b.first = (laws.one bytes b.before (Some b.first) b.cuts a.before (Some a.first) a.cuts).1 in
      a.is ∙ ap not_token (same_Some a.first b.first same) ∙ sym b.is

  pub same_misfit : (r s : Refusal) → Misfits bytes r → Misfits bytes s → r ≡ s
  same_misfit r s (inl a) (inl b) = a.1 ∙ sym b.1
  same_misfit r s (inl a) (inr (inl b)) = absurd (omega (arith, a.0, b.short))
  same_misfit r s (inl a) (inr (inr b)) = absurd (omega (arith, a.0, b.lexes.short))
  same_misfit r s (inr (inl a)) (inl b) = absurd (omega (arith, a.short, b.0))
  same_misfit r s (inr (inl a)) (inr (inl b)) = same_break r s a b
  same_misfit r s (inr (inl a)) (inr (inr b)) = absurd (unbroken laws.one bytes b.tokens r b.lexes a)
  same_misfit r s (inr (inr a)) (inl b) = absurd (omega (arith, a.lexes.short, b.0))
  same_misfit r s (inr (inr a)) (inr (inl b)) = absurd (unbroken laws.one bytes a.tokens s a.lexes b)
  same_misfit r s (inr (inr a)) (inr (inr b)) =
      let refuses = subst (λ l. Refuses l a.first) (same_tokens laws.one bytes a.tokens b.tokens a.lexes b.lexes) a.refuses in
      a.is ∙ ap not_program (laws.once b.tokens a.first b.first refuses b.refuses) ∙ sym b.is

  same_mistype : (r s : Refusal) → Mistypes bytes r → Mistypes bytes s → r ≡ s
  same_mistype r s a b =
      let tree = same_tree laws bytes a.tokens b.tokens a.tree b.tree a.source b.source in
      let first = laws.typed_once b.tree a.first b.first (subst (λ p. IsFirst p a.first) tree a.refuses) b.refuses in
      a.is ∙ ap not_typed first ∙ sym b.is

  same_untyped : (r s : Refusal) → Untyped bytes r → Untyped bytes s → r ≡ s
  same_untyped r s (inl a) (inl b) = same_misfit r s a b
  same_untyped r s (inl a) (inr b) = absurd (no_misfit laws.one laws.excluded bytes b.tokens b.tree r b.source a)
  same_untyped r s (inr a) (inl b) = absurd (no_misfit laws.one laws.excluded bytes a.tokens a.tree s a.source b)
  same_untyped r s (inr a) (inr b) = same_mistype r s a b

  pub same_refusal : (r s : Refusal) → Rejects bytes r → Rejects bytes s → r ≡ s
  same_refusal r s (inl a) (inl b) = same_untyped r s a b
  same_refusal r s (inl a) (inr b) = absurd (is_typed laws bytes b.tokens b.tree r b.source a)
  same_refusal r s (inr a) (inl b) = absurd (is_typed laws bytes a.tokens a.tree s a.source b)
  same_refusal r s (inr a) (inr b) =
      let tokens = same_tokens laws.one bytes a.tokens b.tokens a.source.source.lexes b.source.source.lexes in
      same_stop b.tokens r s (subst (λ l. StopsAt l r) tokens a.stops) b.stops

  same_unbuilt : (r s : Refusal) → Unbuilt bytes r → Unbuilt bytes s → r ≡ s
  same_unbuilt r s a b =
      let tree = same_tree laws bytes a.tokens b.tokens a.tree b.tree a.source.source b.source.source in
      a.is ∙ ap not_yet (same_Some a.at b.at (sym a.there ∙ ap first_parallel tree ∙ b.there)) ∙ sym b.is

  pub checks_refuse_once : (r s : Refusal) → Unchecked bytes r → Unchecked bytes s → r ≡ s
  checks_refuse_once r s (inl a) (inl b) = same_untyped r s a b
  checks_refuse_once r s (inl a) (inr b) = absurd (is_typed laws bytes b.tokens b.tree r b.source a)
  checks_refuse_once r s (inr a) (inl b) = absurd (is_typed laws bytes a.tokens a.tree s a.source b)
  checks_refuse_once r s (inr a) (inr b) = same_unbuilt r s a b

pub refused_once : Layers → AreRefusedOnce
refused_once laws = record {
  runs = same_refusal laws;
  accepted = not_both laws;
  checks = checks_refuse_once laws;
  checked = checked_is_right laws;
  program = no_misfit laws.one laws.excluded;
  typed = is_typed laws;
}
