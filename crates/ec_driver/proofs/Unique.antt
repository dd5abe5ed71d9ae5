-- No source is both accepted and refused.
use Rattle.std.proofs.Common.{◌≡◌, inl, inr, ℕ, List, sym, ap, ◌∙◌, subst, arith, Some, None}
use Rattle.std.proofs.lemmas.Option.{none-some}
use Rattle.ec_base.specs.declared.token.Token.{Token}
use Rattle.ec_lex.specs.Tokens.{TextsHaveOneCut}
use Rattle.ec_reader.specs.Laws.{OneRefusal, RefusedIsNoProgram}
use Rattle.ec_small.specs.declared.tree.Program.{Program}
use Rattle.ec_small.specs.Grammar as small
use Rattle.ec_syntax.specs.declared.item.Program.{Program as Tree}
use Rattle.ec_syntax.specs.Grammar.Reading.{Reads}
use Rattle.ec_syntax.specs.Laws.{OneTree}
use Rattle.ec_types.specs.Once as types
use Rattle.ec_types.specs.Once.{TypedIsNotRefused}
use Rattle.ec_types.specs.Programs.{IsTyped}
use Rattle.ec_driver.specs.declared.status.Refusal.{Refusal}
use Rattle.ec_driver.specs.Built.{first_parallel}
use Rattle.ec_driver.specs.Source.{Accepts, Breaks, IsChecked, IsSource, IsTypedSource, Lexes, Misfits, Rejects, Unchecked, Untyped}

module _ (one : TextsHaveOneCut) (bytes : List ℕ) where
  pub same_tokens : (xs ys : List Token) → Lexes bytes xs → Lexes bytes ys → xs ≡ ys
  same_tokens xs ys a b = (one bytes ys None b.cuts xs None a.cuts).0

  -- tokens are not refused
  pub unbroken : (xs : List Token) (r : Refusal) → Lexes bytes xs → Breaks bytes r → ⊥
  unbroken xs r a b = let clash : None ≡ Some b.first = (one bytes b.before (Some b.first) b.cuts xs None a.cuts).1 in cc

module _ (one : TextsHaveOneCut) (excluded : RefusedIsNoProgram) (bytes : List ℕ) where
  -- no program of the whole language is a misfit
  pub no_misfit : (tokens : List Token) (tree : Tree) (r : Refusal) → IsSource bytes tokens tree → Misfits bytes r → ⊥
  no_misfit tokens tree r s (inl h) = absurd (omega (arith, s.lexes.short, h.0))
  no_misfit tokens tree r s (inr (inl b)) = unbroken one bytes tokens r s.lexes b
  no_misfit tokens tree r s (inr (inr m)) = excluded m.tokens m.first tree m.refuses (subst (λ l. Reads l tree) (same_tokens one bytes tokens m.tokens s.lexes m.lexes) s.reads)

-- the laws of each layer, which a source stands on
pub record Layers : Type 0 where
  pub one : TextsHaveOneCut
  pub tree : OneTree
  pub once : OneRefusal
  pub excluded : RefusedIsNoProgram
  pub typed_once : types.OneRefusal
  pub typed : TypedIsNotRefused

module _ (laws : Layers) (bytes : List ℕ) where
  -- bytes have one tree
  pub same_tree : (ts us : List Token) (p q : Tree) → IsSource bytes ts p → IsSource bytes us q → p ≡ q
  same_tree ts us p q a b =
      let tokens = same_tokens laws.one bytes ts us a.lexes b.lexes in
      laws.tree us p q (subst (λ l. Reads l p) tokens a.reads) b.reads

  -- a typed program is refused neither as a text nor for its types
  pub is_typed : (ts : List Token) (p : Tree) (r : Refusal) → IsTypedSource bytes ts p → Untyped bytes r → ⊥
  is_typed ts p r a (inl m) = no_misfit laws.one laws.excluded bytes ts p r a.source m
  is_typed ts p r a (inr m) =
      laws.typed m.tree m.first (subst IsTyped (same_tree ts m.tokens p m.tree a.source m.source) a.typed) m.refuses

  -- no small program is refused
  pub not_both : (p : Program) (r : Refusal) → Accepts bytes p → Rejects bytes r → ⊥
  not_both p r a (inl m) = is_typed a.tokens a.tree r a.source m
  not_both p r a (inr s) =
      let tokens = same_tokens laws.one bytes a.tokens s.tokens a.source.source.lexes s.source.source.lexes in
      s.stops.refuses.no_program p (subst (λ l. small.Reads l p) tokens a.reads)

  -- no program that is checked is refused
  pub checked_is_right : (r : Refusal) → IsChecked bytes → Unchecked bytes r → ⊥
  checked_is_right r a (inl m) = is_typed a.tokens a.tree r a.source m
  checked_is_right r a (inr u) =
      let tree = same_tree a.tokens u.tokens a.tree u.tree a.source.source u.source.source in
      none-some u.at (sym a.built ∙ ap first_parallel tree ∙ u.there)
