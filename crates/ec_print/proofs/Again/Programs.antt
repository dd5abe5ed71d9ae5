-- The sentence of a program is read as the program.
use Rattle.std.proofs.Common.{◌≡◌, refl, sym, ap, subst, inl, inr, true≢false, ℕ, suc, false, List, [], ◌∷◌, ◌++◌, append-nil, Some, is_some}
use Rattle.ec_base.specs.declared.token.Span.{Span}
use Rattle.ec_base.specs.declared.token.Token.{Token}
use Rattle.ec_base.specs.declared.token.TokenKind.{TokenKind}
use Rattle.ec_base.specs.declared.token.TokenKind.TheVariants as t
use Rattle.ec_syntax.specs.Grammar.Items as I
use Rattle.ec_syntax.specs.Grammar.Language as L
use Rattle.ec_syntax.specs.Grammar.Language.{Language}
use Rattle.ec_syntax.specs.Grammar.Reading.{start}
use Rattle.ec_syntax.specs.Grammar.State.{State, limits}
use Rattle.ec_syntax.specs.declared.item.Item.{Item}
use Rattle.ec_syntax.specs.declared.item.Program.{Program}
use Rattle.ec_syntax.proofs.Tokens.Classes.{token_of}
use Rattle.ec_print.specs.Again.{SentenceReadsAgain}
use Rattle.ec_print.specs.Sentence as S
use Rattle.ec_print.specs.Unplaced as U
use Rattle.ec_print.proofs.Again.Readings.{Again, as_language, behind}
use Rattle.ec_print.proofs.Again.Tokens.{retaken}
use Rattle.ec_print.proofs.Again.Marks.{anything}
use Rattle.ec_print.proofs.Again.Rules.{made, item_again}
use Rattle.ec_print.proofs.Again.Lists.{Each, joined_again}
use Rattle.ec_print.proofs.Again.Calls.{Mirrors}
use Rattle.ec_print.proofs.Again.Structs.{structure_again}
use Rattle.ec_print.proofs.Again.Functions.{procedure_again}

-- ---- items

abbrev items : ℕ → Language Item
items nested = L.function (L.◌or◌ I.structure (I.procedure nested))

abbrev either : ℕ → Language Item
either nested = L.◌or◌ I.structure (I.procedure nested)

either_again : (nested : ℕ) → Mirrors false S.item U.item (either nested) (either (suc nested))
either_again nested s a n (inl r) = as_language (λ t b n r. inl r) (structure_again s a n r)
either_again nested s a n (inr r) = as_language (λ t b n r. inr r) (procedure_again nested s a n r)

each_item : (nested : ℕ) → Each S.item U.item false (λ _. items nested) (λ _. items (suc nested))
each_item nested s xs a n r ys h = item_again (either_again nested (record s { variables = 0 }) a n r)

-- ---- the end

pub end_kind : (x : Token) (at : Span) → I.at_end x ≡ Some at → x.kind ≡ t.End
end_kind x at h = by x.kind refl h
  where
    by : (kind : TokenKind) → x.kind ≡ kind → I.at_end (token_of kind x.at) ≡ Some at → x.kind ≡ t.End
    by t.End e g = e
    by _ e g = absurd (true≢false (sym (ap is_some g)))

end_again : (s : State) (at : Span) (n : State) → I.end limits s at n → Again false s n I.end (t.End ∷ []) anything
end_again s at n h =
    retaken h (end_kind h.token at h.picked)
    (λ y e. record { value = y.at; picked = ap (λ k. I.at_end (token_of k y.at)) e; liked = tt; within = λ t a. tt })
    (λ t a. a)

-- ---- programs

program_of : List Item → Program
program_of is = record { items = is; end = U.nowhere }

pub program_again : (nested : ℕ) (s : State) (p : Program) (n : State) → I.program nested limits s p n → Again false s n (I.program (suc nested)) (S.sentence p ++ t.End ∷ []) (λ q. U.unplaced q ≡ U.unplaced p)
unfolding program_of
program_again nested s p n (is, i, r, (at, j, q, (e, f))) =
    subst (λ z. Again false s z (I.program (suc nested)) (S.sentence p ++ t.End ∷ []) (λ q. U.unplaced q ≡ U.unplaced p)) (sym f)
    (subst (λ z. Again false s j (I.program (suc nested)) (S.sentence z ++ t.End ∷ []) (λ q. U.unplaced q ≡ U.unplaced z)) (sym e)
    (behind is refl (joined_again S.item U.item (λ _. items nested) (λ _. items (suc nested)) (each_item nested) s is i r) (λ is' h.
    made (λ at'. let z : Program = record { items = is'; end = at' } in z) (λ _ _. ap program_of h) (end_again i at j q))))

pub sentence_reads_again : SentenceReadsAgain
sentence_reads_again ts p (nested, s, read, left) us kinds =
    let again = program_again nested (start ts) p s read in
    let r = again.reads (start us) us [] kinds (sym (append-nil us)) (record { marks = λ _. refl; variables = refl; functions = refl; structs = refl }) (λ _. refl) in
    (r.value, (suc nested, r.after, r.read, r.left), r.liked)
