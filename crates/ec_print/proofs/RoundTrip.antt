-- The text of a program that was read is cut into tokens that are read as that program.
use Rattle.std.proofs.Common.{◌≡◌, ◌≤◌, true, List, [], ◌∷◌, ◌++◌, length, None, refl, sym, ◌∙◌, ap, subst, arith}
use Rattle.std.specs.List.{list_all}
use Rattle.std.proofs.lemmas.Bool.{and_from}
use Rattle.std.proofs.lemmas.List.Folds.{list_all-append}
use Rattle.ec_base.specs.Lexical.{AllLexical, AreTokens, is_lexical}
use Rattle.ec_base.specs.declared.limits.TheConstants.{MAX_SOURCE}
use Rattle.ec_base.specs.declared.token.TokenKind.{TokenKind}
use Rattle.ec_base.specs.declared.token.TokenKind.TheVariants as t
use Rattle.ec_print.specs.Layout.{laid}
use Rattle.ec_lex.specs.Tokens.{TextsHaveOneCut}
use Rattle.ec_syntax.specs.Laws.{OneTree}
use Rattle.ec_syntax.specs.Grammar.Reading.{Reads}
use Rattle.ec_print.specs.Canonical.{canonical}
use Rattle.ec_print.specs.RoundTrip.{PrintedIsReadAgain, PrintedIsPrintedAgain}
use Rattle.ec_print.specs.Sentence.{sentence}
use Rattle.ec_print.proofs.Again.Programs.{sentence_reads_again}
use Rattle.ec_print.proofs.Relexed.Texts.{CutAgain, laid_is_cut}
use Rattle.ec_print.proofs.Unplaced.Programs.{program_same}
use Rattle.ec_print.proofs.Spellable.Programs.{sentence_lexical, sentence_no_end}

with_end : (ks : List TokenKind) → AllLexical ks → AllLexical (ks ++ t.End ∷ [])
with_end ks lexical = rw (list_all-append is_lexical ks (t.End ∷ [])) (and_from (list_all is_lexical ks) true lexical refl)

are_tokens : (ks : List TokenKind) → AllLexical ks → (c : CutAgain 0 true (laid ks) ks) → length (laid ks) ≤ MAX_SOURCE → AreTokens c.tokens
are_tokens ks lexical c short = record { few = omega (arith, c.few, short); rising = c.rising; lexical = subst AllLexical (sym c.kinds) (with_end ks lexical) }

pub printed_is_read_again : PrintedIsReadAgain
printed_is_read_again tokens p are reads =
    let lexical = sentence_lexical tokens p are.lexical reads in
    let c = laid_is_cut (sentence p) 0 true 0 lexical (sentence_no_end tokens p are.lexical reads) in
    let (q, second, same) = sentence_reads_again tokens p reads c.tokens c.kinds in
    (c.tokens, q, c.cut, are_tokens (sentence p) lexical c, second, same)

-- as long as a text has one cut, and tokens have one tree
pub printed_is_printed_again : TextsHaveOneCut → OneTree → PrintedIsPrintedAgain
printed_is_printed_again one_cut one_tree tokens again p q are reads cut second =
    let (others, twin, other_cut, _, other_reads, same) = printed_is_read_again tokens p are reads in
    let these : again ≡ others = (one_cut (canonical p) others None other_cut again None cut).0 in
    let those : q ≡ twin = one_tree others q twin (subst (λ z. Reads z q) these second) other_reads in
    ap canonical those ∙ ap laid (sym (program_same twin) ∙ ap sentence same ∙ program_same p)
