use Rattle.std.proofs.Common.{refl, ap, sym, ◌∙◌}
use Rattle.std.proofs.lemmas.Option.{slice_get_read}
use Rattle.ec_base.specs.declared.token.Token.{Token}
use Rattle.ec_driver.specs.Lines.{not_yet}
use Rattle.ec_driver.proofs.Ends.{refuses_a_token}
use Rattle.ec_driver.proofs.source.narrow.Goals as goal

pub bounds-tokens-at : goal.bounds-tokens-at
bounds-tokens-at c = refuses_a_token c.args.tokens.now c.in-Err-Refused.at c.requires (rw c.in-Err-Refused.field-0-is at c.in-Err-Refused.ensures.answer)

pub bounds-tokens-at-in-Err-Refused : goal.bounds-tokens-at-in-Err-Refused
bounds-tokens-at-in-Err-Refused c = refuses_a_token c.args.tokens.now c.in-Err-Refused.at c.requires (rw c.in-Err-Refused.field-0-is at c.in-Err-Refused.ensures.answer)

pub returns-in-Err-Refused : goal.returns-in-Err-Refused
returns-in-Err-Refused c =
    let tokens = c.args.tokens.now in
    let at = c.in-Err-Refused.at in
    let refuses = rw c.in-Err-Refused.field-0-is at c.in-Err-Refused.ensures.answer in
    record {
      at = at;
      refuses = refuses;
      token = c.index-tokens-at.result;
      there = slice_get_read tokens _ at c.index-tokens-at.result refl (refuses_a_token tokens at c.requires refuses) c.index-tokens-at.is;
      is = c.not_yet.ensures ∙ ap (λ (t : Token). not_yet t.at) (sym c.index-tokens-at.is);
    }
