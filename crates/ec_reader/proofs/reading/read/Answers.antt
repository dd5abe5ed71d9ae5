use Rattle.std.proofs.Common.{sym, ◌∙◌, ap, subst, ◌-◌, length, Err}
use Rattle.ec_syntax.specs.Descent.Items.{read}
use Rattle.ec_syntax.specs.Grammar.Reading.{Reads}
use Rattle.ec_reader.specs.Answers.{Told}
use Rattle.ec_reader.specs.Refusals.{Refuses, refusal_at}
use Rattle.ec_reader.proofs.Refusals.Whole.{whole, refused}
use Rattle.ec_reader.proofs.reading.read.Goals as goal

pub returns-in-Ok : goal.returns-in-Ok
returns-in-Ok c =
    let tokens = c.as_slice-tokens.result.now in
    let told = ap read (sym c.new-cursor.ensures) ∙ c.in-Ok.ensures.answer in
    subst (λ ts. Reads ts c.in-Ok.program) c.as_slice-tokens.ensures.is
    (whole c.reading_decides.ensures.text tokens c.as_slice-tokens.ensures.tokens c.reading_decides.ensures.sound c.in-Ok.program c.program.new.self told)

pub returns-in-Err-Refused : goal.returns-in-Err-Refused
returns-in-Err-Refused c =
    let tokens = c.as_slice-tokens.result.now in
    let told = ap read (sym c.new-cursor.ensures) ∙ subst (λ e. Told (read c.new-cursor.result) (Err e) c.program.new.self) c.in-Err-Refused.field-0-is c.in-Err-Refused.ensures.answer in
    let r = refused c.reading_decides.ensures.text tokens c.as_slice-tokens.ensures.tokens c.reading_decides.ensures.refused c.in-Err-Refused.fault c.program.new.self.left told in
    let number = ap (λ k. refusal_at c.in-Err-Refused.fault tokens (length tokens - k)) c.left.ensures.is in
    subst (λ ts. Refuses ts c.refusal_at.result) c.as_slice-tokens.ensures.is (subst (Refuses tokens) (sym (c.refusal_at.ensures ∙ number)) r)
