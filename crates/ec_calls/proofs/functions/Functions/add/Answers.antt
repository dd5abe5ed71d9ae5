use Rattle.std.proofs.Common.{◌∙◌, ◌++◌, ◌∷◌, [], sym, ap, map, Bor}
use Rattle.std.proofs.lemmas.List.{map-append}
use Rattle.ec_syntax.specs.declared.item.Func.{Func}
use Rattle.ec_calls.specs.Prints.{number}
use Rattle.ec_calls.specs.Seen.{names_of}
use Rattle.ec_calls.proofs.Firsts.{known_added, new_added, new_names}
use Rattle.ec_calls.proofs.functions.Functions.add.Goals as goal

pub returns-in-Some-clause-firsts : goal.returns-in-Some-clause-firsts
returns-in-Some-clause-firsts c =
    sym (known_added (map (λ (f : Bor Func). f.now) c.args.self.now.firsts.items) c.args.f.now c.in-Some.field-0
    (ap (λ v. number v c.args.f.now.name.text) (sym c.requires) ∙ sym c.number.ensures ∙ c.in-Some.is))

pub returns-in-Some-clause-names : goal.returns-in-Some-clause-names
returns-in-Some-clause-names c =
    c.requires ∙ ap names_of (sym (known_added (map (λ (f : Bor Func). f.now) c.args.self.now.firsts.items)
    c.args.f.now c.in-Some.field-0
    (ap (λ v. number v c.args.f.now.name.text) (sym c.requires) ∙ sym c.number.ensures ∙ c.in-Some.is)))

pub returns-in_ok-push-in-None-clause-firsts : goal.returns-in_ok-push-in-None-clause-firsts
returns-in_ok-push-in-None-clause-firsts c =
    ap (map (λ (f : Bor Func). f.now)) c.in_ok-push-in-None.ensures.items
    ∙ map-append (λ (f : Bor Func). f.now) c.args.self.now.firsts.items (_ ∷ [])
    ∙ sym (new_added (map (λ (f : Bor Func). f.now) c.args.self.now.firsts.items) c.args.f.now
    (ap (λ v. number v c.args.f.now.name.text) (sym c.requires) ∙ sym c.number.ensures ∙ c.in-None.is))

pub returns-in_ok-push-in-None-clause-names : goal.returns-in_ok-push-in-None-clause-names
returns-in_ok-push-in-None-clause-names c =
    c.in_ok-add-in-None.ensures ∙ ap (λ v. v ++ c.args.f.now.name.text ∷ []) c.requires
    ∙ new_names (map (λ (f : Bor Func). f.now) c.args.self.now.firsts.items) c.args.f.now
    (ap (λ v. number v c.args.f.now.name.text) (sym c.requires) ∙ sym c.number.ensures ∙ c.in-None.is)
