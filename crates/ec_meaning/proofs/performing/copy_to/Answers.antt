use Rattle.std.proofs.Common.{◌≡◌, refl, sym, ap, subst, ◌∙◌, map, drop, get_or}
use Rattle.ec_meaning.specs.Acts as acts
use Rattle.ec_types.specs.Meaning.Memory as memory
use Rattle.ec_meaning.specs.Reached.{no_access}
use Rattle.ec_meaning.specs.Seen.{Performs, access, core}
use Rattle.ec_meaning.proofs.Handled.{access_is, second_access_is, left_behind, drop_twice}
use Rattle.ec_meaning.proofs.performing.copy_to.Goals as goal

pub returns-clause-does : goal.returns-clause-does
returns-clause-does c = λ u call n r t.
    let source_is : get_or (map (access u) c.args.hand.now.accesses) 0 acts.no_access ≡ access u c.take_access-source.result =
    access_is u c.args.hand.now.accesses ∙ ap (access u) (sym c.take_access-source.ensures.value) in
    let target_is : get_or (map (access u) c.args.hand.now.accesses) 1 acts.no_access ≡ access u c.take_access-target.result =
    second_access_is u c.args.hand.now.accesses
    ∙ ap (λ xs. access u (get_or xs 0 no_access)) (sym c.take_access-source.ensures.left)
    ∙ ap (access u) (sym c.take_access-target.ensures.value) in
    left_behind u 0 2 c.args.hand.now
    (record { values = c.args.hand.now.values; accesses = c.take_access-target.new.accesses; vars = c.args.hand.now.vars })
    c.copy.result
    (memory.copy (get_or (map (access u) c.args.hand.now.accesses) 1 acts.no_access)
    (get_or (map (access u) c.args.hand.now.accesses) 0 acts.no_access) (core u c.args.core.now) r)
    (core u c.copy.new.self) r
    (subst (λ a. Performs (λ done. done) c.copy.result
    (memory.copy a (get_or (map (access u) c.args.hand.now.accesses) 0 acts.no_access) (core u c.args.core.now) r)
    (core u c.copy.new.self) r)
    (sym target_is)
    (subst (λ a. Performs (λ done. done) c.copy.result
    (memory.copy (access u c.take_access-target.result) a (core u c.args.core.now) r) (core u c.copy.new.self) r)
    (sym source_is) (c.copy.ensures.does u r t)))
    refl
    (c.take_access-target.ensures.left ∙ ap (drop 1) c.take_access-source.ensures.left ∙ drop_twice c.args.hand.now.accesses)
    refl
