use Rattle.std.proofs.Common.{◌∙◌, ap}
use Rattle.ec_types.specs.Meaning.Layout.{shape_of}
use Rattle.ec_types.specs.Types.{value_type, pointer_to}
use Rattle.ec_resolve.proofs.Terms.{allocates}
use Rattle.ec_resolve.proofs.scope.Scope.new.Goals as goal

pub returns : goal.returns
returns c =
    let structs = c.args.self.now.structs.now in
    let typed = c.in_ok-written.ensures.typed in
    allocates c.valued.result structs
    (record { at = c.args.at; shape = c.shape_of-shape.result; pointers = c.in_ok-pointers.pointers; count = c.args.count })
    c.pointer_to.result (value_type c.args.element.now) (c.pointer_to.ensures ∙ ap pointer_to typed)
    (c.shape_of-shape.ensures ∙ ap (shape_of structs) typed) c.in_ok-pointers.ensures c.valued.ensures
