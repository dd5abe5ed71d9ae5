use Rattle.std.proofs.Common.{◌∙◌, ap, filter_map}
use Rattle.std.specs.List.{list_all}
use Rattle.ec_calls.specs.Items.{as_struct}
use Rattle.ec_types.specs.Sizes.{is_small}
use Rattle.ec_types.proofs.Verdicts.{all_small}
use Rattle.ec_types.proofs.typed.Typed.new.Goals as goal

pub sizes_of-requires : goal.sizes_of-requires
sizes_of-requires c = ap (λ l. list_all is_small (filter_map as_struct l)) c.as_slice.ensures ∙ all_small c.args.program c.requires
