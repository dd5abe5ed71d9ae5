use Rattle.std.proofs.Common.{◌≡◌, true, filter_map, drop}
use Rattle.std.specs.List.{list_all}
use Rattle.std.specs.Option.{option_or}
use Rattle.ec_base.specs.declared.text.Text.{Text}
use Rattle.ec_calls.specs.Items.{as_struct}
use Rattle.ec_types.specs.Sizes.{is_small, size_of}
use Rattle.ec_types.specs.Tables.{size_in}
use Rattle.ec_types.proofs.typed.sizes_of.Given as goal

abbrev pub invariant-loop-item : goal.invariant-loop-item
invariant-loop-item l = record {
  small : list_all is_small (filter_map as_struct (drop l.item-index l.items)) ≡ true;
  same : (name : Text) → option_or (size_in l.sizes name) (size_of (filter_map as_struct (drop l.item-index l.items)) name)
      ≡ size_of (filter_map as_struct l.items) name;
}
