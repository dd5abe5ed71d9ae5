use Rattle.ec_syntax.proofs.Places.Marks.{both_sides_count, marks_rise, marks_differ}
use Rattle.ec_syntax.proofs.Places.Programs.{parts_stand}
use Rattle.ec_syntax.proofs.laws.parts_stand_in_order.Goals as goal

pub returns : goal.returns
returns c = record {
  sides = both_sides_count;
  order = parts_stand;
  marks = marks_rise;
  apart = marks_differ;
}
