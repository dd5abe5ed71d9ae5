use Rattle.std.proofs.Common.{◌≡◌, ◌≤◌, ◌++◌, ◌-◌, length, replicate, take, []}
use Rattle.ec_slots.specs.Slots.{grown}
use Rattle.ec_slots.proofs.slots.Slots.grow.Given as goal

abbrev pub invariant-loop : goal.invariant-loop
invariant-loop l = record {
  before : l.before ≤ length l.self-inside.rows.items;
  first : take l.before l.self-inside.rows.items ≡ l.fn.self;
  value : l.self-inside.rows.items ++ replicate (l.count - l.counter) [] ≡ grown l.count l.fn.self;
}
