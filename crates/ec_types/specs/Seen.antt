-- What a judge knows.
use Rattle.std.specs.Prelude.{map}
use Rattle.ec_base.specs.declared.token.Span.{Span}
use Rattle.ec_syntax.specs.declared.item.Func.{Func}
use Rattle.ec_types.specs.declared.function.Tables.{Tables}
use Rattle.ec_types.specs.declared.judge.Judge.{Judge}
use Rattle.ec_types.specs.Context.{Context}
use Rattle.ec_types.specs.Judged.{Fine}
use Rattle.ec_calls.specs.Prints.{printed}
use Rattle.ec_types.specs.Programs.{start, function, judged_items}

abbrev pub context : Judge → Context
context j = record {
  structs = j.structs.now;
  functions = j.functions.now;
  prints = printed j.prints.now;
  result = j.result.now;
  inside = j.inside;
  scope = map (λ d. d.now) j.scope.items;
}

-- ---- by the tables of a program

abbrev pub start_by : Tables → Func → Context
start_by t f = start (printed t.prints) t.functions t.structs f

abbrev pub function_by : Tables → Func → Fine
function_by t f = function (start_by t f) f

abbrev pub judged_by : Tables → Span → Fine
judged_by t end = judged_items (printed t.prints) t.functions t.structs end
