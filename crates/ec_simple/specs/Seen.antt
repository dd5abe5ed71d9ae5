-- What the code knows where it lowers, as the definitions see it.
use Rattle.std.specs.Prelude.{ℕ, map}
use Rattle.ec_resolve.specs.Erased as erased
use Rattle.ec_simple.specs.declared.scope.Numbering.{Numbering}
use Rattle.ec_simple.specs.declared.scope.Numbering.TheVariants.{Same, Inside}
use Rattle.ec_simple.specs.declared.scope.Scope.{Scope}
use Rattle.ec_simple.specs.Expressions as low
use Rattle.ec_simple.specs.Statements.{index}

abbrev pub place_of : Numbering → ℕ → ℕ
place_of Same x = x
place_of (Inside places) x = index places.now x

abbrev pub scope : Scope → low.Scope
scope s = record {
  functions = map erased.function s.functions.now;
  name = s.name.now;
  params = s.params.now;
  variables = map erased.variable s.variables.now;
  first = s.first;
  place = place_of s.numbering;
}
