-- What a program is refused for, and which refusal is the first.
use Rattle.std.specs.Prelude.{◌≡◌, Bool, false, not, ◌&&◌, List, [], ◌++◌, map, codes, Option, Result, Ok, Err}
use Rattle.std.specs.List.{list_any, list_all}
use Rattle.ec_base.specs.declared.fail.Fail.{Fail}
use Rattle.ec_base.specs.declared.fail.Fail.TheVariants.{Memory, Refused}
use Rattle.ec_base.specs.declared.text.Text.{Text}
use Rattle.ec_base.specs.declared.token.Span.{Span}
use Rattle.ec_syntax.specs.declared.item.Field.{Field}
use Rattle.ec_syntax.specs.declared.item.Func.{Func}
use Rattle.ec_syntax.specs.declared.item.Program.{Program}
use Rattle.ec_syntax.specs.declared.item.StructDef.{StructDef}
use Rattle.ec_syntax.specs.declared.name.Mode.{Mode}
use Rattle.ec_syntax.specs.Grammar.Words.{same}
use Rattle.ec_base.specs.declared.reason.Reason.TheVariants.{Mismatch, NoMain, StructTooBig}
use Rattle.ec_types.specs.declared.refusal.TypeRefusal.{TypeRefusal}
use Rattle.ec_types.specs.Context.{Context, is_local_mode, is_shared_mode}
use Rattle.ec_types.specs.Declarations.{parameter, is_result, is_field}
use Rattle.ec_calls.specs.Effects.{doing}
use Rattle.ec_types.specs.Judged.{Fine, must, every, ◌also◌}
use Rattle.ec_calls.specs.Items.{functions, structs}
use Rattle.ec_types.specs.Names.{distinct, known}
use Rattle.ec_calls.specs.Prints.{ArePrints}
use Rattle.ec_types.specs.Refusals.{IsLeast}
use Rattle.ec_types.specs.Sizes.{is_small}
use Rattle.ec_types.specs.Statements.{body}
use Rattle.ec_types.specs.Types.{value_type, is_int}

-- what is known at the start of a function: its result, and its parameters
abbrev pub start : (Text → Option Span) → List Func → List StructDef → Func → Context
start prints fs ss f =
    record { structs = ss; functions = fs; prints = prints; result = value_type f.result; inside = false; scope = f.params }

-- ---- structs

abbrev pub field : List StructDef → Field → Fine
field all f = known all f.ty also must (is_field f) Mismatch f.name.at

abbrev pub structure : List StructDef → StructDef → Fine
structure all s =
    distinct [] (map (λ f. f.name) s.fields)
    also must (is_small s) StructTooBig s.name.at
    also every (map (field all) s.fields)

-- ---- functions

abbrev pub function : Context → Func → Fine
function c f =
    known c.structs f.result
    also must (is_result (value_type f.result)) Mismatch f.name.at
    also every (map (parameter c) f.params)
    also distinct [] (map (λ d. d.name) f.params ++ (doing f.body).variables)
    also body f.body c

abbrev pub is_plain : Mode → Bool
is_plain m = not (is_local_mode m) && not (is_shared_mode m)

-- `main` takes and gives ints alone
abbrev pub is_main : Func → Bool
is_main f =
    same f.name.text (codes "main") && is_int (value_type f.result)
    && list_all (λ d. is_plain d.mode && is_int (value_type d.ty)) f.params

-- ---- programs

-- the functions and structs of a program that ends there
abbrev pub judged_items : (Text → Option Span) → List Func → List StructDef → Span → Fine
judged_items prints fs ss end =
    distinct [] (map (λ f. f.name) fs)
    also distinct [] (map (λ s. s.name) ss)
    also every (map (structure ss) ss)
    also every (map (λ f. function (start prints fs ss f) f) fs)
    also must (list_any is_main fs) NoMain end

abbrev pub judged_program : (Text → Option Span) → Program → Fine
judged_program prints p = judged_items prints (functions p) (structs p) p.end

-- a program that is refused for nothing
pub record IsTyped (p : Program) : Type 0 where
  pub prints : Text → Option Span
  pub first : ArePrints (functions p) prints
  pub fine : judged_program prints p ≡ Ok tt

-- this refusal is the first of all that the program is refused for
pub record IsFirst (p : Program) (r : TypeRefusal) : Type 0 where
  pub prints : Text → Option Span
  pub first : ArePrints (functions p) prints
  pub all : List TypeRefusal
  pub refused : judged_program prints p ≡ Err all
  pub least : IsLeast r all

-- a program is refused for nothing, or for this first, or memory was wanted
abbrev pub Decides : Program → Result (Unit {0}) (Fail TypeRefusal) → Type 0
Decides p (Ok fine) = IsTyped p
Decides p (Err (Refused r)) = IsFirst p r
Decides p (Err Memory) = Unit {0}
