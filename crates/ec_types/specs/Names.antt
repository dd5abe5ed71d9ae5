-- Names: what they stand for, and those that are declared again.
use Rattle.std.specs.Prelude.{◌-◌, List, [], ◌∷◌, ◌++◌, length, find, Option, Some, None, option_map}
use Rattle.ec_base.specs.declared.text.Text.{Text}
use Rattle.ec_base.specs.declared.token.Span.{Span}
use Rattle.ec_syntax.specs.declared.item.Field.{Field}
use Rattle.ec_syntax.specs.declared.item.StructDef.{StructDef}
use Rattle.ec_syntax.specs.declared.name.Base.{Base}
use Rattle.ec_syntax.specs.declared.name.Base.TheVariants.{Void, Int, Struct}
use Rattle.ec_syntax.specs.declared.name.Name.{Name}
use Rattle.ec_syntax.specs.declared.name.Ty.{Ty}
use Rattle.ec_syntax.specs.declared.statement.Decl.{Decl}
use Rattle.ec_syntax.specs.Grammar.Words.{same}
use Rattle.ec_calls.specs.Items.{struct_named}
use Rattle.ec_base.specs.declared.reason.Reason.TheVariants.{Unknown, Twice}
use Rattle.ec_types.specs.Judged.{Fine, fine, refused, refused_beside, ◌also◌}

-- ---- what a name stands for: the first of this name

abbrev pub field_named : List Field → Text → Option Field
field_named all name = find (λ f. same f.name.text name) all

abbrev pub variable_named : List Decl → Text → Option Decl
variable_named all name = find (λ d. same d.name.text name) all

-- the struct that a type names is declared
abbrev pub known_struct : Option StructDef → Span → Fine
known_struct None at = refused Unknown at
known_struct (Some s) at = fine

abbrev pub known_base : List StructDef → Base → Fine
known_base all Void = fine
known_base all Int = fine
known_base all (Struct n) = known_struct (struct_named all n.text) n.at

abbrev pub known : List StructDef → Ty → Fine
known all ty = known_base all ty.base

-- the place of a name with which a place ends
abbrev pub ending : Span → Text → Span
ending at name = record { from = at.to - length name; to = at.to }

-- ---- names that are declared again

-- where the name stands first among these
abbrev pub earlier : List Name → Name → Option Span
earlier before n = option_map (λ m. m.at) (find (λ m. same m.text n.text) before)

abbrev pub fresh : Option Span → Name → Fine
fresh None n = fine
fresh (Some first) n = refused_beside Twice n.at first

-- each of these names is declared once, behind those before
abbrev pub distinct : List Name → List Name → Fine
distinct before [] = fine
distinct before (n ∷ ns) = fresh (earlier before n) n also distinct (before ++ n ∷ []) ns
