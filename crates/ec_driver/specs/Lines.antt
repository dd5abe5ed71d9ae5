-- What is said of how a command ends.
use Rattle.std.specs.Prelude.{ℕ, ◌+◌, List, [], ◌++◌, codes, None, ℤ}
use Rattle.std.specs.Fmt.{decimal, signed_decimal}
use Rattle.ec_base.specs.declared.limits.TheConstants.{MAX_SOURCE}
use Rattle.ec_base.specs.declared.reason.Reason.{Reason}
use Rattle.ec_base.specs.declared.reason.Reason.TheVariants.{NotYet, TooLong}
use Rattle.ec_base.specs.declared.token.Span.{Span}
use Rattle.ec_base.specs.declared.trap.Trap.{Trap}
use Rattle.ec_base.specs.declared.trap.TrapKind.{TrapKind}
use Rattle.ec_base.specs.declared.trap.TrapKind.TheVariants.{Null, Bounds, DivZero, BadSize}
use Rattle.ec_base.specs.Reason.{name_numbered, number_of}
use Rattle.ec_lex.specs.declared.refusal.LexRefusal.{LexRefusal}
use Rattle.ec_reader.specs.declared.refusal.ReadRefusal.{ReadRefusal}
use Rattle.ec_types.specs.declared.refusal.TypeRefusal.{TypeRefusal}
use Rattle.ec_driver.specs.declared.status.Refusal.{Refusal}
use Rattle.ec_driver.specs.declared.status.Status.{Status}
use Rattle.ec_driver.specs.declared.status.Status.TheVariants.{Done, WordsRefused, SourceRefused, Trapped, StepsSpent, ReadFault, WriteFault, NoMemory, TooDeep}

-- a place: two offsets
abbrev pub place : Span → List ℕ
place at = decimal at.from ++ codes ".." ++ decimal at.to

-- the refusals that there are: a fault at which there is no token, a token at which there is no program, a part of a
-- program that is not typed, a text that is too long, and a form that isn't built yet
abbrev pub not_token : LexRefusal → Refusal
not_token r = record { what = r.what; at = r.at; other = None }

abbrev pub not_program : ReadRefusal → Refusal
not_program r = record { what = r.what; at = r.at; other = None }

abbrev pub not_typed : TypeRefusal → Refusal
not_typed r = record { what = r.what; at = r.at; other = r.other }

abbrev pub refusal : Reason → Span → Refusal
refusal reason at = record { what = number_of reason; at = at; other = None }

abbrev pub too_long : Refusal
too_long = refusal TooLong (record { from = MAX_SOURCE; to = MAX_SOURCE + 1 })

abbrev pub not_yet : Span → Refusal
not_yet at = refusal NotYet at

abbrev pub result_line : ℤ → List ℕ
result_line n = codes "result " ++ signed_decimal n ++ codes "\n"

abbrev pub refusal_line : Refusal → List ℕ
refusal_line r =
    codes "refused " ++ decimal r.what ++ codes " at " ++ place r.at ++ codes " " ++ name_numbered r.what ++ codes "\n"

abbrev pub trap_name : TrapKind → List ℕ
trap_name Null = codes "Null"
trap_name Bounds = codes "Bounds"
trap_name DivZero = codes "DivZero"
trap_name BadSize = codes "BadSize"

abbrev pub trap_line : Trap → List ℕ
trap_line t = codes "trap " ++ trap_name t.kind ++ codes " at " ++ place t.at ++ codes "\n"

-- the line for the error stream, where a run that has ended has this result
abbrev pub line_of : Status → ℤ → List ℕ
line_of Done n = result_line n
line_of WordsRefused n = codes "words refused\n"
line_of (SourceRefused r) n = refusal_line r
line_of (Trapped t) n = trap_line t
line_of StepsSpent n = codes "steps spent\n"
line_of ReadFault n = codes "read fault\n"
line_of WriteFault n = []
line_of NoMemory n = codes "no memory\n"
line_of TooDeep n = codes "too deep\n"
