-- The rules of the grammar are steady, all but those of structs.
use Rattle.std.proofs.Common.{refl, ℕ, zero, suc, List, Option, codes}
use Rattle.ec_base.specs.declared.token.Mark.{Mark}
use Rattle.ec_base.specs.declared.token.Mark.TheVariants as m
use Rattle.ec_syntax.specs.declared.name.Mode.{Mode}
use Rattle.ec_syntax.specs.declared.name.Base.{Base}
use Rattle.ec_syntax.specs.declared.expression.Expr.{Expr}
use Rattle.ec_syntax.specs.declared.item.Field.{Field}
use Rattle.ec_syntax.specs.declared.statement.Assign.{Assign}
use Rattle.ec_syntax.specs.declared.statement.Decl.{Decl}
use Rattle.ec_syntax.specs.declared.statement.Stmt.{Stmt}
use Rattle.ec_syntax.specs.declared.statement.StmtKind.{StmtKind}
use Rattle.ec_syntax.specs.declared.expression.ExprKind.TheVariants.{Address}
use Rattle.ec_syntax.specs.Grammar.Language.{Language, give, placed, ◌or◌, ◌>>=◌, ◌>>◌}
use Rattle.ec_syntax.specs.Grammar.Tokens as T
use Rattle.ec_syntax.specs.Grammar.Types as Y
use Rattle.ec_syntax.specs.Grammar.Expressions as E
use Rattle.ec_syntax.specs.Grammar.Expressions.{of_mark}
use Rattle.ec_syntax.specs.Grammar.Statements as S
use Rattle.ec_syntax.specs.Grammar.Items as I
use Rattle.ec_simple.proofs.counts.Steady.{Steady, steady_look, steady_bind, steady_or, steady_never, steady_turns, steady_maybe, steady_part, steady_kth, steady_lacks, steady_one, steady_placed}

-- ---- tokens

pub word_steady : (d : ℕ) (w : List ℕ) → Steady (T.word d w)
word_steady d w = steady_one (λ s. refl)

pub mark_steady : (d : ℕ) (k : Mark) → Steady (T.mark d k)
mark_steady d k = steady_one (λ s. refl)

pub sign_steady : (d : ℕ) (k : Mark) → Steady (T.sign d k)
sign_steady d k = steady_one (λ s. refl)

operator_steady : {A : Type 0} (d : ℕ) (pick : Mark → Option A) → Steady (T.operator d (of_mark pick))
operator_steady d pick = steady_one (λ s. refl)

number_steady : (d : ℕ) → Steady (T.number d)
number_steady d = steady_one (λ s. refl)

pub name_steady : (d : ℕ) → Steady (T.name d)
name_steady d = steady_one (λ s. refl)

string_steady : (d : ℕ) → Steady (T.string d)
string_steady d = steady_one (λ s. refl)

variable_name_steady : (d : ℕ) → Steady (T.variable_name d)
variable_name_steady d = steady_one (λ s. refl)

parameter_name_steady : (d before : ℕ) → Steady (T.parameter_name d before)
parameter_name_steady d before = steady_one (λ s. refl)

pub function_name_steady : (d : ℕ) → Steady (T.function_name d)
function_name_steady d = steady_one (λ s. refl)

ruleset steps = (
  steady_look,
  steady_bind,
  steady_or,
  steady_never,
  steady_turns,
  steady_maybe,
  steady_part,
  steady_kth,
  steady_lacks,
  word_steady,
  mark_steady,
  sign_steady,
  operator_steady,
  number_steady,
  name_steady,
  string_steady,
)

-- ---- types

struct_base_steady : (d : ℕ) → Steady (Y.struct_base d)
struct_base_steady d =
    steady_bind (word_steady d (codes "struct")) (λ _. steady_bind (name_steady d) (λ n. steady_look))

int_base_steady : (d : ℕ) → Steady (Y.int_base d)
int_base_steady d = search steps depth 20

base_steady : (d : ℕ) → Steady (Y.base d)
base_steady d = search steps depth 20

stars_steady : (star : Language (Unit {0})) (from : ℕ) → Steady star → Steady (Y.stars star from)
stars_steady star from h = search steps depth 20

pub type_with_steady : (d : ℕ) (star : Language (Unit {0})) → Steady star → Steady (Y.type_with d star)
type_with_steady d star h = search (steps, base_steady, stars_steady) depth 20

pointer_with_steady : (d : ℕ) (star : Language (Unit {0})) → Steady star → Steady (Y.pointer_with d star)
pointer_with_steady d star h = search (steps, base_steady, stars_steady) depth 20

mode_steady : (d : ℕ) → Steady (Y.mode d)
mode_steady d = search steps depth 20

-- ---- expressions

levels_steady : (d level : ℕ) (operand : Language Expr) → Steady operand → Steady (E.levels d level operand)
levels_steady d zero operand h = h
levels_steady d (suc level) operand h =
    let below = levels_steady d level operand h in
    steady_bind below (λ first. steady_turns (λ a.
    steady_bind (operator_steady d (E.at_level level)) (λ make. steady_bind below (λ b. steady_look))))

pub bracketed_steady : {A : Type 0} (d : ℕ) (inside : Language A) → Steady inside → Steady (E.bracketed d inside)
bracketed_steady d inside h = search steps depth 20

arguments_steady : (d : ℕ) (expr : Language Expr) → Steady expr → Steady (E.arguments d expr)
arguments_steady d expr h = search steps depth 20

place_steady : (d : ℕ) (expr : Language Expr) → Steady expr → Steady (E.place d expr)
place_steady d expr h = search (steps, bracketed_steady) depth 20

called_steady : (d : ℕ) (expr : Language Expr) → Steady expr → Steady (E.called d expr)
called_steady d expr h = search (steps, bracketed_steady, arguments_steady, place_steady) depth 20

pub call_steady : (d : ℕ) (expr : Language Expr) → Steady expr → Steady (E.call d expr)
call_steady d expr h = steady_placed (λ make at. make at) (called_steady d expr h)

cast_steady : (d : ℕ) → Steady (E.cast d)
cast_steady d = bracketed_steady d _ (pointer_with_steady (suc d) _ (sign_steady (suc d) m.Star))

malloc_steady : (d : ℕ) (operand : Language Expr) → Steady operand → Steady (E.malloc d operand)
malloc_steady d operand h = search (steps, cast_steady, bracketed_steady, levels_steady, type_with_steady) depth 20

primary_steady : (d : ℕ) (operand : Language Expr) → Steady operand → Steady (E.primary d operand)
primary_steady d operand h =
    search (steps, steady_placed, called_steady, levels_steady, bracketed_steady, malloc_steady) depth 20

selected_steady : (d : ℕ) (operand : Language Expr) (e : Expr) → Steady operand → Steady (E.selected d operand e)
selected_steady d operand e h = search (steps, levels_steady) depth 20

postfix_steady : (d : ℕ) (operand : Language Expr) → Steady operand → Steady (E.postfix d operand)
postfix_steady d operand h = search (steps, primary_steady, selected_steady) depth 20

-- an operand whose own operands are these
abbrev unary : ℕ → Language Expr → Language Expr
unary d below =
    placed E.expression (T.operator d (of_mark E.prefix_of) >>= (λ make. below >>= (λ e. give (make e))))
    or placed E.expression (T.sign d m.And >> (T.name (suc d) >>= (λ n. give (Address n.text))))
    or E.postfix d below

prefixed_steady : (d : ℕ) (below : Language Expr) → Steady below → Steady (unary d below)
prefixed_steady d below h = search (steps, steady_placed, postfix_steady) depth 20

unary_steady : (nested d : ℕ) → Steady (E.unary nested d)
unary_steady zero d = steady_never
unary_steady (suc nested) d = prefixed_steady d (E.unary nested (suc d)) (unary_steady nested (suc d))

pub expr_steady : (nested d : ℕ) → Steady (E.expr nested d)
expr_steady nested d = levels_steady d 10 (E.unary nested d) (unary_steady nested d)

-- ---- statements

declarator_steady : (d : ℕ) (value : Language Expr) (how : Mode) (b : Base) → Steady value →
    Steady (S.declarator d value how b)
declarator_steady d value how b h = search (steps, stars_steady, variable_name_steady) depth 20

pub declaration_steady : (d : ℕ) (value : Language Expr) (before : List Decl) → Steady value →
    Steady (S.declaration d value before)
declaration_steady d value before h =
    search (steps, mode_steady, int_base_steady, struct_base_steady, declarator_steady) depth 20

pub assignment_steady : (nested d : ℕ) → Steady (S.assignment nested d)
assignment_steady nested d = search (steps, unary_steady, expr_steady) depth 20

ended_steady : (d : ℕ) (p : Language StmtKind) → Steady p → Steady (S.ended d p)
ended_steady d p h = search (steps, steady_placed) depth 20

closed_steady : (d : ℕ) (p : Language StmtKind) → Steady p → Steady (S.closed d p)
closed_steady d p h = search (steps, steady_placed) depth 20

pub pair_steady : (d : ℕ) (value : Language Expr) → Steady value → Steady (S.pair d value)
pair_steady d value h = search steps depth 20

printed_steady : (d : ℕ) (value : Language Expr) → Steady value → Steady (S.printed d value)
printed_steady d value h = search steps depth 20

simple_steady : (nested d : ℕ) (inner : Language Expr) → Steady inner → Steady (S.simple nested d inner)
simple_steady nested d inner h =
    search (
      steps,
      ended_steady,
      closed_steady,
      assignment_steady,
      call_steady,
      bracketed_steady,
      pair_steady,
      printed_steady,
      expr_steady,
    ) depth 20

pub header_steady : {A : Type 0} (d : ℕ) (inside : Language A) → Steady inside → Steady (S.header d inside)
header_steady d inside h = search steps depth 20

sequence_steady : (stmt : Language Stmt) → Steady stmt → Steady (S.sequence stmt)
sequence_steady stmt h = search steps depth 20

contents_steady : (d : ℕ) (value : Language Expr) (stmt : Language Stmt) → Steady value → Steady stmt →
    Steady (S.contents d value stmt)
contents_steady d value stmt h k = search (steps, declaration_steady, sequence_steady) depth 20

braces_steady : (d : ℕ) (value : Language Expr) (stmt : Language Stmt) → Steady value → Steady stmt →
    Steady (S.braces d value stmt)
braces_steady d value stmt h k = search (steps, contents_steady) depth 20

parallel_steady : (d : ℕ) (stmt : Language Stmt) → Steady stmt → Steady (S.parallel d stmt)
parallel_steady d stmt h = search steps depth 20

choice_steady : (d : ℕ) (test : Language Expr) (body : Language Stmt) → Steady test → Steady body →
    Steady (S.choice d test body)
choice_steady d test body h k = search (steps, header_steady) depth 20

loop_steady : (d : ℕ) (test : Language Expr) (body : Language Stmt) → Steady test → Steady body →
    Steady (S.loop d test body)
loop_steady d test body h k = search (steps, header_steady) depth 20

for_steady : (d : ℕ) (set : Language Assign) (test : Language Expr) (body : Language Stmt) → Steady set → Steady test →
    Steady body → Steady (S.for_loop d set test body)
for_steady d set test body g h k = search (steps, header_steady) depth 20

forall_steady : (d : ℕ) (set : Language Assign) (test : Language Expr) (body : Language Stmt) → Steady set → Steady test →
    Steady body → Steady (S.forall_loop d set test body)
forall_steady d set test body g h k = search (steps, header_steady) depth 20

block_steady : (d : ℕ) (value : Language Expr) (stmt : Language Stmt) → Steady value → Steady stmt →
    Steady (S.block d value stmt)
block_steady d value stmt h k = search (steps, steady_placed, braces_steady) depth 20

bare_steady : (nested d : ℕ) (stmt body : Language Stmt) → Steady stmt → Steady body → Steady (S.bare nested d stmt body)
bare_steady nested d stmt body h k =
    search (
      steps,
      steady_placed,
      simple_steady,
      parallel_steady,
      choice_steady,
      loop_steady,
      for_steady,
      forall_steady,
      assignment_steady,
      expr_steady,
    ) depth 20

formed_steady : (nested : ℕ) (form : S.Form) (d : ℕ) → Steady (S.formed nested form d)
formed_steady zero form d = steady_never
formed_steady (suc nested) S.Form.Braced d =
    let within = steady_or (formed_steady nested S.Form.Braced (suc d)) (formed_steady nested S.Form.Bare (suc d)) in
    block_steady d _ _ (expr_steady nested (suc d)) within
formed_steady (suc nested) S.Form.Bare d =
    let within = steady_or (formed_steady nested S.Form.Braced (suc d)) (formed_steady nested S.Form.Bare (suc d)) in
    let block = block_steady d _ _ (expr_steady nested (suc d)) within in
    bare_steady nested d _ _ within (steady_or block (formed_steady nested S.Form.Bare (suc d)))

stmt_steady : (nested d : ℕ) → Steady (S.stmt nested d)
stmt_steady nested d = steady_or (formed_steady nested S.Form.Braced d) (formed_steady nested S.Form.Bare d)

-- ---- items

field_name_steady : (b : Base) → Steady (I.field_name b)
field_name_steady b = search (steps, stars_steady) depth 20

pub fields_steady : (before : List Field) → Steady (I.fields before)
fields_steady before = search (steps, base_steady, field_name_steady) depth 20

parameter_steady : (before : ℕ) → Steady (I.parameter before)
parameter_steady before = search (steps, mode_steady, base_steady, stars_steady, parameter_name_steady) depth 20

pub parameters_steady : Steady I.parameters
parameters_steady = search (steps, parameter_steady) depth 20

pub procedure_steady : (nested : ℕ) → Steady (I.procedure nested)
procedure_steady nested =
    search (
      steps,
      type_with_steady,
      function_name_steady,
      parameters_steady,
      braces_steady,
      expr_steady,
      stmt_steady,
    ) depth 20
