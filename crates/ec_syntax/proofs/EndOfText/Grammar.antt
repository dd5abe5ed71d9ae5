-- The end of a text stands in none of the grammar's words but programs.
use Rattle.std.proofs.Common.{◌≡◌, refl, ℕ, zero, suc, false, List, [], ◌∷◌, ◌++◌, Option, None, codes}
use Rattle.ec_base.specs.declared.token.Mark.{Mark}
use Rattle.ec_base.specs.declared.token.Mark.TheVariants as m
use Rattle.ec_base.specs.declared.token.Token.{Token}
use Rattle.ec_base.specs.declared.token.TokenKind.{TokenKind}
use Rattle.ec_base.specs.declared.token.TokenKind.TheVariants as t
use Rattle.ec_syntax.specs.declared.name.Mode.{Mode}
use Rattle.ec_syntax.specs.declared.name.Base.{Base}
use Rattle.ec_syntax.specs.declared.expression.Expr.{Expr}
use Rattle.ec_syntax.specs.declared.item.Field.{Field}
use Rattle.ec_syntax.specs.declared.item.Item.{Item}
use Rattle.ec_syntax.specs.declared.statement.Assign.{Assign}
use Rattle.ec_syntax.specs.declared.statement.Decl.{Decl}
use Rattle.ec_syntax.specs.declared.statement.Stmt.{Stmt}
use Rattle.ec_syntax.specs.declared.statement.StmtKind.{StmtKind}
use Rattle.ec_syntax.specs.declared.expression.ExprKind.TheVariants.{Address}
use Rattle.ec_syntax.specs.Grammar.Language.{Language, give, placed, turns, function, ◌or◌, ◌>>=◌, ◌>>◌}
use Rattle.ec_syntax.specs.Grammar.Tokens as T
use Rattle.ec_syntax.specs.Grammar.Tokens.{only, is_word, is_mark, is_end, name_of, number_of, string_of}
use Rattle.ec_syntax.specs.Grammar.Types as Y
use Rattle.ec_syntax.specs.Grammar.Expressions as E
use Rattle.ec_syntax.specs.Grammar.Expressions.{of_mark}
use Rattle.ec_syntax.specs.Grammar.Statements as S
use Rattle.ec_syntax.specs.Grammar.Items as I
use Rattle.ec_syntax.proofs.EndOfText.Inside.{Inner, Inside, inner_look, inner_bind, inner_or, inner_never, inner_turns, inner_maybe, inner_part, inner_function, inner_kth, inner_lacks, inner_one, inner_placed}

-- ---- tokens

-- what picks nothing of the end
pub inside_of : {A : Type 0} (pick : Token → Option A) → ((x : Token) → x.kind ≡ t.End → pick x ≡ None) → Inside pick
inside_of pick e x a h = by x.kind refl
  where
    none : x.kind ≡ t.End → is_end x ≡ false
    none k = absurd (cc (e x k))

    by : (kind : TokenKind) → x.kind ≡ kind → is_end x ≡ false
    by t.End k = none k
    by (t.Word w) k = rw k refl
    by (t.Number n) k = rw k refl
    by (t.Str s) k = rw k refl
    by (t.Mark j) k = rw k refl

word_inner : (d : ℕ) (w : List ℕ) → Inner (T.word d w)
word_inner d w = inner_one (inside_of (only (is_word w)) (λ x e. rw e refl))

mark_inner : (d : ℕ) (k : Mark) → Inner (T.mark d k)
mark_inner d k = inner_one (inside_of (only (is_mark k)) (λ x e. rw e refl))

sign_inner : (d : ℕ) (k : Mark) → Inner (T.sign d k)
sign_inner d k = inner_one (inside_of (only (is_mark k)) (λ x e. rw e refl))

operator_inner : {A : Type 0} (d : ℕ) (pick : Mark → Option A) → Inner (T.operator d (of_mark pick))
operator_inner d pick = inner_one (inside_of (of_mark pick) (λ x e. rw e refl))

number_inner : (d : ℕ) → Inner (T.number d)
number_inner d = inner_one (inside_of number_of (λ x e. rw e refl))

name_inner : (d : ℕ) → Inner (T.name d)
name_inner d = inner_one (inside_of name_of (λ x e. rw e refl))

string_inner : (d : ℕ) → Inner (T.string d)
string_inner d = inner_one (inside_of string_of (λ x e. rw e refl))

variable_name_inner : (d : ℕ) → Inner (T.variable_name d)
variable_name_inner d = inner_one (inside_of name_of (λ x e. rw e refl))

parameter_name_inner : (d before : ℕ) → Inner (T.parameter_name d before)
parameter_name_inner d before = inner_one (inside_of name_of (λ x e. rw e refl))

function_name_inner : (d : ℕ) → Inner (T.function_name d)
function_name_inner d = inner_one (inside_of name_of (λ x e. rw e refl))

ruleset steps = (inner_look, inner_bind, inner_or, inner_never, inner_turns, inner_maybe, inner_part, inner_function, inner_kth, inner_lacks, word_inner, mark_inner, sign_inner, operator_inner, number_inner, name_inner, string_inner)

-- ---- types

struct_base_inner : (d : ℕ) → Inner (Y.struct_base d)
struct_base_inner d = inner_bind (word_inner d (codes "struct")) (λ _. inner_bind (name_inner d) (λ n. inner_look))

int_base_inner : (d : ℕ) → Inner (Y.int_base d)
int_base_inner d = search steps depth 20

base_inner : (d : ℕ) → Inner (Y.base d)
base_inner d = search steps depth 20

stars_inner : (star : Language (Unit {0})) (from : ℕ) → Inner star → Inner (Y.stars star from)
stars_inner star from h = search steps depth 20

type_with_inner : (d : ℕ) (star : Language (Unit {0})) → Inner star → Inner (Y.type_with d star)
type_with_inner d star h = search (steps, base_inner, stars_inner) depth 20

pointer_with_inner : (d : ℕ) (star : Language (Unit {0})) → Inner star → Inner (Y.pointer_with d star)
pointer_with_inner d star h = search (steps, base_inner, stars_inner) depth 20

mode_inner : (d : ℕ) → Inner (Y.mode d)
mode_inner d = search steps depth 20

-- ---- expressions

levels_inner : (d level : ℕ) (operand : Language Expr) → Inner operand → Inner (E.levels d level operand)
levels_inner d zero operand h = h
levels_inner d (suc level) operand h = inner_bind (levels_inner d level operand h) (λ first. inner_turns (λ a. inner_bind (operator_inner d (E.at_level level)) (λ make. inner_bind (levels_inner d level operand h) (λ b. inner_look))))

bracketed_inner : {A : Type 0} (d : ℕ) (inside : Language A) → Inner inside → Inner (E.bracketed d inside)
bracketed_inner d inside h = search steps depth 20

arguments_inner : (d : ℕ) (expr : Language Expr) → Inner expr → Inner (E.arguments d expr)
arguments_inner d expr h = search steps depth 20

place_inner : (d : ℕ) (expr : Language Expr) → Inner expr → Inner (E.place d expr)
place_inner d expr h = search (steps, bracketed_inner) depth 20

called_inner : (d : ℕ) (expr : Language Expr) → Inner expr → Inner (E.called d expr)
called_inner d expr h = search (steps, bracketed_inner, arguments_inner, place_inner) depth 20

call_inner : (d : ℕ) (expr : Language Expr) → Inner expr → Inner (E.call d expr)
call_inner d expr h = inner_placed (λ make at. make at) (called_inner d expr h)

cast_inner : (d : ℕ) → Inner (E.cast d)
cast_inner d = bracketed_inner d _ (pointer_with_inner (suc d) _ (sign_inner (suc d) m.Star))

malloc_inner : (d : ℕ) (operand : Language Expr) → Inner operand → Inner (E.malloc d operand)
malloc_inner d operand h = search (steps, cast_inner, bracketed_inner, levels_inner, type_with_inner) depth 20

primary_inner : (d : ℕ) (operand : Language Expr) → Inner operand → Inner (E.primary d operand)
primary_inner d operand h = search (steps, inner_placed, called_inner, levels_inner, bracketed_inner, malloc_inner) depth 20

selected_inner : (d : ℕ) (operand : Language Expr) (e : Expr) → Inner operand → Inner (E.selected d operand e)
selected_inner d operand e h = search (steps, levels_inner) depth 20

postfix_inner : (d : ℕ) (operand : Language Expr) → Inner operand → Inner (E.postfix d operand)
postfix_inner d operand h = search (steps, primary_inner, selected_inner) depth 20

-- an operand whose own operands are these
abbrev unary : ℕ → Language Expr → Language Expr
unary d below =
    placed E.expression (T.operator d (of_mark E.prefix_of) >>= (λ make. below >>= (λ e. give (make e))))
    or placed E.expression (T.sign d m.And >> (T.name (suc d) >>= (λ n. give (Address n.text))))
    or E.postfix d below

prefixed_inner : (d : ℕ) (below : Language Expr) → Inner below → Inner (unary d below)
prefixed_inner d below h = search (steps, inner_placed, postfix_inner) depth 20

pub unary_inner : (nested d : ℕ) → Inner (E.unary nested d)
unary_inner zero d = inner_never
unary_inner (suc nested) d = prefixed_inner d (E.unary nested (suc d)) (unary_inner nested (suc d))

pub expr_inner : (nested d : ℕ) → Inner (E.expr nested d)
expr_inner nested d = levels_inner d 10 (E.unary nested d) (unary_inner nested d)

-- ---- statements

declarator_inner : (d : ℕ) (value : Language Expr) (how : Mode) (b : Base) → Inner value →
    Inner (S.declarator d value how b)
declarator_inner d value how b h = search (steps, stars_inner, variable_name_inner) depth 20

declaration_inner : (d : ℕ) (value : Language Expr) (before : List Decl) → Inner value →
    Inner (S.declaration d value before)
declaration_inner d value before h = search (steps, mode_inner, int_base_inner, struct_base_inner, declarator_inner) depth 20

assignment_inner : (nested d : ℕ) → Inner (S.assignment nested d)
assignment_inner nested d = search (steps, unary_inner, expr_inner) depth 20

ended_inner : (d : ℕ) (p : Language StmtKind) → Inner p → Inner (S.ended d p)
ended_inner d p h = search (steps, inner_placed) depth 20

closed_inner : (d : ℕ) (p : Language StmtKind) → Inner p → Inner (S.closed d p)
closed_inner d p h = search (steps, inner_placed) depth 20

pair_inner : (d : ℕ) (value : Language Expr) → Inner value → Inner (S.pair d value)
pair_inner d value h = search steps depth 20

printed_inner : (d : ℕ) (value : Language Expr) → Inner value → Inner (S.printed d value)
printed_inner d value h = search steps depth 20

simple_inner : (nested d : ℕ) (inner : Language Expr) → Inner inner → Inner (S.simple nested d inner)
simple_inner nested d inner h = search (steps, ended_inner, closed_inner, assignment_inner, call_inner, bracketed_inner, pair_inner, printed_inner, expr_inner) depth 20

header_inner : {A : Type 0} (d : ℕ) (inside : Language A) → Inner inside → Inner (S.header d inside)
header_inner d inside h = search steps depth 20

sequence_inner : (stmt : Language Stmt) → Inner stmt → Inner (S.sequence stmt)
sequence_inner stmt h = search steps depth 20

contents_inner : (d : ℕ) (value : Language Expr) (stmt : Language Stmt) → Inner value → Inner stmt →
    Inner (S.contents d value stmt)
contents_inner d value stmt h k = search (steps, declaration_inner, sequence_inner) depth 20

braces_inner : (d : ℕ) (value : Language Expr) (stmt : Language Stmt) → Inner value → Inner stmt →
    Inner (S.braces d value stmt)
braces_inner d value stmt h k = search (steps, contents_inner) depth 20

parallel_inner : (d : ℕ) (stmt : Language Stmt) → Inner stmt → Inner (S.parallel d stmt)
parallel_inner d stmt h = search steps depth 20

choice_inner : (d : ℕ) (test : Language Expr) (body : Language Stmt) → Inner test → Inner body →
    Inner (S.choice d test body)
choice_inner d test body h k = search (steps, header_inner) depth 20

loop_inner : (d : ℕ) (test : Language Expr) (body : Language Stmt) → Inner test → Inner body →
    Inner (S.loop d test body)
loop_inner d test body h k = search (steps, header_inner) depth 20

for_inner : (d : ℕ) (set : Language Assign) (test : Language Expr) (body : Language Stmt) → Inner set → Inner test →
    Inner body → Inner (S.for_loop d set test body)
for_inner d set test body g h k = search (steps, header_inner) depth 20

forall_inner : (d : ℕ) (set : Language Assign) (test : Language Expr) (body : Language Stmt) → Inner set → Inner test →
    Inner body → Inner (S.forall_loop d set test body)
forall_inner d set test body g h k = search (steps, header_inner) depth 20

block_inner : (d : ℕ) (value : Language Expr) (stmt : Language Stmt) → Inner value → Inner stmt →
    Inner (S.block d value stmt)
block_inner d value stmt h k = search (steps, inner_placed, braces_inner) depth 20

bare_inner : (nested d : ℕ) (stmt body : Language Stmt) → Inner stmt → Inner body → Inner (S.bare nested d stmt body)
bare_inner nested d stmt body h k = search (steps, inner_placed, simple_inner, parallel_inner, choice_inner, loop_inner, for_inner, forall_inner, assignment_inner, expr_inner) depth 20

formed_inner : (nested : ℕ) (form : S.Form) (d : ℕ) → Inner (S.formed nested form d)
formed_inner zero form d = inner_never
formed_inner (suc nested) S.Form.Braced d = block_inner d _ _ (expr_inner nested (suc d)) (inner_or (formed_inner nested S.Form.Braced (suc d)) (formed_inner nested S.Form.Bare (suc d)))
formed_inner (suc nested) S.Form.Bare d =
    bare_inner nested d _ _ (inner_or (formed_inner nested S.Form.Braced (suc d)) (formed_inner nested S.Form.Bare (suc d)))
    (inner_or (block_inner d _ _ (expr_inner nested (suc d)) (inner_or (formed_inner nested S.Form.Braced (suc d)) (formed_inner nested S.Form.Bare (suc d)))) (formed_inner nested S.Form.Bare (suc d)))

stmt_inner : (nested d : ℕ) → Inner (S.stmt nested d)
stmt_inner nested d = inner_or (formed_inner nested S.Form.Braced d) (formed_inner nested S.Form.Bare d)

-- ---- items

field_name_inner : (b : Base) → Inner (I.field_name b)
field_name_inner b = search (steps, stars_inner) depth 20

fields_inner : (before : List Field) → Inner (I.fields before)
fields_inner before = search (steps, base_inner, field_name_inner) depth 20

struct_brace_inner : Inner I.struct_brace
struct_brace_inner = inner_one (inside_of (only (is_mark m.OpenBrace)) (λ x e. rw e refl))

structure_inner : Inner I.structure
structure_inner = search (steps, struct_brace_inner, fields_inner) depth 20

parameter_inner : (before : ℕ) → Inner (I.parameter before)
parameter_inner before = search (steps, mode_inner, base_inner, stars_inner, parameter_name_inner) depth 20

parameters_inner : Inner I.parameters
parameters_inner = search (steps, parameter_inner) depth 20

procedure_inner : (nested : ℕ) → Inner (I.procedure nested)
procedure_inner nested = search (steps, type_with_inner, function_name_inner, parameters_inner, braces_inner, expr_inner, stmt_inner) depth 20

abbrev pub items : ℕ → Language (List Item)
items nested = turns (λ is. function (I.structure or I.procedure nested) >>= (λ i. give (is ++ i ∷ []))) []

pub items_inner : (nested : ℕ) → Inner (items nested)
items_inner nested = search (steps, structure_inner, procedure_inner) depth 20
