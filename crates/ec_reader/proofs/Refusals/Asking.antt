-- The words of the grammar are asked at their own tokens, and how many structs there are only at the opening brace of a struct.
use Rattle.std.proofs.Common.{refl, ℕ, zero, suc, Bool, true, List, [], Option, true≢false, codes}
use Rattle.ec_base.specs.declared.token.Mark.{Mark}
use Rattle.ec_base.specs.declared.token.Mark.TheVariants as m
use Rattle.ec_syntax.specs.declared.name.Mode.{Mode}
use Rattle.ec_syntax.specs.declared.name.Base.{Base}
use Rattle.ec_syntax.specs.declared.name.Name.{Name}
use Rattle.ec_syntax.specs.declared.expression.Expr.{Expr}
use Rattle.ec_syntax.specs.declared.item.Field.{Field}
use Rattle.ec_syntax.specs.declared.item.Item.{Item}
use Rattle.ec_syntax.specs.declared.item.Item.TheVariants.{Struct}
use Rattle.ec_syntax.specs.declared.statement.Assign.{Assign}
use Rattle.ec_syntax.specs.declared.statement.Decl.{Decl}
use Rattle.ec_syntax.specs.declared.statement.Stmt.{Stmt}
use Rattle.ec_syntax.specs.declared.statement.StmtKind.{StmtKind}
use Rattle.ec_syntax.specs.declared.expression.ExprKind.TheVariants.{Address}
use Rattle.ec_syntax.specs.Grammar.Language.{Language, give, placed, turns, ◌or◌, ◌>>=◌, ◌>>◌}
use Rattle.ec_syntax.specs.Grammar.Tokens as T
use Rattle.ec_syntax.specs.Grammar.Types as Y
use Rattle.ec_syntax.specs.Grammar.Expressions as E
use Rattle.ec_syntax.specs.Grammar.Expressions.{of_mark}
use Rattle.ec_syntax.specs.Grammar.Statements as S
use Rattle.ec_syntax.specs.Grammar.Items as I
use Rattle.ec_reader.proofs.Refusals.Local.{Local, local_look, local_bind, local_or, local_never, local_turns, local_maybe, local_part, local_function, local_argument, local_branch, local_lacks, local_one, local_placed}

-- an operand whose own operands are these
abbrev unary : ℕ → Language Expr → Language Expr
unary d below =
    placed E.expression (T.operator d (of_mark E.prefix_of) >>= (λ make. below >>= (λ e. give (make e))))
    or placed E.expression (T.sign d m.And >> (T.name (suc d) >>= (λ n. give (Address n.text))))
    or E.postfix d below

-- a struct behind its opening brace
abbrev pub fielded : Name → Language Item
fielded n = do
  first ← I.fields []
  all ← turns I.fields first
  T.mark 0 m.CloseBrace
  T.mark 0 m.Semicolon
  give (Struct (record { name = n; fields = all }))

module _ {structs : Bool} where
  pub word_local : (d : ℕ) (w : List ℕ) → Local structs (T.word d w)
  word_local d w = local_one (λ s a. tt)

  mark_local : (d : ℕ) (k : Mark) → Local structs (T.mark d k)
  mark_local d k = local_one (λ s a. tt)

  sign_local : (d : ℕ) (k : Mark) → Local structs (T.sign d k)
  sign_local d k = local_one (λ s a. ((λ e. refl), tt))

  operator_local : {A : Type 0} (d : ℕ) (pick : Mark → Option A) → Local structs (T.operator d (of_mark pick))
  operator_local d pick = local_one (λ s a. ((λ e. refl), tt))

  number_local : (d : ℕ) → Local structs (T.number d)
  number_local d = local_one (λ s a. tt)

  pub name_local : (d : ℕ) → Local structs (T.name d)
  name_local d = local_one (λ s a. ((λ e. refl), tt))

  string_local : (d : ℕ) → Local structs (T.string d)
  string_local d = local_one (λ s a. ((λ e. refl), tt))

  variable_name_local : (d : ℕ) → Local structs (T.variable_name d)
  variable_name_local d = local_one (λ s a. ((λ e. refl), ((λ e. refl), tt)))

  parameter_name_local : (d before : ℕ) → Local structs (T.parameter_name d before)
  parameter_name_local d before = local_one (λ s a. ((λ e. refl), ((λ e. refl), ((λ e. refl), tt))))

  function_name_local : (d : ℕ) → Local structs (T.function_name d)
  function_name_local d = local_one (λ s a. ((λ e. refl), ((λ e. refl), tt)))

  ruleset steps = (local_look, local_bind, local_or, local_never, local_turns, local_maybe, local_part, local_function, local_argument, local_branch, local_lacks, word_local, mark_local, sign_local, operator_local, number_local, name_local, string_local)

  -- ---- types

  struct_base_local : (d : ℕ) → Local structs (Y.struct_base d)
  struct_base_local d = local_bind (word_local d (codes "struct")) (λ _. local_bind (name_local d) (λ n. local_look))

  int_base_local : (d : ℕ) → Local structs (Y.int_base d)
  int_base_local d = search steps depth 20

  base_local : (d : ℕ) → Local structs (Y.base d)
  base_local d = search steps depth 20

  stars_local : (star : Language (Unit {0})) (from : ℕ) → Local structs star → Local structs (Y.stars star from)
  stars_local star from h = search steps depth 20

  type_with_local : (d : ℕ) (star : Language (Unit {0})) → Local structs star → Local structs (Y.type_with d star)
  type_with_local d star h = search (steps, base_local, stars_local) depth 20

  pointer_with_local : (d : ℕ) (star : Language (Unit {0})) → Local structs star → Local structs (Y.pointer_with d star)
  pointer_with_local d star h = search (steps, base_local, stars_local) depth 20

  mode_local : (d : ℕ) → Local structs (Y.mode d)
  mode_local d = search steps depth 20

  -- ---- expressions

  levels_local : (d level : ℕ) (operand : Language Expr) → Local structs operand → Local structs (E.levels d level operand)
  levels_local d zero operand h = h
  levels_local d (suc level) operand h = local_bind (levels_local d level operand h) (λ first. local_turns (λ a. local_bind (operator_local d (E.at_level level)) (λ make. local_bind (levels_local d level operand h) (λ b. local_look))))

  bracketed_local : {A : Type 0} (d : ℕ) (inside : Language A) → Local structs inside → Local structs (E.bracketed d inside)
  bracketed_local d inside h = search steps depth 20

  arguments_local : (d : ℕ) (expr : Language Expr) → Local structs expr → Local structs (E.arguments d expr)
  arguments_local d expr h = search steps depth 20

  place_local : (d : ℕ) (expr : Language Expr) → Local structs expr → Local structs (E.place d expr)
  place_local d expr h = search (steps, bracketed_local) depth 20

  called_local : (d : ℕ) (expr : Language Expr) → Local structs expr → Local structs (E.called d expr)
  called_local d expr h = search (steps, bracketed_local, arguments_local, place_local) depth 20

  call_local : (d : ℕ) (expr : Language Expr) → Local structs expr → Local structs (E.call d expr)
  call_local d expr h = local_placed (λ make at. make at) (called_local d expr h)

  cast_local : (d : ℕ) → Local structs (E.cast d)
  cast_local d = bracketed_local d _ (pointer_with_local (suc d) _ (sign_local (suc d) m.Star))

  malloc_local : (d : ℕ) (operand : Language Expr) → Local structs operand → Local structs (E.malloc d operand)
  malloc_local d operand h = search (steps, cast_local, bracketed_local, levels_local, type_with_local) depth 20

  primary_local : (d : ℕ) (operand : Language Expr) → Local structs operand → Local structs (E.primary d operand)
  primary_local d operand h = search (steps, local_placed, called_local, levels_local, bracketed_local, malloc_local) depth 20

  selected_local : (d : ℕ) (operand : Language Expr) (e : Expr) → Local structs operand → Local structs (E.selected d operand e)
  selected_local d operand e h = search (steps, levels_local) depth 20

  postfix_local : (d : ℕ) (operand : Language Expr) → Local structs operand → Local structs (E.postfix d operand)
  postfix_local d operand h = search (steps, primary_local, selected_local) depth 20

  prefixed_local : (d : ℕ) (below : Language Expr) → Local structs below → Local structs (unary d below)
  prefixed_local d below h = search (steps, local_placed, postfix_local) depth 20

  unary_local : (nested d : ℕ) → Local structs (E.unary nested d)
  unary_local zero d = local_never
  unary_local (suc nested) d = prefixed_local d (E.unary nested (suc d)) (unary_local nested (suc d))

  expr_local : (nested d : ℕ) → Local structs (E.expr nested d)
  expr_local nested d = levels_local d 10 (E.unary nested d) (unary_local nested d)

  -- ---- statements

  declarator_local : (d : ℕ) (value : Language Expr) (how : Mode) (b : Base) → Local structs value → Local structs (S.declarator d value how b)
  declarator_local d value how b h = search (steps, stars_local, variable_name_local) depth 20

  declaration_local : (d : ℕ) (value : Language Expr) (before : List Decl) → Local structs value → Local structs (S.declaration d value before)
  declaration_local d value before h = search (steps, mode_local, int_base_local, struct_base_local, declarator_local) depth 20

  assignment_local : (nested d : ℕ) → Local structs (S.assignment nested d)
  assignment_local nested d = search (steps, unary_local, expr_local) depth 20

  ended_local : (d : ℕ) (p : Language StmtKind) → Local structs p → Local structs (S.ended d p)
  ended_local d p h = search (steps, local_placed) depth 20

  closed_local : (d : ℕ) (p : Language StmtKind) → Local structs p → Local structs (S.closed d p)
  closed_local d p h = search (steps, local_placed) depth 20

  pair_local : (d : ℕ) (value : Language Expr) → Local structs value → Local structs (S.pair d value)
  pair_local d value h = search steps depth 20

  printed_local : (d : ℕ) (value : Language Expr) → Local structs value → Local structs (S.printed d value)
  printed_local d value h = search steps depth 20

  simple_local : (nested d : ℕ) (inner : Language Expr) → Local structs inner → Local structs (S.simple nested d inner)
  simple_local nested d inner h = search (steps, ended_local, closed_local, assignment_local, call_local, bracketed_local, pair_local, printed_local, expr_local) depth 20

  header_local : {A : Type 0} (d : ℕ) (inside : Language A) → Local structs inside → Local structs (S.header d inside)
  header_local d inside h = search steps depth 20

  sequence_local : (stmt : Language Stmt) → Local structs stmt → Local structs (S.sequence stmt)
  sequence_local stmt h = search steps depth 20

  contents_local : (d : ℕ) (value : Language Expr) (stmt : Language Stmt) → Local structs value → Local structs stmt → Local structs (S.contents d value stmt)
  contents_local d value stmt h k = search (steps, declaration_local, sequence_local) depth 20

  braces_local : (d : ℕ) (value : Language Expr) (stmt : Language Stmt) → Local structs value → Local structs stmt → Local structs (S.braces d value stmt)
  braces_local d value stmt h k = search (steps, contents_local) depth 20

  parallel_local : (d : ℕ) (stmt : Language Stmt) → Local structs stmt → Local structs (S.parallel d stmt)
  parallel_local d stmt h = search steps depth 20

  choice_local : (d : ℕ) (test : Language Expr) (body : Language Stmt) → Local structs test → Local structs body → Local structs (S.choice d test body)
  choice_local d test body h k = search (steps, header_local) depth 20

  loop_local : (d : ℕ) (test : Language Expr) (body : Language Stmt) → Local structs test → Local structs body → Local structs (S.loop d test body)
  loop_local d test body h k = search (steps, header_local) depth 20

  for_local : (d : ℕ) (set : Language Assign) (test : Language Expr) (body : Language Stmt) → Local structs set → Local structs test → Local structs body → Local structs (S.for_loop d set test body)
  for_local d set test body g h k = search (steps, header_local) depth 20

  forall_local : (d : ℕ) (set : Language Assign) (test : Language Expr) (body : Language Stmt) → Local structs set → Local structs test → Local structs body → Local structs (S.forall_loop d set test body)
  forall_local d set test body g h k = search (steps, header_local) depth 20

  block_local : (d : ℕ) (value : Language Expr) (stmt : Language Stmt) → Local structs value → Local structs stmt → Local structs (S.block d value stmt)
  block_local d value stmt h k = search (steps, local_placed, braces_local) depth 20

  bare_local : (nested d : ℕ) (stmt body : Language Stmt) → Local structs stmt → Local structs body → Local structs (S.bare nested d stmt body)
  bare_local nested d stmt body h k = search (steps, local_placed, simple_local, parallel_local, choice_local, loop_local, for_local, forall_local, assignment_local, expr_local) depth 20

  formed_local : (nested : ℕ) (form : S.Form) (d : ℕ) → Local structs (S.formed nested form d)
  formed_local zero form d = local_never
  formed_local (suc nested) S.Form.Braced d = block_local d _ _ (expr_local nested (suc d)) (local_or (formed_local nested S.Form.Braced (suc d)) (formed_local nested S.Form.Bare (suc d)))
  formed_local (suc nested) S.Form.Bare d =
      bare_local nested d _ _ (local_or (formed_local nested S.Form.Braced (suc d)) (formed_local nested S.Form.Bare (suc d)))
      (local_or (block_local d _ _ (expr_local nested (suc d)) (local_or (formed_local nested S.Form.Braced (suc d)) (formed_local nested S.Form.Bare (suc d)))) (formed_local nested S.Form.Bare (suc d)))

  stmt_local : (nested d : ℕ) → Local structs (S.stmt nested d)
  stmt_local nested d = local_or (formed_local nested S.Form.Braced d) (formed_local nested S.Form.Bare d)

  -- ---- items

  field_name_local : (b : Base) → Local structs (I.field_name b)
  field_name_local b = search (steps, stars_local) depth 20

  fields_local : (before : List Field) → Local structs (I.fields before)
  fields_local before = search (steps, base_local, field_name_local) depth 20

  pub fielded_local : (n : Name) → Local structs (fielded n)
  fielded_local n = search (steps, fields_local) depth 20

  parameter_local : (before : ℕ) → Local structs (I.parameter before)
  parameter_local before = search (steps, mode_local, base_local, stars_local, parameter_name_local) depth 20

  parameters_local : Local structs I.parameters
  parameters_local = search (steps, parameter_local) depth 20

  pub procedure_local : (nested : ℕ) → Local structs (I.procedure nested)
  procedure_local nested = search (steps, type_with_local, function_name_local, parameters_local, braces_local, expr_local, stmt_local) depth 20

-- ---- where structs are counted

struct_brace_local : Local true I.struct_brace
struct_brace_local = local_one (λ s a. ((λ e. absurd (true≢false e)), tt))

structure_local : Local true I.structure
structure_local = local_bind (word_local 0 (codes "struct")) (λ _. local_bind (name_local 0) (λ n. local_bind struct_brace_local (λ _. fielded_local n)))

pub item_local : (nested : ℕ) → Local true (I.structure or I.procedure nested)
item_local nested = local_or structure_local (procedure_local nested)
