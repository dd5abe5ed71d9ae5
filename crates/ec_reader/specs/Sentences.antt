-- Parts of readers of statements, by names of their own.
use Rattle.std.specs.Prelude.{ℕ, Bool, true, false, List, ◌∷◌, [], ◌++◌, codes, Option}
use Rattle.ec_base.specs.declared.token.Mark.TheVariants as m
use Rattle.ec_syntax.specs.declared.expression.Expr.{Expr}
use Rattle.ec_syntax.specs.declared.quantity.Fault.{Fault}
use Rattle.ec_syntax.specs.declared.quantity.Fault.TheVariants.{Expected, Passes}
use Rattle.ec_syntax.specs.declared.quantity.Quantity.{Quantity}
use Rattle.ec_syntax.specs.declared.statement.Stmt.{Stmt}
use Rattle.ec_syntax.specs.declared.statement.StmtKind.{StmtKind}
use Rattle.ec_syntax.specs.declared.statement.StmtKind.TheVariants.{Empty, For, Forall, WriteTo, AddTo, Print as PrintOf, Return}
use Rattle.ec_syntax.specs.Grammar.Language.{span}
use Rattle.ec_reader.specs.declared.simple.Print.{Print}
use Rattle.ec_reader.specs.declared.simple.Update.{Update}
use Rattle.ec_reader.specs.declared.header.ForHeader.{ForHeader}
use Rattle.ec_reader.specs.declared.header.ForallHeader.{ForallHeader}
use Rattle.ec_syntax.specs.Grammar.Statements.{statement}
use Rattle.ec_syntax.specs.Grammar.Tokens.{is_word}
use Rattle.ec_syntax.specs.Descent.Reader.{Reader, look, give, ◌>>=◌, ◌>>◌, when, part, placed, deepest}
use Rattle.ec_syntax.specs.Descent.Tokens.{begins_expr, is_string, word, mark}
use Rattle.ec_syntax.specs.Descent.Expressions.{bracketed, unary, expr}
use Rattle.ec_syntax.specs.Descent.Statements.{ended, closed, set, acted, pair, printed, returned, parallel, choice, loop, for_loop, forall_loop, body, stmt}

-- why reading stops at a token that passes a limit
abbrev pub limit_fault : Bool → ℕ → Quantity → Fault
limit_fault true room q = Passes (deepest room q)
limit_fault false room q = Expected

-- ---- simple statements

-- a word, and behind it a place and a value in brackets
abbrev pub update : List ℕ → ℕ → Reader (Expr × Expr)
update w room = word w >> bracketed room begins_expr (pair (expr room))

abbrev pub update_of : Update → Expr × Expr
update_of u = (u.place, u.value)

-- the format and the values of a `printf`, in their brackets
abbrev pub print : ℕ → Reader StmtKind
print room = bracketed room is_string (printed room)

abbrev pub print_of : Print → StmtKind
print_of p = PrintOf p.format p.values

abbrev pub empty_statement : Reader Stmt
empty_statement = ended (give Empty)

abbrev pub write_statement : ℕ → Reader Stmt
write_statement room = closed (part (update (codes "writeto") room) >>= (λ p. give (WriteTo p.0 p.1)))

abbrev pub add_statement : ℕ → Reader Stmt
add_statement room = closed (part (update (codes "addto") room) >>= (λ p. give (AddTo p.0 p.1)))

abbrev pub print_statement : ℕ → Reader Stmt
print_statement room = closed (part (word (codes "printf") >> print room))

abbrev pub return_with_value : ℕ → Reader (Option Expr)
return_with_value room = part (word (codes "return") >> returned (expr room))

abbrev pub return_statement : ℕ → Reader Stmt
return_statement room = ended (return_with_value room >>= (λ e. give (Return e)))

-- the rest of a statement that begins at this place, up to its `;`
abbrev pub ended_from : ℕ → Reader StmtKind → Reader Stmt
ended_from from p = (p >>= (λ kind. mark m.Semicolon >> give kind)) >>= (λ kind. look (λ s. s.end) >>= (λ to. give (statement kind (span from to))))

abbrev pub assignment_from : ℕ → ℕ → Expr → Reader Stmt
assignment_from room from left = ended_from from (set (expr room) left)

-- the rest of an assignment or of a call that stands alone
abbrev pub action_from : ℕ → ℕ → Expr → Reader Stmt
action_from room from left = ended_from from (acted (expr room) left)

abbrev pub action_statement : ℕ → Reader Stmt
action_statement room = ended (part (unary room >>= acted (expr room)))

abbrev pub return_or_action : ℕ → Reader Stmt
return_or_action room = when (is_word (codes "return")) (return_statement room) (action_statement room)

-- ---- headers

-- what is made of a `for`'s header
abbrev pub for_makes : ForHeader → Stmt → StmtKind
for_makes h b = For h.first h.test h.step b

-- and of a `forall`'s
abbrev pub forall_makes : ForallHeader → Stmt → StmtKind
forall_makes h b = Forall h.first h.test h.step b

-- ---- statements that hold others

abbrev pub another_statement : ℕ → List Stmt → Reader (List Stmt)
another_statement room before = stmt room >>= (λ s. give (before ++ s ∷ []))

abbrev pub parallel_statement : ℕ → Reader Stmt
parallel_statement room = placed statement (parallel room (stmt room))

abbrev pub if_statement : ℕ → Reader Stmt
if_statement room = placed statement (choice room (body room (stmt room)))

abbrev pub while_statement : ℕ → Reader Stmt
while_statement room = placed statement (loop room (body room (stmt room)))

abbrev pub for_statement : ℕ → Reader Stmt
for_statement room = placed statement (for_loop room (body room (stmt room)))

abbrev pub forall_statement : ℕ → Reader Stmt
forall_statement room = placed statement (forall_loop room (body room (stmt room)))
