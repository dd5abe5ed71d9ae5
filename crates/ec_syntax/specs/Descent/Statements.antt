-- Readers of declarations and statements.
use Rattle.std.specs.Prelude.{ℕ, zero, suc, ◌||◌, Bool, codes, List, [], ◌∷◌, ◌++◌, length, Option, Some, None}
use Rattle.ec_base.specs.declared.operator.BinOp.TheVariants.{Add, Sub}
use Rattle.ec_base.specs.declared.token.Mark.TheVariants as m
use Rattle.ec_base.specs.declared.token.Span.{Span}
use Rattle.ec_base.specs.declared.token.Token.{Token}
use Rattle.ec_syntax.specs.declared.expression.Expr.{Expr}
use Rattle.ec_syntax.specs.declared.expression.ExprKind.{ExprKind}
use Rattle.ec_syntax.specs.declared.expression.ExprKind.TheVariants.{Var, Call as CallOf}
use Rattle.ec_syntax.specs.declared.name.Base.{Base}
use Rattle.ec_syntax.specs.declared.name.Mode.{Mode}
use Rattle.ec_syntax.specs.declared.name.Name.{Name}
use Rattle.ec_syntax.specs.declared.statement.Assign.{Assign}
use Rattle.ec_syntax.specs.declared.statement.Body.{Body, roll-Body}
use Rattle.ec_syntax.specs.declared.statement.Decl.{Decl}
use Rattle.ec_syntax.specs.declared.statement.Stmt.{Stmt}
use Rattle.ec_syntax.specs.declared.statement.StmtKind.{StmtKind}
use Rattle.ec_syntax.specs.declared.statement.StmtKind.TheVariants.{Empty, Body as Block, Par, If, While, For, Forall, Set, Eval, WriteTo, AddTo, Print, Return}
use Rattle.ec_syntax.specs.declared.quantity.Quantity.TheVariants.{Nesting, Arguments, Branches}
use Rattle.ec_syntax.specs.Grammar.Tokens.{is_word, is_mark}
use Rattle.ec_syntax.specs.Grammar.Types.{typed}
use Rattle.ec_syntax.specs.Grammar.Statements.{stepped, statement}
use Rattle.ec_syntax.specs.Descent.Reader.{Reader, give, ◌>>=◌, ◌>>◌, when, stop, passed, turns, kth, inside, part, placed}
use Rattle.ec_syntax.specs.declared.quantity.Fault.TheVariants.{Expected}
use Rattle.ec_syntax.specs.Descent.Tokens.{begins_expr, begins_declaration, begins_stmt, is_string, word, mark, sign, string, variable_name, variable_base, stars, mode}
use Rattle.ec_syntax.specs.Descent.Expressions.{bracketed, unary, expr}

-- ---- declarations

-- a value where a mark stands, and else none
abbrev pub initialiser : Reader Expr → Reader (Option Expr)
initialiser value = when (is_mark m.Assign) (mark m.Assign >> (part value >>= (λ e. give (Some e)))) (give None)

abbrev pub declarator : Reader Expr → Mode → Base → Reader Decl
declarator value how b =
    stars (mark m.Star) 0 >>= (λ k. variable_name >>= (λ n. initialiser value >>= (λ init.
    give (record { name = n; mode = how; ty = typed b k; init = init }))))

abbrev pub declarators : Reader Expr → Mode → Base → List Decl → Reader (List Decl)
declarators value how b =
    turns (is_mark m.Comma) (λ ds. mark m.Comma >> (declarator value how b >>= (λ next. give (ds ++ next ∷ []))))

abbrev pub declaration : Reader Expr → List Decl → Reader (List Decl)
declaration value before =
    mode >>= (λ how. variable_base >>= (λ b. declarator value how b >>= (λ first.
    declarators value how b (before ++ first ∷ []) >>= (λ all. mark m.Semicolon >> give all))))

-- ---- assignments

-- a variable goes one up or down
abbrev pub stepping_name : Name → Reader Assign
stepping_name n =
    when (is_mark m.Increment) (sign m.Increment >> give (stepped Add n)) (sign m.Decrement >> give (stepped Sub n))

abbrev pub stepping_kind : Span → ExprKind → Reader Assign
stepping_kind at (Var w) = stepping_name (record { text = w; at = at })
stepping_kind at _ = stop Expected

-- behind the left side, where `=` doesn't follow
abbrev pub stepping : Expr → Reader Assign
stepping l = stepping_kind l.at l.kind

-- behind the left side
abbrev pub assigned : Reader Expr → Expr → Reader Assign
assigned value l =
    when (is_mark m.Assign) (sign m.Assign >> (value >>= (λ r. give (record { left = l; right = r })))) (stepping l)

-- where so much room is
abbrev pub assignment : ℕ → Reader Assign
assignment room = unary room >>= assigned (expr room)

-- ---- simple statements

abbrev pub ended : Reader StmtKind → Reader Stmt
ended p = placed statement (p >>= (λ kind. mark m.Semicolon >> give kind))

abbrev pub closed : Reader StmtKind → Reader Stmt
closed p = placed statement p >>= (λ s. mark m.Semicolon >> give s)

-- behind the left side, as a statement
abbrev pub set : Reader Expr → Expr → Reader StmtKind
set value l = assigned value l >>= (λ a. give (Set a))

abbrev pub acted_kind : Reader Expr → Expr → ExprKind → Reader StmtKind
acted_kind value l (CallOf c) = when (is_mark m.Semicolon) (give (Eval c)) (set value l)
acted_kind value l _ = set value l

-- a call that stands alone, or an assignment
abbrev pub acted : Reader Expr → Expr → Reader StmtKind
acted value l = acted_kind value l l.kind

abbrev pub pair : Reader Expr → Reader (Expr × Expr)
pair value = value >>= (λ a. mark m.Comma >> (value >>= (λ b. give (a, b))))

-- an argument of `printf` behind these, where so much room is
abbrev pub argument : ℕ → List Expr → Reader (List Expr)
argument room es =
    mark m.Comma >> (kth Arguments (suc (length es)) begins_expr room (expr room) >>= (λ e. give (es ++ e ∷ [])))

abbrev pub printed : ℕ → Reader StmtKind
printed room = string >>= (λ s. turns (is_mark m.Comma) (argument room) [] >>= (λ es. give (Print s es)))

abbrev pub returned : Reader Expr → Reader (Option Expr)
returned value = when begins_expr (value >>= (λ e. give (Some e))) (give None)

-- a simple statement, with so much room below
abbrev pub simple : ℕ → Reader Stmt
simple room =
    when (is_mark m.Semicolon) (ended (give Empty))
    (when (is_word (codes "writeto")) (closed (part (word (codes "writeto") >> two) >>= (λ p. give (WriteTo p.0 p.1))))
    (when (is_word (codes "addto")) (closed (part (word (codes "addto") >> two) >>= (λ p. give (AddTo p.0 p.1))))
    (when (is_word (codes "printf")) (closed (part (word (codes "printf") >> bracketed room is_string (printed room))))
    (when (is_word (codes "return")) (ended (part (word (codes "return") >> returned value) >>= (λ e. give (Return e))))
    (ended (part (unary (suc room) >>= acted value)))))))
  where
    value : Reader Expr
    value = expr (suc room)

    two : Reader (Expr × Expr)
    two = bracketed room begins_expr (pair (expr room))

-- ---- statements that hold others; `room` is that for what they hold

abbrev pub header : {A : Type 0} → ℕ → (Token → Bool) → Reader A → Reader A
header room test p = mark m.OpenParen >> (inside room test p >>= (λ a. mark m.CloseParen >> give a))

abbrev pub sequence : Reader Stmt → Reader (List Stmt)
sequence stmt = turns begins_stmt (λ ss. stmt >>= (λ s. give (ss ++ s ∷ []))) []

abbrev pub contents : Reader Expr → Reader Stmt → Reader Body
contents value stmt =
    turns begins_declaration (declaration value) [] >>= (λ ds. sequence stmt >>= (λ ss.
    give (roll-Body (record { decls = ds; stmts = ss }))))

abbrev pub begins_contents : Token → Bool
begins_contents x = begins_declaration x || begins_stmt x || is_mark m.CloseBrace x

abbrev pub braces : ℕ → Reader Expr → Reader Stmt → Reader Body
braces room value stmt =
    mark m.OpenBrace >> (inside room begins_contents (contents value stmt) >>= (λ b. mark m.CloseBrace >> give b))

abbrev pub branch : ℕ → Reader Stmt → List Stmt → Reader (List Stmt)
branch room stmt ss = kth Branches (suc (length ss)) begins_stmt room stmt >>= (λ s. give (ss ++ s ∷ []))

abbrev pub begins_parallel : Token → Bool
begins_parallel x = begins_stmt x || is_mark m.ClosePar x

abbrev pub parallel : ℕ → Reader Stmt → Reader StmtKind
parallel room stmt = do
  mark m.OpenPar
  ss ← inside room begins_parallel (turns begins_stmt (branch room stmt) [])
  mark m.ClosePar
  give (Par ss)

abbrev pub otherwise : Reader Stmt → Reader (Option Stmt)
otherwise body = when (is_word (codes "else")) (word (codes "else") >> (body >>= (λ b. give (Some b)))) (give None)

abbrev pub choice : ℕ → Reader Stmt → Reader StmtKind
choice room body = do
  word (codes "if")
  c ← header room begins_expr (part (expr room))
  a ← body
  b ← otherwise body
  give (If c a b)

abbrev pub loop : ℕ → Reader Stmt → Reader StmtKind
loop room body = do
  word (codes "while")
  c ← header room begins_expr (part (expr room))
  b ← body
  give (While c b)

-- a part of a `for`'s header, where one stands
abbrev pub optional : {A : Type 0} → Reader A → Reader (Option A)
optional p = when begins_expr (part p >>= (λ a. give (Some a))) (give None)

abbrev pub begins_for : Token → Bool
begins_for x = begins_expr x || is_mark m.Semicolon x

-- what stands in the header of a `for`
abbrev pub for_head : ℕ → Reader (Stmt → StmtKind)
for_head room =
    optional (assignment room) >>= (λ i. mark m.Semicolon >> (optional (expr room) >>= (λ c. mark m.Semicolon >>
    (optional (assignment room) >>= (λ e. give (λ b. For i c e b))))))

abbrev pub for_loop : ℕ → Reader Stmt → Reader StmtKind
for_loop room body = do
  word (codes "for")
  make ← header room begins_for (for_head room)
  b ← body
  give (make b)

-- what stands in the header of a `forall`
abbrev pub forall_head : ℕ → Reader (Stmt → StmtKind)
forall_head room =
    part (assignment room) >>= (λ i. mark m.Semicolon >> (part (expr room) >>= (λ c. mark m.Semicolon >>
    (part (assignment room) >>= (λ e. give (λ b. Forall i c e b))))))

abbrev pub forall_loop : ℕ → Reader Stmt → Reader StmtKind
forall_loop room body = do
  word (codes "forall")
  make ← header room begins_expr (forall_head room)
  b ← body
  give (make b)

abbrev pub block : ℕ → Reader Stmt → Reader Stmt
block room stmt = placed statement (braces room (expr room) stmt >>= (λ b. give (Block b)))

-- a body of an `if` or a loop: in braces, or one deeper
abbrev pub body : ℕ → Reader Stmt → Reader Stmt
body room stmt = when (is_mark m.OpenBrace) (block room stmt) stmt

-- a statement that isn't in braces
abbrev pub bare : ℕ → Reader Stmt → Reader Stmt
bare room stmt =
    when (is_mark m.OpenPar) (placed statement (parallel room stmt))
    (when (is_word (codes "if")) (placed statement (choice room (body room stmt)))
    (when (is_word (codes "while")) (placed statement (loop room (body room stmt)))
    (when (is_word (codes "for")) (placed statement (for_loop room (body room stmt)))
    (when (is_word (codes "forall")) (placed statement (forall_loop room (body room stmt)))
    (simple room)))))

-- a statement where so much room is
abbrev pub stmt : ℕ → Reader Stmt
stmt zero = passed begins_stmt Nesting
stmt (suc room) = when (is_mark m.OpenBrace) (block room (stmt room)) (bare room (stmt room))
