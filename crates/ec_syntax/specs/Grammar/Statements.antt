-- Declarations and statements.
use Rattle.std.specs.Prelude.{ℕ, zero, suc, codes, List, [], ◌∷◌, ◌++◌, length, Some, None, pos}
use Rattle.ec_base.specs.declared.operator.BinOp.{BinOp}
use Rattle.ec_base.specs.declared.operator.BinOp.TheVariants.{Add, Sub}
use Rattle.ec_base.specs.declared.token.Mark.TheVariants as m
use Rattle.ec_syntax.specs.declared.expression.Expr.{Expr}
use Rattle.ec_syntax.specs.declared.expression.ExprKind.TheVariants.{Number, Var, Binary}
use Rattle.ec_syntax.specs.declared.name.Base.{Base}
use Rattle.ec_syntax.specs.declared.name.Mode.{Mode}
use Rattle.ec_syntax.specs.declared.name.Name.{Name}
use Rattle.ec_syntax.specs.declared.statement.Assign.{Assign}
use Rattle.ec_syntax.specs.declared.statement.Body.{Body, roll-Body}
use Rattle.ec_syntax.specs.declared.statement.Decl.{Decl}
use Rattle.ec_syntax.specs.declared.statement.Stmt.{Stmt}
use Rattle.ec_syntax.specs.declared.statement.StmtKind.{StmtKind}
use Rattle.ec_syntax.specs.declared.statement.StmtKind.TheVariants.{Empty, Body as Block, Par, If, While, For, Forall, Set, Eval, WriteTo, AddTo, Print, Return}
use Rattle.ec_base.specs.declared.token.Span.{Span}
use Rattle.ec_syntax.specs.declared.quantity.Quantity.TheVariants.{Arguments, Branches}
use Rattle.ec_syntax.specs.Grammar.Language.{Language, append, give, ◌>>=◌, ◌>>◌, ◌or◌, never, turns, maybe, part, kth, lacks, placed}
use Rattle.ec_syntax.specs.Grammar.Tokens.{listed, word, mark, sign, name, string, variable_name, is_word}
use Rattle.ec_syntax.specs.Grammar.Types.{int_base, struct_base, stars, typed, mode}
use Rattle.ec_syntax.specs.Grammar.Expressions.{expression, bracketed, call, unary, expr}

-- ---- declarations

-- "*"* id ("=" expr)?
abbrev pub declarator : ℕ → Language Expr → Mode → Base → Language Decl
declarator d value mode b = do
  k ← stars (mark d m.Star) 0
  n ← variable_name d
  init ← maybe (mark d m.Assign >> part value)
  give (record { name = n; mode = mode; ty = typed b k; init = init })

-- mode ("int" | "struct" id) declr ("," declr)* ";", behind the declarations before
abbrev pub declaration : ℕ → Language Expr → List Decl → Language (List Decl)
declaration d value before = do
  how ← mode d
  b ← int_base d or struct_base d
  first ← declarator d value how b
  all ← listed d (λ ds. declarator d value how b) (before ++ first ∷ [])
  mark d m.Semicolon
  give all

-- ---- assignments

-- `i++` and `i--` are read as `i = i + 1` and `i = i - 1`, each expression at the place of `i`
abbrev pub stepped : BinOp → Name → Assign
stepped op i = record { left = variable; right = expression (Binary op variable one) i.at }
  where
    variable : Expr
    variable = expression (Var i.text) i.at

    one : Expr
    one = expression (Number (pos 1)) i.at

-- unary "=" expr | id "++" | id "--"
abbrev pub assignment : ℕ → ℕ → Language Assign
assignment nested d =
    (unary nested d >>= (λ l. sign d m.Assign >> (expr nested d >>= (λ r. give (record { left = l; right = r })))))
    or (name d >>= (λ i. sign d m.Increment >> give (stepped Add i)))
    or (name d >>= (λ i. sign d m.Decrement >> give (stepped Sub i)))

-- ---- simple statements

abbrev pub statement : StmtKind → Span → Stmt
statement kind at = record { kind = kind; at = at }

-- one that ends with its `;`
abbrev pub ended : ℕ → Language StmtKind → Language Stmt
ended d p = placed statement (p >>= (λ kind. mark d m.Semicolon >> give kind))

-- one that is placed without its `;`
abbrev pub closed : ℕ → Language StmtKind → Language Stmt
closed d p = placed statement p >>= (λ s. mark d m.Semicolon >> give s)

-- expr "," expr
abbrev pub pair : ℕ → Language Expr → Language (Expr × Expr)
pair d value = value >>= (λ a. mark d m.Comma >> (value >>= (λ b. give (a, b))))

-- str ("," expr)*
abbrev pub printed : ℕ → Language Expr → Language StmtKind
printed d value = do
  s ← string d
  es ← listed d (λ es. kth Arguments (suc (length es)) value) []
  give (Print s es)

-- ";" | set ";" | call ";" | "writeto" "(" expr "," expr ")" ";" | "addto" "(" expr "," expr ")" ";"
-- | "printf" "(" str ("," expr)* ")" ";" | "return" expr? ";"
abbrev pub simple : ℕ → ℕ → Language Expr → Language Stmt
simple nested d inner =
    ended d (give Empty)
    or ended d (part (assignment nested d) >>= (λ a. give (Set a)))
    or ended d (part (call d inner) >>= (λ c. give (Eval c)))
    or closed d (part (word d (codes "writeto") >> bracketed d (pair (suc d) inner)) >>= (λ p. give (WriteTo p.0 p.1)))
    or closed d (part (word d (codes "addto") >> bracketed d (pair (suc d) inner)) >>= (λ p. give (AddTo p.0 p.1)))
    or closed d (part (word d (codes "printf") >> bracketed d (printed (suc d) inner)))
    or ended d (part (word d (codes "return") >> maybe (expr nested d)) >>= (λ e. give (Return e)))

-- ---- statements that hold others; what stands in their braces, and bodies without any, are one deeper

-- "(" inside ")" around a header, whose parts have their operators and brackets for themselves
abbrev pub header : {A : Type 0} → ℕ → Language A → Language A
header d inside = mark d m.OpenParen >> (inside >>= (λ a. mark (suc d) m.CloseParen >> give a))

-- stmt*
abbrev pub sequence : Language Stmt → Language (List Stmt)
sequence stmt = turns (append stmt) []

-- decls* stmt*
abbrev pub contents : ℕ → Language Expr → Language Stmt → Language Body
contents d value stmt = do
  ds ← turns (declaration d value) []
  ss ← sequence stmt
  give (roll-Body (record { decls = ds; stmts = ss }))

-- "{" decls* stmt* "}"
abbrev pub braces : ℕ → Language Expr → Language Stmt → Language Body
braces d value stmt = mark d m.OpenBrace >> (contents (suc d) value stmt >>= (λ b. mark (suc d) m.CloseBrace >> give b))

-- "{^" stmt* "^}"
abbrev pub parallel : ℕ → Language Stmt → Language StmtKind
parallel d stmt = mark d m.OpenPar >> (turns branch [] >>= (λ ss. mark (suc d) m.ClosePar >> give (Par ss)))
  where
    branch : List Stmt → Language (List Stmt)
    branch ss = append (kth Branches (suc (length ss)) stmt) ss

-- "if" "(" expr ")" stmt ("else" stmt)?, where an `else` goes with the nearest `if`
abbrev pub choice : ℕ → Language Expr → Language Stmt → Language StmtKind
choice d test body = do
  word d (codes "if")
  c ← header d (part test)
  a ← body
  (word d (codes "else") >> (body >>= (λ b. give (If c a (Some b)))))
      or (lacks (is_word (codes "else")) >> give (If c a None))

-- "while" "(" expr ")" stmt
abbrev pub loop : ℕ → Language Expr → Language Stmt → Language StmtKind
loop d test body = word d (codes "while") >> (header d (part test) >>= (λ c. body >>= (λ b. give (While c b))))

-- "for" "(" set? ";" expr? ";" set? ")" stmt
abbrev pub for_loop : ℕ → Language Assign → Language Expr → Language Stmt → Language StmtKind
for_loop d set test body = word d (codes "for") >> (header d head >>= (λ make. body >>= (λ b. give (make b))))
  where
    head : Language (Stmt → StmtKind)
    head = do
      i ← maybe (part set)
      mark (suc d) m.Semicolon
      c ← maybe (part test)
      mark (suc d) m.Semicolon
      e ← maybe (part set)
      give (λ b. For i c e b)

-- "forall" "(" set ";" expr ";" set ")" stmt
abbrev pub forall_loop : ℕ → Language Assign → Language Expr → Language Stmt → Language StmtKind
forall_loop d set test body = word d (codes "forall") >> (header d head >>= (λ make. body >>= (λ b. give (make b))))
  where
    head : Language (Stmt → StmtKind)
    head = do
      i ← part set
      mark (suc d) m.Semicolon
      c ← part test
      mark (suc d) m.Semicolon
      e ← part set
      give (λ b. Forall i c e b)

-- a body in braces as a statement
abbrev pub block : ℕ → Language Expr → Language Stmt → Language Stmt
block d value stmt = placed statement (braces d value stmt >>= (λ b. give (Block b)))

-- A statement that isn't one in braces, given the statements one deeper and its bodies. What it holds is nested at most
-- so often.
abbrev pub bare : ℕ → ℕ → Language Stmt → Language Stmt → Language Stmt
bare nested d stmt body =
    simple (suc nested) d inner
    or placed statement (parallel d stmt)
    or placed statement (choice d inner body)
    or placed statement (loop d inner body)
    or placed statement (for_loop d (assignment nested (suc d)) inner body)
    or placed statement (forall_loop d (assignment nested (suc d)) inner body)
  where
    inner : Language Expr
    inner = expr nested (suc d)

-- whether a statement stands in braces
pub data Form : Type 0 where
  Braced : Form
  Bare : Form

-- a statement in braces or a bare one, nested at most so often
abbrev pub formed : ℕ → Form → ℕ → Language Stmt
formed zero form d = never
formed (suc nested) Braced d =
    block d (expr nested (suc d)) (formed nested Braced (suc d) or formed nested Bare (suc d))
formed (suc nested) Bare d =
    bare nested d (formed nested Braced (suc d) or formed nested Bare (suc d))
    (block d (expr nested (suc d)) (formed nested Braced (suc d) or formed nested Bare (suc d))
    or formed nested Bare (suc d))

abbrev pub stmt : ℕ → ℕ → Language Stmt
stmt nested d = formed nested Braced d or formed nested Bare d
