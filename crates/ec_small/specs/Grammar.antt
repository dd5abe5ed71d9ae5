-- The grammar of small programs, one rule for each production, over the kinds of tokens.
--
-- `IsSum n i names ts e j rest` says that a sum with the tree e, over these declared names, stands at the front of ts
-- before rest; that no token of it stands under more than n parentheses of its own; and that of the i operators and
-- brackets that its statement may still have, j are left after it. A pair of brackets takes two at its opening.
use Rattle.std.specs.Prelude.{◌≡◌, ◌≤◌, ◌<◌, ℕ, ℤ, zero, suc, ◌+◌, true, List, [], ◌∷◌, ◌++◌, length, map, take, Option, Some, None, codes, Result, Ok, Err}
use Rattle.ec_base.specs.Format.{conversions}
use Rattle.ec_base.specs.declared.fail.Fail.{Fail}
use Rattle.ec_base.specs.declared.fail.Fail.TheVariants.{Memory, Refused}
use Rattle.ec_base.specs.declared.token.Token.{Token}
use Rattle.ec_base.specs.declared.token.TokenKind.{TokenKind}
use Rattle.ec_base.specs.declared.token.TokenKind.TheVariants as t
use Rattle.ec_base.specs.declared.token.Mark.TheVariants as m
use Rattle.ec_small.specs.declared.tree.Operator.TheVariants as operator
use Rattle.ec_small.specs.declared.tree.Expr.{Expr}
use Rattle.ec_small.specs.declared.tree.Expr.TheVariants.{Number, Var, Binary}
use Rattle.ec_small.specs.declared.tree.Stmt.{Stmt}
use Rattle.ec_small.specs.declared.tree.Stmt.TheVariants.{Set, Print}
use Rattle.ec_small.specs.declared.tree.Program.{Program}
use Rattle.ec_small.specs.Words.{place, is_name}
use Rattle.ec_base.specs.Lexical.{AllLexical}

abbrev pub Kinds : Type 0
Kinds = List TokenKind

abbrev pub Names : Type 0
Names = List (List ℕ)

-- ---- expressions

mutual
  pub data IsItem : ℕ → ℕ → Names → Kinds → Expr → ℕ → Kinds → Type 0 where
    number : {n i : ℕ} {names : Names} {v : ℤ} {rest : Kinds} → IsItem n i names (t.Number v ∷ rest) (Number v) i rest
    variable : {n i : ℕ} {names : Names} {w : List ℕ} {k : ℕ} {rest : Kinds} → place names w ≡ Some k →
        IsItem n i names (t.Word w ∷ rest) (Var k) i rest
    nested : {n i j : ℕ} {names : Names} {ts rest : Kinds} {e : Expr} →
        IsSum n i names ts e j (t.Mark m.CloseParen ∷ rest) →
        IsItem (suc n) (suc (suc i)) names (t.Mark m.OpenParen ∷ ts) e j rest

  pub data IsProduct : ℕ → ℕ → Names → Kinds → Expr → ℕ → Kinds → Type 0 where
    single : {n i j : ℕ} {names : Names} {ts rest : Kinds} {e : Expr} →
        IsItem n i names ts e j rest → IsProduct n i names ts e j rest
    times : {n i j k : ℕ} {names : Names} {ts us rest : Kinds} {a b : Expr} →
        IsProduct n i names ts a (suc j) (t.Mark m.Star ∷ us) → IsItem n j names us b k rest →
        IsProduct n i names ts (Binary operator.Mul a b) k rest

  pub data IsSum : ℕ → ℕ → Names → Kinds → Expr → ℕ → Kinds → Type 0 where
    one : {n i j : ℕ} {names : Names} {ts rest : Kinds} {e : Expr} →
        IsProduct n i names ts e j rest → IsSum n i names ts e j rest
    plus : {n i j k : ℕ} {names : Names} {ts us rest : Kinds} {a b : Expr} →
        IsSum n i names ts a (suc j) (t.Mark m.Plus ∷ us) → IsProduct n j names us b k rest →
        IsSum n i names ts (Binary operator.Add a b) k rest
    minus : {n i j k : ℕ} {names : Names} {ts us rest : Kinds} {a b : Expr} →
        IsSum n i names ts a (suc j) (t.Mark m.Minus ∷ us) → IsProduct n j names us b k rest →
        IsSum n i names ts (Binary operator.Sub a b) k rest

-- ---- declarations

-- a word that may be declared after these names, of which there are at most 256
pub record IsNew (names : Names) (w : List ℕ) : Type 0 where
  pub name : is_name w ≡ true
  pub fresh : place names w ≡ None
  pub room : length names < 256

-- `IsDecls names ts inits after rest`: declarations, after which these names are declared. A name is declared in its
-- own initialiser. An initialiser may have 256 operators and brackets, and its tokens stand in the block.
pub data IsDecls : Names → Kinds → List (Option Expr) → Names → Kinds → Type 0 where
  none : {names : Names} {ts : Kinds} → IsDecls names ts [] names ts
  plain : {names after : Names} {int w : List ℕ} {ts rest : Kinds} {inits : List (Option Expr)} →
      int ≡ codes "int" → IsNew names w → IsDecls (names ++ w ∷ []) ts inits after rest →
      IsDecls names (t.Word int ∷ t.Word w ∷ t.Mark m.Semicolon ∷ ts) (None ∷ inits) after rest
  initial : {j : ℕ} {names after : Names} {int w : List ℕ} {ts us rest : Kinds} {e : Expr} {inits : List (Option Expr)} →
      int ≡ codes "int" → IsNew names w → IsSum 63 256 (names ++ w ∷ []) ts e j (t.Mark m.Semicolon ∷ us) →
      IsDecls (names ++ w ∷ []) us inits after rest →
      IsDecls names (t.Word int ∷ t.Word w ∷ t.Mark m.Assign ∷ ts) (Some e ∷ inits) after rest

-- ---- statements

-- `IsArgs names count i ts es rest`: so many arguments of a `printf`, each after its comma
pub data IsArgs : Names → ℕ → ℕ → Kinds → List Expr → Kinds → Type 0 where
  none : {i : ℕ} {names : Names} {ts : Kinds} → IsArgs names zero i ts [] ts
  more : {count i j : ℕ} {names : Names} {ts us rest : Kinds} {e : Expr} {es : List Expr} →
      IsSum 62 i names ts e j us → IsArgs names count j us es rest →
      IsArgs names (suc count) i (t.Mark m.Comma ∷ ts) (e ∷ es) rest

-- a string that `printf` takes with so many arguments
pub record IsFormat (s : List ℕ) (count : ℕ) : Type 0 where
  pub short : length s ≤ 255
  pub asks : conversions s ≡ Some count
  pub few : count ≤ 8

pub data IsStmt : Names → Kinds → Stmt → Kinds → Type 0 where
  set : {k j : ℕ} {names : Names} {w : List ℕ} {ts rest : Kinds} {e : Expr} →
      place names w ≡ Some k → IsSum 63 255 names ts e j (t.Mark m.Semicolon ∷ rest) →
      IsStmt names (t.Word w ∷ t.Mark m.Assign ∷ ts) (Set k e) rest
  print : {count : ℕ} {names : Names} {w s : List ℕ} {ts rest : Kinds} {es : List Expr} →
      w ≡ codes "printf" → IsFormat s count →
      IsArgs names count 254 ts es (t.Mark m.CloseParen ∷ t.Mark m.Semicolon ∷ rest) →
      IsStmt names (t.Word w ∷ t.Mark m.OpenParen ∷ t.Str s ∷ ts) (Print s es) rest

pub data IsStmts : Names → Kinds → List Stmt → Kinds → Type 0 where
  none : {names : Names} {ts : Kinds} → IsStmts names ts [] ts
  more : {names : Names} {ts us rest : Kinds} {s : Stmt} {ss : List Stmt} →
      IsStmt names ts s us → IsStmts names us ss rest → IsStmts names ts (s ∷ ss) rest

-- ---- programs

-- `int main()` or `int main(void)` and the opening brace
pub data IsHead : Kinds → Kinds → Type 0 where
  bare : {int main : List ℕ} {rest : Kinds} → int ≡ codes "int" → main ≡ codes "main" →
      IsHead (t.Word int ∷ t.Word main ∷ t.Mark m.OpenParen ∷ t.Mark m.CloseParen ∷ t.Mark m.OpenBrace ∷ rest) rest
  void : {int main void : List ℕ} {rest : Kinds} → int ≡ codes "int" → main ≡ codes "main" → void ≡ codes "void" →
      IsHead (t.Word int ∷ t.Word main ∷ t.Mark m.OpenParen ∷ t.Word void ∷ t.Mark m.CloseParen ∷ t.Mark m.OpenBrace ∷ rest) rest

pub data IsProgram : Kinds → Program → Type 0 where
  program : {j : ℕ} {ts us vs ws : Kinds} {names : Names} {inits : List (Option Expr)} {stmts : List Stmt} {return : List ℕ} {e : Expr} →
      IsHead ts us → IsDecls [] us inits names vs → IsStmts names vs stmts (t.Word return ∷ ws) → return ≡ codes "return" →
      IsSum 63 256 names ws e j (t.Mark m.Semicolon ∷ t.Mark m.CloseBrace ∷ t.End ∷ []) →
      IsProgram ts (record { inits = inits; stmts = stmts; result = e })

-- ---- tokens

abbrev pub kinds : List Token → Kinds
kinds tokens = map (λ x. x.kind) tokens

-- these tokens are a small program with this tree
abbrev pub Reads : List Token → Program → Type 0
Reads tokens p = IsProgram (kinds tokens) p

-- some small program begins with these kinds of tokens, whatever words, numbers and strings it goes on with
abbrev pub Begins : Kinds → Type 0
Begins ts = (others : Kinds) × (p : Program) × IsProgram (ts ++ others) p

-- some small program begins with these kinds of tokens, and goes on with tokens that a source text can give
abbrev pub BeginsLexically : Kinds → Type 0
BeginsLexically ts = (others : Kinds) × (p : Program) × IsProgram (ts ++ others) p × AllLexical others

-- the token at this place is the first after which no small program continues; at the end, the tokens are the beginning
-- of a small program and none themselves
pub record Refuses (tokens : List Token) (at : ℕ) : Type 0 where
  pub before : BeginsLexically (take at (kinds tokens))
  pub here : at < length tokens → Begins (take (at + 1) (kinds tokens)) → ⊥
  pub no_program : (p : Program) → Reads tokens p → ⊥
  pub within : at ≤ length tokens

-- what a reader answers: the tree of the tokens, or the place where no small program goes on
abbrev pub Answered : List Token → Result Program (Fail ℕ) → Type 0
Answered tokens (Ok p) = Reads tokens p
Answered tokens (Err (Refused at)) = Refuses tokens at
Answered tokens (Err Memory) = Unit {0}
