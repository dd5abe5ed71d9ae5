-- The reader on short texts: what is a program is read, and what is none is refused where it should be. A text is given by
-- the kinds of its tokens; the token of number n stands at the byte n.
use Rattle.std.proofs.Common.{◌≡◌, refl, ℕ, zero, suc, ◌+◌, List, [], ◌∷◌, ◌++◌, codes}
use Rattle.std.specs.Prelude.{pos, Option, Some, None}
use Rattle.ec_base.specs.declared.operator.BinOp.TheVariants.{Add, Sub, Mul}
use Rattle.ec_base.specs.declared.token.Mark.TheVariants as m
use Rattle.ec_base.specs.declared.token.Token.{Token}
use Rattle.ec_base.specs.declared.token.TokenKind.{TokenKind}
use Rattle.ec_base.specs.declared.token.TokenKind.TheVariants as t
use Rattle.ec_syntax.specs.declared.expression.Expr.{Expr}
use Rattle.ec_syntax.specs.declared.expression.ExprKind.TheVariants.{Number, Var, Binary}
use Rattle.ec_syntax.specs.declared.quantity.Fault.{Fault}
use Rattle.ec_syntax.specs.declared.quantity.Fault.TheVariants.{Expected, Passes}
use Rattle.ec_syntax.specs.declared.quantity.Quantity.TheVariants.{Nesting, Marks, Arguments}
use Rattle.ec_syntax.specs.declared.statement.StmtKind.TheVariants.{Empty, If}
use Rattle.ec_syntax.specs.Grammar.Expressions.{expression}
use Rattle.ec_syntax.specs.Grammar.Language.{span}
use Rattle.ec_syntax.specs.Descent.Reader.{Outcome}
use Rattle.ec_syntax.specs.Descent.Reader.Outcome.{Done, Stopped}
use Rattle.ec_syntax.specs.Descent.Expressions.{expr}
use Rattle.ec_syntax.specs.Descent.Statements.{assignment, stmt}
use Rattle.ec_syntax.specs.Grammar.Statements.{statement}
use Rattle.ec_syntax.specs.Descent.Items.{read}
use Rattle.ec_syntax.specs.Grammar.Reading.{start}

abbrev at : ℕ → TokenKind → Token
at n kind = record { kind = kind; at = record { from = n; to = n + 1 } }

abbrev numbered : ℕ → List TokenKind → List Token
numbered n [] = []
numbered n (k ∷ ks) = at n k ∷ numbered (n + 1) ks

abbrev many : ℕ → List TokenKind → List TokenKind
many zero ks = []
many (suc n) ks = ks ++ many n ks

-- why reading stops, and where
abbrev first_at : List Token → ℕ
first_at [] = 0
first_at (x ∷ rest) = x.at.from

abbrev stop_of : {A : Type 0} → Outcome A → Option (Fault × ℕ)
stop_of (Done a s) = None
stop_of (Stopped fault left) = Some (fault, first_at left)

abbrev answer : List TokenKind → Option (Fault × ℕ)
answer ks = stop_of (read (start (numbered 0 (ks ++ t.End ∷ []))))

abbrev value_of : {A : Type 0} → Outcome A → Option A
value_of (Done a s) = Some a
value_of (Stopped fault left) = None

-- `int main(){`, five tokens
abbrev head : List TokenKind
head = t.Word (codes "int") ∷ t.Word (codes "main") ∷ t.Mark m.OpenParen ∷ t.Mark m.CloseParen ∷ t.Mark m.OpenBrace ∷ []

abbrev main : List TokenKind → List TokenKind
main ks = head ++ (ks ++ t.Mark m.CloseBrace ∷ [])

-- ---- programs, and none

empty_text : answer [] ≡ None
empty_text = refl

unfinished : answer (head ++ t.Word (codes "return") ∷ []) ≡ Some (Expected, 6)
unfinished = refl

abbrev parentheses : ℕ → List TokenKind
parentheses n =
    main (t.Word (codes "return") ∷ many n (t.Mark m.OpenParen ∷ []) ++ t.Number (pos 0) ∷ many n (t.Mark m.CloseParen ∷ []) ++ t.Mark m.Semicolon ∷ [])

deep_enough : answer (parentheses 63) ≡ None
deep_enough = refl

too_deep : answer (parentheses 64) ≡ Some (Passes Nesting, 70)
too_deep = refl

-- `printf("", 0, ..);` with so many values
abbrev printing : ℕ → List TokenKind
printing n =
    main (t.Word (codes "printf") ∷ t.Mark m.OpenParen ∷ t.Str [] ∷ many n (t.Mark m.Comma ∷ t.Number (pos 0) ∷ []) ++ t.Mark m.CloseParen ∷ t.Mark m.Semicolon ∷ [])

eight_values : answer (printing 8) ≡ None
eight_values = refl

nine_values : answer (printing 9) ≡ Some (Passes Arguments, 25)
nine_values = refl

-- `x = 0 + 0 + ..;` with so many signs
abbrev sums : ℕ → List TokenKind
sums n = main (t.Word (codes "x") ∷ t.Mark m.Assign ∷ t.Number (pos 0) ∷ many n (t.Mark m.Plus ∷ t.Number (pos 0) ∷ []) ++ t.Mark m.Semicolon ∷ [])

marks_enough : answer (sums 255) ≡ None
marks_enough = refl

-- the `=` and 256 signs: the last is one too many
many_marks : answer (sums 256) ≡ Some (Passes Marks, 518)
many_marks = refl

-- a parallel sequence as the body of an `if` is no block: its branches are nested two deeper
abbrev sequences : ℕ → List TokenKind
sequences n =
    main (many n (t.Word (codes "if") ∷ t.Mark m.OpenParen ∷ t.Number (pos 1) ∷ t.Mark m.CloseParen ∷ t.Mark m.OpenPar ∷ []) ++ t.Mark m.Semicolon ∷ many n (t.Mark m.ClosePar ∷ []))

sequences_fit : answer (sequences 31) ≡ None
sequences_fit = refl

sequences_too_deep : answer (sequences 32) ≡ Some (Passes Nesting, 165)
sequences_too_deep = refl

-- an `else` without an `if`
lonely : answer (main (t.Word (codes "else") ∷ t.Mark m.Semicolon ∷ [])) ≡ Some (Expected, 5)
lonely = refl

-- `void` alone among parameters, and before a name
void_parameters : answer (t.Word (codes "int") ∷ t.Word (codes "f") ∷ t.Mark m.OpenParen ∷ t.Word (codes "void") ∷
    t.Mark m.CloseParen ∷ t.Mark m.OpenBrace ∷ t.Mark m.CloseBrace ∷ []) ≡ None
void_parameters = refl

-- ---- trees

abbrev number : ℕ → ℕ → Expr
number n place = expression (Number (pos n)) (span place (place + 1))

-- `1 - 2 - 3`, to the left
differences : value_of (expr 9 (start (numbered 0
    (t.Number (pos 1) ∷ t.Mark m.Minus ∷ t.Number (pos 2) ∷ t.Mark m.Minus ∷ t.Number (pos 3) ∷ t.Mark m.Semicolon ∷
    []))))
    ≡ Some (expression (Binary Sub (expression (Binary Sub (number 1 0) (number 2 2)) (span 0 3)) (number 3 4)) (span 0 5))
differences = refl

-- `1 - 2 * 3`, the product first
products : value_of (expr 9 (start (numbered 0
    (t.Number (pos 1) ∷ t.Mark m.Minus ∷ t.Number (pos 2) ∷ t.Mark m.Star ∷ t.Number (pos 3) ∷ t.Mark m.Semicolon ∷
    []))))
    ≡ Some (expression (Binary Sub (number 1 0) (expression (Binary Mul (number 2 2) (number 3 4)) (span 2 5))) (span 0 5))
products = refl

-- `i++` is `i = i + 1`, each at the place of `i`
abbrev variable : List ℕ → ℕ → Expr
variable w place = expression (Var w) (span place (place + 1))

increment : value_of (assignment 9 (start
    (numbered 0 (t.Word (codes "i") ∷ t.Mark m.Increment ∷ t.Mark m.Semicolon ∷ []))))
    ≡ Some (record { left = variable (codes "i") 0; right = expression (Binary Add (variable (codes "i") 0) (number 1 0)) (span 0 1) })
increment = refl

-- `if (1) if (2) ; else ;`: the `else` goes with the second `if`
nearest : value_of (stmt 9 (start (numbered 0 (
    t.Word (codes "if") ∷ t.Mark m.OpenParen ∷ t.Number (pos 1) ∷ t.Mark m.CloseParen
    ∷ t.Word (codes "if") ∷ t.Mark m.OpenParen ∷ t.Number (pos 2) ∷ t.Mark m.CloseParen ∷ t.Mark m.Semicolon
    ∷ t.Word (codes "else") ∷ t.Mark m.Semicolon ∷ t.Mark m.CloseBrace ∷ []))))
    ≡ Some (statement (If (number 1 2) (statement (If (number 2 6) (statement Empty (span 8 9)) (Some (statement Empty (span 10 11)))) (span 4 11)) None) (span 0 11))
nearest = refl
