-- Tokens of a whole text that are no program are refused at one of them, at the last where no other: a program ends with
-- the end, and there is nothing behind it.
use Rattle.std.proofs.Common.{◌≡◌, ◌≤◌, ◌<◌, ◌⊎◌, inl, inr, ℕ, Option, Bool, true, false, cond, List, [], ◌∷◌, ◌++◌, length, take, refl, ap, ◌∙◌, subst, append-nil, arith}
use Rattle.std.proofs.lemmas.Bool.{cases_order, false≢true}
use Rattle.std.proofs.lemmas.List.{length-map, take_all}
use Rattle.ec_base.specs.declared.token.Token.{Token}
use Rattle.ec_base.specs.Lexical.{AreTokens, Rises, last, next, is_end}
use Rattle.ec_small.specs.declared.tree.Expr.{Expr}
use Rattle.ec_small.specs.declared.tree.Program.{Program}
use Rattle.ec_small.specs.declared.tree.Stmt.{Stmt}
use Rattle.ec_small.specs.Grammar.{Kinds, Names, IsItem, number, variable, nested, IsProduct, single, times, IsSum, one, plus, minus, IsDecls, plain, initial, IsArgs, IsStmt, set, print, IsStmts, IsHead, bare, void, IsProgram, program, Refuses, kinds}
use Rattle.ec_small.specs.Grammar as spec

abbrev is_empty : Kinds → Bool
is_empty [] = true
is_empty (k ∷ ks) = false

-- there is an end, and nothing behind the first one
abbrev closed : Kinds → Bool
closed [] = false
closed (k ∷ ks) = cond (is_end k) (is_empty ks) (closed ks)

-- ---- no part of a program has an end

mutual
  in_item : {n i j : ℕ} {names : Names} {ts rest : Kinds} {e : Expr} → IsItem n i names ts e j rest → closed ts ≡ closed rest
  in_item number = refl
  in_item (variable is) = refl
  in_item (nested s) = in_sum s

  in_product : {n i j : ℕ} {names : Names} {ts rest : Kinds} {e : Expr} → IsProduct n i names ts e j rest → closed ts ≡ closed rest
  in_product (single x) = in_item x
  in_product (times a b) = in_product a ∙ in_item b

  in_sum : {n i j : ℕ} {names : Names} {ts rest : Kinds} {e : Expr} → IsSum n i names ts e j rest → closed ts ≡ closed rest
  in_sum (one x) = in_product x
  in_sum (plus a b) = in_sum a ∙ in_product b
  in_sum (minus a b) = in_sum a ∙ in_product b

in_decls : {names after : Names} {ts rest : Kinds} {inits : List (Option Expr)} → IsDecls names ts inits after rest → closed ts ≡ closed rest
in_decls spec.IsDecls.none = refl
in_decls (plain int new more) = in_decls more
in_decls (initial int new s more) = in_sum s ∙ in_decls more

in_args : {names : Names} {count i : ℕ} {ts rest : Kinds} {es : List Expr} → IsArgs names count i ts es rest → closed ts ≡ closed rest
in_args spec.IsArgs.none = refl
in_args (spec.IsArgs.more s more) = in_sum s ∙ in_args more

in_stmt : {names : Names} {ts rest : Kinds} {s : Stmt} → IsStmt names ts s rest → closed ts ≡ closed rest
in_stmt (set is s) = in_sum s
in_stmt (print is format args) = in_args args

in_stmts : {names : Names} {ts rest : Kinds} {ss : List Stmt} → IsStmts names ts ss rest → closed ts ≡ closed rest
in_stmts spec.IsStmts.none = refl
in_stmts (spec.IsStmts.more s more) = in_stmt s ∙ in_stmts more

in_head : {ts rest : Kinds} → IsHead ts rest → closed ts ≡ closed rest
in_head (bare int main) = refl
in_head (void int main is) = refl

program_closed : {ts : Kinds} {p : Program} → IsProgram ts p → closed ts ≡ true
program_closed (program head decls stmts return result) = in_head head ∙ in_decls decls ∙ in_stmts stmts ∙ in_sum result

-- ---- tokens

tokens_closed : {from : ℕ} {tokens : List Token} → Rises from tokens → closed (kinds tokens) ≡ true
tokens_closed (last end from to) = rw end refl
tokens_closed (next other from some more) = rw other (tokens_closed more)

behind_end : (is : Bool) (ks others : Kinds) → cond is (is_empty ks) (closed ks) ≡ true → cond is (is_empty (ks ++ others)) (closed (ks ++ others)) ≡ true →
    (closed ks ≡ true → closed (ks ++ others) ≡ true → others ≡ []) → others ≡ []
behind_end true [] [] h g more = refl
behind_end true [] (o ∷ others) h g more = absurd (false≢true g)
behind_end true (k ∷ ks) others h g more = absurd (false≢true h)
behind_end false ks others h g more = more h g

nothing_behind : (ks others : Kinds) → closed ks ≡ true → closed (ks ++ others) ≡ true → others ≡ []
nothing_behind [] others h g = absurd (false≢true h)
nothing_behind (k ∷ ks) others h g = behind_end (is_end k) ks others h g (nothing_behind ks others)

-- all the tokens of a text begin a program only where they are one
begun_is_program : {from : ℕ} (tokens : List Token) (others : Kinds) (p : Program) → Rises from tokens → IsProgram (kinds tokens ++ others) p → IsProgram (kinds tokens) p
begun_is_program tokens others p rising is =
    let none : others ≡ [] = nothing_behind (kinds tokens) others (tokens_closed rising) (program_closed is) in
    subst (λ l. IsProgram l p) (ap (λ l. kinds tokens ++ l) none ∙ append-nil (kinds tokens)) is

not_past : (tokens : List Token) (at : ℕ) → AreTokens tokens → Refuses tokens at → length tokens ≤ at → ⊥
not_past tokens at are r h =
    let whole : take at (kinds tokens) ≡ kinds tokens = take_all at (kinds tokens) (omega (arith, h, length-map tokens (λ (x : Token). x.kind))) in
    let begun = r.before in
    r.no_program begun.1 (begun_is_program tokens begun.0 begun.1 are.rising (subst (λ l. IsProgram (l ++ begun.0) begun.1) whole begun.2))

by_order : (tokens : List Token) (at : ℕ) → AreTokens tokens → Refuses tokens at → ((at ≡ length tokens) ⊎ ((at < length tokens) ⊎ (length tokens < at))) → at < length tokens
by_order tokens at are r (inl h) = absurd (not_past tokens at are r (omega (arith, h)))
by_order tokens at are r (inr (inl h)) = h
by_order tokens at are r (inr (inr h)) = absurd (not_past tokens at are r (omega (arith, h)))

pub refuses_a_token : (tokens : List Token) (at : ℕ) → AreTokens tokens → Refuses tokens at → at < length tokens
refuses_a_token tokens at are r = by_order tokens at are r (cases_order at (length tokens))
