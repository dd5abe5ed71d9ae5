-- The counts that a text's program keeps are kept by its simple form, whose functions have names of code.
use Rattle.std.specs.Prelude.{◌≡◌, ℕ, suc, ◌+◌, ◌≤◌, ◌==◌, Bool, true, ◌&&◌, ◌||◌, nat_lt, nat_le, List, length, Some, slice_get}
use Rattle.std.specs.List.{list_all}
use Rattle.ec_base.specs.declared.limits.TheConstants.{MAX_BRANCHES, MAX_CODE_NAME, MAX_NAME, MAX_PRINT_ARGUMENTS, MAX_SOURCE, MAX_STRING, MAX_STRUCT_CELLS, MAX_STRUCTS}
use Rattle.ec_base.specs.declared.text.Text.{Text}
use Rattle.ec_base.specs.declared.token.Token.{Token}
use Rattle.ec_base.specs.Lexical.{AreTokens, is_identifier, is_word_byte}
use Rattle.ec_calls.specs.Items.{functions, structs}
use Rattle.ec_simple.specs.declared.form.Form.{Form}
use Rattle.ec_simple.specs.declared.form.SStmt.{SStmt, fold-SStmt}
use Rattle.ec_simple.specs.declared.form.SStmt.TheOpen.{SStmt-F, SForall-F, SBranch-F}
use Rattle.ec_simple.specs.Lower.{lowered}
use Rattle.ec_syntax.specs.declared.item.Program.{Program as Source}
use Rattle.ec_syntax.specs.Grammar.Reading.{Reads}
use Rattle.ec_types.specs.Meaning.Resolution as resolution
use Rattle.ec_types.specs.Meaning.Tree.{Exprs, Last, Arg, Stmt, Block, Par, If, While, For, Forall, Print, Else, NoElse, Otherwise, Stmts, End, Then, Function}
use Rattle.ec_types.specs.Programs.{IsTyped}

-- ---- forms

-- letters, digits, `_` and `.`
abbrev pub is_code_byte : ℕ → Bool
is_code_byte b = is_word_byte b || (b == 46)

abbrev pub is_code_name : Text → Bool
is_code_name name = nat_lt 0 (length name) && nat_le (length name) MAX_CODE_NAME && list_all is_code_byte name

abbrev pub all_keep : List Bool → Bool
all_keep bs = list_all (λ b. b) bs

abbrev pub keeps_in_branch : SBranch-F Bool Bool Bool → Bool
keeps_in_branch b = all_keep b.before

abbrev pub keeps_in_forall : SForall-F Bool Bool Bool → Bool
keeps_in_forall l = all_keep l.init && all_keep l.before && all_keep l.step

abbrev pub keeps_in : SStmt-F Bool Bool Bool → Bool
keeps_in (SStmt-F.Print string xs) = nat_le (length string) MAX_STRING && nat_le (length xs) MAX_PRINT_ARGUMENTS
keeps_in (SStmt-F.If x a b) = all_keep a && all_keep b
keeps_in (SStmt-F.Loop before test body) = all_keep before && all_keep body
keeps_in (SStmt-F.Par at bs) = nat_le (length bs) MAX_BRANCHES && all_keep bs
keeps_in (SStmt-F.Forall l) = l
keeps_in s = true

abbrev pub keeps : SStmt → Bool
keeps = fold-SStmt Bool Bool Bool keeps_in keeps_in_branch keeps_in_forall

pub record KeepsCounts (s : Form) : Type 0 where
  pub names : list_all (λ f. is_code_name f.name) s.funcs ≡ true
  pub shapes : length s.shapes ≤ MAX_STRUCTS + 2
  pub cells : list_all (λ d. nat_le d.cells MAX_STRUCT_CELLS) s.shapes ≡ true
  pub code : list_all (λ f. list_all keeps f.body) s.funcs ≡ true

abbrev pub CountsAreKept : Type 0
CountsAreKept =
    (tokens : List Token) (p : Source) → AreTokens tokens → Reads tokens p → IsTyped p → KeepsCounts (lowered p)

-- ---- resolved trees

abbrev pub few_arguments : Exprs → ℕ
few_arguments Last = 0
few_arguments (Arg a es) = suc (few_arguments es)

abbrev pub branches_in : Stmts → ℕ
branches_in End = 0
branches_in (Then s ss) = suc (branches_in ss)

abbrev mutual
  pub stmt_keeps : Stmt → Bool
  stmt_keeps (Block ds ss) = stmts_keep ss
  stmt_keeps (Par at ss) = nat_le (branches_in ss) MAX_BRANCHES && stmts_keep ss
  stmt_keeps (If a s z) = stmt_keeps s && else_keeps z
  stmt_keeps (While a s) = stmt_keeps s
  stmt_keeps (For at a e b s) = stmt_keeps s
  stmt_keeps (Forall at a e b s) = stmt_keeps s
  stmt_keeps (Print string es) = nat_le (length string) MAX_STRING && nat_le (few_arguments es) MAX_PRINT_ARGUMENTS
  stmt_keeps s = true

  pub else_keeps : Else → Bool
  else_keeps NoElse = true
  else_keeps (Otherwise s) = stmt_keeps s

  pub stmts_keep : Stmts → Bool
  stmts_keep End = true
  stmts_keep (Then s ss) = stmt_keeps s && stmts_keep ss

-- how many statements there are, those in others too
abbrev mutual
  pub size : Stmt → ℕ
  size (Block ds ss) = suc (sizes ss)
  size (Par at ss) = suc (sizes ss)
  size (If a s z) = suc (size s + else_size z)
  size (While a s) = suc (size s)
  size (For at a e b s) = suc (size s)
  size (Forall at a e b s) = suc (size s)
  size s = 1

  pub else_size : Else → ℕ
  else_size NoElse = 0
  else_size (Otherwise s) = size s

  pub sizes : Stmts → ℕ
  sizes End = 0
  sizes (Then s ss) = size s + sizes ss

pub record FunctionKeeps (f : Function) : Type 0 where
  pub body : stmts_keep f.body ≡ true
  pub few : sizes f.body ≤ MAX_SOURCE + 1

abbrev pub is_short_name : Text → Bool
is_short_name name = is_identifier name && nat_le (length name) MAX_NAME

-- what is known of a program that a text has
pub record ProgramKeeps (p : Source) : Type 0 where
  pub structs_few : length (structs p) ≤ MAX_STRUCTS
  pub names : list_all (λ f. is_short_name f.name.text) (functions p) ≡ true
  pub functions_keep : (k : ℕ) (f : Function) → slice_get (resolution.program p) k ≡ Some f → FunctionKeeps f
