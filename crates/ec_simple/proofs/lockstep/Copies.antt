-- What a branch or body copies in is all that it uses of its scope; what it doesn't copy out it leaves as it is.
use Rattle.std.proofs.Common.{ℕ, ◌<◌, ◌⊎◌, ⊎_elim, false, List, ◌++◌, length}
use Rattle.ec_simple.specs.declared.form.Shape.{Shape}
use Rattle.ec_simple.specs.Expressions.{Scope}
use Rattle.ec_simple.specs.Sound.{IsIn, IsNew, SoundStmt}
use Rattle.ec_simple.specs.Statements.{copied_in, copied_out}
use Rattle.ec_simple.specs.Uses.{Use, stmt_reads, stmt_writes, declares, outside}
use Rattle.ec_simple.proofs.lockstep.Narrow.{Keep}
use Rattle.ec_simple.proofs.lockstep.Scopes.{stmt_reads_known, stmt_writes_known, declares_new}
use Rattle.ec_simple.proofs.lockstep.Used.{IsUsed, names, used_front, used_back, used_either, outside_used, in_outside, in_numbers, numbers_used}
use Rattle.ec_simple.proofs.lockstep.Variables.{Within, in_either, not_both, new_of}
use Rattle.ec_types.specs.Meaning.Tree.{Stmt}

module _ (shapes : List Shape) (c : Scope) (more : List Use) (x : Stmt) (sc : List ℕ)
    (sound : SoundStmt shapes c false sc x)
    (below : (y : ℕ) → IsIn y sc → y < length c.variables) (header : (y : ℕ) → IsUsed y more → IsIn y sc) where
  abbrev ins : List ℕ
  ins = copied_in c more x

  abbrev outs : List ℕ
  outs = copied_out c x

  abbrev all_uses : List Use
  all_uses = stmt_reads x ++ stmt_writes x

  declared_apart : (y : ℕ) → IsIn y sc → IsNew y (declares x)
  declared_apart y i = new_of y (declares x) (λ d. declares_new shapes c false sc x sound y d i)

  known_in : (y : ℕ) → IsIn y sc ⊎ IsIn y (declares x) → IsNew y (declares x) → IsIn y sc
  known_in y h n = ⊎_elim (λ i. i) (λ i. absurd (not_both y (declares x) i n)) h

  used_in : (y : ℕ) → IsUsed y (outside (declares x) all_uses) → IsIn y sc
  used_in y h =
      let r = outside_used (declares x) all_uses y h in
      known_in y
      (⊎_elim (λ i. stmt_reads_known shapes c false sc x sound y i)
      (λ i. stmt_writes_known shapes c false sc x sound y i)
      (used_either y (stmt_reads x) (stmt_writes x) r.0))
      r.1

  pub ins_in : Within ins sc
  ins_in y h =
      ⊎_elim (λ i. header y i) (λ i. used_in y i)
      (used_either y more (outside (declares x) all_uses)
      (numbers_used (length c.variables) (more ++ outside (declares x) all_uses) y h))

  pub outside_reads_in : (y : ℕ) → IsUsed y (outside (declares x) (stmt_reads x)) → IsIn y sc
  outside_reads_in y h =
      let r = outside_used (declares x) (stmt_reads x) y h in
      known_in y (stmt_reads_known shapes c false sc x sound y r.0) r.1

  pub outside_writes_in : (y : ℕ) → IsUsed y (outside (declares x) (stmt_writes x)) → IsIn y sc
  outside_writes_in y h =
      let r = outside_used (declares x) (stmt_writes x) y h in
      known_in y (stmt_writes_known shapes c false sc x sound y r.0) r.1

  copies : (y : ℕ) → IsUsed y all_uses → IsIn y sc → IsIn y ins
  copies y h i =
      in_numbers (length c.variables) (more ++ outside (declares x) all_uses) y (below y i)
      (used_back y more (outside (declares x) all_uses) (in_outside (declares x) all_uses y h (declared_apart y i)))

  pub reads_copied : Keep sc ins (stmt_reads x)
  reads_copied y h i = copies y (used_front y (stmt_reads x) (stmt_writes x) h) i

  pub writes_copied : Keep sc ins (stmt_writes x)
  writes_copied y h i = copies y (used_back y (stmt_reads x) (stmt_writes x) h) i

  pub outs_in : Within outs ins
  outs_in y h =
      let r = outside_used (declares x) (stmt_writes x) y
      (numbers_used (length c.variables) (outside (declares x) (stmt_writes x)) y h) in
      writes_copied y r.0 (known_in y (stmt_writes_known shapes c false sc x sound y r.0) r.1)

  pub not_out : (y : ℕ) → IsIn y sc → IsNew y outs → IsNew y (names (stmt_writes x) ++ declares x)
  not_out y i n =
      new_of y (names (stmt_writes x) ++ declares x)
      (λ h. ⊎_elim
      (λ w. not_both y outs
      (in_numbers (length c.variables) (outside (declares x) (stmt_writes x)) y (below y i)
      (in_outside (declares x) (stmt_writes x) y w (declared_apart y i)))
      n)
      (λ d. declares_new shapes c false sc x sound y d i)
      (in_either y (names (stmt_writes x)) (declares x) h))
