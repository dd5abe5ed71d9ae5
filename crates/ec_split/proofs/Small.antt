-- A sound program's parts have few operators.
use Rattle.std.proofs.Common.{◌≡◌, refl, ℕ, List, [], ◌∷◌, length, Option, Some, None, Bool, true, ◌&&◌, nat_lt, nat_le}
use Rattle.std.proofs.lemmas.Bool.{and_parts, and_from}
use Rattle.std.specs.List.{list_all}
use Rattle.ec_base.specs.declared.limits.TheConstants.{MAX_PRINT_ARGUMENTS, MAX_STRING}
use Rattle.ec_base.specs.Format.{conversions}
use Rattle.ec_small.specs.declared.tree.Expr.{Expr}
use Rattle.ec_small.specs.declared.tree.Stmt.{Stmt}
use Rattle.ec_small.specs.declared.tree.Stmt.TheVariants.{Set, Print}
use Rattle.ec_small.specs.declared.tree.Program.{Program}
use Rattle.ec_small.specs.Sound.{Sound, is_declared, is_sound, is_sound_init, is_sound_stmt, asks}
use Rattle.ec_split.specs.Building.{is_small, is_small_init, is_small_stmt}

-- a test holds of all elements where one that implies it does
list_all_weaker : {A : Type 0} (p q : A → Bool) → ((x : A) → p x ≡ true → q x ≡ true) → (xs : List A) → list_all p xs ≡ true → list_all q xs ≡ true
list_all_weaker p q weaker [] h = refl
list_all_weaker p q weaker (x ∷ xs) h =
    let both : (p x ≡ true) × (list_all p xs ≡ true) = and_parts (p x) (list_all p xs) h in
    and_from (q x) (list_all q xs) (weaker x both.0) (list_all_weaker p q weaker xs both.1)

small : (count : ℕ) (e : Expr) → is_sound count e ≡ true → is_small e ≡ true
small count e h = (and_parts (is_declared count e) (is_small e) h).1

small_init : (count : ℕ) (o : Option Expr) → is_sound_init count o ≡ true → is_small_init o ≡ true
small_init count None h = refl
small_init count (Some e) h = small count e h

small_stmt : (count : ℕ) (s : Stmt) → is_sound_stmt count s ≡ true → is_small_stmt s ≡ true
small_stmt count (Set x e) h = small count e (and_parts (nat_lt x count) (is_sound count e) h).1
small_stmt count (Print s es) h =
    let asked : Bool = nat_le (length s) MAX_STRING && asks (conversions s) (length es) in
    let few : Bool = nat_le (length es) MAX_PRINT_ARGUMENTS in
    let both : ((asked && few) ≡ true) × (list_all (is_sound count) es ≡ true) = and_parts (asked && few) (list_all (is_sound count) es) h in
    and_from few (list_all is_small es) (and_parts asked few both.0).1 (list_all_weaker (is_sound count) is_small (small count) es both.1)

pub small_inits : (p : Program) → Sound p → list_all is_small_init p.inits ≡ true
small_inits p s = list_all_weaker (is_sound_init (length p.inits)) is_small_init (small_init (length p.inits)) p.inits s.inits

pub small_stmts : (p : Program) → Sound p → list_all is_small_stmt p.stmts ≡ true
small_stmts p s = list_all_weaker (is_sound_stmt (length p.inits)) is_small_stmt (small_stmt (length p.inits)) p.stmts s.stmts
