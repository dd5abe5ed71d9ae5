-- What stands inside the function of a branch or body: copies of variables, numbered by their place among its own.
use Rattle.std.proofs.Common.{◌≡◌, refl, sym, ap, ◌∙◌, subst, ℕ, suc, ◌+◌, ◌<◌, arith, ⊎_elim, Bool, true, false, ◌==◌, ◌||◌, if◌then◌else◌, List, [], ◌∷◌, ◌++◌, map, length, slice_get, true-eqb, Some}
use Rattle.std.proofs.lemmas.List.{length-map}
use Rattle.ec_simple.specs.declared.form.FuncKind.{FuncKind}
use Rattle.ec_simple.specs.declared.form.SVar.{SVar}
use Rattle.ec_simple.specs.declared.form.Form.{Form}
use Rattle.ec_simple.specs.Expressions.{Scope, variable_at, of_variable}
use Rattle.ec_simple.specs.Sound.{IsIn, SoundStmt}
use Rattle.ec_simple.specs.Statements.{LowStmt, index, inside, own, copied_in, outlined}
use Rattle.ec_simple.specs.Uses.{Use, member, declares}
use Rattle.ec_simple.proofs.formed.Standing.{At, Placed, Stands, at_right}
use Rattle.ec_simple.proofs.lockstep.Copies.{ins_in, reads_copied, writes_copied}
use Rattle.ec_simple.proofs.lockstep.Narrow.{narrow_stmt}
use Rattle.ec_simple.proofs.lockstep.Used.{IsUsed, nowhere}
use Rattle.ec_simple.proofs.lockstep.Variables.{Within, in_front, in_back, in_either}
use Rattle.ec_types.specs.Meaning.Tree.{Stmt}

-- a list stands in itself
pub at_all : {A : Type 0} (xs : List A) → At xs 0 xs
at_all xs k i = let is : 0 + k ≡ k = omega arith in ap (slice_get xs) is

pub stands_inside : (s : Form) (c : Scope) (place : ℕ → ℕ) → Stands s c → Stands s (record c { place = place })
stands_inside s c place h = record {
  functions = h.functions;
  variables = h.variables;
  results = h.results;
  shared = h.shared;
  shapes = h.shapes;
}

-- a variable's copy stands at its place
copy_there : (f : ℕ → SVar) (xs : List ℕ) (more : List SVar) (y : ℕ) → IsIn y xs →
    slice_get (map f xs ++ more) (index xs y) ≡ Some (f y)
copy_there f [] more y h = nowhere h
copy_there f (x ∷ xs) more y h = go (x == y) refl h (copy_there f xs more y)
  where
    go : (b : Bool) → (x == y) ≡ b → (b || member y xs) ≡ true →
        (IsIn y xs → slice_get (map f xs ++ more) (index xs y) ≡ Some (f y)) →
        slice_get (f x ∷ map f xs ++ more) (if b then 0 else suc (index xs y)) ≡ Some (f y)
    go true q h rest = ap (λ z. Some (f z)) (true-eqb x y (sym q))
    go false q h rest = rest h

module _ (s : Form) (c : Scope) (more : List Use) (x : Stmt) (sc : List ℕ)
    (sound : SoundStmt s.shapes c false sc x) (below : (y : ℕ) → IsIn y sc → y < length c.variables)
    (header : (y : ℕ) → IsUsed y more → IsIn y sc) where
  abbrev ins : List ℕ
  ins = copied_in c more x

  abbrev ns : List ℕ
  ns = own c more x

  pub ins_here : Within (copied_in c more x) sc
  ins_here = ins_in s.shapes c more x sc sound below header

  pub sound_inside : SoundStmt s.shapes (inside c more x) false (copied_in c more x) x
  sound_inside =
      narrow_stmt s.shapes c (index ns) false sc ins x ins_here (reads_copied s.shapes c more x sc sound below header)
      (writes_copied s.shapes c more x sc sound below header) sound

  pub scope_inside : Within (copied_in c more x) (own c more x)
  scope_inside y i = in_front y ins (declares x) i

  pub declared_inside : Within (declares x) (own c more x)
  declared_inside y i = in_back y ins (declares x) i

  pub below_inside : ((y : ℕ) → IsIn y (declares x) → y < length c.variables) → (y : ℕ) → IsIn y (own c more x) →
      y < length c.variables
  below_inside declared y i = ⊎_elim (λ j. below y (ins_here y j)) (λ j. declared y j) (in_either y ins (declares x) i)

  module _ (k : FuncKind) (g : ℕ) (l : LowStmt) where
    pub placed_inside : Placed (inside c more x) (outlined c k more x g l).vars (own c more x)
    placed_inside y i = copy_there (λ z. of_variable (variable_at c z)) ns l.vars y i

    pub temporaries_inside : At (outlined c k more x g l).vars (length (own c more x)) l.vars
    temporaries_inside =
        let f = outlined c k more x g l in
        let copies = map (λ z. of_variable (variable_at c z)) ns in
        let first : 0 + length copies ≡ length copies = omega arith in
        subst (λ n. At f.vars n l.vars) (first ∙ length-map ns (λ z. of_variable (variable_at c z)))
        (at_right f.vars 0 copies l.vars (at_all f.vars))
