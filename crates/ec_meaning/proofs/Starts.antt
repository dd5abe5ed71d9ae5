-- Where the evaluator starts, all comes to what the program means.
use Rattle.std.proofs.Common.{◌≡◌, refl, sym, ap, ◌∙◌, ℕ, suc, ◌≤◌, arith, Bool, true, List, [], ◌∷◌, map, slice_get, ℤ}
use Rattle.ec_syntax.specs.declared.item.Program.{Program as Source}
use Rattle.ec_types.specs.Meaning.Values.{Val, Num}
use Rattle.ec_types.specs.Meaning.State.{Here, Core, Out, Does, With, Returns, Traps, Going, and_then, ◌>>=◌, pure, opened, Vars, set_all, unset}
use Rattle.ec_types.specs.Meaning.Tree.{Function}
use Rattle.ec_types.specs.Meaning.Evaluation.{Program, all_declared, all, result, body, calls}
use Rattle.ec_types.specs.Meaning.Programs.{root, main_or, told, mean}
use Rattle.ec_types.specs.Meaning.Resolution as resolution
use Rattle.ec_types.proofs.meaning.Room.{same_bodies}
use Rattle.ec_meaning.specs.Works.{Declare, Statements, Hand}
use Rattle.ec_meaning.specs.Acts.{with_vars}
use Rattle.ec_meaning.specs.Machine.{Machine, resumed, comes_to, shown}
use Rattle.ec_meaning.proofs.Enters.{body_acts}

-- what is told isn't in which activation it ended
pub told-shown : (k : ℕ) (x : Out Val) → told k x ≡ told k (shown x)
told-shown k (With v, c, r) = refl
told-shown k (Returns v, c, r) = refl
told-shown k (Traps t, c, r) = refl
told-shown k (Going, c, r) = refl

-- the activation of a function with these arguments, for which none waits
abbrev pub starting : Function → List Val → Core → Machine
starting g us c = record {
  works = Declare g.decls ∷ Statements g.body ∷ [];
  hand = record { values = []; accesses = []; vars = set_all g.params us unset };
  waiting = [];
  core = c;
}

module _ (p : Program) (n : ℕ) where
  ended :
      (pointer : Bool) (h : Hand) (x : Out Vars) →
      resumed p n pointer [] (and_then x (λ vs. pure (with_vars vs h))) ≡ result pointer x
  ended pointer h (With vs, c, r) = refl
  ended pointer h (Returns v, c, r) = refl
  ended pointer h (Traps t, c, r) = refl
  ended pointer h (Going, c, r) = refl

  comes_to-starting :
      (g : Function) (us : List Val) (c : Core) (r : ℕ) →
      comes_to p n g.pointer (starting g us c) r ≡ body true true (calls true true p n) n g us c r
  comes_to-starting g us c r =
      let call = calls true true p n in
      let h = (starting g us c).hand in
      let does = all_declared true call g.decls h.vars >>= all true call true n g.body in
      ap (λ (d : Does Hand). resumed p n g.pointer [] (d c r)) (sym (body_acts call n g h))
      ∙ ended g.pointer h (does c r)

pub starts :
    (s : Source) (args : List ℤ) (n j : ℕ) → j ≤ n →
    let q = resolution.program s in
    let g = main_or (slice_get q (resolution.main_number s)) in
    told (suc j) (comes_to q n g.pointer (starting g (map Num args) (opened Here root)) j) ≡ mean s args (suc j)
starts s args n j l =
    let q = resolution.program s in
    let g = main_or (slice_get q (resolution.main_number s)) in
    let us = map Num args in
    let c = opened Here root in
    ap (told (suc j))
    (comes_to-starting q n g us c j ∙ (same_bodies q n (suc j) j l (omega arith) g us).same c j (omega arith))
