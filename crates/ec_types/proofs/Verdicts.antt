-- What a program is judged to be.
use Rattle.std.proofs.Common.{◌≡◌, refl, ◌∙◌, ap, subst, Bool, true, false, ◌&&◌, List, [], ◌∷◌, map, Option, Result, Ok, Err}
use Rattle.std.specs.List.{list_all}
use Rattle.ec_base.specs.declared.fail.Fail.{Fail}
use Rattle.ec_base.specs.declared.fail.Fail.TheVariants.{Memory, Refused}
use Rattle.ec_base.specs.declared.text.Text.{Text}
use Rattle.ec_base.specs.declared.token.Span.{Span}
use Rattle.ec_syntax.specs.declared.item.Func.{Func}
use Rattle.ec_syntax.specs.declared.item.Program.{Program}
use Rattle.ec_syntax.specs.declared.item.StructDef.{StructDef}
use Rattle.ec_base.specs.declared.reason.Reason.{Reason}
use Rattle.ec_base.specs.declared.reason.Reason.TheVariants.{StructTooBig}
use Rattle.ec_types.specs.declared.refusal.TypeRefusal.{TypeRefusal}
use Rattle.ec_types.specs.Judged.{Judged, Fine, must, every, Gives, ◌also◌}
use Rattle.ec_calls.specs.Items.{functions, structs}
use Rattle.ec_calls.specs.Prints.{ArePrints}
use Rattle.ec_types.specs.Programs.{structure, judged_items, judged_program, Decides, IsTyped}
use Rattle.ec_types.specs.Sizes.{is_small}

-- ---- verdicts

decided_by :
    (p : Program) (prints : Text → Option Span) → ArePrints (functions p) prints → (r : Result (Unit {0}) (Fail TypeRefusal)) (j : Fine)
    → judged_program prints p ≡ j → Gives r j → Decides p r
decided_by p prints first (Ok a) (Ok b) is g = record { prints = prints; first = first; fine = is }
decided_by p prints first (Ok a) (Err why) is g = absurd g
decided_by p prints first (Err (Refused r)) (Ok b) is g = absurd g
decided_by p prints first (Err (Refused r)) (Err why) is g = record { prints = prints; first = first; all = why; refused = is; least = g }
decided_by p prints first (Err Memory) j is g = tt

pub decided :
    (p : Program) (fs : List Func) (ss : List StructDef) (prints : Text → Option Span) (r : Result (Unit {0}) (Fail TypeRefusal))
    → fs ≡ functions p → ss ≡ structs p → ArePrints (functions p) prints → Gives r (judged_items prints fs ss p.end) → Decides p r
decided p fs ss prints r f s first g =
    decided_by p prints first r (judged_program prints p) refl
    (subst (λ l. Gives r (judged_items prints (functions p) l p.end)) s (subst (λ l. Gives r (judged_items prints l ss p.end)) f g))

-- ---- the structs of a typed program are small

also_left : {A B : Type 0} (x : Judged A) (y : Judged B) (a : A) → (x also y) ≡ Ok a → x ≡ Ok a
also_left (Ok a) (Ok b) c e = e
also_left (Ok a) (Err why) c e = cc
also_left (Err why) (Ok b) c e = e
also_left (Err why) (Err more) c e = cc

also_right : {A B : Type 0} (x : Judged A) (y : Judged B) (a : A) → (x also y) ≡ Ok a → (b : B) × (y ≡ Ok b)
also_right (Ok a) (Ok b) c e = (b, refl)
also_right (Ok a) (Err why) c e = let no : ⊥ = cc in absurd no
also_right (Err why) (Ok b) c e = (b, refl)
also_right (Err why) (Err more) c e = let no : ⊥ = cc in absurd no

must_hold : (test : Bool) (fault : Reason) (at : Span) (u : Unit {0}) → must test fault at ≡ Ok u → test ≡ true
must_hold true fault at u e = refl
must_hold false fault at u e = cc

small_structures : (ss xs : List StructDef) (u : Unit {0}) → every (map (structure ss) xs) ≡ Ok u → list_all is_small xs ≡ true
small_structures ss [] u e = refl
small_structures ss (x ∷ xs) u e =
    let one = also_right _ _ _ (also_left (structure ss x) _ _ e) in
    let rest = also_right (structure ss x) (every (map (structure ss) xs)) _ e in
    ap (λ b. b && list_all is_small xs) (must_hold (is_small x) StructTooBig x.name.at _ (also_left _ _ _ one.1)) ∙ small_structures ss xs rest.0 rest.1

pub all_small : (p : Program) → IsTyped p → list_all is_small (structs p) ≡ true
all_small p t =
    let behind_functions = also_right _ _ _ t.fine in
    let behind_names = also_right _ _ _ behind_functions.1 in
    small_structures (structs p) (structs p) _ (also_left _ _ _ behind_names.1)
