-- A step more keeps what the loop knows.
use Rattle.std.proofs.Common.{◌≡◌, ◌≤◌, ◌<◌, ◌+◌, ℕ, Bool, true, false, not, cond, List, [], ◌∷◌, ◌++◌, length, ap, sym, ◌∙◌, subst, Option, Some, None, OnOk, Result, Ok, Err, arith, length-append}
use Rattle.std.proofs.lemmas.Option.{same_Some}
use Rattle.std.proofs.lemmas.List.{map-append}
use Rattle.std.proofs.lemmas.List.Sums.{sum_by-append}
use Rattle.ec_base.specs.declared.limits.TheConstants.{MAX_STEPS}
use Rattle.ec_core.specs.declared.choice.Act.{Act}
use Rattle.ec_core.specs.declared.choice.Choice.{Choice}
use Rattle.ec_core.specs.declared.choice.Stamped.{Stamped}
use Rattle.ec_core.specs.declared.code.Code.{Code}
use Rattle.ec_core.specs.declared.node.Node.{Node}
use Rattle.ec_core.specs.Step.{enabled, step, Machine}
use Rattle.ec_core.specs.Run.{run, start, and_then}
use Rattle.ec_driver.specs.declared.drive.Progress.{Progress}
use Rattle.ec_driver.specs.Kept.{is_eu, choices, StampedFrom}
use Rattle.ec_agree.specs.Agree.{own, UnendedRunsGoOn}
use Rattle.ec_driver.specs.Drive.{AreOwn, IsMade, IsProgress, IsGoing, eu_steps, kept, su_steps}

-- ---- runs

then_push : (code : Code) (xs : List Choice) (c : Choice) (o : Option (List Node)) (w v : List Node) →
    ((s : List Node) → run code xs s ≡ Some w → run code (xs ++ c ∷ []) s ≡ Some v) →
    and_then o (run code xs) ≡ Some w → and_then o (run code (xs ++ c ∷ [])) ≡ Some v
then_push code xs c None w v more h = cc
then_push code xs c (Some s) w v more h = more s h

-- a list of steps with one more behind it
run_push : (code : Code) (xs : List Choice) (c : Choice) (s w v : List Node) →
    run code xs s ≡ Some w → step code c w ≡ Some v → run code (xs ++ c ∷ []) s ≡ Some v
run_push code [] c s w v h k =
    ap (λ z. and_then (step code c z) (run code [])) (same_Some s w h) ∙ ap (λ o. and_then o (run code [])) k
run_push code (x ∷ xs) c s w v h k = then_push code xs c (step code x s) w v (λ z g. run_push code xs c z w v g k) h

-- ---- stamps and counts

own_push : (xs : List Stamped) (s : Stamped) → AreOwn xs → s.choice.node ≡ 0 → AreOwn (xs ++ s ∷ [])
own_push [] s h e = (e, tt)
own_push (x ∷ xs) s h e = (h.0, own_push xs s h.1 e)

stamped_push : (k : ℕ) (xs : List Stamped) (s : Stamped) → StampedFrom k xs → s.stamp ≡ k + length xs → StampedFrom k (xs ++ s ∷ [])
stamped_push k [] s h e = (e ∙ omega arith, tt)
stamped_push k (x ∷ xs) s h e = (h.0, stamped_push (k + 1) xs s h.1 (e ∙ omega arith))

one_more : (b : Bool) (n m : ℕ) → n ≡ m → n + (0 + cond b 1 0) ≡ cond b (m + 1) m
one_more true n m e = omega arith
one_more false n m e = omega arith

one_other : (b : Bool) (n m : ℕ) → n ≡ m → n + (0 + cond (not b) 1 0) ≡ cond b m (m + 1)
one_other true n m e = omega arith
one_other false n m e = omega arith

sum_units : (b : Bool) (n m : ℕ) → n + m + 1 ≡ cond b (n + 1) n + cond b m (m + 1)
sum_units true n m = omega arith
sum_units false n m = omega arith

fits_more : (b : Bool) (n k : ℕ) → n < k → cond b (n + 1) n ≤ k
fits_more true n k h = omega arith
fits_more false n k h = omega arith

fits_other : (b : Bool) (n k : ℕ) → n < k → cond b n (n + 1) ≤ k
fits_other true n k h = omega arith
fits_other false n k h = omega arith

-- ---- a step

abbrev stamped : Progress → Choice → Stamped
stamped x c = record { stamp = x.eu + x.su + 1; choice = c }

pub advanced : (code : Code) (c : Choice) (x : Progress) (m : Machine) → c.node ≡ 0 → IsProgress code x → IsGoing x → m.failed ≡ false →
    step code c x.world.nodes ≡ Some m.nodes → IsProgress code (kept c (record x { world = m }))
advanced code c x m own h g sound k = record {
  sound = sound;
  run = ap (λ l. run code l (start code 1 [])) (map-append (λ (z : Stamped). z.choice) x.list (stamped x c ∷ [])) ∙ run_push code (choices x.list) c (start code 1 []) x.world.nodes m.nodes h.run k;
  stamps = stamped_push 1 x.list (stamped x c) h.stamps (omega (arith, h.size));
  size = length-append x.list (stamped x c ∷ []) ∙ (omega (arith, h.size, sum_units (is_eu c.act) x.eu x.su));
  own = own_push x.list (stamped x c) h.own own;
  eu = sum_by-append (λ (z : Stamped). cond (is_eu z.choice.act) 1 0) x.list (stamped x c ∷ []) ∙ one_more (is_eu c.act) (eu_steps x.list) x.eu h.eu;
  su = sum_by-append (λ (z : Stamped). cond (not (is_eu z.choice.act)) 1 0) x.list (stamped x c ∷ []) ∙ one_other (is_eu c.act) (su_steps x.list) x.su h.su;
  eu_fits = fits_more (is_eu c.act) x.eu MAX_STEPS g.eu;
  su_fits = fits_other (is_eu c.act) x.su MAX_STEPS g.su;
}

-- what is kept is what the loop knows next
pub kept_progress : {A E : Type 0} (code : Code) (c : Choice) (x y : Progress) (r : Result A E) → IsProgress code (kept c x) → OnOk r (y ≡ kept c x) → OnOk r (IsProgress code y)
kept_progress code c x y (Ok a) h e = subst (IsProgress code) (sym e) h
kept_progress code c x y (Err a) h e = tt

-- where the world hasn't ended, not every act is disabled
pub goes_on : (code : Code) (x : Progress) → UnendedRunsGoOn → IsMade code → IsProgress code x → IsGoing x →
    ((act : Act) → enabled (own act) x.world.nodes ≡ false) → ⊥
goes_on code x law made h g none =
    let a = law made.0 made.1 [] (choices x.list) x.world.nodes (subst (λ z. run z (choices x.list) (start z 1 []) ≡ Some x.world.nodes) made.2 h.run) g.unended in
    let on : enabled (own a.0) x.world.nodes ≡ true = a.1 in
    let off : enabled (own a.0) x.world.nodes ≡ false = none a.0 in
    cc
