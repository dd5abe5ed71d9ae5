-- What is taken from the hand, and what it is afterwards.
use Rattle.std.proofs.Common.{◌≡◌, refl, sym, ap, ◌∙◌, ℕ, List, [], ◌∷◌, ◌++◌, map, take, drop, reverse, Option, Some, None, option_map, ℤ, get_or, Result, Ok, Err, pos}
use Rattle.std.proofs.Math.ListN.{get_or-map}
use Rattle.std.specs.List.{take-map, drop-map}
use Rattle.ec_base.specs.declared.fail.Fail.{Fail}
use Rattle.ec_base.specs.declared.fail.Fail.TheVariants.{Memory, Refused}
use Rattle.ec_base.specs.declared.trap.Trap.{Trap}
use Rattle.ec_base.specs.declared.token.Span.{Span}
use Rattle.ec_base.specs.Format.{formatted}
use Rattle.ec_types.specs.Meaning.Evaluation.{divided, print}
use Rattle.ec_types.specs.Meaning.Values.{Val, number, zero_value}
use Rattle.ec_types.specs.Meaning.State as state
use Rattle.ec_types.specs.Meaning.State.{Out, With, and_then, pure}
use Rattle.ec_meaning.specs.declared.value.Value.{Value}
use Rattle.ec_meaning.specs.declared.value.Value.TheVariants.{Int, Null, To}
use Rattle.ec_meaning.specs.declared.value.Access.{Access}
use Rattle.ec_meaning.specs.declared.hand.Hand.{Hand}
use Rattle.ec_meaning.specs.declared.shared_state.Core.{Core}
use Rattle.ec_meaning.specs.Works as w
use Rattle.ec_meaning.specs.Acts as acts
use Rattle.ec_meaning.specs.Kept.{Keeps, Kept}
use Rattle.ec_meaning.specs.Reached as reached
use Rattle.ec_meaning.specs.Reached.{Gave, number_of}
use Rattle.ec_meaning.specs.Seen.{Untold, Performs, val, access, table, hand, core}
use Rattle.ec_meaning.proofs.Lists.{map-reverse}

module _ (u : Untold) where
  -- ---- what is taken

  pub top_is : (vs : List Value) → get_or (map (val u) vs) 0 zero_value ≡ val u (get_or vs 0 (Int (pos 0)))
  top_is vs = get_or-map (val u) vs 0 (Int (pos 0))

  pub second_is : (vs : List Value) → get_or (map (val u) vs) 1 zero_value ≡ val u (get_or (drop 1 vs) 0 (Int (pos 0)))
  second_is [] = refl
  second_is (v ∷ vs) = top_is vs

  pub access_is :
      (xs : List Access) → get_or (map (access u) xs) 0 acts.no_access ≡ access u (get_or xs 0 reached.no_access)
  access_is xs = get_or-map (access u) xs 0 reached.no_access

  pub second_access_is :
      (xs : List Access) → get_or (map (access u) xs) 1 acts.no_access ≡ access u (get_or (drop 1 xs) 0 reached.no_access)
  second_access_is [] = refl
  second_access_is (x ∷ xs) = access_is xs

  pub divided_is :
      (at : Span) (o : Option Value) (c : state.Core) (r : ℕ) →
      Performs (val u) (reached.divided at o) (divided at (option_map (val u) o) c r) c r
  divided_is at None c r = refl
  divided_is at (Some v) c r = refl

  pub numbers_are : (vs : List Value) → map number (map (val u) vs) ≡ map number_of vs
  numbers_are [] = refl
  numbers_are (Int n ∷ vs) = ap (λ ns. n ∷ ns) (numbers_are vs)
  numbers_are (Null ∷ vs) = ap (λ ns. pos 0 ∷ ns) (numbers_are vs)
  numbers_are (To k ∷ vs) = ap (λ ns. pos 0 ∷ ns) (numbers_are vs)

  -- ---- the hand without what was taken

  module _ (m n : ℕ) (old new : Hand) where
    abbrev pub left : List Val → w.Hand
    left vs = record { values = vs; accesses = drop n (map (access u) old.accesses); vars = table u old.vars.items }

    pub left_is :
        (vs : List Value) → new.values ≡ vs → new.accesses ≡ drop n old.accesses → new.vars ≡ old.vars →
        left (map (val u) vs) ≡ hand u new
    left_is vs values accesses vars = rw (values, accesses, vars, drop-map (access u) n old.accesses) refl

    -- an answer was put there
    pub gave :
        (answer : Result Value (Fail Trap)) (result : Result (Unit {0}) (Fail Trap)) (out : Out Val) (c : state.Core) (r : ℕ) →
        Performs (val u) answer out c r → Gave answer (drop m old.values) new.values result →
        new.accesses ≡ drop n old.accesses → new.vars ≡ old.vars →
        Performs (λ done. hand u new) result (and_then out (λ v. pure (left (v ∷ drop m (map (val u) old.values))))) c r
    gave (Ok v) (Ok done) out c r is given accesses vars =
        ap (λ o. and_then o (λ v. pure (left (v ∷ drop m (map (val u) old.values))))) is
        ∙ ap (λ h. let o : Out w.Hand = (With h, c, r) in o)
        (ap (λ vs. left (val u v ∷ vs)) (drop-map (val u) m old.values) ∙ left_is (v ∷ drop m old.values) given accesses vars)
    gave (Err e) (Ok done) out c r is given accesses vars = absurd given
    gave (Ok v) (Err Memory) out c r is given accesses vars = tt
    gave (Err e) (Err Memory) out c r is given accesses vars = tt
    gave (Ok v) (Err (Refused t)) out c r is given accesses vars = absurd given
    gave (Err Memory) (Err (Refused t)) out c r is given accesses vars = cc
    gave (Err (Refused s)) (Err (Refused t)) out c r is given accesses vars =
        let same : s ≡ t = cc in
        ap (λ o. and_then o (λ v. pure (left (v ∷ drop m (map (val u) old.values))))) is
        ∙ ap (λ x. let o : Out w.Hand = (state.Traps x, c, r) in o) same

    -- nothing was put there
    pub left_behind :
        (result : Result (Unit {0}) (Fail Trap)) (out : Out (Unit {0})) (c : state.Core) (r : ℕ) →
        Performs (λ done. done) result out c r →
        new.values ≡ drop m old.values → new.accesses ≡ drop n old.accesses → new.vars ≡ old.vars →
        Performs (λ done. hand u new) result (and_then out (λ d. pure (left (drop m (map (val u) old.values))))) c r
    left_behind (Ok done) out c r is values accesses vars =
        ap (λ o. and_then o (λ d. pure (left (drop m (map (val u) old.values))))) is
        ∙ ap (λ h. let o : Out w.Hand = (With h, c, r) in o)
        (ap left (drop-map (val u) m old.values) ∙ left_is (drop m old.values) values accesses vars)
    left_behind (Err Memory) out c r is values accesses vars = tt
    left_behind (Err (Refused t)) out c r is values accesses vars =
        ap (λ o. and_then o (λ d. pure (left (drop m (map (val u) old.values))))) is

  -- ---- prints

  pub print_done :
      (old new : Hand) (before after : Core) (string : List ℕ) (count r : ℕ) (vs : List Value) (ns : List ℤ) (bytes : List ℕ) →
      vs ≡ reverse (take count old.values) → ns ≡ map number_of vs → bytes ≡ formatted string ns →
      new.values ≡ drop count old.values → new.accesses ≡ old.accesses → new.vars ≡ old.vars →
      after.output.items ≡ before.output.items ++ bytes → after.births ≡ before.births → after.most ≡ before.most →
      after.blocks.items ≡ before.blocks.items →
      and_then (print (formatted string (map number (reverse (take count (map (val u) old.values))))) (core u before) r)
      (λ d. pure (left count 0 old new (drop count (map (val u) old.values)))) ≡ (With (hand u new), core u after, r)
  print_done old new before after string count r vs ns bytes taken are is values accesses vars output births most blocks =
      rw (
        output,
        births,
        most,
        blocks,
        is,
        are,
        taken,
        sym (numbers_are (reverse (take count old.values))),
        take-map (val u) count old.values,
        map-reverse (val u) (take count old.values),
      )
      (ap (λ h. let o : Out w.Hand = (
        With h,
        record (core u before) {
          output = before.output.items ++ formatted string (map number (map (val u) (reverse (take count old.values))));
        },
        r,
      ) in o)
      (ap (left count 0 old new) (drop-map (val u) count old.values)
      ∙ left_is count 0 old new (drop count old.values) values accesses vars))

-- ---- two are taken

pub drop_twice : {A : Type 0} (xs : List A) → drop 1 (drop 1 xs) ≡ drop 2 xs
drop_twice [] = refl
drop_twice (x ∷ []) = refl
drop_twice (x ∷ y ∷ ys) = refl

-- what is done with them, where nothing is put there
pub two_taken :
    (u : Untold) (act : Val → Val → Out (Unit {0})) (old : Hand) (last before : Value) (rest others : List Value)
    (result : Result (Unit {0}) (Fail Trap)) (c : state.Core) (r : ℕ) →
    last ≡ get_or old.values 0 (Int (pos 0)) → rest ≡ drop 1 old.values →
    before ≡ get_or rest 0 (Int (pos 0)) → others ≡ drop 1 rest →
    Performs (λ done. done) result (act (val u before) (val u last)) c r →
    Performs (λ done. hand u (record old { values = others })) result
    (and_then (act (get_or (map (val u) old.values) 1 zero_value) (get_or (map (val u) old.values) 0 zero_value))
    (λ d. pure (left u 2 0 old old (drop 2 (map (val u) old.values))))) c r
two_taken u act old last before rest others result c r last_is rest_is before_is others_is is =
    rw (
      top_is u old.values ∙ ap (val u) (sym last_is),
      second_is u old.values ∙ ap (λ vs. val u (get_or vs 0 (Int (pos 0)))) (sym rest_is) ∙ ap (val u) (sym before_is),
    )
    (left_behind u 2 0 old (record old { values = others }) result (act (val u before) (val u last)) c r is
    (others_is ∙ ap (drop 1) rest_is ∙ drop_twice old.values) refl refl)

-- what an answer keeps is kept
pub gave_kept :
    (answer : Result Value (Fail Trap)) (result : Result (Unit {0}) (Fail Trap)) (vs vs' : List Value) (old new : Core) →
    Kept answer old new → Gave answer vs vs' result → Kept result old new
gave_kept (Ok v) (Ok done) vs vs' old new kept given = kept
gave_kept (Err e) (Ok done) vs vs' old new kept given = absurd given
gave_kept answer (Err Memory) vs vs' old new kept given = tt
gave_kept (Ok v) (Err (Refused t)) vs vs' old new kept given = absurd given
gave_kept (Err Memory) (Err (Refused t)) vs vs' old new kept given = cc
gave_kept (Err (Refused s)) (Err (Refused t)) vs vs' old new kept given = kept

pub keeps_itself : (c : Core) → Keeps c c
keeps_itself c = record { tells = λ u t. t; above = refl; open_ones = λ h. refl; most = refl; ordered = λ o. o }

pub kept_same : (result : Result (Unit {0}) (Fail Trap)) (c : Core) → Kept result c c
kept_same (Ok done) c = keeps_itself c
kept_same (Err Memory) c = tt
kept_same (Err (Refused t)) c = keeps_itself c
