-- A program whose nodes and statements are free of ticks means what its simple form means, within any number of ticks.
use Rattle.std.proofs.Common.{◌≡◌, refl, sym, ap, ◌∙◌, subst, ℕ, zero, suc, ◌+◌, ◌<◌, le_refl, arith, Bool, true, false, if◌then◌else◌, List, [], ◌∷◌, ◌++◌, append-nil, append_assoc, map, length, ◌==◌, codes, ℤ, pos, ◌-◌, Option, Some, None, option_map, is_some, slice_get, get_or, true≢false}
use Rattle.ec_base.specs.declared.text.Text.{Text}
use Rattle.ec_simple.specs.declared.form.SFunc.{SFunc}
use Rattle.ec_simple.specs.declared.form.Shape.{Shape}
use Rattle.ec_simple.specs.declared.form.SVar.{SVar}
use Rattle.ec_simple.specs.Expressions.{no_function, no_variable, of_variable}
use Rattle.ec_simple.specs.Laws.{SameEnd, EndsAs, PrintsAs}
use Rattle.ec_simple.specs.Lower.{result_variable, low_body, written, all_written, all_outlined, simple_form}
use Rattle.ec_simple.specs.Meaning.{first_value, unset as unset_of, result, main_number, function_or, body as simple_body, calls as simple_calls, mean as simple_mean}
use Rattle.ec_simple.specs.Sound.{IsIn}
use Rattle.ec_simple.specs.Uses.{declared, all_declare}
use Rattle.ec_simple.proofs.lockstep.Alike.{Alike, Given, function_in, alike_activate}
use Rattle.ec_simple.proofs.lockstep.Calls.{Found, at_number, SoundProgram, body_runs, calls_alike}
use Rattle.ec_simple.proofs.lockstep.Variables.{in_front}
use Rattle.ec_simple.proofs.ticks.Free.{run_by, told_by}
use Rattle.ec_types.specs.Meaning.Evaluation.{body, calls}
use Rattle.ec_types.specs.Meaning.Layout.{or_zero}
use Rattle.ec_types.specs.Meaning.Laws.{Begins}
use Rattle.ec_types.specs.Meaning.Programs.{Meaning, Ending, Ended, Trapped, root, main_or, meant, told, HasEnded}
use Rattle.ec_types.specs.Meaning.State.{Here, Core, With, Returns, Traps, Going, Out, Vars, set, set_all, unset, activate}
use Rattle.ec_types.specs.Meaning.Tree.{Variable, Function}
use Rattle.ec_types.specs.Meaning.Values.{Val, Num, zero_value, number}
use Rattle.ec_types.specs.Places.{place as place_among}
use Rattle.ec_syntax.specs.Grammar.Words.{same as same_text}
use Rattle.std.proofs.lemmas.List.{map-append}
use Rattle.std.proofs.lemmas.Option.{get_or_from_slice_get}

-- ---- the number of main

pub place_front : (xs ys : List Text) (name : Text) (m : ℕ) → place_among xs name ≡ Some m →
    place_among (xs ++ ys) name ≡ Some m
place_front [] ys name m h = absurd (true≢false (ap is_some (sym h)))
place_front (x ∷ xs) ys name m h =
    go (same_text x name) (place_among xs name) refl h (λ n i. place_front xs ys name n i)
  where
    go : (b : Bool) (o : Option ℕ) → place_among xs name ≡ o → (if b then Some 0 else option_map suc o) ≡ Some m →
        ((n : ℕ) → place_among xs name ≡ Some n → place_among (xs ++ ys) name ≡ Some n) →
        (if b then Some 0 else option_map suc (place_among (xs ++ ys) name)) ≡ Some m
    go true o e h more = h
    go false None e h more = absurd (true≢false (ap is_some (sym h)))
    go false (Some n) e h more = ap (option_map suc) (more n e) ∙ h

pub place_below : (xs : List Text) (name : Text) (m : ℕ) → place_among xs name ≡ Some m → m < length xs
place_below [] name m h = absurd (true≢false (ap is_some (sym h)))
place_below (x ∷ xs) name m h = go (same_text x name) (place_among xs name) refl h (λ n i. place_below xs name n i)
  where
    go : (b : Bool) (o : Option ℕ) → place_among xs name ≡ o → (if b then Some 0 else option_map suc o) ≡ Some m →
        ((n : ℕ) → place_among xs name ≡ Some n → n < length xs) → m < suc (length xs)
    go true o e h more = let i : m ≡ 0 = sym (ap or_zero h) in omega (arith, i)
    go false None e h more = absurd (true≢false (ap is_some (sym h)))
    go false (Some n) e h more = let i : m ≡ suc n = sym (ap or_zero h) in let l = more n e in omega (arith, i, l)

pub written_names : (p : List Function) (names : List Text) (fs : List Function) (g : ℕ) → length names ≡ length fs →
    map (λ f. f.name) (all_written p names fs g) ≡ names
written_names p [] [] g e = refl
written_names p [] (f ∷ fs) g e = absurd (omega (arith, e))
written_names p (name ∷ names) [] g e = absurd (omega (arith, e))
written_names p (name ∷ names) (f ∷ fs) g e =
    ap (λ l. name ∷ l) (written_names p names fs (g + length (low_body p name f g).funcs) (omega (arith, e)))

-- ---- main's parameters

-- it takes ints and gives one
pub record HasMain (names : List Text) (fs : List Function) (m : ℕ) : Type 0 where
  pub named : place_among names (codes "main") ≡ Some m
  pub gives : (function_in fs m).void ≡ false
  pub plain : (x : ℕ) → IsIn x (function_in fs m).params →
      (get_or (function_in fs m).variables x no_variable).pointer ≡ None

unset_plain : (vs : List Variable) (rest : List SVar) (x : ℕ) → x < length vs →
    (get_or vs x no_variable).pointer ≡ None → unset_of (map of_variable vs ++ rest) x ≡ zero_value
unset_plain [] rest x l h = absurd (omega (arith, l))
unset_plain (v ∷ vs) rest zero l h = ap (λ q. first_value (is_some q)) h
unset_plain (v ∷ vs) rest (suc x) l h = unset_plain vs rest x (omega (arith, l)) h

-- where two sides agree before arguments are set, they do so afterwards
agree_still : (xs : List ℕ) (us : List Val) (vs ws : Vars) (x : ℕ) → vs x ≡ ws x →
    set_all xs us vs x ≡ set_all xs us ws x
agree_still [] us vs ws x h = h
agree_still (y ∷ xs) [] vs ws x h = h
agree_still (y ∷ xs) (u ∷ us) vs ws x h =
    agree_still xs us (set y u vs) (set y u ws) x (ap (λ v. if x == y then u else v) h)

-- ---- what is told

pub record SameTold (m n : Meaning) : Type 0 where
  pub ending : m.ending ≡ n.ending
  pub output : m.output ≡ n.output
  pub ended : HasEnded m.ending → SameEnd m n

-- one core, where both have ended
same_end : (k : ℕ) (e f : Ending) (x y : ℤ) (c d : Core) (r q : ℕ) → e ≡ f → x ≡ y → c ≡ d →
    SameEnd (meant e x c (k - r)) (meant f y d (k - q))
same_end k e f x y c d r q h i s = record {
  ending = h;
  output = ap (λ z. z.output) s;
  result = i;
  store = ap (λ z. z.store) s;
  most = ap (λ z. z.most) s;
  places = ap (λ z. z.places) s;
  forks = ap (λ z. z.forks) s;
}

same_told_end : (m n : Meaning) → SameEnd m n → SameTold m n
same_told_end m n s = record { ending = s.ending; output = s.output; ended = λ h. s }

told_alike : (f : Function) (k : ℕ) (x : Out Val) (y : Out (List Val)) → f.void ≡ false → Alike false (Given f) k x y →
    SameTold (told k x) (told k (result y))
told_alike f k (With v, c, r) (With vs, d, q) e s =
    same_told_end (told k (With v, c, r)) (told k (result (With vs, d, q)))
    (same_end k Ended Ended (number v) (number (get_or vs 0 zero_value)) c d r q refl
    (sym (ap number (given f.void e s.1))) s.0.core)
  where
    given : (b : Bool) → b ≡ false → vs ≡ (if b then [] else v ∷ []) → get_or vs 0 zero_value ≡ v
    given true e i = absurd (true≢false e)
    given false e i = ap (λ l. get_or l 0 zero_value) i
told_alike f k (Returns v, c, r) (Returns w, d, q) e s = absurd (true≢false (sym s.2))
told_alike f k (Traps t, c, r) (Traps u, d, q) e s =
    same_told_end (told k (Traps t, c, r)) (told k (result (Traps u, d, q)))
    (same_end k (Trapped t) (Trapped u) (pos 0) (pos 0) c d r q (ap Trapped s.1) refl s.0.core)
told_alike f k (Going, c, r) (Going, d, q) e s = record { ending = refl; output = s; ended = λ h. absurd h }
told_alike f k x y e s = absurd s

same_end_back : (m n : Meaning) → SameEnd m n → SameEnd n m
same_end_back m n s = record {
  ending = sym s.ending;
  output = sym s.output;
  result = sym s.result;
  store = sym s.store;
  most = sym s.most;
  places = sym s.places;
  forks = sym s.forks;
}

-- ---- whole programs

pub record InLockstep (shapes : List Shape) (names : List Text) (fs : List Function) (m : ℕ)
    (args : List ℤ) : Type 0 where
  pub ends : EndsAs (told_by false fs m args) (simple_mean (simple_form shapes names fs) args)
  pub ended : EndsAs (simple_mean (simple_form shapes names fs) args) (told_by false fs m args)
  pub prints : PrintsAs (told_by false fs m args) (simple_mean (simple_form shapes names fs) args)
  pub printed : PrintsAs (simple_mean (simple_form shapes names fs) args) (told_by false fs m args)

module _ (shapes : List Shape) (names : List Text) (fs : List Function) (same : length names ≡ length fs)
    (sound : SoundProgram shapes fs) (m : ℕ) (main : HasMain names fs m) (args : List ℤ) where
  pub main_is : main_number (simple_form shapes names fs) ≡ m
  main_is =
      let n = length fs in
      let ws = all_written fs names fs n in
      let os = all_outlined fs names fs n in
      ap (λ l. or_zero (place_among l (codes "main")))
      (map-append (λ f. f.name) ws os ∙ ap (λ l. l ++ map (λ f. f.name) os) (written_names fs names fs n same))
      ∙ ap or_zero (place_front names (map (λ f. f.name) os) (codes "main") m main.named)

  pub below : m < length fs
  below = let l = place_below names (codes "main") m main.named in omega (arith, l, same)

  abbrev stands : Found fs fs (simple_form shapes names fs).funcs m m
  stands = at_number shapes names fs same m below

  is : function_in fs m ≡ stands.function
  is = get_or_from_slice_get fs m stands.function no_function stands.here

  abbrev simple_main : SFunc
  simple_main = written fs stands.name stands.function stands.first

  -- parameters without an argument are 0
  begun : (x : ℕ) → IsIn x stands.function.params →
      set_all stands.function.params (map Num args) unset x
      ≡ set_all stands.function.params (map Num args) (unset_of simple_main.vars) x
  begun x i =
      let f = stands.function in
      let k = sound m f stands.here stands.name stands.first in
      agree_still f.params (map Num args) unset (unset_of simple_main.vars) x
      (sym (ap (λ vs. unset_of vs x)
      (append_assoc (map of_variable f.variables) (result_variable f)
      (low_body fs stands.name f stands.first).vars)
      ∙ unset_plain f.variables (result_variable f ++ (low_body fs stands.name f stands.first).vars) x
      (k.below x (in_front x (f.params ++ map declared f.decls) (all_declare f.body)
      (in_front x f.params (map declared f.decls) i)))
      (subst (λ g. IsIn x g.params → (get_or g.variables x no_variable).pointer ≡ None) is (main.plain x) i)))

  runs : (k : ℕ) → Alike false (Given stands.function) k (run_by false fs m args k)
      (activate true Here (simple_body (simple_form shapes names fs) true
      (simple_calls (simple_form shapes names fs) true k) k
      (function_or (slice_get (simple_form shapes names fs).funcs (main_number (simple_form shapes names fs))))
      (map Num args)) root k)
  runs k =
      let form = simple_form shapes names fs in
      let f = stands.function in
      let code = simple_body form true (simple_calls form true k) k in
      subst (λ i. Alike false (Given f) k (run_by false fs m args k)
      (activate true Here (code (function_or (slice_get form.funcs i)) (map Num args)) root k)) (sym main_is)
      (subst (λ o. Alike false (Given f) k (run_by false fs m args k)
      (activate true Here (code (function_or o) (map Num args)) root k)) (sym stands.there)
      (subst (λ o. Alike false (Given f) k
      (activate true Here (body false true (calls false true fs k) k (main_or o) (map Num args)) root k)
      (activate true Here (code simple_main (map Num args)) root k)) (sym stands.here)
      (alike_activate false (Given f) Here (body false true (calls false true fs k) k f (map Num args))
      (code simple_main (map Num args)) root k
      (λ d q e. (body_runs shapes names fs stands.name f stands.first
      (sound m f stands.here stands.name stands.first) stands.holds k k (le_refl k)
      (calls_alike shapes names fs same sound k k (le_refl k)) k q (omega (arith, e)) (omega (arith, e))
      (map Num args) begun).is d q (le_refl q)))))

  pub same_told : (k : ℕ) → SameTold (told_by false fs m args k) (simple_mean (simple_form shapes names fs) args k)
  same_told k =
      told_alike stands.function k (run_by false fs m args k)
      (activate true Here (simple_body (simple_form shapes names fs) true
      (simple_calls (simple_form shapes names fs) true k) k
      (function_or (slice_get (simple_form shapes names fs).funcs (main_number (simple_form shapes names fs))))
      (map Num args)) root k)
      (sym (ap (λ g. g.void) is) ∙ main.gives) (runs k)

  begins : (xs ys : List ℕ) → xs ≡ ys → Begins xs ys
  begins xs ys e = ([], append-nil xs ∙ e)

  pub in_lockstep : InLockstep shapes names fs m args
  in_lockstep = record {
    ends = λ k e. (k, (same_told k).ended e);
    ended = λ k e.
        let s = same_told k in (
          k,
          same_end_back (told_by false fs m args k) (simple_mean (simple_form shapes names fs) args k)
              (s.ended (subst HasEnded (sym s.ending) e)),
        );
    prints = λ k. (
      k,
      begins (told_by false fs m args k).output
          (simple_mean (simple_form shapes names fs) args k).output (same_told k).output,
    );
    printed = λ k. (
      k,
      begins (simple_mean (simple_form shapes names fs) args k).output
          (told_by false fs m args k).output (sym (same_told k).output),
    );
  }
