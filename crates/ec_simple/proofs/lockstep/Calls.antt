-- Calls of a program's functions and of those of its simple form are alike, by induction on the ticks that there are.
use Rattle.std.proofs.Common.{◌≡◌, ◌≢◌, refl, sym, ap, ◌∙◌, subst, ℕ, zero, suc, ◌+◌, ◌≤◌, ◌<◌, ◌⊎◌, inl, inr, ⊎_elim, Bool, true, false, if◌then◌else◌, List, [], ◌∷◌, ◌++◌, append_assoc, map, length, arith, length-append, Some, slice_get, get_or, true≢false}
use Rattle.ec_base.specs.declared.text.Text.{Text}
use Rattle.ec_simple.specs.declared.form.SFunc.{SFunc}
use Rattle.ec_simple.specs.declared.form.Shape.{Shape}
use Rattle.ec_simple.specs.declared.form.Form.{Form}
use Rattle.ec_simple.specs.declared.form.SVar.{SVar}
use Rattle.ec_simple.specs.Expressions.{Scope, of_variable, no_function}
use Rattle.ec_simple.specs.Lower.{scope_of, result_variable, own_variables, low_body, written, all_written, all_outlined, simple_form}
use Rattle.ec_simple.specs.Meaning.{first_value, unset as unset_of, results, run, body as simple_body, run_function as run_simple, calls as simple_calls}
use Rattle.ec_simple.specs.Sound.{IsIn, SoundFunction}
use Rattle.ec_simple.specs.Statements.{low_declarations, low_stmts}
use Rattle.ec_simple.specs.Uses.{declared, all_declare}
use Rattle.ec_simple.proofs.lockstep.Alike.{Alike, Given, GoodCalls, set_here, set_other}
use Rattle.ec_simple.proofs.lockstep.Bodies.{all_mean}
use Rattle.ec_simple.proofs.lockstep.Functions.{Holds, holds_front, holds_back, holds_all}
use Rattle.ec_simple.proofs.lockstep.Stages.{Setting, Stage, Did, did_behind}
use Rattle.ec_simple.proofs.lockstep.Statements.{declarations_run, declarations_none, after}
use Rattle.ec_simple.proofs.lockstep.Together.{Together, together_map, together_append, together_enter}
use Rattle.ec_simple.proofs.lockstep.Variables.{same_or_not, in_head, in_tail, head_or_tail, in_front, in_back}
use Rattle.ec_types.specs.Meaning.Evaluation.{all_declared, all, result, body, run_function, calls}
use Rattle.ec_types.specs.Meaning.State.{Site, Core, With, Returns, Traps, Going, Out, Vars, set, set_all, unset, ◌>>=◌}
use Rattle.ec_types.specs.Meaning.Tree.{Function}
use Rattle.ec_types.specs.Meaning.Values.{Val, Null, zero_value}
use Rattle.std.proofs.lemmas.List.{length-map}
use Rattle.std.proofs.lemmas.Option.{get_or_from_slice_get}

-- ---- a function at its number

pub record Found (p fs : List Function) (funcs : List SFunc) (i j : ℕ) : Type 0 where
  pub function : Function
  pub name : Text
  pub first : ℕ
  pub here : slice_get fs i ≡ Some function
  pub there : slice_get funcs j ≡ Some (written p name function first)
  pub holds : Holds funcs first (low_body p name function first).funcs

found : (p : List Function) (names : List Text) (fs : List Function) (funcs : List SFunc) (i j g : ℕ) →
    length names ≡ length fs → i < length fs →
    Holds funcs j (all_written p names fs g) → Holds funcs g (all_outlined p names fs g) → Found p fs funcs i (j + i)
found p names [] funcs i j g e l h k = absurd (omega (arith, l))
found p [] (f ∷ fs) funcs i j g e l h k = absurd (omega (arith, e))
found p (name ∷ names) (f ∷ fs) funcs zero j g e l h k = record {
  function = f;
  name = name;
  first = g;
  here = refl;
  there = subst (λ n. slice_get funcs n ≡ Some (written p name f g)) (omega arith) h.0;
  holds = holds_front funcs g (low_body p name f g).funcs
      (all_outlined p names fs (g + length (low_body p name f g).funcs)) k;
}
found p (name ∷ names) (f ∷ fs) funcs (suc i) j g e l h k =
    let next = g + length (low_body p name f g).funcs in
    let r = found p names fs funcs i (suc j) next (omega (arith, e)) (omega (arith, l)) h.1
    (holds_back funcs g (low_body p name f g).funcs (all_outlined p names fs next) k) in
    record {
      function = r.function;
      name = r.name;
      first = r.first;
      here = r.here;
      there = subst (λ n. slice_get funcs n ≡ Some (written p r.name r.function r.first)) (omega arith) r.there;
      holds = r.holds;
    }

pub written_length : (p : List Function) (names : List Text) (fs : List Function) (g : ℕ) → length names ≡ length fs →
    length (all_written p names fs g) ≡ length fs
written_length p [] [] g e = refl
written_length p [] (f ∷ fs) g e = absurd (omega (arith, e))
written_length p (name ∷ names) [] g e = absurd (omega (arith, e))
written_length p (name ∷ names) (f ∷ fs) g e =
    ap suc (written_length p names fs (g + length (low_body p name f g).funcs) (omega (arith, e)))

pub at_number : (shapes : List Shape) (names : List Text) (fs : List Function) → length names ≡ length fs → (i : ℕ) →
    i < length fs → Found fs fs (simple_form shapes names fs).funcs i i
at_number shapes names fs e i l =
    let n = length fs in
    let funcs = (simple_form shapes names fs).funcs in
    let h = holds_all funcs in
    let w = holds_front funcs 0 (all_written fs names fs n) (all_outlined fs names fs n) h in
    let o = holds_back funcs 0 (all_written fs names fs n) (all_outlined fs names fs n) h in
    let k = written_length fs names fs n e in
    let outlined_at : 0 + length (all_written fs names fs n) ≡ n = omega (arith, k) in
    subst (λ j. Found fs fs funcs i j) (omega arith)
    (found fs names fs funcs i 0 n e l w (subst (λ j. Holds funcs j (all_outlined fs names fs n)) outlined_at o))

-- ---- variables at first

pub unset_front : (xs : List SVar) (y : SVar) (ys : List SVar) →
    unset_of (xs ++ y ∷ ys) (length xs) ≡ first_value y.pointer
unset_front [] y ys = refl
unset_front (x ∷ xs) y ys = unset_front xs y ys

-- parameters have their arguments
parameters : (xs : List ℕ) (us : List Val) (vs ws : Vars) → length us ≡ length xs → (x : ℕ) →
    IsIn x xs ⊎ (vs x ≡ ws x) → set_all xs us vs x ≡ set_all xs us ws x
parameters [] us vs ws e x (inl i) = absurd (true≢false (sym i))
parameters [] us vs ws e x (inr i) = i
parameters (y ∷ xs) [] vs ws e x h = absurd (omega (arith, e))
parameters (y ∷ xs) (u ∷ us) vs ws e x h =
    parameters xs us (set y u vs) (set y u ws) (omega (arith, e)) x (go (same_or_not x y) h)
  where
    go : (x ≡ y) ⊎ (x ≢ y) → IsIn x (y ∷ xs) ⊎ (vs x ≡ ws x) → IsIn x xs ⊎ (set y u vs x ≡ set y u ws x)
    go (inl s) h = inr (ap (set y u vs) s ∙ (set_here y u vs ∙ sym (ap (set y u ws) s ∙ set_here y u ws)))
    go (inr d) (inl i) = inl (⊎_elim (λ s. absurd (d (sym s))) (λ j. j) (head_or_tail x y xs i))
    go (inr d) (inr s) = inr (set_other y x u vs d ∙ (s ∙ sym (set_other y x u ws d)))

-- others are as they were
pub set_all_apart : (xs : List ℕ) (us : List Val) (vs : Vars) (y : ℕ) → ((x : ℕ) → IsIn x xs → x < y) →
    set_all xs us vs y ≡ vs y
set_all_apart [] us vs y h = refl
set_all_apart (x ∷ xs) [] vs y h = refl
set_all_apart (x ∷ xs) (u ∷ us) vs y h =
    set_all_apart xs us (set x u vs) y (λ z i. h z (in_tail z x xs i))
    ∙ set_other x y u vs (λ e. let b = h x (in_head x x xs refl) in omega (arith, b, e))

-- ---- bodies

-- each of a program's functions is sound, by whatever name and number of its first branch
abbrev pub SoundProgram : List Shape → List Function → Type 0
SoundProgram shapes fs =
    (i : ℕ) (f : Function) → slice_get fs i ≡ Some f → (name : Text) (g : ℕ) →
    SoundFunction shapes (scope_of fs name f g) f

-- the variable of a result
abbrev result_of : Function → SVar
result_of f = record { at = record { from = 0; to = 0 }; local = false; pointer = f.pointer; shape = f.shape }

-- where a function that gives a value ends, it gives that of the variable behind its own, which is never set
results_alike : (p : List Function) (name : Text) (f : Function) (g : ℕ) (sc : List ℕ) (us : Vars) (k : ℕ)
    (x y : Out Vars) →
    (f.void ≡ false → us (length f.variables) ≡ (if f.pointer then Null else zero_value)) →
    Alike true (Did (λ z. z) (length f.variables) sc (length (own_variables f)) us) k x y →
    Alike false (Given f) k (result f.pointer x) (results (written p name f g).results y)
results_alike p name f g sc us k (With ws, c, r) (With xs, d, q) first s = (s.0, go f.void refl)
  where
    own : f.void ≡ false → length f.variables < length (own_variables f)
    own e =
        let l = length-append (map of_variable f.variables) (result_variable f) in
        let m = length-map f.variables of_variable in
        let n : length (result_variable f) ≡ 1 = one f.void e in
        omega (arith, l, m, n)
      where
        one : (b : Bool) → b ≡ false → length (if b then [] else result_of f ∷ []) ≡ 1
        one true e = absurd (true≢false e)
        one false e = refl

    go : (b : Bool) → f.void ≡ b →
        map xs (if b then [] else length f.variables ∷ [])
        ≡ (if b then [] else (if f.pointer then Null else zero_value) ∷ [])
    go true e = refl
    go false e = ap (λ v. v ∷ []) (s.1.kept (length f.variables) (omega arith) (own e) ∙ first e)
results_alike p name f g sc us k (Returns v, c, r) (Returns w, d, q) first s = (s.0, go f.void)
  where
    go : (b : Bool) → map (λ x. w) (if b then [] else length f.variables ∷ []) ≡ (if b then [] else v ∷ [])
    go true = refl
    go false = ap (λ u. u ∷ []) (sym s.1)
results_alike p name f g sc us k (Traps t, c, r) (Traps u, d, q) first s = s
results_alike p name f g sc us k (Going, c, r) (Going, d, q) first s = s
results_alike p name f g sc us k x y first s = absurd s

module _ (shapes : List Shape) (names : List Text) (fs : List Function) where
  abbrev form : Form
  form = simple_form shapes names fs

  -- calls within b ticks, with room for n and sn
  abbrev pub CallsAlike : ℕ → ℕ → Type 0
  CallsAlike b n = (sn j : ℕ) → j ≤ b → j ≤ sn → GoodCalls fs (calls false true fs n) (simple_calls form true sn) j

  module _ (name : Text) (f : Function) (first : ℕ) (sound : SoundFunction shapes (scope_of fs name f first) f)
      (holds : Holds form.funcs first (low_body fs name f first).funcs)
      (b n : ℕ) (room : b ≤ n) (good : CallsAlike b n) where
    abbrev scope : Scope
    scope = scope_of fs name f first

    abbrev here : Setting
    here = record {
      form = form;
      base = scope;
      call = calls false true fs n;
      n = n;
      bound = b;
      most = room;
      good = good;
    }

    abbrev stage : (sn j : ℕ) → j ≤ b → j ≤ sn → Stage here
    stage sn j most room = record {
      place = λ x. x;
      v = length f.variables;
      ns = f.params ++ map declared f.decls ++ all_declare f.body;
      numbers = record { below = sound.below; apart = λ x y i j e. e };
      below = sound.below;
      sc = f.params;
      inside = λ x i. in_front x (f.params ++ map declared f.decls) (all_declare f.body)
          (in_front x f.params (map declared f.decls) i);
      may = true;
      sn = sn;
      k = j;
      most = most;
      room = room;
    }

    own_more : length f.variables ≤ length (own_variables f)
    own_more =
        let l = length-append (map of_variable f.variables) (result_variable f) in
        let m = length-map f.variables of_variable in
        omega (arith, l, m)

    -- the variables of both sides at first
    abbrev begun : List Val → Vars
    begun us = set_all f.params us unset

    abbrev simple_begun : List Val → Vars
    simple_begun us = set_all f.params us (unset_of (written fs name f first).vars)

    abbrev Begun : List Val → Type 0
    Begun us = (x : ℕ) → IsIn x f.params → begun us x ≡ simple_begun us x

    last_at_first : (us : List Val) → f.void ≡ false →
        simple_begun us (length f.variables) ≡ (if f.pointer then Null else zero_value)
    last_at_first us e =
        let rest = (low_body fs name f first).vars in
        set_all_apart f.params us (unset_of (written fs name f first).vars) (length f.variables)
        (λ x i. sound.below x (in_front x (f.params ++ map declared f.decls) (all_declare f.body)
        (in_front x f.params (map declared f.decls) i)))
        ∙ go f.void e
      where
        go : (b : Bool) → b ≡ false →
            unset_of ((map of_variable f.variables ++ (if b then [] else result_of f ∷ [])) ++
            (low_body fs name f first).vars) (length f.variables)
            ≡ (if f.pointer then Null else zero_value)
        go true e = absurd (true≢false e)
        go false e =
            let w = result_of f in
            ap (λ vs. unset_of vs (length f.variables))
            (append_assoc (map of_variable f.variables) (w ∷ []) (low_body fs name f first).vars)
            ∙ (ap (unset_of (map of_variable f.variables ++ w ∷ (low_body fs name f first).vars))
            (sym (length-map f.variables of_variable))
            ∙ unset_front (map of_variable f.variables) w (low_body fs name f first).vars)

    pub body_runs : (sn j : ℕ) → j ≤ b → j ≤ sn → (us : List Val) → Begun us →
        Together false j (Given f) (body false true (calls false true fs n) n f us)
        (simple_body form true (simple_calls form true sn) sn (written fs name f first) us)
    body_runs sn j l m us agree =
        let z = stage sn j l m in
        let w = λ (y : ℕ) (i : IsIn y (map declared f.decls)). in_front y (f.params ++ map declared f.decls)
        (all_declare f.body) (in_back y f.params (map declared f.decls) i) in
        let z' = after z f.decls w in
        let t = length (own_variables f) in
        let ld = low_declarations scope f.decls t in
        let u = t + length ld.vars in
        let ls = low_stmts scope f.body u first in
        let done =
        together_append form.shapes (simple_calls form true sn) sn ld.code ls.code (simple_begun us)
        (declarations_run z f.decls w sound.decls t own_more (begun us) (simple_begun us) agree)
        (λ ws xs did. together_map (λ ys zs e. did_behind z.place z.v z'.sc z'.sc t u (simple_begun us) ws xs ys zs
        (omega arith) did e)
        (all_mean here f.body z' sound.body
        (λ y i. in_back y (f.params ++ map declared f.decls) (all_declare f.body) i) u first
        (let o = own_more in omega (arith, o))
        (subst (λ k. Holds form.funcs first (k ++ ls.funcs))
        (declarations_none scope f.decls t) holds) ws xs did.agrees)) in
        record {
          is = λ c r k.
              results_alike fs name f first z'.sc (simple_begun us) r
              ((all_declared false (calls false true fs n) f.decls (begun us) >>= all false
              (calls false true fs n) true n f.body) c r)
              (run form.shapes true (simple_calls form true sn) sn (ld.code ++ ls.code) (simple_begun us) c r)
              (last_at_first us) (done.is c r k);
        }

  -- ---- calls

  module _ (same : length names ≡ length fs) (sound : SoundProgram shapes fs) where
    -- with no tick left both go on
    abbrev Idle : {A : Type 0} → Core → Out A → Type 0
    Idle c (With a, d, r) = ⊥
    Idle c (Returns v, d, r) = ⊥
    Idle c (Traps t, d, r) = ⊥
    Idle c (Going, d, r) = d.output ≡ c.output

    both_idle : {A B : Type 0} (P : A → B → Type 0) (k : ℕ) (c : Core) (x : Out A) (y : Out B) → Idle c x → Idle c y →
        Alike false P k x y
    both_idle P k c (Going, d, r) (Going, e, q) h i = h ∙ sym i
    both_idle P k c (Going, d, r) (With b, e, q) h i = absurd i
    both_idle P k c (Going, d, r) (Returns v, e, q) h i = absurd i
    both_idle P k c (Going, d, r) (Traps t, e, q) h i = absurd i
    both_idle P k c (With a, d, r) y h i = absurd h
    both_idle P k c (Returns v, d, r) y h i = absurd h
    both_idle P k c (Traps t, d, r) y h i = absurd h

    idle : (n i : ℕ) (f : Function) → slice_get fs i ≡ Some f → (us : List Val) (at : Site) (c : Core) →
        Idle c (calls false true fs n i us at c zero)
    idle zero i f e us at c = refl
    idle (suc n) i f e us at c = subst (λ o. Idle c (run_function false true (calls false true fs n) n o us at c zero))
        (sym e) refl

    simple_idle : (sn i : ℕ) (f : SFunc) → slice_get form.funcs i ≡ Some f → (us : List Val) (at : Site) (c : Core) →
        Idle c (simple_calls form true sn i us at c zero)
    simple_idle zero i f e us at c = refl
    simple_idle (suc sn) i f e us at c =
        subst (λ o. Idle c (run_simple form true (simple_calls form true sn) sn o us at c zero)) (sym e) refl

    function_is : (i : ℕ) (f : Function) → slice_get fs i ≡ Some f → get_or fs i no_function ≡ f
    function_is i f e = get_or_from_slice_get fs i f no_function e

    at_once : (n sn i : ℕ) → i < length fs → (us : List Val) (at : Site) (c : Core) →
        Alike false (Given (get_or fs i no_function)) zero (calls false true fs n i us at c zero)
        (simple_calls form true sn i us at c zero)
    at_once n sn i l us at c =
        let h = at_number shapes names fs same i l in
        both_idle (Given (get_or fs i no_function)) zero c (calls false true fs n i us at c zero)
        (simple_calls form true sn i us at c zero)
        (idle n i h.function h.here us at c) (simple_idle sn i (written fs h.name h.function h.first) h.there us at c)

    called : (b n : ℕ) → b ≤ n → CallsAlike b n → (sn k : ℕ) → k ≤ suc b → k ≤ suc sn → (i : ℕ) → i < length fs →
        (us : List Val) → length us ≡ length (get_or fs i no_function).params → (at : Site) →
        Together false k (Given (get_or fs i no_function)) (calls false true fs (suc n) i us at)
        (simple_calls form true (suc sn) i us at)
    called b n room good sn k lb ls i l us e at =
        let h = at_number shapes names fs same i l in
        let f = h.function in
        let g = written fs h.name f h.first in
        let is = function_is i f h.here in
        subst (λ x. Together false k (Given x) (calls false true fs (suc n) i us at)
        (simple_calls form true (suc sn) i us at)) (sym is)
        (subst (λ o. Together false k (Given f) (run_function false true (calls false true fs n) n o us at)
        (simple_calls form true (suc sn) i us at)) (sym h.here)
        (subst (λ o. Together false k (Given f) (run_function false true (calls false true fs n) n (Some f) us at)
        (run_simple form true (simple_calls form true sn) sn o us at)) (sym h.there)
        (together_enter {f = body false true (calls false true fs n) n f us} {g = simple_body form true
        (simple_calls form true sn) sn g us} k at
        (λ j m. body_runs h.name f h.first (sound i f h.here h.name h.first) h.holds b n room good sn j
        (omega (arith, m, lb)) (omega (arith, m, ls)) us
        (λ x p. parameters f.params us unset (unset_of g.vars) (e ∙ ap (λ y. length y.params) is) x
        (inl p))))))

    pub calls_alike : (b n : ℕ) → b ≤ n → CallsAlike b n
    calls_alike zero n room sn j lb ls i l us e at c zero m = at_once n sn i l us at c
    calls_alike zero n room sn j lb ls i l us e at c (suc q) m = absurd (omega (arith, lb, m))
    calls_alike (suc b) n room sn j lb ls i l us e at c zero m = at_once n sn i l us at c
    calls_alike (suc b) zero room sn j lb ls i l us e at c (suc q) m = absurd (omega (arith, room))
    calls_alike (suc b) (suc n) room zero j lb ls i l us e at c (suc q) m = absurd (omega (arith, ls, m))
    calls_alike (suc b) (suc n) room (suc sn) j lb ls i l us e at c (suc q) m =
        (called b n (omega (arith, room)) (calls_alike b n (omega (arith, room))) sn j lb ls i l us e at).is c (suc q) m
