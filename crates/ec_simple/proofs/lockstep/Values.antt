-- The code of an expression gives its value, that of a place its access, and that of a call what the call is made with.
use Rattle.std.proofs.Common.{◌≡◌, refl, sym, ap, ◌∙◌, subst, ℕ, suc, ◌+◌, ◌≤◌, ◌<◌, Bool, true, false, ◌||◌, if◌then◌else◌, List, [], ◌∷◌, ◌++◌, length, map, arith, ℤ, pos}
use Rattle.ec_base.specs.declared.token.Span.{Span}
use Rattle.ec_simple.specs.declared.form.SExpr.TheVariants as e
use Rattle.ec_simple.specs.declared.form.SPlaceOf.{SPlaceOf}
use Rattle.ec_simple.specs.declared.form.SStmt.TheOpen.{SStmt-F}
use Rattle.ec_simple.specs.declared.form.SStmt.TheVariants as s
use Rattle.ec_simple.specs.declared.form.Shape.{Shape}
use Rattle.ec_simple.specs.Expressions.{Code, Scope, Low, Lows, LowCall, function_at, pointer, points, constant, plain_call, passed, low, low_part, low_place, low_list, low_call, low_placing}
use Rattle.ec_simple.specs.Meaning.{SCaller, run, called, shape_at, fresh_cells, access, site as site_of}
use Rattle.ec_simple.specs.Sound.{IsIn, HasField, whole, IsCell, count, Sound, SoundPart, SoundPlace, SoundCall, SoundList, SoundPlacing, Gives as GivesOne}
use Rattle.ec_simple.proofs.lockstep.Accesses.{element_in, access_kept, same_element, same_field, reached_shape, field_same, item_same, item_element}
use Rattle.ec_simple.proofs.lockstep.Alike.{Given as Gives, GoodCalls}
use Rattle.ec_simple.proofs.lockstep.Below.{passed_below, value_below, place_below, list_below}
use Rattle.ec_simple.proofs.lockstep.Code.{load_does, new_does, read_does, call_does}
pub use Rattle.ec_simple.proofs.lockstep.Operators.{Valued}
use Rattle.ec_simple.proofs.lockstep.Operators.{set_valued, set_together, first_together, constant_together, two_together, passed_together, unary_together, binary_together, and_together, or_together}
use Rattle.ec_simple.proofs.lockstep.Steps.{load_steady, allocate_steady}
use Rattle.ec_simple.proofs.lockstep.Together.{Together, together_may, together_is, together_map, together_then, together_left, together_right, together_pure, together_gives, together_append, together_step, together_last, both, of_both}
use Rattle.ec_simple.proofs.lockstep.Variables.{Numbers, Agrees, agrees_kept, Keeps, keeps_less, keeps_both, map_same}
use Rattle.ec_types.specs.Meaning.Evaluation.{Caller, value, given, place, invoked, values, site, element_of, field_of, item_of}
use Rattle.ec_types.specs.Meaning.Layout.{or_zero}
use Rattle.ec_types.specs.Meaning.Memory.{Access, load, shared, allocate}
use Rattle.ec_types.specs.Meaning.State.{Site, Here, OwnerOf, Home, Node, Anywhere, Does, ◌>>=◌, pure, Vars, set_all}
use Rattle.ec_types.specs.Meaning.Tree.{Function, Expr, Number, Nil, Var, Unary, Binary, And, Or, Load, Called, New, ValueOf, Part, Missing, Given, Place, Element, Behind, Field, Item, Invocation, Invoke, Exprs, Last, Arg, Placing, OnThis, OnOwner, OnHome, OnNode, OnAny}
use Rattle.ec_types.specs.Meaning.Values.{Val, Num, Null, zero_value}

-- the values of arguments stand in variables
abbrev pub All_valued : ℕ → List ℕ → Vars → List Val → Vars → Type 0
All_valued t to us vals ws = (map ws to ≡ vals) × Keeps t us ws

-- an access that may be made: at least in one and the same element
abbrev pub Reached : List Shape → Scope → Place → ℕ → SPlaceOf → Vars → Access → Vars → Type 0
Reached shapes c p t l us x ws =
    (element_in x ≡ element_in (access shapes l ws)) × (IsCell shapes c p → x ≡ access shapes l ws) × Keeps t us ws

-- a call that may be made, with these arguments and there
abbrev pub Prepared : ℕ → LowCall → Vars → List Val × Site → Vars → Type 0
Prepared t l us p ws = (map ws l.args ≡ p.0) × (site_of l.place ws ≡ p.1) × Keeps t us ws

-- behind the arguments, a placement with this operand
abbrev At_operand : (Val → Site) → ℕ → Lows → Low → Vars → List Val × Site → Vars → Type 0
At_operand make t l la us p ws = (map ws l.to ≡ p.0) × (make (ws la.to) ≡ p.1) × Keeps t us ws

abbrev Operand : (Val → Site) → ℕ → ℕ → Vars → Site → Vars → Type 0
Operand make u to ws x zs = (make (zs to) ≡ x) × Keeps u ws zs

-- a call of f gave a value, and its results were copied to variables
pub record Gave (f : Function) (t : ℕ) (to : List ℕ) (us : Vars) (v : Val) (xs : Vars) : Type 0 where
  pub results : List Val
  pub before : Vars
  pub gives : Gives f v results
  pub kept : Keeps t us before
  pub set : xs ≡ set_all to results before

-- ---- the parts of calls

-- the function that a call names
abbrev pub named : Scope → Invocation → Function
named c (Invoke at f es q) = function_at c f

func_is : (c : Scope) (at : Span) (f : ℕ) (l : Lows) (q : Placing) (t : ℕ) → (low_placing c at f l q t).func ≡ f
func_is c at f l OnThis t = refl
func_is c at f l (OnOwner a) t = refl
func_is c at f l OnHome t = refl
func_is c at f l (OnNode a) t = refl
func_is c at f l OnAny t = refl

args_are : (c : Scope) (at : Span) (f : ℕ) (l : Lows) (q : Placing) (t : ℕ) → (low_placing c at f l q t).args ≡ l.to
args_are c at f l OnThis t = refl
args_are c at f l (OnOwner a) t = refl
args_are c at f l OnHome t = refl
args_are c at f l (OnNode a) t = refl
args_are c at f l OnAny t = refl

pub list_length : (c : Scope) (es : Exprs) (t : ℕ) → length (low_list c es t).to ≡ count es
list_length c Last t = refl
list_length c (Arg a es) t = ap suc (list_length c es (t + length (passed c a t (low c a t)).vars))

map_length : (f : ℕ → Val) (xs : List ℕ) → length (map f xs) ≡ length xs
map_length f [] = refl
map_length f (x ∷ xs) = ap suc (map_length f xs)

args_length : (c : Scope) (at : Span) (f : ℕ) (es : Exprs) (q : Placing) (t : ℕ) (ws : Vars) →
    length (map ws (low_call c (Invoke at f es q) t).args) ≡ count es
args_length c at f es q t ws =
    let l = low_list c es t in
    map_length ws (low_call c (Invoke at f es q) t).args
    ∙ (ap length (args_are c at f l q (t + length l.vars)) ∙ list_length c es t)

-- a result, where the function gives one
one_result : (f : Function) (t m : ℕ) (us : Vars) (v : Val) (xs : Vars) → t ≤ m → f.void ≡ false →
    Gave f t (m ∷ []) us v xs → Valued t m us v xs
one_result f t m us v xs h i g =
    subst (Valued t m us v) (sym (g.set ∙ ap (λ l. set_all (m ∷ []) l g.before) results)) (set_valued t m us g.before v h g.kept)
  where
    results : g.results ≡ v ∷ []
    results = g.gives ∙ ap (λ b. if b then [] else v ∷ []) i

all_valued : (i : ℕ) (is : List ℕ) (x : Val) (xs : List Val) (zs : Vars) → zs i ≡ x → map zs is ≡ xs →
    map zs (i ∷ is) ≡ x ∷ xs
all_valued i is x xs zs p q = ap (λ a. a ∷ map zs is) p ∙ ap (λ l. x ∷ l) q

-- ---- expressions

module _ (shapes : List Shape) (c : Scope) (call : Caller) (scall : SCaller) (n k : ℕ)
    (good : GoodCalls c.functions call scall k) (may : Bool) (sc : List ℕ) (v : ℕ) (numbers : Numbers c.place sc v) where
  abbrev runs : Code → Vars → Does Vars
  runs = run shapes true scall n

  abbrev Runs_as : {A : Type 0} → (A → Vars → Type 0) → Does A → Code → Vars → Type 0
  Runs_as P d code us = Together may k P d (runs code us)

  -- what the expression means
  abbrev means : Expr → Vars → Does Val
  means = value false call

  kept : (t : ℕ) (vs us ws : Vars) → v ≤ t → Agrees c.place sc vs us → Keeps t us ws → Agrees c.place sc vs ws
  kept t vs us ws h g l = agrees_kept c.place sc v t vs us ws numbers h g l

  -- ---- the parts of calls

  -- behind the arguments stands the operand of the placement
  at_operand : (make : Val → Site) (l : Lows) (la : Low) (t : ℕ) (us : Vars) (d : Does (List Val)) (e : Does Val) →
      ((x : ℕ) → IsIn x l.to → x < t + length l.vars) → Runs_as (All_valued t l.to us) d l.code us →
      ((ws : Vars) → Keeps t us ws → Runs_as (Valued (t + length l.vars) la.to ws) e la.code ws) →
      Runs_as (At_operand make t l la us) (both d (e >>= (λ w. pure (make w)))) (l.code ++ la.code) us
  at_operand make l la t us d e b hd he =
      together_append shapes scall n l.code la.code us hd (λ xs ws p.
      together_left (together_gives {Q = Operand make u la.to ws} make (he ws p.1) (λ x zs q. (ap make q.0, q.1)))
      (λ x zs q. together_pure {a = (xs, x)} (
        map_same zs ws l.to (λ w i. q.1 w (b w i)) ∙ p.0,
        q.0,
        keeps_both t us ws zs p.1 (keeps_less t u ws zs (omega arith) q.1),
      )))
    where
      u : ℕ
      u = t + length l.vars

  module _ (at : Span) (f : ℕ) (es : Exprs) (q : Placing) (s : SoundCall shapes c sc (Invoke at f es q)) (t : ℕ)
      (us : Vars)
      (to : List ℕ) where
    abbrev l : LowCall
    l = low_call c (Invoke at f es q) t

    abbrev Called_as : Does Val → Does Vars → Type 0
    Called_as d e = Together may k (Gave (function_at c f) t to us) d e

    -- both sides call one function, with the same arguments and at one place
    abbrev Same_calls : ℕ → Vars → Type 0
    Same_calls g ws =
        Together may k (Gives (function_at c f)) (call f (map ws l.args) (site_of l.place ws)) (scall g (map ws l.args) (site_of l.place ws))

    same_calls : (ws : Vars) → Same_calls l.func ws
    same_calls ws =
        let is = good f s.0 (map ws l.args) (args_length c at f es q t ws ∙ s.1) (site_of l.place ws) in
        subst (λ g. Same_calls g ws) (sym (func_is c at f (low_list c es t) q (t + length (low_list c es t).vars)))
        (together_may may (record { is = is }))

    abbrev made : Vars → Does Vars
    made = called shapes true scall n (plain_call l to)

    calls : (p : List Val × Site) (ws : Vars) → Prepared t l us p ws → Called_as (call f p.0 p.1) (made ws)
    calls p ws h =
        subst (λ xs. Called_as (call f xs p.1) (made ws)) h.0
        (subst (λ z. Called_as (call f (map ws l.args) z) (made ws)) h.1
        (together_right (same_calls ws)
        (λ a vals i. together_pure (record { results = vals; before = ws; gives = i; kept = h.2; set = refl }))))

  gives_one : (i : Invocation) → GivesOne shapes c i → (named c i).void ≡ false
  gives_one (Invoke at f es q) h = h

  -- ---- each part is given that the variables of those below it agree

  mutual
    pub value_runs : (x : Expr) → Sound shapes c sc x → (t : ℕ) → v ≤ t → (vs us : Vars) → Agrees c.place sc vs us →
        Runs_as (Valued t (low c x t).to us) (value false call x vs) (low c x t).code us
    value_runs (Number at i) y t h vs us g = constant_together may k shapes scall n at i t us
    value_runs (Nil at) y t h vs us g =
        first_together may k shapes scall n Null t (t + 0) us us e.Null (omega arith) (λ z l. refl) refl
    value_runs (Var at x) y t h vs us g = together_pure (sym (g x y), λ z l. refl)
    value_runs (Unary at op a) y t h vs us g =
        let la = low c a t in
        unary_together may k shapes scall n op (points c a) t (t + length la.vars) la us (means a vs) (omega arith)
        (value_runs a y t h vs us g)
    value_runs (Binary at op a b) y t h vs us g =
        let la = low c a t in
        let u = t + length la.vars in
        binary_together may k shapes scall n t u la (low c b u) us (means a vs) (means b vs) (omega arith)
        (value_below shapes c sc v numbers a y.0 t h) (value_runs a y.0 t h vs us g)
        (λ ws q. value_runs b y.1 u (omega (arith, h)) vs ws (kept t vs us ws h g q)) (points c a || points c b) at op
    value_runs (And at a b) y t h vs us g =
        let la = low c a t in
        let u = t + length la.vars in
        let m = t + length (la.vars ++ (low c b u).vars) in
        and_together may k shapes scall n t u m la (low c b u) us (means a vs) (means b vs) (omega arith) (omega arith)
        (value_runs a y.0 t h vs us g) (λ ws q. value_runs b y.1 u (omega (arith, h)) vs ws (kept t vs us ws h g q))
    value_runs (Or at a b) y t h vs us g =
        let la = low c a t in
        let u = t + length la.vars in
        let m = t + length (la.vars ++ (low c b u).vars) in
        or_together may k shapes scall n t u m la (low c b u) us (means a vs) (means b vs) (omega arith) (omega arith)
        (value_runs a y.0 t h vs us g) (λ ws q. value_runs b y.1 u (omega (arith, h)) vs ws (kept t vs us ws h g q))
    value_runs (Load o p) y t h vs us g =
        let l = low_place c p t in
        let m = t + length l.vars in
        together_last shapes scall n l.code (s.Load m l.place) (SStmt-F.Load m l.place) us
        (load_does shapes true scall n m l.place) (place_runs p y.0 t h vs us g)
        (λ x ws r. set_together t m us ws (load x) (load (access shapes l.place ws)) (omega arith) r.2
        (ap load (r.1 y.1)) (load_steady x))
    value_runs (Called i) y t h vs us g =
        let l = low_call c i t in
        let m = t + length l.vars in
        let call = plain_call l (m ∷ []) in
        together_map (λ x xs r. one_result (named c i) t m us x xs (omega arith) (gives_one i y.1) r)
        (together_step shapes scall n l.code (s.Call call) (SStmt-F.Call call) us (call_does shapes true scall n call)
        (invocation_runs i y.0 t h vs us g (m ∷ [])))
    value_runs (New at shape element part) y t h vs us g =
        let l = low_part c at (pos 1) part t in
        let m = t + length l.vars in
        let cells = fresh_cells (shape_at shapes shape) in
        together_last shapes scall n l.code (s.New m shape l.to at) (SStmt-F.New m shape l.to at) us
        (new_does shapes true scall n m shape l.to at) (part_runs part at (pos 1) y.1 t h vs us g)
        (λ x ws p. set_together t m us ws (allocate at element x) (allocate at cells (ws l.to)) (omega arith) p.1
        (ap (λ z. allocate at z x) (sym y.0) ∙ ap (allocate at cells) (sym p.0)) (allocate_steady at element x))
    value_runs (ValueOf at a) y t h vs us g =
        let l = low c a t in
        let m = t + length l.vars in
        together_last shapes scall n l.code (s.Read l.to m at) (SStmt-F.Read l.to m at) us
        (read_does shapes true scall n l.to m at) (value_runs a y t h vs us g)
        (λ x ws p. set_together t m us ws (load (shared at x)) (load (shared at (ws l.to))) (omega arith) p.1
        (ap (λ z. load (shared at z)) (sym p.0)) (load_steady (shared at x)))

    pub part_runs : (p : Part) (at : Span) (i : ℤ) → SoundPart shapes c sc p → (t : ℕ) → v ≤ t → (vs us : Vars) →
        Agrees c.place sc vs us →
        Runs_as (Valued t (low_part c at i p t).to us) (given false call (Num i) p vs) (low_part c at i p t).code us
    part_runs Missing at i y t h vs us g = constant_together may k shapes scall n at i t us
    part_runs (Given a) at i y t h vs us g = value_runs a y t h vs us g

    pub place_runs : (p : Place) → SoundPlace shapes c sc p → (t : ℕ) → v ≤ t → (vs us : Vars) →
        Agrees c.place sc vs us →
        Runs_as (Reached shapes c p t (low_place c p t).place us) (place false call p vs) (low_place c p t).code us
    place_runs (Element at size base index) y t h vs us g =
        let lb = low c base t in
        let u = t + length lb.vars in
        let li = low_part c at (pos 0) index u in
        let sh = or_zero (pointer c base) in
        let second = given false call zero_value index vs in
        together_is (of_both (means base vs) second (λ b i. pure (element_of at size b i))) (λ d r. refl)
        (together_left
        (two_together may k shapes scall n t u lb li us (means base vs) second (omega arith)
        (value_below shapes c sc v numbers base y.0 t h) (value_runs base y.0 t h vs us g)
        (λ ws q. part_runs index at (pos 0) y.1 u (omega (arith, h)) vs ws (kept t vs us ws h g q)))
        (λ p ws q. together_pure (
          same_element shapes at size lb.to li.to sh p.0 p.1 ws y.2 q.0 q.1 0,
          λ f. same_field shapes at size lb.to li.to sh p.0 p.1 ws y.2 q.0 q.1 whole f,
          q.2,
        )))
    place_runs (Behind at size f base) y t h vs us g =
        let lb = low c base t in
        let u = t + length lb.vars in
        let li = constant at (pos 0) u in
        let sh = or_zero (pointer c base) in
        together_is (of_both (means base vs) (pure zero_value) (λ b i. pure (field_of at f (element_of at size b i)))) (λ d r. refl)
        (together_left
        (two_together may k shapes scall n t u lb li us (means base vs) (pure zero_value) (omega arith)
        (value_below shapes c sc v numbers base y.0 t h) (value_runs base y.0 t h vs us g)
        (λ ws q. constant_together may k shapes scall n at (pos 0) u ws))
        (λ p ws q.
        let same = same_field shapes at size lb.to li.to sh p.0 p.1 ws y.1 q.0 q.1 f y.2 in
        together_pure (ap element_in same, λ i. same, q.2)))
    place_runs (Field at f p) y t h vs us g =
        let l = (low_place c p t).place in
        let has = subst (λ z. HasField z f) (reached_shape shapes c p t) y.1 in
        together_gives (field_of at f) (place_runs p y.0 t h vs us g)
        (λ x ws q. let same = field_same shapes at f x l ws has q.0 in (ap element_in same, λ i. same, q.2))
    place_runs (Item at p index) y t h vs us g =
        let l = low_place c p t in
        let u = t + length l.vars in
        let li = low c index u in
        let below = place_below shapes c sc v numbers p y.0 t h in
        together_append shapes scall n l.code li.code us (place_runs p y.0 t h vs us g)
        (λ x ws q.
        together_gives (item_of at x) (value_runs index y.1 u (omega (arith, h)) vs ws (kept t vs us ws h g q.2))
        (λ i xs r. let same = access_kept shapes u l.place ws xs below r.1 in (
          item_element shapes at i x l.place li.to xs r.0 (q.0 ∙ ap element_in (sym same)),
          λ z. item_same shapes at i x l.place li.to xs r.0 (q.1 z ∙ sym same),
          keeps_both t us ws xs q.2 (keeps_less t u ws xs (omega arith) r.1),
        )))

    pub list_runs : (es : Exprs) → SoundList shapes c sc es → (t : ℕ) → v ≤ t → (vs us : Vars) →
        Agrees c.place sc vs us →
        Runs_as (All_valued t (low_list c es t).to us) (values false call es vs) (low_list c es t).code us
    list_runs Last y t h vs us g = together_pure (refl, λ z l. refl)
    list_runs (Arg a es) y t h vs us g =
        let la = passed c a t (low c a t) in
        let u = t + length la.vars in
        let ls = low_list c es u in
        let below = passed_below c a t (low c a t) (value_below shapes c sc v numbers a y.0 t h) in
        together_append shapes scall n la.code ls.code us
        (passed_together may k shapes scall n c a t (low c a t) us (value false call a vs) (value_runs a y.0 t h vs us g))
        (λ x ws p.
        together_gives (λ xs. x ∷ xs) (list_runs es y.1 u (omega (arith, h)) vs ws (kept t vs us ws h g p.1))
        (λ xs zs q. (
          all_valued la.to ls.to x xs zs (q.1 la.to below ∙ p.0) q.0,
          keeps_both t us ws zs p.1 (keeps_less t u ws zs (omega arith) q.1),
        )))

    -- behind the arguments, where the call is placed
    placing_runs : (q : Placing) → SoundPlacing shapes c sc q → (at : Span) (f : ℕ) (l : Lows) (t : ℕ) → v ≤ t →
        (d : Does (List Val)) → ((x : ℕ) → IsIn x l.to → x < t + length l.vars) →
        (vs us : Vars) → Agrees c.place sc vs us → Runs_as (All_valued t l.to us) d l.code us →
        let lc = low_placing c at f l q (t + length l.vars) in
        Runs_as (Prepared t lc us) (both d (site false call q vs)) lc.code us
    placing_runs OnThis y at f l t h d b vs us g e =
        together_left e (λ xs ws p. together_pure {a = (xs, Here)} (p.0, refl, p.1))
    placing_runs (OnOwner a) y at f l t h d b vs us g e =
        let u = t + length l.vars in
        at_operand OwnerOf l (low c a u) t us d (means a vs) b e
        (λ ws p. value_runs a y u (omega (arith, h)) vs ws (kept t vs us ws h g p))
    placing_runs OnHome y at f l t h d b vs us g e =
        together_left e (λ xs ws p. together_pure {a = (xs, Home)} (p.0, refl, p.1))
    placing_runs (OnNode a) y at f l t h d b vs us g e =
        let u = t + length l.vars in
        at_operand Node l (low c a u) t us d (means a vs) b e
        (λ ws p. value_runs a y u (omega (arith, h)) vs ws (kept t vs us ws h g p))
    placing_runs OnAny y at f l t h d b vs us g e =
        together_left e (λ xs ws p. together_pure {a = (xs, Anywhere)} (p.0, refl, p.1))

    -- the call, whose results go to these variables
    pub invocation_runs : (i : Invocation) → SoundCall shapes c sc i → (t : ℕ) → v ≤ t → (vs us : Vars) →
        Agrees c.place sc vs us → (to : List ℕ) → let l = low_call c i t in
        Together may k (Gave (named c i) t to us) (invoked false call i vs)
        (runs l.code us >>= called shapes true scall n (plain_call l to))
    invocation_runs (Invoke at f es q) y t h vs us g to =
        together_is (of_both (values false call es vs) (site false call q vs) (call f)) (λ d r. refl)
        (together_then
        (placing_runs q y.3 at f (low_list c es t) t h (values false call es vs)
        (list_below shapes c sc v numbers es y.2 t h) vs us g (list_runs es y.2 t h vs us g))
        (λ p ws r. calls at f es q y t us to p ws r))

  pub call_runs : (at : Span) (f : ℕ) (es : Exprs) (q : Placing) → SoundCall shapes c sc (Invoke at f es q) → (t : ℕ) →
      v ≤ t → (vs us : Vars) → Agrees c.place sc vs us → (to : List ℕ) →
      let l = low_call c (Invoke at f es q) t in
      Together may k (Gave (function_at c f) t to us) (invoked false call (Invoke at f es q) vs)
      (runs l.code us >>= called shapes true scall n (plain_call l to))
  call_runs at f es q y t h vs us g to = invocation_runs (Invoke at f es q) y t h vs us g to
