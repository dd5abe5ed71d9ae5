-- The places that were taken over along all calls are those of first `printf`s.
use Rattle.std.proofs.Common.{◌≡◌, refl, ℕ, zero, suc, ◌+◌, ◌<◌, sym, ap, subst, ◌∙◌, Bool, true, false, if◌then◌else◌, List, [], ◌∷◌, length, get_or, Option, Some, None, option_map, All, Contains, inl, inr, arith}
use Rattle.std.specs.Prelude.{filter_map}
use Rattle.std.specs.List.{cons_option}
use Rattle.std.proofs.lemmas.Bool.{cases_lt}
use Rattle.std.proofs.lemmas.List.{get_or-map, get_or_past, length-map}
use Rattle.std.proofs.lemmas.List.Elements.{Contains-get_or, Contains-push_cases, Contains-append_left, Contains-append_right, Contains-append_cases, All-contains}
use Rattle.ec_base.specs.declared.text.Text.{Text}
use Rattle.ec_base.specs.declared.token.Span.{Span}
use Rattle.ec_syntax.specs.declared.item.Func.{Func}
use Rattle.ec_calls.specs.declared.reach.Edge.{Edge}
use Rattle.ec_calls.specs.Effects.{Effect, doing}
use Rattle.ec_calls.specs.Graphs.{edge, edges_of, all_edges, own_place, own_places}
use Rattle.ec_calls.specs.Items.{function_named}
use Rattle.ec_calls.specs.Numbers.{place_at, IsBy, Leads, ends, goes, Lowers, IsKept, IsWithin}
use Rattle.ec_calls.specs.Prints.{CallsTo, Reaches, here, onward, ComesToPrint, NoLater, IsFirstPrint, ArePrints, number, place_of, printed}
use Rattle.ec_calls.specs.Seen.{callees, is_before, earlier, earliest, firsts, names_of}
use Rattle.ec_calls.proofs.Firsts.{AreFirsts, are_firsts, numbered, has_number, none_some}
use Rattle.ec_calls.proofs.Lowering.{by_trans}
use Rattle.ec_calls.proofs.Places.{no_later_itself, no_later_trans, before_is, not_before}

-- ---- what lists contain

pub in_front : {X : Type 0} (x : X) (xs : List X) → Contains (x ∷ xs) x
in_front x xs = Contains-get_or (x ∷ xs) 0 x (omega arith)

pub behind : {X : Type 0} (x : X) (xs : List X) (y : X) → Contains xs y → Contains (x ∷ xs) y
behind x xs y h = Contains-append_right (x ∷ []) xs y h

in_none : {X A : Type 0} (y : X) → Contains [] y → A
in_none y h = absurd (let b : h.0 < 0 = h.1 in omega arith)

kept_later : {Y : Type 0} (o : Option Y) (ys : List Y) (y : Y) → Contains ys y → Contains (cons_option o ys) y
kept_later None ys y h = h
kept_later (Some w) ys y h = behind w ys y h

kept_in : {X Y : Type 0} (f : X → Option Y) (xs : List X) (x : X) (y : Y) → Contains xs x → f x ≡ Some y
    → Contains (filter_map f xs) y
kept_in f [] x y h e = in_none x h
kept_in {X} {Y} f (z ∷ xs) x y h e = elim (Contains-append_cases (z ∷ []) xs x h) [
  | inl q ↦ elim (Contains-push_cases [] z x q) [
    | inl r ↦ in_none x r
    | inr r ↦
        subst (λ (o : Option Y). Contains (cons_option o (filter_map f xs)) y) (sym (ap f r ∙ e))
        (in_front y (filter_map f xs))
  ]
  | inr q ↦ kept_later (f z) (filter_map f xs) y (kept_in f xs x y q e)
]

-- where an element of a list that was filtered comes from
record Origin {X Y : Type 0} (f : X → Option Y) (xs : List X) (y : Y) : Type 0 where
  x : X
  stands : Contains xs x
  gives : f x ≡ Some y

origin_later : {X Y : Type 0} (f : X → Option Y) (z : X) (xs : List X) (y : Y) → Origin f xs y → Origin f (z ∷ xs) y
origin_later f z xs y o = record { x = o.x; stands = behind z xs o.x o.stands; gives = o.gives }

origin_step :
    {X Y : Type 0} (f : X → Option Y) (z : X) (xs : List X) (y : Y) (o : Option Y) → f z ≡ o
    → (Contains (filter_map f xs) y → Origin f xs y) → Contains (cons_option o (filter_map f xs)) y
    → Origin f (z ∷ xs) y
origin_step f z xs y None e later h = origin_later f z xs y (later h)
origin_step f z xs y (Some w) e later h = elim (Contains-append_cases (w ∷ []) (filter_map f xs) y h) [
  | inl q ↦ elim (Contains-push_cases [] w y q) [
    | inl r ↦ in_none y r
    | inr r ↦ record { x = z; stands = in_front z xs; gives = e ∙ ap Some r }
  ]
  | inr q ↦ origin_later f z xs y (later q)
]

origin : {X Y : Type 0} (f : X → Option Y) (xs : List X) (y : Y) → Contains (filter_map f xs) y → Origin f xs y
origin f [] y h = in_none y h
origin f (z ∷ xs) y h = origin_step f z xs y (f z) refl (λ q. origin f xs y q) h

calls_to : (f : Func) (name : Text) → Contains (callees (doing f.body).effects) name → CallsTo f name
calls_to f name h =
    let o : Origin (λ (e : Effect). e.calls) (doing f.body).effects name =
    origin (λ (e : Effect). e.calls) (doing f.body).effects name h in
    record { call = o.x; stands = o.stands; names = o.gives }

callee_of : (f : Func) (name : Text) → CallsTo f name → Contains (callees (doing f.body).effects) name
callee_of f name h = kept_in (λ (e : Effect). e.calls) (doing f.body).effects h.call name h.stands h.names

-- ---- the earliest place

among_step :
    (q : Span) (ps : List Span) (p : Span) (o : Option Span) → (o ≡ Some p → Contains ps p)
    → earlier (Some q) o ≡ Some p → Contains (q ∷ ps) p
among_step q ps p o later h = by o h later
  where
    the_same : (a : Span) → ◌≡◌ {A = Option Span} (Some a) (Some p) → a ≡ p
    the_same a e = ap (λ v. elim v [ None ↦ a | Some x ↦ x ]) e

    first : ◌≡◌ {A = Option Span} (Some q) (Some p) → Contains (q ∷ ps) p
    first e = subst (Contains (q ∷ ps)) (the_same q e) (in_front q ps)

    one : (b : Bool) (r : Span) → (if b then Some r else Some q) ≡ Some p → (Some r ≡ Some p → Contains ps p)
        → Contains (q ∷ ps) p
    one true r e k = behind q ps p (k e)
    one false r e k = first e

    by : (o : Option Span) → earlier (Some q) o ≡ Some p → (o ≡ Some p → Contains ps p) → Contains (q ∷ ps) p
    by None e k = first e
    by (Some r) e k = one (is_before r q) r e k

earliest_among : (ps : List Span) (p : Span) → earliest ps ≡ Some p → Contains ps p
earliest_among [] p h = none_some p h
earliest_among (q ∷ ps) p h = among_step q ps p (earliest ps) (λ e. earliest_among ps p e) h

one_by : (b : Bool) (q r at : Span) → (b ≡ true → NoLater r at) → (b ≡ false → NoLater q at)
    → IsBy (if b then Some r else Some q) at
one_by true q r at h k = h refl
one_by false q r at h k = k refl

first_by : (q : Span) (o : Option Span) → IsBy (earlier (Some q) o) q
first_by q None = no_later_itself q
first_by q (Some r) = one_by (is_before r q) q r q (λ e. before_is r q e) (λ e. no_later_itself q)

later_by : (q : Span) (o : Option Span) (at : Span) → IsBy o at → IsBy (earlier (Some q) o) at
later_by q None at h = absurd h
later_by q (Some r) at h = one_by (is_before r q) q r at (λ e. h) (λ e. no_later_trans q r at (not_before r q e) h)

earliest_by : (ps : List Span) (at : Span) → Contains ps at → IsBy (earliest ps) at
earliest_by [] at h = in_none at h
earliest_by (q ∷ ps) at h = elim (Contains-append_cases (q ∷ []) ps at h) [
  | inl r ↦ elim (Contains-push_cases [] q at r) [
    | inl k ↦ in_none at k
    | inr k ↦ subst (IsBy (earliest (q ∷ ps))) k (first_by q (earliest ps))
  ]
  | inr r ↦ later_by q (earliest ps) at (earliest_by ps at r)
]

-- ---- calls by numbers

-- the call of a name that an edge stands for
record EdgeAt (names : List Text) (k : ℕ) (gs : List Func) (e : Edge) (d : Func) : Type 0 where
  j : ℕ
  below : j < length gs
  is : k + j ≡ e.caller
  name : Text
  calls : Contains (callees (doing (get_or gs j d).body).effects) name
  leads : number names name ≡ Some e.callee

record IsEdge (k : ℕ) (o : Option ℕ) (e : Edge) : Type 0 where
  caller : k ≡ e.caller
  callee : o ≡ Some e.callee

is_edge : (k : ℕ) (o : Option ℕ) (e : Edge) → option_map (edge k) o ≡ Some e → IsEdge k o e
is_edge k None e h = none_some e h
is_edge k (Some x) e h =
    let is : edge k x ≡ e = ap (λ v. elim v [ None ↦ e | Some w ↦ w ]) h in
    record { caller = ap (λ (v : Edge). v.caller) is; callee = ap (λ (v : Edge). Some v.callee) is }

first_edge :
    (names : List Text) (k : ℕ) (g : Func) (gs : List Func) (e : Edge) (d : Func)
    → Contains (edges_of names k g) e → EdgeAt names k (g ∷ gs) e d
first_edge names k g gs e d h =
    let o : Origin (λ name. option_map (edge k) (number names name)) (callees (doing g.body).effects) e =
    origin (λ name. option_map (edge k) (number names name)) (callees (doing g.body).effects) e h in
    let i = is_edge k (number names o.x) e o.gives in
    let c : k ≡ e.caller = i.caller in
    record { j = 0; below = omega arith; is = omega arith; name = o.x; calls = o.stands; leads = i.callee }

later_edge :
    (names : List Text) (k : ℕ) (g : Func) (gs : List Func) (e : Edge) (d : Func) → EdgeAt names (suc k) gs e d
    → EdgeAt names k (g ∷ gs) e d
later_edge names k g gs e d h =
    let b : h.j < length gs = h.below in
    let c : suc k + h.j ≡ e.caller = h.is in
    record { j = suc h.j; below = omega arith; is = omega arith; name = h.name; calls = h.calls; leads = h.leads }

edge_from :
    (names : List Text) (k : ℕ) (gs : List Func) (e : Edge) (d : Func) → Contains (all_edges names k gs) e
    → EdgeAt names k gs e d
edge_from names k [] e d h = in_none e h
edge_from names k (g ∷ gs) e d h = elim (Contains-append_cases (edges_of names k g) (all_edges names (suc k) gs) e h) [
  | inl q ↦ first_edge names k g gs e d q
  | inr q ↦ later_edge names k g gs e d (edge_from names (suc k) gs e d q)
]

edge_to :
    (names : List Text) (k : ℕ) (gs : List Func) (j : ℕ) (d : Func) (name : Text) (x : ℕ) → j < length gs
    → Contains (callees (doing (get_or gs j d).body).effects) name → number names name ≡ Some x
    → Contains (all_edges names k gs) (edge (k + j) x)
edge_to names k [] j d name x below h e = absurd (omega arith)
edge_to names k (g ∷ gs) zero d name x below h e =
    let n : k ≡ k + 0 = omega arith in
    subst (λ v. Contains (all_edges names k (g ∷ gs)) (edge v x)) n
    (Contains-append_left (edges_of names k g) (all_edges names (suc k) gs) (edge k x)
    (kept_in (λ name. option_map (edge k) (number names name)) (callees (doing g.body).effects) name (edge k x) h
    (ap (option_map (edge k)) e)))
edge_to names k (g ∷ gs) (suc j) d name x below h e =
    let n : suc k + j ≡ k + suc j = omega arith in
    subst (λ v. Contains (all_edges names k (g ∷ gs)) (edge v x)) n
    (Contains-append_right (edges_of names k g) (all_edges names (suc k) gs) (edge (suc k + j) x)
    (edge_to names (suc k) gs j d name x (omega arith) h e))

edge_within : (gs : List Func) (e : Edge) (d : Func) → Contains (all_edges (names_of gs) 0 gs) e
    → IsWithin (length (own_places gs)) e
edge_within gs e d h =
    let a = edge_from (names_of gs) 0 gs e d h in
    let b : a.j < length gs = a.below in
    let i : 0 + a.j ≡ e.caller = a.is in
    let n : e.callee < length gs = (numbered gs a.name e.callee d a.leads).below in
    let l : length (own_places gs) ≡ length gs = length-map gs own_place in
    (omega arith, omega arith)

pub all_within : (gs : List Func) (e : Edge) → Contains (all_edges (names_of gs) 0 gs) e
    → IsWithin (length (own_places gs)) e
all_within [] e h = in_none e h
all_within (g ∷ gs) e h = edge_within (g ∷ gs) e g h

-- a function, where a name has a number
some_function : (gs : List Func) (name : Text) (k : ℕ) → number (names_of gs) name ≡ Some k → Func
some_function [] name k h = none_some k h
some_function (g ∷ gs) name k h = g

-- ---- the places that were taken over

module _ (fs gs : List Func) (known : AreFirsts gs fs) (new : List (Option Span))
    (lowers : Lowers (all_edges (names_of gs) 0 gs) (own_places gs) new)
    (kept : All (IsKept new) (all_edges (names_of gs) 0 gs)) where
  abbrev look : Text → Option Span
  look name = printed (record { names = names_of gs; places = new }) name

  own_at : (k : ℕ) (d : Func) → k < length gs → place_at (own_places gs) k ≡ own_place (get_or gs k d)
  own_at k d below = get_or-map own_place gs k d None below

  own_below : (k : ℕ) (at : Span) → place_at (own_places gs) k ≡ Some at → k < length gs
  own_below k at h = elim (cases_lt k (length gs)) [
    | inl q ↦ q
    | inr q ↦
        let l : length (own_places gs) ≡ length gs = length-map gs own_place in
        none_some at (sym (get_or_past (own_places gs) k None (omega arith)) ∙ h)
  ]

  -- the function of a number is that of its name
  itself : (k : ℕ) (d : Func) → k < length gs → function_named fs (get_or gs k d).name.text ≡ Some (get_or gs k d)
  itself k d below = sym (known.same_named (get_or gs k d).name.text) ∙ known.distinct k d below

  comes_on :
      (d : Func) (k last : ℕ) (at : Span) → Leads (all_edges (names_of gs) 0 gs) k last → last < length gs
      → Contains (doing (get_or gs last d).body).prints at → ComesToPrint fs (get_or gs k d).name.text at
  comes_on d k last at ends below h =
      record { last = (get_or gs k d).name.text; f = get_or gs k d; reaches = here; is = itself k d below; prints = h }
  comes_on d k last at (goes e is stands rest) below h =
      let a = edge_from (names_of gs) 0 gs e d stands in
      let c = comes_on d e.callee last at rest below h in
      let i : 0 + a.j ≡ e.caller = a.is in
      let j : a.j ≡ k = (omega arith) ∙ is in
      subst (λ v. ComesToPrint fs (get_or gs v d).name.text at) j (record {
        last = c.last;
        f = c.f;
        reaches =
            onward (itself a.j d a.below) (calls_to (get_or gs a.j d) a.name a.calls)
            (subst (λ v. Reaches fs v c.last) (numbered gs a.name e.callee d a.leads).called c.reaches);
        is = c.is;
        prints = c.prints;
      })

  sound_at : (name : Text) (at : Span) (o : Option ℕ) → number (names_of gs) name ≡ o → place_of new o ≡ Some at
      → ComesToPrint fs name at
  sound_at name at None q h = none_some at h
  sound_at name at (Some k) q h =
      let d = some_function gs name k q in
      let c = lowers.from k at h in
      let b = own_below c.last at c.there in
      let p : own_place (get_or gs c.last d) ≡ Some at = sym (own_at c.last d b) ∙ c.there in
      subst (λ v. ComesToPrint fs v at) (numbered gs name k d q).called
      (comes_on d k c.last at c.leads b (earliest_among (doing (get_or gs c.last d).body).prints at p))

  sound : (name : Text) (at : Span) → look name ≡ Some at → ComesToPrint fs name at
  sound name at h = sound_at name at (number (names_of gs) name) refl h

  own_by : (name : Text) (f : Func) (at : Span) → function_named fs name ≡ Some f
      → Contains (doing f.body).prints at → IsBy (look name) at
  own_by name f at is h =
      let n = has_number gs name f (known.same_named name ∙ is) in
      let own : place_at (own_places gs) n.k ≡ own_place f = own_at n.k f n.below ∙ ap own_place n.there in
      let by : IsBy (place_at (own_places gs) n.k) at =
      subst (λ v. IsBy v at) (sym own) (earliest_by (doing f.body).prints at h) in
      subst (λ v. IsBy v at) (sym (ap (place_of new) n.is))
      (by_trans (place_at (own_places gs) n.k) (place_at new n.k) at by (λ p e. lowers.lower n.k p e))

  call_by_at :
      (name next : Text) (f : Func) (at : Span) (o : Option ℕ) → function_named fs name ≡ Some f → CallsTo f next
      → number (names_of gs) next ≡ o
      → IsBy (place_of new o) at → IsBy (look name) at
  call_by_at name next f at None is calls q h = absurd h
  call_by_at name next f at (Some x) is calls q h =
      let n = has_number gs name f (known.same_named name ∙ is) in
      let c : Contains (callees (doing (get_or gs n.k f).body).effects) next =
      callee_of (get_or gs n.k f) next (subst (λ v. CallsTo v next) (sym n.there) calls) in
      let k : IsKept new (edge (0 + n.k) x) =
      All-contains (IsKept new) (all_edges (names_of gs) 0 gs) (edge (0 + n.k) x) kept
      (edge_to (names_of gs) 0 gs n.k f next x n.below c q) in
      let z : 0 + n.k ≡ n.k = omega arith in
      subst (λ v. IsBy v at) (sym (ap (place_of new) n.is))
      (by_trans (place_at new x) (place_at new n.k) at h (λ p e. subst (λ v. IsBy (place_at new v) p) z (k p e)))

  reached_by :
      (name last : Text) (f : Func) (at : Span) → Reaches fs name last → function_named fs last ≡ Some f
      → Contains (doing f.body).prints at
      → IsBy (look name) at
  reached_by name last f at here is h = own_by name f at is h
  reached_by name last f at (onward {next = next} {f = g} named calls rest) is h =
      call_by_at name next g at (number (names_of gs) next) named calls refl (reached_by next last f at rest is h)

  first_at : (name : Text) (o : Option Span) → look name ≡ o → IsFirstPrint fs name o
  first_at name None e = λ at c. subst (λ v. IsBy v at) e (reached_by name c.last c.f at c.reaches c.is c.prints)
  first_at name (Some p) e =
      (sound name p e, λ at c. subst (λ v. IsBy v at) e (reached_by name c.last c.f at c.reaches c.is c.prints))

  pub are_prints : ArePrints fs look
  are_prints name = first_at name (look name) refl

-- ---- the same of what the code has

module _ (fs gs : List Func) (names : List Text) (calls : List Edge) (own : List (Option Span))
    (first : gs ≡ firsts fs) (named : names ≡ names_of (firsts fs)) (called : calls ≡ all_edges names 0 gs)
    (printing : own ≡ own_places gs) where
  names_are : names ≡ names_of gs
  names_are = named ∙ ap names_of (sym first)

  calls_are : calls ≡ all_edges (names_of gs) 0 gs
  calls_are = called ∙ ap (λ v. all_edges v 0 gs) names_are

  pub within : All (IsWithin (length own)) calls
  within k d below =
      let stands : Contains (all_edges (names_of gs) 0 gs) (get_or calls k d) =
      subst (λ v. Contains v (get_or calls k d)) calls_are (Contains-get_or calls k d below) in
      subst (λ v. IsWithin (length v) (get_or calls k d)) (sym printing) (all_within gs (get_or calls k d) stands)

  pub tabled : (new : List (Option Span)) → Lowers calls own new → All (IsKept new) calls
      → ArePrints fs (printed (record { names = names; places = new }))
  tabled new lowers kept =
      subst (λ v. ArePrints fs (printed (record { names = v; places = new }))) (sym names_are)
      (are_prints fs gs (subst (λ v. AreFirsts v fs) (sym first) (are_firsts fs)) new
      (subst (λ v. Lowers v (own_places gs) new) calls_are (subst (λ v. Lowers calls v new) printing lowers))
      (subst (All (IsKept new)) calls_are kept))
