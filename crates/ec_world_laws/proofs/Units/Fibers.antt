-- Fibers of valid code leave a unit in place.
use Rattle.std.proofs.Common.{◌≡◌, ℕ, zero, suc, Bool, true, List, [], ◌∷◌, length, refl, sym, Option, Some, None, slice_get, subst, ℤ}
use Rattle.std.specs.Prelude.{◌==◌, ◌&&◌, if◌then◌else◌, nat_lt}
use Rattle.std.specs.List.{list_all}
use Rattle.std.proofs.lemmas.Bool.{and_parts, eqb-true}
use Rattle.std.proofs.lemmas.Option.{same_Some}
use Rattle.ec_base.specs.Arithmetic.{binary}
use Rattle.ec_base.specs.declared.operator.BinOp.TheVariants as bin
use Rattle.ec_base.specs.declared.token.Span.{Span}
use Rattle.ec_base.specs.declared.value.Block.{Block}
use Rattle.ec_base.specs.declared.value.Value.{Value}
use Rattle.ec_cells.specs.Frames.{cell_count}
use Rattle.ec_cells.specs.Memory.{Memory}
use Rattle.ec_code.specs.declared.code.Code.{Code}
use Rattle.ec_code.specs.declared.code.Fiber.{Fiber}
use Rattle.ec_code.specs.declared.code.Function.{Function}
use Rattle.ec_code.specs.declared.instr.Instr.{Instr}
use Rattle.ec_code.specs.declared.instr.Instr.TheVariants as i
use Rattle.ec_code.specs.declared.message.Back.{Back}
use Rattle.ec_code.specs.declared.message.Entry.{Entry}
use Rattle.ec_code.specs.Operands.{fiber_named, jump_target, slot_named}
use Rattle.ec_code.specs.Valid.{has_cells, has_one_result, has_results, has_sizes, is_ahead, is_fiber, is_slot, passes, valid, valid_fiber, valid_from, valid_function, valid_instr}
use Rattle.ec_eu.specs.declared.state.Activation.{Activation}
use Rattle.ec_eu.specs.declared.state.Next.TheVariants as next
use Rattle.ec_eu.specs.Cells.{int_at, pointer_at, value_at}
use Rattle.ec_eu.specs.Fibers.{does, does_fiber, function_in, goes_on, kept, place_after, runs_fiber, runs_in, suits}
use Rattle.ec_eu.specs.Instructions as one
use Rattle.ec_eu.specs.Instructions.{Did, activation_of, allocates, asks, copies, loaded, loads, keeps_stored, puts_loaded, puts_quotient, stored, stores}
use Rattle.ec_world_laws.specs.Units.{FibersStayPlaced, IsPlaced}
use Rattle.ec_eu.specs.State.{Exec}
use Rattle.ec_world_laws.proofs.Units.Cells.{traps_placed}
use Rattle.ec_world_laws.proofs.Units.Instructions.{HasCells, one_placed}
use Rattle.ec_world_laws.proofs.Units.Values.{chosen, either}

-- ---- what code that is valid says of its parts

listed : {A : Type 0} (test : A → Bool) (xs : List A) (k : ℕ) (x : A) → list_all test xs ≡ true → slice_get xs k ≡ Some x → test x ≡ true
listed test [] k x h e = cc
listed test (y ∷ xs) zero x h e = subst (λ z. test z ≡ true) (same_Some y x e) (and_parts (test y) (list_all test xs) h).0
listed test (y ∷ xs) (suc k) x h e = listed test xs k x (and_parts (test y) (list_all test xs) h).1 e

function_valid : (code : Code) (k : ℕ) (f : Function) → valid code ≡ true → slice_get code.functions k ≡ Some f →
    valid_function code.functions f ≡ true
function_valid code k f h e =
    listed (valid_function code.functions) code.functions k f
    (and_parts (has_one_result (slice_get code.functions code.main)) (list_all (valid_function code.functions) code.functions) h).1
    e

fiber_valid : (functions : List Function) (f : Function) (k : ℕ) (x : Fiber) → valid_function functions f ≡ true →
    slice_get f.fibers k ≡ Some x → valid_from functions f (length x.instrs) 0 x.instrs ≡ true
fiber_valid functions f k x h e =
    (and_parts _ _ (listed (valid_fiber functions f) f.fibers k x (and_parts _ _ h).1 e)).1

-- the sizes and the results of an instruction that is valid
instr_valid : (functions : List Function) (f : Function) (count place : ℕ) (x : Instr) → valid_instr functions f count place x ≡ true →
    (has_sizes x ≡ true) × (has_results functions f x ≡ true)
instr_valid functions f count place x h =
    let named = and_parts _ (passes (is_ahead place count) (jump_target x)) h in
    let slots = and_parts _ (passes (is_fiber f) (fiber_named x)) named.0 in
    let results = and_parts _ (passes (is_slot f) (slot_named x)) slots.0 in
    let sizes = and_parts (has_cells f x && has_sizes x) (has_results functions f x) results.0 in
    ((and_parts (has_cells f x) (has_sizes x) sizes.0).1, sizes.1)

-- ---- what frames were made for, while a fiber goes on

-- an instruction after which the fiber goes on leaves it
abbrev pub Leaves : Exec → Did → Type 0
Leaves s d = goes_on d.1 ≡ true → d.0.activations ≡ s.activations

quotient_leaves : (k d : ℕ) (at : Span) (o : Option ℤ) (s : Exec) → Leaves s (puts_quotient k d at o s)
quotient_leaves k d at None s h = refl
quotient_leaves k d at (Some x) s h = refl

allocates_leaves : (k d : ℕ) (count : ℤ) (size nils : ℕ) (at : Span) (s : Exec) → Leaves s (allocates k d count size nils at s)
allocates_leaves k d count size nils at s = either (Leaves s) (one.is_count size count) _ _ (λ h. refl) (λ h. refl)

puts_loaded_leaves : (k d : ℕ) (at : Span) (o : Option Value) (s : Exec) → Leaves s (puts_loaded k d at o s)
puts_loaded_leaves k d at None s h = refl
puts_loaded_leaves k d at (Some x) s h = refl

loads_leaves : (k d : ℕ) (o : Option Block) (index : ℤ) (size : ℕ) (off : ℤ) (at : Span) (s : Exec) →
    Leaves s (loads k d o index size off at s)
loads_leaves k d None index size off at s h = refl
loads_leaves k d (Some b) index size off at s h = puts_loaded_leaves k d at (loaded b index size off s) s h

keeps_leaves : (at : Span) (o : Option Memory) (s : Exec) → Leaves s (keeps_stored at o s)
keeps_leaves at None s h = refl
keeps_leaves at (Some m) s h = refl

stores_leaves : (o : Option Block) (index : ℤ) (size : ℕ) (off : ℤ) (x : Value) (at : Span) (s : Exec) →
    Leaves s (stores o index size off x at s)
stores_leaves None index size off x at s h = refl
stores_leaves (Some b) index size off x at s h = keeps_leaves at (stored b index size off x s) s h

asks_leaves : (o : Option Block) (at : Span) (entry : Block → Entry) (s : Exec) → Leaves s (asks o at entry s)
asks_leaves None at entry s h = refl
asks_leaves (Some b) at entry s h = refl

copies_leaves : (o : Option Block) (index : ℤ) (q : Option Block) (to_index : ℤ) (size : ℕ) (at at_to : Span) (back : Back) (s : Exec) →
    Leaves s (copies o index q to_index size at at_to back s)
copies_leaves None index q to_index size at at_to back s h = refl
copies_leaves (Some b) index None to_index size at at_to back s h = refl
copies_leaves (Some b) index (Some to) to_index size at at_to back s h = refl

pub one_leaves : (k : ℕ) (x : Instr) (s : Exec) → Leaves s (one.one k x s)
one_leaves k (i.Div d a b at) s h = quotient_leaves k d at (binary bin.Div (int_at k a s) (int_at k b s)) s h
one_leaves k (i.Rem d a b at) s h = quotient_leaves k d at (binary bin.Rem (int_at k a s) (int_at k b s)) s h
one_leaves k (i.Alloc d a size nils at) s h = allocates_leaves k d (int_at k a s) size nils at s h
one_leaves k (i.Load d q x size off at) s h = loads_leaves k d (pointer_at k q s) (int_at k x s) size (int_at k off s) at s h
one_leaves k (i.Store q x size off a at) s h =
    stores_leaves (pointer_at k q s) (int_at k x s) size (int_at k off s) (value_at k a s) at s h
one_leaves k (i.GetSync q x size off d slot at) s h = asks_leaves (pointer_at k q s) at _ s h
one_leaves k (i.DataSync a q x size off slot at) s h = asks_leaves (pointer_at k q s) at _ s h
one_leaves k (i.BlkmovSync q x to y size slot at at_to) s h =
    copies_leaves (pointer_at k q s) (int_at k x s) (pointer_at k to s) (int_at k y s) size at at_to _ s h
one_leaves k (i.AddSync a q slot at) s h = asks_leaves (pointer_at k q s) at _ s h
-- an end is the last
one_leaves k (i.EndFunction cells) s h = absurd (cc)
one_leaves k x s h = refl

-- ---- one instruction after the other

module _ (n : ℕ) where
  kept_placed : (d : Did) → IsPlaced n d.0 → IsPlaced n (kept d)
  kept_placed (s, next.On) p = p
  kept_placed (s, next.To target) p = p
  kept_placed (s, next.Ends) p = p
  kept_placed (s, next.Traps t) p = traps_placed n t s p

  abbrev HasResults : ℕ → Function → Exec → Type 0
  HasResults k f s = HasCells f.results (activation_of k s)

  -- what was made for the frame has so many results after what left it
  has_results_later : (k : ℕ) (f : Function) (s : Exec) (d : Did) → Leaves s d → goes_on d.1 ≡ true → HasResults k f s →
      HasResults k f d.0
  has_results_later k f s d l g h =
      subst (λ made. HasCells f.results (one.activation_in (slice_get made k))) (sym (l g)) h

  on_or_kept : (k place : ℕ) (xs : List Instr) (d : Did) → (goes_on d.1 ≡ true → IsPlaced n (does k (suc place) (place_after place d.1) xs d.0)) → IsPlaced n d.0 →
      IsPlaced n (if goes_on d.1 then does k (suc place) (place_after place d.1) xs d.0 else kept d)
  on_or_kept k place xs d goes p = chosen (IsPlaced n) (goes_on d.1) _ _ goes (kept_placed d p)

  does_placed : (k place first count : ℕ) (functions : List Function) (f : Function) (xs : List Instr) (s : Exec) →
      valid_from functions f count place xs ≡ true → HasResults k f s → IsPlaced n s → IsPlaced n (does k place first xs s)
  does_placed k place first count functions f [] s v h p = p
  does_placed k place first count functions f (x ∷ xs) s v h p =
      let q = and_parts (valid_instr functions f count place x) (valid_from functions f count (suc place) xs) v in
      let is = instr_valid functions f count place x q.0 in
      let d : Did = one.one k x s in
      either (IsPlaced n) (nat_lt place first) _ _
      (does_placed k (suc place) first count functions f xs s q.1 h p)
      (on_or_kept k place xs d
      (λ g. does_placed k (suc place) (place_after place d.1) count functions f xs d.0 q.1 (has_results_later k f s d (one_leaves k x s) g h)
      (one_placed n k functions f x s is.0 is.1 h p))
      (one_placed n k functions f x s is.0 is.1 h p))

  -- ---- fiber runs

  does_fiber_placed : (k at : ℕ) (functions : List Function) (f : Function) (o : Option Fiber) (s : Exec) → slice_get f.fibers at ≡ o →
      valid_function functions f ≡ true → HasResults k f s → IsPlaced n s → IsPlaced n (does_fiber k o s)
  does_fiber_placed k at functions f None s e v h p = p
  does_fiber_placed k at functions f (Some fiber) s e v h p =
      does_placed k 0 0 (length fiber.instrs) functions f fiber.instrs s (fiber_valid functions f at fiber v e) h p

  suits_results : (f : Function) (cells : ℕ) (o : Option Activation) → suits f cells o ≡ true → HasCells f.results o
  suits_results f cells None h = tt
  suits_results f cells (Some a) h =
      eqb-true (length a.caller.cells) f.results (and_parts (cells == f.cells) (length a.caller.cells == f.results) h).1

  function_found : (code : Code) (o : Option Activation) (f : Function) → valid code ≡ true → function_in code o ≡ Some f →
      valid_function code.functions f ≡ true
  function_found code None f v e = cc
  function_found code (Some a) f v e = function_valid code a.function f v e

  runs_in_placed : (k fiber : ℕ) (functions : List Function) (o : Option Function) (s : Exec) →
      ((f : Function) → o ≡ Some f → valid_function functions f ≡ true) → IsPlaced n s → IsPlaced n (runs_in k fiber o s)
  runs_in_placed k fiber functions None s v p = p
  runs_in_placed k fiber functions (Some f) s v p =
      let fits : Bool = suits f (cell_count k s.memory) (activation_of k s) in
      chosen (IsPlaced n) fits _ _
      (λ h. does_fiber_placed k fiber functions f (slice_get f.fibers fiber) s refl (v f refl)
      (suits_results f (cell_count k s.memory) (activation_of k s) h) p)
      p

  pub runs_fiber_placed : (code : Code) (k fiber : ℕ) (s : Exec) → valid code ≡ true → IsPlaced n s →
      IsPlaced n (runs_fiber code k fiber s)
  runs_fiber_placed code k fiber s v p =
      runs_in_placed k fiber code.functions (function_in code (activation_of k s)) s
      (λ f e. function_found code (activation_of k s) f v e)
      p

pub fibers_stay_placed : FibersStayPlaced
fibers_stay_placed n code k fiber s v p = runs_fiber_placed n code k fiber s v p
