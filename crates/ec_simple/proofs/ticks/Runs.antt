-- Which meanings of calls and programs are ahead: with more room, and where nodes and statements spend ticks on one side only.
use Rattle.std.proofs.Common.{ℕ, zero, suc, ◌≤◌, le_refl, arith, Bool, true, List, map, Option, Some, None, slice_get, ℤ}
use Rattle.ec_types.specs.Meaning.Values.{Val, Num, zero_value}
use Rattle.ec_types.specs.Meaning.State.{Site, Here, Does, pure, going, tick, activate, Vars}
use Rattle.ec_types.specs.Meaning.Tree.{Function}
use Rattle.ec_types.specs.Meaning.Evaluation.{Caller, turns, Program, body, run_function, calls}
use Rattle.ec_types.specs.Meaning.Programs.{main_or}
use Rattle.ec_types.proofs.meaning.Growth.{grows_refl}
use Rattle.ec_types.proofs.meaning.Steps.{pure_step}
use Rattle.ec_types.proofs.meaning.Relations.{turned, Each, EachCall, Ticks}
use Rattle.ec_types.proofs.meaning.Closed.{turned_both, body_done}
use Rattle.ec_simple.proofs.ticks.Ahead.{Ahead, ahead_going, ahead_steps, ahead_binds, ahead_catches, ahead_forks, ahead_ticks, ahead_activates, ahead_enters}

-- main's activation, with this room
abbrev pub main_within : Bool → Program → ℕ → List ℤ → ℕ → Does Val
main_within small p main args n =
    activate true Here (body small true (calls small true p n) n (main_or (slice_get p main)) (map Num args))

module _ (any small small' : Bool) (ticks : Ticks (Ahead any) small small') where
  still : (A : Type 0) → Ahead any A going going
  still A = ahead_going any A going (λ c r. grows_refl c)

  -- ---- loops

  module _ (call call' : Caller) (n n' : ℕ) (test test' : Vars → Does Val) (body body' : Vars → Does Vars)
      (tests : Each (Ahead any) Vars Val test test') (bodies : Each (Ahead any) Vars Vars body body') where
    ahead_turn :
        (rest rest' : Vars → Does Vars) → Each (Ahead any) Vars Vars rest rest' →
        Each (Ahead any) Vars Vars
        (λ vs. tick true (turned test body rest vs)) (λ vs. tick true (turned test' body' rest' vs))
    ahead_turn rest rest' rests vs =
        ahead_ticks any true Vars (turned test body rest vs) (turned test' body' rest' vs)
        (turned_both (Ahead any) (ahead_steps any) (ahead_binds any) test test' body body' rest rest'
        tests bodies rests vs)

    ahead_turns :
        (i i' : ℕ) → i ≤ i' →
        Each (Ahead any) Vars Vars (turns small call true n i test body) (turns small' call' true n' i' test' body')
    ahead_turns zero zero l vs = still Vars
    ahead_turns zero (suc i') l vs =
        let rest' = turns small' call' true n' i' test' body' in
        ahead_going any Vars (tick true (turned test' body' rest' vs))
        (ahead_turn (λ ws. going) rest' (ahead_turns zero i' (omega arith)) vs).grows
    ahead_turns (suc i) zero l vs = absurd (omega (arith, l))
    ahead_turns (suc i) (suc i') l vs =
        let rest = turns small call true n i test body in
        let rest' = turns small' call' true n' i' test' body' in
        ahead_turn rest rest' (ahead_turns i i' (omega (arith, l))) vs

  -- ---- calls

  module _ (call call' : Caller) (called : EachCall (Ahead any) call call') (n n' : ℕ) (l : n ≤ n') where
    ahead_body :
        (f : Function) (us : List Val) → Ahead any Val (body small true call n f us) (body small' true call' n' f us)
    ahead_body =
        body_done (Ahead any) (ahead_steps any) (ahead_binds any) small small' ticks call call' called true true n n'
        (ahead_catches any) (ahead_enters any) (ahead_forks small small' call call' n n' any)
        (λ test test' body body' tests bodies. ahead_turns call call' n n' test test' body body' tests bodies n n' l)

    ahead_function :
        (o : Option Function) (us : List Val) (s : Site) →
        Ahead any Val (run_function small true call n o us s) (run_function small' true call' n' o us s)
    ahead_function None us s = ahead_steps any Val (pure zero_value) (pure_step zero_value)
    ahead_function (Some f) us s =
        ahead_enters any s Val (body small true call n f us) (body small' true call' n' f us) (ahead_body f us)

  ahead_calls :
      (p : Program) (n n' : ℕ) → n ≤ n' → EachCall (Ahead any) (calls small true p n) (calls small' true p n')
  ahead_calls p zero zero l f us s = still Val
  ahead_calls p zero (suc n') l f us s =
      let o = slice_get p f in
      let call' = calls small' true p n' in
      ahead_going any Val (run_function small' true call' n' o us s)
      (ahead_function (λ f us s. going) call' (ahead_calls p zero n' (omega arith)) n' n' (le_refl n') o us s).grows
  ahead_calls p (suc n) zero l f us s = absurd (omega (arith, l))
  ahead_calls p (suc n) (suc n') l f us s =
      let within : n ≤ n' = omega (arith, l) in
      ahead_function (calls small true p n) (calls small' true p n') (ahead_calls p n n' within) n n' within
      (slice_get p f) us s

  -- ---- whole programs

  pub ahead_main :
      (p : Program) (main : ℕ) (args : List ℤ) (n n' : ℕ) → n ≤ n' →
      Ahead any Val (main_within small p main args n) (main_within small' p main args n')
  ahead_main p main args n n' l =
      let call = calls small true p n in
      let call' = calls small' true p n' in
      let f = main_or (slice_get p main) in
      let us = map Num args in
      ahead_activates any Here Val (body small true call n f us) (body small' true call' n' f us)
      (ahead_body call call' (ahead_calls p n n' l) n n' l f us)
