-- What works do is related where the parts of meanings are, for every relation that is closed under their words.
use Rattle.std.proofs.Common.{refl, ℕ, true, List, [], ◌∷◌, map, pos}
use Rattle.ec_base.specs.Format.{formatted}
use Rattle.ec_types.specs.Meaning.Values.{Val, Num, zero_value, number, holds, binary_value}
use Rattle.ec_types.specs.Meaning.State.{Here, Core, Does, With, ◌>>=◌, pure, Vars}
use Rattle.ec_types.specs.Meaning.Memory.{shared}
use Rattle.ec_types.specs.Meaning.Tree.{Expr, Stmt, Else}
use Rattle.ec_types.specs.Meaning.Evaluation.{Caller, value, branch, does, otherwise}
use Rattle.ec_types.proofs.meaning.Growth.{grows_refl}
use Rattle.ec_types.proofs.meaning.Steps.{Step, give_back_step, divided_step, print_step, born_step, allocate_step, load_step, save_step, copy_step}
use Rattle.ec_types.proofs.meaning.Relations.{Relation, Each, EachCall, Steps, Binds, Catches, Ticks, Enters, Forks, Loops}
use Rattle.ec_types.proofs.meaning.Closed as closed
use Rattle.ec_types.proofs.meaning.Closed.{either, valued, given_both, placed, invoked_both, all_valued, assigned_both, optional_both, all_declared_both, done, otherwise_done, all_done, all_branches}
use Rattle.ec_meaning.specs.Works.{Loop, WhileLoop, ForLoop, ForallLoop, Work, Value, Constant, Reach, Arguments, Call, Operate, Combine, AndThen, OrElse, AsTruth, ToElement, ToBehind, ToField, ToItem, LoadFrom, LoadShared, Allocate, Share, SaveTo, CopyTo, SendTo, AddUp, Enter, Drop, Assign, SetTo, Declare, Statement, Statements, Branches, Branch, Decide, Turn, Again, Joined, PrintOut, GiveBack, Hand}
use Rattle.ec_meaning.specs.Acts.{top, second, access, second_access, without, last_values, tests, repeats, loop, keeping, giving, acts, act_all}

joined_step : (call : Caller) (n before : ℕ) (h : Hand) (c : Core) → Step (acts call n (Joined before) h) c
joined_step call n before h c =
    record { end = With h; core = _; is = λ r. refl; over = tt; grows = grows_refl c; stays = refl }

module _ (R : Relation) (steps : Steps R) (binds : Binds R) (ticks : Ticks R true true) (call call' : Caller)
    (called : EachCall R call call') (n n' : ℕ) (catches : Catches R) (enters : Enters R true true)
    (forks : Forks R true true call call' true true n n') (loops : Loops R true true call call' true true n n') where
  stepped : {A : Type 0} {d : Does A} → ((c : Core) → Step d c) → R A d d
  stepped s = closed.stepped R steps binds s

  pures : {A : Type 0} (a : A) → R A (pure a) (pure a)
  pures a = closed.pures R steps binds a

  followed : {A B : Type 0} {d e : Does A} {f g : A → Does B} → R A d e → Each R A B f g → R B (d >>= f) (e >>= g)
  followed h k = closed.followed R steps binds h k

  kept : {d e : Does Vars} (h : Hand) → R Vars d e → R Hand (keeping call n h d) (keeping call' n' h e)
  kept h r = followed r (λ vs. pures _)

  given_to : {d e : Does Val} (m : ℕ) (h : Hand) → R Val d e → R Hand (giving call n m h d) (giving call' n' m h e)
  given_to m h r = followed r (λ v. pures _)

  value_both : (e : Expr) → Each R Vars Val (value true call e) (value true call' e)
  value_both = valued R steps binds true true ticks call call' called

  -- ---- loops

  branch_both :
      {d e : Does Vars} → R Vars d e →
      Each R Vars Vars (branch true call true n d) (branch true call' true n' e)
  branch_both {d = d} {e = e} h vs = enters Here Vars _ _ (catches Vars Vars (λ ws. ws) (λ v. vs) d e h)

  does_both : (s : Stmt) → Each R Vars Vars (does true call true n s) (does true call' true n' s)
  does_both = done R steps binds true true ticks call call' called true true n n' catches enters forks loops

  otherwise_both : (z : Else) → Each R Vars Vars (otherwise true call true n z) (otherwise true call' true n' z)
  otherwise_both =
      otherwise_done R steps binds true true ticks call call' called true true n n' catches enters forks loops

  pub tests_both : (l : Loop) → Each R Vars Val (tests call n l) (tests call' n' l)
  tests_both (WhileLoop e s) = value_both e
  tests_both (ForLoop e a s) = given_both R steps binds true true ticks call call' called (Num (pos 1)) e
  tests_both (ForallLoop e a s) = value_both e

  pub repeats_both : (l : Loop) → Each R Vars Vars (repeats call n l) (repeats call' n' l)
  repeats_both (WhileLoop e s) vs = does_both s vs
  repeats_both (ForLoop e a s) vs =
      followed (does_both s vs) (optional_both R steps binds true true ticks call call' called a)
  repeats_both (ForallLoop e a s) vs =
      followed (branch_both (does_both s vs) vs) (assigned_both R steps binds true true ticks call call' called a)

  looped : (l : Loop) → Each R Vars Vars (loop call n l) (loop call' n' l)
  looped l =
      loops (tests call n l) (tests call' n' l) (repeats call n l) (repeats call' n' l) (tests_both l) (repeats_both l)

  -- ---- works

  pub acts_both : (w : Work) → Each R Hand Hand (acts call n w) (acts call' n' w)
  acts_both (Value e) h = given_to 0 h (value_both e h.vars)
  acts_both (Constant v) h = pures _
  acts_both (Reach p) h = followed (placed R steps binds true true ticks call call' called p h.vars) (λ a. pures _)
  acts_both (Arguments es) h =
      followed (all_valued R steps binds true true ticks call call' called es h.vars) (λ us. pures _)
  acts_both (Call i) h = given_to 0 h (invoked_both R steps binds true true ticks call call' called i h.vars)
  acts_both (Operate op) h = pures _
  acts_both (Combine at op) h = given_to 2 h (stepped (divided_step at (binary_value op (second h) (top h))))
  acts_both (AndThen e) h =
      either R steps binds (holds (top h)) (given_to 1 h (followed (value_both e h.vars) (λ w. pures _))) (pures _)
  acts_both (OrElse e) h =
      either R steps binds (holds (top h)) (pures _) (given_to 1 h (followed (value_both e h.vars) (λ w. pures _)))
  acts_both AsTruth h = pures _
  acts_both (ToElement at size) h = pures _
  acts_both (ToBehind at size f) h = pures _
  acts_both (ToField at f) h = pures _
  acts_both (ToItem at) h = pures _
  acts_both LoadFrom h = followed (stepped (load_step (access h))) (λ v. pures _)
  acts_both (LoadShared at) h = given_to 1 h (stepped (load_step (shared at (top h))))
  acts_both (Allocate at element) h = given_to 1 h (stepped (allocate_step at element (top h)))
  acts_both Share h = given_to 0 h (stepped (born_step (zero_value ∷ [])))
  acts_both SaveTo h = followed (stepped (save_step (access h) (top h))) (λ u. pures _)
  acts_both CopyTo h = followed (stepped (copy_step (second_access h) (access h))) (λ u. pures _)
  acts_both (SendTo at) h = followed (stepped (save_step (shared at (second h)) (top h))) (λ u. pures _)
  acts_both (AddUp at) h =
      let to = shared at (second h) in
      followed (followed (stepped (load_step to)) (λ v. stepped (save_step to _))) (λ u. pures _)
  acts_both (Enter p f m) h = given_to m _ (called f _ _)
  acts_both Drop h = pures _
  acts_both (Assign a) h = kept h (assigned_both R steps binds true true ticks call call' called a h.vars)
  acts_both (SetTo x) h = pures _
  acts_both (Declare ds) h = kept h (all_declared_both R steps binds true true ticks call call' called ds h.vars)
  acts_both (Statement s) h = kept h (does_both s h.vars)
  acts_both (Statements ss) h =
      kept h
      (all_done R steps binds true true ticks call call' called true true n n' catches enters forks loops ss h.vars)
  acts_both (Branches ss) h =
      kept h
      (all_branches R steps binds true true ticks call call' called true true n n' catches enters forks loops ss h.vars)
  acts_both (Branch s) h = kept h (branch_both (does_both s h.vars) h.vars)
  acts_both (Decide s z) h =
      either R steps binds (holds (top h)) (kept (without 1 h) (does_both s h.vars))
      (kept (without 1 h) (otherwise_both z h.vars))
  acts_both (Turn l) h = kept h (looped l h.vars)
  acts_both (Again l) h =
      either R steps binds (holds (top h)) (kept (without 1 h) (followed (repeats_both l h.vars) (looped l))) (pures _)
  acts_both (Joined before) h = stepped (joined_step call n before h)
  acts_both (PrintOut string m) h =
      followed (stepped (print_step (formatted string (map number (last_values m h))))) (λ u. pures (without m h))
  acts_both GiveBack h = stepped (give_back_step (top h))

  pub act_all_both : (ws : List Work) → Each R Hand Hand (act_all call n ws) (act_all call' n' ws)
  act_all_both [] h = pures h
  act_all_both (w ∷ ws) h = followed (acts_both w h) (act_all_both ws)
