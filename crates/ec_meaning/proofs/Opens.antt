-- A work that opens does what the works do that stand in its place.
use Rattle.std.proofs.Common.{◌≡◌, refl, ap, subst, ℕ, suc, ◌≤◌, arith, Bool, true, false, List, ◌∷◌, ◌++◌, Option, Some, None}
use Rattle.ec_types.specs.Meaning.State.{Core, Does, tick}
use Rattle.ec_types.specs.Meaning.Evaluation.{Caller, Program, calls}
use Rattle.ec_meaning.specs.Works.{Work, Value, Constant, Reach, Arguments, Call, Operate, AndThen, OrElse, AsTruth, ToElement, ToBehind, ToField, ToItem, Drop, Assign, SetTo, Declare, Statement, Statements, Branches, Decide, Turn, Again, Hand}
use Rattle.ec_meaning.specs.Acts.{acts, act_all}
use Rattle.ec_meaning.specs.Opened.{Opened, opened, value_ticks}
use Rattle.ec_meaning.specs.Machine.{Waiting, ticked, Turns}
use Rattle.ec_meaning.proofs.Expressions.{value_opens, place_opens, and_opens, or_opens, arguments_open}
use Rattle.ec_meaning.proofs.Calls.{call_opens}
use Rattle.ec_meaning.proofs.OpenedStatements.{assignment_opens, declarations_open, statement_opens, statements_open, branches_open, decision_opens, repetition_opens}
use Rattle.ec_meaning.proofs.Loops.{turn_opens}
use Rattle.ec_meaning.proofs.Steps.{turns_to}

at_ticks : (ticks : Bool) (d e : Does Hand) → d ≡ tick ticks e → (c : Core) (r : ℕ) → d c (ticked ticks r) ≡ e c r
at_ticks true d e h c r = ap (λ f. f c (suc r)) h
at_ticks false d e h c r = ap (λ f. f c r) h

module _ (p : Program) (n : ℕ) where
  abbrev called : Caller
  called = calls true true p n

  -- what a work does the works do that stand in its place, if there are such ones
  abbrev pub DoesAs : Work → Hand → Core → Option Opened → Type 0
  DoesAs w h c None = Unit {0}
  DoesAs w h c (Some o) =
      (r : ℕ) → ticked o.ticks r ≤ n → acts called n w h c (ticked o.ticks r) ≡ act_all called n o.works o.hand c r

  works_open : (w : Work) (h : Hand) (c : Core) → DoesAs w h c (opened w h c.births)
  works_open (Value e) h c = λ r l. at_ticks (value_ticks e) _ _ (value_opens called n e h) c r
  works_open (Constant v) h c = λ r l. refl
  works_open (Reach q) h c = λ r l. at_ticks true _ _ (place_opens called n q h) c r
  works_open (Arguments es) h c = λ r l. at_ticks false _ _ (arguments_open called n es h) c r
  works_open (Call i) h c = λ r l. at_ticks false _ _ (call_opens called n i h) c r
  works_open (Operate op) h c = λ r l. refl
  works_open (AndThen e) h c = λ r l. at_ticks false _ _ (and_opens called n e h) c r
  works_open (OrElse e) h c = λ r l. at_ticks false _ _ (or_opens called n e h) c r
  works_open AsTruth h c = λ r l. refl
  works_open (ToElement at size) h c = λ r l. refl
  works_open (ToBehind at size f) h c = λ r l. refl
  works_open (ToField at f) h c = λ r l. refl
  works_open (ToItem at) h c = λ r l. refl
  works_open Drop h c = λ r l. refl
  works_open (Assign a) h c = λ r l. at_ticks false _ _ (assignment_opens called n a h) c r
  works_open (SetTo x) h c = λ r l. refl
  works_open (Declare ds) h c = λ r l. at_ticks false _ _ (declarations_open called n ds h) c r
  works_open (Statement s) h c = λ r l. statement_opens called n s h c (suc r)
  works_open (Statements ss) h c = λ r l. at_ticks false _ _ (statements_open called n ss h) c r
  works_open (Branches ss) h c = λ r l. at_ticks false _ _ (branches_open called n ss h) c r
  works_open (Decide s z) h c = λ r l. at_ticks false _ _ (decision_opens called n s z h) c r
  works_open (Turn t) h c = λ r l. turn_opens p n t h c r l
  works_open (Again t) h c = λ r l. at_ticks false _ _ (repetition_opens called n t h) c r
  works_open w h c = tt

pub opens :
    (p : Program) (pointer : Bool) (w : Work) (h : Hand) (ws : List Work) (us : List Waiting) (c : Core) (o : Opened) →
    opened w h c.births ≡ Some o →
    Turns p pointer o.ticks (record { works = w ∷ ws; hand = h; waiting = us; core = c })
    (record { works = o.works ++ ws; hand = o.hand; waiting = us; core = c })
opens p pointer w h ws us c o e =
    turns_to p pointer o.ticks w h o.hand o.works ws us c c
    (λ n r l. subst (DoesAs p n w h c) e (works_open p n w h c) r (omega (arith, l)))
