-- How works for expressions, accesses and arguments open.
use Rattle.std.proofs.Common.{◌≡◌, refl, ap, ◌∙◌, ℕ, Bool, true, false, if◌then◌else◌, List, [], ◌∷◌, ◌++◌, reverse, append_assoc, pos}
use Rattle.std.proofs.lemmas.Grind.{reverse_onto}
use Rattle.ec_types.specs.Meaning.Values.{Val, Num, holds}
use Rattle.ec_types.specs.Meaning.State.{Does, ◌>>=◌, pure, tick}
use Rattle.ec_types.specs.Meaning.Evaluation.{Caller, value, given, values}
use Rattle.ec_types.specs.Meaning.Tree as t
use Rattle.ec_meaning.specs.Works.{Work, Hand, Value, Constant, Reach, Arguments, AndThen, OrElse, AsTruth}
use Rattle.ec_meaning.specs.Acts.{acts, act_all, top, push, without, push_all, giving}
use Rattle.ec_meaning.specs.Opened.{of_value, of_place, of_arguments, value_ticks, part}
use Rattle.ec_meaning.proofs.Binds.{then_then, then_same, tick_then, then_pure, if_then}

module _ (call : Caller) (n : ℕ) where
  -- in the place of the work stand others with a hand, with a tick before them or without one
  abbrev pub Opens : Bool → Work → Hand → List Work → Hand → Type 0
  Opens ticks w h ws k = acts call n w h ≡ tick ticks (act_all call n ws k)

  pub part_acts :
      (v : Val) (e : t.Part) (h : Hand) → acts call n (part v e) h ≡ giving call n 0 h (given true call v e h.vars)
  part_acts v t.Missing h = refl
  part_acts v (t.Given e) h = refl

  pub value_opens : (e : t.Expr) (h : Hand) → Opens (value_ticks e) (Value e) h (of_value e h) h
  value_opens (t.Number at k) h = tick_then true _ _
  value_opens (t.Nil at) h = tick_then true _ _
  value_opens (t.Var at x) h = tick_then true _ _
  value_opens (t.Unary at op a) h = tick_then true _ _ ∙ simp then_then
  value_opens (t.Binary at op a b) h = tick_then true _ _ ∙ simp then_then
  value_opens (t.And at a b) h = tick_then true _ _ ∙ simp (then_then, if_then)
  value_opens (t.Or at a b) h = tick_then true _ _ ∙ simp (then_then, if_then)
  value_opens (t.Load pointer p) h = simp (then_then, then_pure)
  value_opens (t.Called i) h = tick_then true _ _ ∙ simp (then_then, then_pure)
  value_opens (t.New at shape element e) h = tick_then true _ _ ∙ simp (part_acts, then_then, then_pure)
  value_opens (t.ValueOf at a) h = tick_then true _ _ ∙ simp (then_then, then_pure)

  pub place_opens : (p : t.Place) (h : Hand) → Opens true (Reach p) h (of_place p) h
  place_opens (t.Element at size base index) h = tick_then true _ _ ∙ simp (part_acts, then_then)
  place_opens (t.Behind at size f base) h = tick_then true _ _ ∙ simp then_then
  place_opens (t.Field at f p) h = tick_then true _ _ ∙ simp then_then
  place_opens (t.Item at p index) h = tick_then true _ _ ∙ simp then_then

  -- ---- what stands behind a test

  pub chosen_acts :
      (b : Bool) (d e : Does Hand) (ws us : List Work) (h : Hand) → d ≡ act_all call n ws h → e ≡ act_all call n us h →
      (if b then d else e) ≡ act_all call n (if b then ws else us) h
  chosen_acts true d e ws us h p q = p
  chosen_acts false d e ws us h p q = q

  pub and_opens :
      (e : t.Expr) (h : Hand) →
      let second = Value e ∷ AsTruth ∷ [] in
      Opens false (AndThen e) h (if holds (top h) then second else Constant (Num (pos 0)) ∷ []) (without 1 h)
  and_opens e h =
      chosen_acts (holds (top h)) _ _ (Value e ∷ AsTruth ∷ []) (Constant (Num (pos 0)) ∷ []) (without 1 h)
      (simp then_then) refl

  pub or_opens :
      (e : t.Expr) (h : Hand) →
      let second = Value e ∷ AsTruth ∷ [] in
      Opens false (OrElse e) h (if holds (top h) then Constant (Num (pos 1)) ∷ [] else second) (without 1 h)
  or_opens e h =
      chosen_acts (holds (top h)) _ _ (Constant (Num (pos 1)) ∷ []) (Value e ∷ AsTruth ∷ []) (without 1 h)
      refl (simp then_then)

  -- ---- arguments

  pushed : (v : Val) (us : List Val) (h : Hand) → push_all (v ∷ us) h ≡ push_all us (push v h)
  pushed v us h =
      ap (λ vs. record h { values = vs })
      (ap (λ vs. vs ++ h.values) (reverse_onto us v []) ∙ append_assoc (reverse us) (v ∷ []) h.values)

  -- the first value is at hand before the others
  others_pushed :
      (v : Val) (es : t.Exprs) (h : Hand) →
      values true call es h.vars >>= (λ us. pure (push_all (v ∷ us) h)) ≡ acts call n (Arguments es) (push v h)
  others_pushed v es h = then_same (values true call es h.vars) _ _ (λ us. ap pure (pushed v us h))

  pub arguments_open : (es : t.Exprs) (h : Hand) → Opens false (Arguments es) h (of_arguments es) h
  arguments_open t.Last h = refl
  arguments_open (t.Arg e es) h =
      simp (then_then, then_pure) (then_same (value true call e h.vars) _ _ (λ v. others_pushed v es h))
