-- What is read of the tokens of a text, and at which of them reading stops.
use Rattle.std.proofs.Common.{◌≡◌, refl, sym, ◌∙◌, ap, ◌+◌, ◌-◌, Bool, true, false, List, [], ◌∷◌, ◌++◌, length, length-append, inl, inr, ◌⊎◌, arith}
use Rattle.std.specs.Prelude.{if◌then◌else◌}
use Rattle.ec_base.specs.Lexical.{AreTokens}
use Rattle.ec_base.specs.declared.token.Token.{Token}
use Rattle.ec_syntax.specs.declared.item.Program.{Program}
use Rattle.ec_syntax.specs.declared.quantity.Fault.{Fault}
use Rattle.ec_syntax.specs.Grammar.State.{State}
use Rattle.ec_syntax.specs.Descent.Reader.{Outcome}
use Rattle.ec_syntax.specs.Descent.Reader.Outcome.{Done, Stopped}
use Rattle.ec_syntax.specs.Descent.Items.{read}
use Rattle.ec_syntax.specs.Grammar.Reading.{start, Reads}
use Rattle.ec_syntax.specs.Laws.{ReadIsProgram, StoppedIsRefused, ReadOrStopped}
use Rattle.ec_reader.specs.Refusals.{is_told_before, last_at, place_at, refusal_at, named, Refuses}

-- ---- at which place

here_is : (before : List Token) (here : Token) (after : List Token) → place_at (before ++ here ∷ after) (length before) ≡ here.at
here_is [] here after = refl
here_is (x ∷ before) here after = here_is before here after

last_is : (x : Token) (before : List Token) (here : Token) (after : List Token) → place_at (x ∷ before ++ here ∷ after) (length before) ≡ last_at before x.at
last_is x [] here after = refl
last_is x (y ∷ before) here after = last_is y before here after

before_is : (before : List Token) (here : Token) (after : List Token) → place_at (before ++ here ∷ after) (length before - 1) ≡ last_at before here.at
before_is [] here after = refl
before_is (x ∷ before) here after =
    let e : length (x ∷ before) - 1 ≡ length before = omega arith in
    ap (place_at (x ∷ before ++ here ∷ after)) e ∙ last_is x before here after

place_is : (b : Bool) (before : List Token) (here : Token) (after : List Token) →
    place_at (before ++ here ∷ after) (if b then length before - 1 else length before) ≡ (if b then last_at before here.at else here.at)
place_is true before here after = before_is before here after
place_is false before here after = here_is before here after

named_is : (fault : Fault) (before : List Token) (here : Token) (after : List Token) → refusal_at fault (before ++ here ∷ after) (length before) ≡ named fault before here
named_is fault before here after = cc (place_is (is_told_before fault) before here after)

-- ---- what is read

abbrev left_of : Outcome Program → List Token
left_of (Done p s) = s.left
left_of (Stopped fault left) = left

module _ (either : ReadOrStopped) (tokens : List Token) (text : AreTokens tokens) where
  pub whole : ReadIsProgram → (p : Program) (s : State) → read (start tokens) ≡ Done p s → Reads tokens p
  whole sound p s told = by (either tokens text)
    where
      by : ((q : Program) × (m : State) × (read (start tokens) ≡ Done q m) × (m.left ≡ []))
          ⊎ ((fault : Fault) × (here : Token) × (after : List Token) × (read (start tokens) ≡ Stopped fault (here ∷ after))) → Reads tokens p
      by (inl (q, m, e, over)) = sound tokens p s told (ap left_of (sym told ∙ e) ∙ over)
      by (inr (fault, here, after, e)) = absurd (cc told)

  pub refused : StoppedIsRefused → (fault : Fault) (left : List Token) → read (start tokens) ≡ Stopped fault left → Refuses tokens (refusal_at fault tokens (length tokens - length left))
  refused stops fault left told = by (either tokens text)
    where
      at : (here : Token) (after : List Token) → left ≡ here ∷ after → Refuses tokens (refusal_at fault tokens (length tokens - length left))
      at here after behind =
          let k = stops tokens fault here after (told ∙ ap (Stopped fault) behind) in
          let long : length tokens ≡ length k.0 + length (here ∷ after) = ap length k.1 ∙ length-append k.0 (here ∷ after) in
          let short : length left ≡ length (here ∷ after) = ap length behind in
          let number : length tokens - length left ≡ length k.0 = omega (arith, long, short) in
          record {
            before = k.0;
            here = here;
            after = after;
            fault = fault;
            splits = k.1;
            refused = k.2;
            is = ap (refusal_at fault tokens) number ∙ ap (λ ts. refusal_at fault ts (length k.0)) k.1 ∙ named_is fault k.0 here after;
          }

      by : ((q : Program) × (m : State) × (read (start tokens) ≡ Done q m) × (m.left ≡ []))
          ⊎ ((other : Fault) × (here : Token) × (after : List Token) × (read (start tokens) ≡ Stopped other (here ∷ after))) →
          Refuses tokens (refusal_at fault tokens (length tokens - length left))
      by (inl (q, m, e, over)) = absurd (cc told)
      by (inr (other, here, after, e)) = at here after (ap left_of (sym told ∙ e))
