-- The tokens of a text are a program or refused, and refused at one token.
use Rattle.std.proofs.Common.{◌≡◌, ◌≤◌, ◌<◌, ◌+◌, refl, ap, sym, ◌∙◌, subst, Bool, List, [], ◌∷◌, ◌++◌, length, length-append, append_assoc, append-nil, inl, inr, ◌⊎◌, arith}
use Rattle.ec_base.specs.Lexical.{AreTokens}
use Rattle.ec_base.specs.declared.token.Token.{Token}
use Rattle.ec_syntax.specs.declared.item.Program.{Program}
use Rattle.ec_syntax.specs.declared.quantity.Fault.{Fault}
use Rattle.ec_syntax.specs.declared.quantity.Fault.TheVariants.{Expected, Passes}
use Rattle.ec_syntax.specs.declared.quantity.Quantity.{Quantity}
use Rattle.ec_syntax.specs.declared.quantity.Quantity.TheVariants.{Nesting}
use Rattle.ec_syntax.specs.Grammar.State.{State, Asked, limit, limits, nothing}
use Rattle.ec_syntax.specs.Descent.Reader.{Outcome}
use Rattle.ec_syntax.specs.Descent.Reader.Outcome.{Done, Stopped}
use Rattle.ec_syntax.specs.Grammar.Items.{program}
use Rattle.ec_syntax.specs.Descent.Items.{read}
use Rattle.ec_syntax.specs.Grammar.Reading.{start, IsProgram, Reads, limits_before, limit_at, asked_first, Refusal, IsRefused}
use Rattle.ec_syntax.specs.Laws.{ReadOrStopped, ProgramOrRefused, OneRefusal}
use Rattle.ec_syntax.proofs.Decision.Procedures.{upto, enough}
use Rattle.ec_syntax.proofs.EndOfText.Inside.{Asks}
use Rattle.ec_syntax.proofs.EndOfText.Texts.{same_head, same_tail, rises_end, rises_last, grows, program_closed, not_before}
use Rattle.ec_syntax.proofs.Verdicts.Reading.{ProgramsDecided, passes_at, expected_or_passes, read_is_program, stopped_is_refused, none_quiet}

-- ---- to the end

done_at_end : {first : Token → Bool} → ProgramsDecided first → (tokens : List Token) → AreTokens tokens →
    (p : Program) (s : State) → read (start tokens) ≡ Done p s → s.left ≡ []
done_at_end d tokens text p s e =
    let c = program_closed enough limits (start tokens) p s ((d enough).done (omega arith) tt (start tokens) p s e).read in
    rises_end text.rising c.front c.last s.left c.is c.ends

-- a text that a reader has read to its end isn't continued
not_continued : {first : Token → Bool} → ProgramsDecided first → (tokens : List Token) → AreTokens tokens →
    read (start tokens) ≡ Stopped Expected [] →
    (fill : List Token) (asked : Asked) (p : Program) (m : State) → m.left ≡ [] →
    program enough asked (start (tokens ++ fill)) p m → ⊥
not_continued d tokens text e [] asked p m behind h =
    expected_or_passes (passes_at (read (start (tokens ++ []))) p m asked Expected [] (subst (λ ts. read (start ts) ≡ Stopped Expected []) (sym (append-nil tokens)) e)
    ((d enough).complete tt asked (start (tokens ++ [])) p m h (none_quiet m.left))).is
not_continued d tokens text e (f ∷ fs) asked p m behind h =
    let c = program_closed enough asked (start (tokens ++ f ∷ fs)) p m h in
    let k = rises_last text.rising in
    not_before k.front k.last f fs c.front c.last k.ends c.inner
    (sym (append_assoc k.front (k.last ∷ []) (f ∷ fs)) ∙ ap (λ ts. ts ++ f ∷ fs) (sym k.is) ∙ c.is ∙ ap (λ ts. c.front ++ c.last ∷ ts) behind)

stops_inside : {first : Token → Bool} → ProgramsDecided first → (tokens : List Token) → AreTokens tokens →
    (fault : Fault) → read (start tokens) ≡ Stopped fault [] → ⊥
stops_inside d tokens text (Passes q) e = ((d enough).stopped (omega arith) tt (start tokens) (Passes q) [] e).there q refl refl
stops_inside d tokens text Expected e =
    let k = (d enough).stopped (omega arith) tt (start tokens) Expected [] e in
    let c = k.completed [] refl refl in
    not_continued d tokens text e (c.fill ++ []) (upto Expected (length (c.fill ++ []))) c.value c.after c.behind
    (subst (λ ts. program enough (upto Expected (length (c.fill ++ []))) (start (ts ++ (c.fill ++ []))) c.value c.after) (sym (k.is ∙ append-nil k.word)) c.read)

pub read_or_stopped : {first : Token → Bool} → ProgramsDecided first → ReadOrStopped
read_or_stopped d tokens text = by (read (start tokens)) refl
  where
    by : (o : Outcome Program) → read (start tokens) ≡ o →
        ((p : Program) × (s : State) × (read (start tokens) ≡ Done p s) × (s.left ≡ []))
        ⊎ ((fault : Fault) × (here : Token) × (after : List Token)
        × (read (start tokens) ≡ Stopped fault (here ∷ after)))
    by (Done p s) e = inl (p, s, e, done_at_end d tokens text p s e)
    by (Stopped fault []) e = absurd (stops_inside d tokens text fault e)
    by (Stopped fault (x ∷ rest)) e = inr (fault, x, rest, e)

pub program_or_refused : {first : Token → Bool} → ProgramsDecided first → ProgramOrRefused
program_or_refused d tokens text = by (read_or_stopped d tokens text)
  where
    by : ((p : Program) × (s : State) × (read (start tokens) ≡ Done p s) × (s.left ≡ []))
        ⊎ ((fault : Fault) × (here : Token) × (after : List Token)
        × (read (start tokens) ≡ Stopped fault (here ∷ after))) →
        ((p : Program) × Reads tokens p) ⊎ Refusal tokens
    by (inl (p, s, e, h)) = inl (p, read_is_program d tokens p s e h)
    by (inr (fault, here, after, e)) = let k = stopped_is_refused d tokens fault here after e in inr (record { fault = fault; before = k.0; here = here; after = after; splits = k.1; refused = k.2 })

-- ---- at one token

-- one of two is the first, or they are the same
ordered : (before front : List Token) (here there : Token) (after rest : List Token) →
    before ++ here ∷ after ≡ front ++ there ∷ rest →
    (before ≡ front) ⊎ (((u : List Token) × (front ≡ before ++ here ∷ u))
    ⊎ ((u : List Token) × (before ≡ front ++ there ∷ u)))
ordered [] [] here there after rest e = inl refl
ordered [] (y ∷ front) here there after rest e = inr (inl (front, ap (λ z. z ∷ front) (sym (same_head e))))
ordered (x ∷ before) [] here there after rest e = inr (inr (before, ap (λ z. z ∷ before) (same_head e)))
ordered (x ∷ before) (y ∷ front) here there after rest e = by (ordered before front here there after rest (same_tail e))
  where
    by : (before ≡ front) ⊎ (((u : List Token) × (front ≡ before ++ here ∷ u))
        ⊎ ((u : List Token) × (before ≡ front ++ there ∷ u))) →
        (x ∷ before ≡ y ∷ front) ⊎ (((u : List Token) × (y ∷ front ≡ x ∷ before ++ here ∷ u))
        ⊎ ((u : List Token) × (x ∷ before ≡ y ∷ front ++ there ∷ u)))
    by (inl h) = inl (cc (same_head e))
    by (inr (inl (u, h))) = inr (inl (u, cc (same_head e)))
    by (inr (inr (u, h))) = inr (inr (u, cc (same_head e)))

-- a program that goes on with these keeps the limits before them
pub record Continued (front : List Token) : Type 0 where
  pub others : List Token
  pub tree : Program
  pub is : IsProgram (limits_before others) (front ++ others) tree

first_before : (q : Quantity) (these : List Token) → Asks (asked_first q these) (limits_before these)
first_before Nesting these left other count h = h
first_before q these left other count h = h.0

continued : (fault : Fault) (front : List Token) (there : Token) → IsRefused fault front there → Continued front
continued Expected front there k = record { others = k.begins.0; tree = k.begins.1; is = k.begins.2 }
continued (Passes q) front there k =
    let others = there ∷ k.begins.0 in
    record {
      others = others;
      tree = k.begins.1;
      is = grows (asked_first q others) (limits_before others) (first_before q others) (front ++ others) k.begins.1
          (subst (λ ts. IsProgram (asked_first q others) ts k.begins.1) (append_assoc front (there ∷ []) k.begins.0) k.begins.2);
    }

at_before : (q : Quantity) (here : Token) (u others : List Token) →
    Asks (limits_before others) (limit_at q (here ∷ (u ++ others)))
at_before q here u others left other count h same is =
    subst (λ z. count ≤ limit z) is (h (longer (length-append u others)))
  where
    longer : length (u ++ others) ≡ length u + length others → length others < length left
    longer e = omega (arith, e, same)

-- so the token that is refused doesn't stand before them
not_after : (fault : Fault) (before : List Token) (here : Token) (u others : List Token) (p : Program) →
    IsRefused fault before here → IsProgram (limits_before others) ((before ++ here ∷ []) ++ (u ++ others)) p → ⊥
not_after Expected before here u others p k h = k.stops (u ++ others, p, grows (limits_before others) nothing (λ left q count e. tt) ((before ++ here ∷ []) ++ (u ++ others)) p h)
not_after (Passes q) before here u others p k h =
    k.passes (u ++ others, p, grows (limits_before others) (limit_at q (here ∷ (u ++ others))) (at_before q here u others) ((before ++ here ∷ []) ++ (u ++ others)) p h)

not_later : (fault other : Fault) (before front : List Token) (here there : Token) (u : List Token) →
    IsRefused fault before here → IsRefused other front there → front ≡ before ++ here ∷ u → ⊥
not_later fault other before front here there u k h e =
    let c = continued other front there h in
    let same = ap (λ ts. ts ++ c.others) e ∙ append_assoc before (here ∷ u) c.others ∙ sym (append_assoc before (here ∷ []) (u ++ c.others)) in
    not_after fault before here u c.others c.tree k (subst (λ ts. IsProgram (limits_before c.others) ts c.tree) same c.is)

pub one_refusal : OneRefusal
one_refusal tokens one other = by (ordered one.before other.before one.here other.here one.after other.after (sym one.splits ∙ other.splits))
  where
    by : (one.before ≡ other.before) ⊎ (((u : List Token) × (other.before ≡ one.before ++ one.here ∷ u))
        ⊎ ((u : List Token) × (one.before ≡ other.before ++ other.here ∷ u))) → one.before ≡ other.before
    by (inl same) = same
    by (inr (inl (u, later))) = absurd (not_later one.fault other.fault one.before other.before one.here other.here u one.refused other.refused later)
    by (inr (inr (u, later))) = absurd (not_later other.fault one.fault other.before one.before other.here one.here u other.refused one.refused later)
