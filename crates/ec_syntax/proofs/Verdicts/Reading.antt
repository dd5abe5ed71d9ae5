-- The laws of reading, from what the reader of programs owes the grammar.
use Rattle.std.proofs.Common.{◌≡◌, ◌≤◌, ◌<◌, ℕ, Bool, false, List, [], ◌∷◌, ◌++◌, length, refl, ap, sym, subst, ◌∙◌, inl, inr, append_assoc, append-nil, arith}
use Rattle.ec_base.specs.declared.token.Token.{Token}
use Rattle.ec_syntax.specs.declared.item.Program.{Program}
use Rattle.ec_syntax.specs.declared.quantity.Fault.{Fault}
use Rattle.ec_syntax.specs.declared.quantity.Fault.TheVariants.{Expected, Passes}
use Rattle.ec_syntax.specs.declared.quantity.Quantity.{Quantity}
use Rattle.ec_syntax.specs.declared.quantity.Quantity.TheVariants.{Nesting}
use Rattle.ec_syntax.specs.Grammar.State.{State, Asked, limit, limits, nothing}
use Rattle.ec_syntax.specs.Descent.Reader.{Outcome}
use Rattle.ec_syntax.specs.Descent.Reader.Outcome.{Done, Stopped}
use Rattle.ec_syntax.specs.Grammar.Items.{program}
use Rattle.ec_syntax.specs.Descent.Items.{read}
use Rattle.ec_syntax.specs.Grammar.Reading.{start, IsProgram, Reads, limits_before, limit_at, Begins, BeginsLexically, asked_first, IsRefused}
use Rattle.ec_syntax.specs.Laws.{OneTree, ReadIsProgram, ProgramIsRead, StoppedIsRefused, RefusedIsNoProgram}
use Rattle.ec_syntax.proofs.Decision.Procedures.{Decides, Faces, Stops, Lexical, Quiet, upto, enough}
use Rattle.ec_syntax.proofs.EndOfText.Inside.{Asks}
use Rattle.ec_syntax.proofs.EndOfText.Texts.{grows}

-- the reader of programs decides the grammar, nested deep enough
abbrev pub ProgramsDecided : (Token → Bool) → Type 1
ProgramsDecided first = (nested : ℕ) → Decides {X = Unit {0}} (enough ≤ nested) 0 (λ _. read) (λ _. program nested) ⊥ first (λ x. false)

-- ---- outcomes

tree_of : {A : Type 0} → A → Outcome A → A
tree_of b (Done a s) = a
tree_of b (Stopped fault left) = b

same_tree : {A : Type 0} {a b : A} {s m : State} → Done a s ≡ Done b m → a ≡ b
unfolding tree_of
same_tree {a = a} e = ap (tree_of a) e

is_done : {A : Type 0} → Outcome A → Type 0
is_done (Done a s) = Unit {0}
is_done (Stopped fault left) = ⊥

done_or_stopped : {A : Type 0} {a : A} {s : State} {fault : Fault} {left : List Token} → Done a s ≡ Stopped fault left →
    ⊥
unfolding is_done
done_or_stopped e = subst is_done e tt

-- ---- what is read

pub none_quiet : (ts : List Token) → Quiet (λ x. false) ts
none_quiet [] = refl
none_quiet (x ∷ rest) = refl

-- where the limits are asked, nothing is denied
granted : {A : Type 0} (o : Outcome A) (a : A) (s : State) → Faces limits o a s → o ≡ Done a s
granted o a s (inl e) = e
granted o a s (inr d) = absurd (omega (arith, d.wanted, d.passes))

reads_done : {first : Token → Bool} → ProgramsDecided first → (tokens : List Token) (p : Program) (k : Reads tokens p) →
    read (start tokens) ≡ Done p k.1
reads_done d tokens p k = granted (read (start tokens)) p k.1 ((d k.0).complete tt limits (start tokens) p k.1 k.2 (none_quiet k.1.left))

pub one_tree : {first : Token → Bool} → ProgramsDecided first → OneTree
one_tree d tokens p q h k = same_tree (sym (reads_done d tokens p h) ∙ reads_done d tokens q k)

pub read_is_program : {first : Token → Bool} → ProgramsDecided first → ReadIsProgram
read_is_program d tokens p s e behind = (enough, s, ((d enough).done (omega arith) tt (start tokens) p s e).read, behind)

pub program_is_read : {first : Token → Bool} → ProgramsDecided first → ProgramIsRead
program_is_read d tokens p k = (k.1, reads_done d tokens p k, k.3)

-- ---- why reading stops

-- what is asked of a completion is enough for a refusal
upto_before : (others : List Token) → Asks (upto Expected (length others)) (limits_before others)
upto_before others left q count h = h.0

upto_first : (q : Quantity) (others : List Token) → Asks (upto (Passes q) (length others)) (asked_first q others)
upto_first Nesting others left other count h = h.0
upto_first q others left other count h = (h.0, λ same is. subst (λ z. count ≤ limit z) is (h.1 refl same is))

fault_of : {A : Type 0} → Fault → Outcome A → Fault
fault_of f (Done a s) = f
fault_of f (Stopped fault left) = fault

left_of : {A : Type 0} → List Token → Outcome A → List Token
left_of ts (Done a s) = ts
left_of ts (Stopped fault left) = left

quantity_of : Quantity → Fault → Quantity
quantity_of q Expected = q
quantity_of q (Passes other) = other

same_fault : {A : Type 0} {fault other : Fault} {left rest : List Token} →
    ◌≡◌ {A = Outcome A} (Stopped fault left) (Stopped other rest) → fault ≡ other
unfolding fault_of
same_fault {fault = fault} e = ap (fault_of fault) e

same_left : {A : Type 0} {fault other : Fault} {left rest : List Token} →
    ◌≡◌ {A = Outcome A} (Stopped fault left) (Stopped other rest) → left ≡ rest
unfolding left_of
same_left {left = left} e = ap (left_of left) e

same_quantity : {q other : Quantity} → Passes q ≡ Passes other → q ≡ other
unfolding quantity_of
same_quantity {q = q} e = ap (quantity_of q) e

pub expected_or_passes : {q : Quantity} → Expected ≡ Passes q → ⊥
expected_or_passes e = absurd (cc)

-- how the reader of programs stops at a token
abbrev StopsAt : List Token → Fault → Token → List Token → Type 0
StopsAt tokens fault here after = Stops read (program enough) (λ x. false) (start tokens) fault (here ∷ after)

-- it does whatever stands behind
stops_again : {tokens after : List Token} {fault : Fault} {here : Token} (k : StopsAt tokens fault here after)
    (others : List Token) →
    read (start ((k.word ++ here ∷ []) ++ others)) ≡ Stopped fault (here ∷ others)
stops_again {after = after} {fault = fault} {here = here} k others =
    subst (λ ts. read (start ts) ≡ Stopped fault (here ∷ others)) (sym (append_assoc k.word (here ∷ []) others)) (k.same here after others refl)

-- so a program that goes on with this token passes a limit that is asked for there
pub record PassesAt (asked : Asked) (fault : Fault) (left : List Token) : Type 0 where
  pub quantity : Quantity
  pub count : ℕ
  pub is : fault ≡ Passes quantity
  pub wanted : asked left quantity count
  pub passes : limit quantity < count

pub passes_at : (o : Outcome Program) (p : Program) (s : State) (asked : Asked) (fault : Fault) (left : List Token) →
    o ≡ Stopped fault left → Faces asked o p s → PassesAt asked fault left
passes_at o p s asked fault left e (inl h) = absurd (done_or_stopped (sym h ∙ e))
passes_at o p s asked fault left e (inr d) = record {
  quantity = d.quantity;
  count = d.count;
  is = same_fault (sym e ∙ d.is);
  wanted = subst (λ ts. asked ts d.quantity d.count) (same_left (sym d.is ∙ e)) d.wanted;
  passes = d.passes;
}

faced : {first : Token → Bool} → ProgramsDecided first →
    {tokens after : List Token} {fault : Fault} {here : Token} (k : StopsAt tokens fault here after) →
    (asked : List Token → Asked) (b : Begins asked (k.word ++ here ∷ [])) → PassesAt (asked b.0) fault (here ∷ b.0)
faced d {fault = fault} {here = here} k asked b =
    let others = b.0 in
    let g = b.2 in
    passes_at (read (start ((k.word ++ here ∷ []) ++ others))) b.1 g.1 (asked others) fault (here ∷ others) (stops_again k others)
    ((d g.0).complete tt (asked others) (start ((k.word ++ here ∷ []) ++ others)) b.1 g.1 g.2 (none_quiet g.1.left))

-- no program goes on with a token that isn't expected
not_expected : {first : Token → Bool} → ProgramsDecided first →
    {tokens after : List Token} {here : Token} (k : StopsAt tokens Expected here after) →
    Begins (λ others. nothing) (k.word ++ here ∷ []) → ⊥
not_expected d k b = expected_or_passes (faced d k (λ others. nothing) b).is

-- and each passes the limit where one is passed
not_within : {first : Token → Bool} → ProgramsDecided first →
    {tokens after : List Token} {q : Quantity} {here : Token} (k : StopsAt tokens (Passes q) here after) →
    Begins (λ others. limit_at q (here ∷ others)) (k.word ++ here ∷ []) → ⊥
not_within d {q = q} {here = here} k b =
    let h = faced d k (λ others. limit_at q (here ∷ others)) b in
    let small = h.wanted refl (sym (same_quantity h.is)) in
    let large = subst (λ z. limit z < h.count) (sym (same_quantity h.is)) h.passes in
    absurd (omega (arith, small, large))

-- what stands before goes on to a program
expected_begins : {tokens after : List Token} {here : Token} (k : StopsAt tokens Expected here after) →
    BeginsLexically limits_before k.word
expected_begins k =
    let c = k.completed [] refl refl in
    let others = c.fill ++ [] in (
      others,
      c.value,
      grows (upto Expected (length others)) (limits_before others) (upto_before others) (k.word ++ others) c.value (enough, c.after, c.read, c.behind),
      subst Lexical (sym (append-nil c.fill)) c.lexical,
    )

passed_begins : {tokens after : List Token} {q : Quantity} {here : Token} (k : StopsAt tokens (Passes q) here after) →
    BeginsLexically (λ others. asked_first q (here ∷ others)) (k.word ++ here ∷ [])
passed_begins {q = q} {here = here} k =
    let c = k.completed [] refl refl in
    let others = c.fill ++ [] in
    let r = grows (upto (Passes q) (length (here ∷ others))) (asked_first q (here ∷ others)) (upto_first q (here ∷ others)) (k.word ++ here ∷ others) c.value (enough, c.after, c.read, c.behind) in (
      others,
      c.value,
      subst (λ ts. IsProgram (asked_first q (here ∷ others)) ts c.value) (sym (append_assoc k.word (here ∷ []) others)) r,
      subst Lexical (sym (append-nil c.fill)) c.lexical,
    )

refused : {first : Token → Bool} → ProgramsDecided first →
    (fault : Fault) {tokens after : List Token} {here : Token} (k : StopsAt tokens fault here after) →
    IsRefused fault k.word here
refused d Expected k = record { begins = expected_begins k; stops = not_expected d k }
refused d (Passes q) k = record { begins = passed_begins k; passes = not_within d k }

pub stopped_is_refused : {first : Token → Bool} → ProgramsDecided first → StoppedIsRefused
stopped_is_refused d tokens fault here after e =
    let k = (d enough).stopped (omega arith) tt (start tokens) fault (here ∷ after) e in
    (k.word, k.is, refused d fault k)

-- ---- what is refused

excluded : (asked : List Token → Asked) → ((others : List Token) → Asks limits (asked others)) →
    (before : List Token) (here : Token) → (Begins asked (before ++ here ∷ []) → ⊥) →
    (others : List Token) (p : Program) → Reads (before ++ here ∷ others) p → ⊥
excluded asked mild before here none others p k =
    none (others, p, subst (λ ts. IsProgram (asked others) ts p) (sym (append_assoc before (here ∷ []) others)) (grows limits (asked others) (mild others) (before ++ here ∷ others) p k))

limit_mild : (q : Quantity) (these : List Token) → Asks limits (limit_at q these)
limit_mild q these left other count h same is = subst (λ z. count ≤ limit z) is h

pub refused_is_no_program : RefusedIsNoProgram
refused_is_no_program Expected before here k others p h = excluded (λ others. nothing) (λ others left q count small. tt) before here k.stops others p h
refused_is_no_program (Passes q) before here k others p h =
    excluded (λ others. limit_at q (here ∷ others)) (λ others. limit_mild q (here ∷ others)) before here k.passes others p h
