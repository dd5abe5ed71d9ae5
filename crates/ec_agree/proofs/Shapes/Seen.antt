-- What a node looks like, however far its messages and entries have come, and what a step makes of that.
use Rattle.std.proofs.Common.{◌≡◌, ℕ, List, [], ◌∷◌, ◌++◌, ap, sym, ◌∙◌, append_assoc}
use Rattle.ec_core.specs.declared.code.Code.{Code}
use Rattle.ec_core.specs.declared.message.Entry.{Entry}
use Rattle.ec_core.specs.declared.message.Message.{Message}
use Rattle.ec_core.specs.declared.eu.Frame.{Frame}
use Rattle.ec_core.specs.declared.su.Su.{Su}
use Rattle.ec_core.specs.declared.node.Node.{Node}
use Rattle.ec_core.specs.State.{Exec}
use Rattle.ec_core.specs.Slots.{Row}
use Rattle.ec_core.specs.Entry.{entry as enters}
use Rattle.ec_core.specs.Handle.{handle}
use Rattle.ec_core.specs.Step.{with_outbox}

-- a node's frames, output and slots, the messages on their way to its synchronisation unit, and the entries on their way
-- to its execution unit
pub record Seen : Type 0 where
  pub frames : List Frame
  pub output : List ℕ
  pub slots : List Row
  pub pipe : List Message
  pub ready : List Entry

abbrev pub seen : Node → Seen
seen s = record {
  frames = s.eu.frames;
  output = s.eu.output;
  slots = s.su.slots;
  pipe = s.events ++ s.eu.outbox;
  ready = s.ready ++ s.su.ready;
}

-- a node looks like this, and no spawned fiber waits in it
pub record Looks (s : Node) (a : Seen) : Type 0 where
  pub is : seen s ≡ a
  pub alone : s.eu.spawned ≡ []

-- ---- what is moved on

abbrev pub event_moved : Message → List Message → Node → Node
event_moved x rest s = record s { events = s.events ++ x ∷ []; eu = with_outbox rest s.eu }

abbrev pub entry_moved : Entry → List Entry → Node → Node
entry_moved x rest s = record s { ready = s.ready ++ x ∷ []; su = record s.su { ready = rest } }

pub event_looks : (s : Node) (a : Seen) (x : Message) (rest : List Message) → s.eu.outbox ≡ x ∷ rest →
    Looks s a → Looks (event_moved x rest s) a
event_looks s a x rest h k =
    let same : seen (event_moved x rest s) ≡ seen s = λ i. record {
      frames = s.eu.frames;
      output = s.eu.output;
      slots = s.su.slots;
      ready = s.ready ++ s.su.ready;
      pipe = (append_assoc s.events (x ∷ []) rest ∙ ap (λ q. s.events ++ q) (sym h)) i;
    } in
    record { is = same ∙ k.is; alone = k.alone }

pub ready_looks : (s : Node) (a : Seen) (x : Entry) (rest : List Entry) → s.su.ready ≡ x ∷ rest → Looks s a →
    Looks (entry_moved x rest s) a
ready_looks s a x rest h k =
    let same : seen (entry_moved x rest s) ≡ seen s = λ i. record {
      frames = s.eu.frames;
      output = s.eu.output;
      slots = s.su.slots;
      pipe = s.events ++ s.eu.outbox;
      ready = (append_assoc s.ready (x ∷ []) rest ∙ ap (λ q. s.ready ++ q) (sym h)) i;
    } in
    record { is = same ∙ k.is; alone = k.alone }

-- ---- what is taken

-- the unit of a node that looks like this
abbrev pub unit : Seen → List Message → Exec
unit a outbox = record { frames = a.frames; spawned = []; outbox = outbox; output = a.output }

abbrev pub entry_taken : Code → Entry → List Entry → Node → Node
entry_taken code x rest s = record s { ready = rest; eu = enters code 0 x s.eu }

-- the oldest entry makes a into b, and says more
pub record Entered (code : Code) (a b : Seen) : Type 0 where
  pub entry : Entry
  pub more : List Message
  pub takes : a.ready ≡ entry ∷ b.ready
  pub does : (o : List Message) → enters code 0 entry (unit a o) ≡ unit b (o ++ more)
  pub slots : a.slots ≡ b.slots
  pub says : a.pipe ++ more ≡ b.pipe

pub entry_looks : (code : Code) (s : Node) (a b : Seen) (x : Entry) (rest : List Entry) → s.ready ≡ x ∷ rest →
    Entered code a b → Looks s a → Looks (entry_taken code x rest s) b
entry_looks code s a b x rest h t k =
    let all : (x ∷ rest) ++ s.su.ready ≡ t.entry ∷ b.ready =
    ap (λ q. q ++ s.su.ready) (sym h) ∙ (ap (λ z. z.ready) k.is ∙ t.takes) in
    let first : x ≡ t.entry = cc in
    let left : rest ++ s.su.ready ≡ b.ready = cc in
    let was : s.eu ≡ unit a s.eu.outbox = λ i. record {
      frames = ap (λ z. z.frames) k.is i;
      spawned = k.alone i;
      outbox = s.eu.outbox;
      output = ap (λ z. z.output) k.is i;
    } in
    let after : enters code 0 x s.eu ≡ unit b (s.eu.outbox ++ t.more) =
    ap (λ z. enters code 0 z s.eu) first ∙ (ap (enters code 0 t.entry) was ∙ t.does s.eu.outbox) in
    let pipe : s.events ++ (enters code 0 x s.eu).outbox ≡ b.pipe =
    ap (λ z. s.events ++ z.outbox) after
    ∙ (sym (append_assoc s.events s.eu.outbox t.more) ∙ (ap (λ z. z.pipe ++ t.more) k.is ∙ t.says)) in
    record {
      is = λ i. record {
        frames = ap (λ z. z.frames) after i;
        output = ap (λ z. z.output) after i;
        slots = (ap (λ z. z.slots) k.is ∙ t.slots) i;
        pipe = pipe i;
        ready = left i;
      };
      alone = ap (λ z. z.spawned) after;
    }

abbrev pub event_taken : Message → List Message → Node → Node
event_taken x rest s = record s { events = rest; su = handle 0 x s.su }

-- the slots and the ready entries of a unit are these
pub record Holds (u : Su) (rows : List Row) (entries : List Entry) : Type 0 where
  pub slots : u.slots ≡ rows
  pub ready : u.ready ≡ entries

-- the oldest message makes a into b, and more ready
pub record Handled (a b : Seen) : Type 0 where
  pub message : Message
  pub more : List Entry
  pub takes : a.pipe ≡ message ∷ b.pipe
  pub does : (u : Su) → Holds (handle 0 message (record u { slots = a.slots })) b.slots (u.ready ++ more)
  pub frames : a.frames ≡ b.frames
  pub output : a.output ≡ b.output
  pub readies : a.ready ++ more ≡ b.ready

pub handle_looks : (s : Node) (a b : Seen) (x : Message) (rest : List Message) → s.events ≡ x ∷ rest →
    Handled a b →
    Looks s a → Looks (event_taken x rest s) b
handle_looks s a b x rest h t k =
    let all : (x ∷ rest) ++ s.eu.outbox ≡ t.message ∷ b.pipe =
    ap (λ q. q ++ s.eu.outbox) (sym h) ∙ (ap (λ z. z.pipe) k.is ∙ t.takes) in
    let first : x ≡ t.message = cc in
    let left : rest ++ s.eu.outbox ≡ b.pipe = cc in
    let done = t.does s.su in
    let after : handle 0 x s.su ≡ handle 0 t.message (record s.su { slots = a.slots }) =
    ap (λ z. handle 0 z s.su) first
    ∙ ap (λ z. handle 0 t.message (record s.su { slots = z })) (ap (λ z. z.slots) k.is) in
    let ready : s.ready ++ (handle 0 x s.su).ready ≡ b.ready =
    ap (λ z. s.ready ++ z.ready) after
    ∙ (ap (λ z. s.ready ++ z) done.ready
    ∙ (sym (append_assoc s.ready s.su.ready t.more) ∙ (ap (λ z. z.ready ++ t.more) k.is ∙ t.readies))) in
    record {
      is = λ i. record {
        frames = (ap (λ z. z.frames) k.is ∙ t.frames) i;
        output = (ap (λ z. z.output) k.is ∙ t.output) i;
        slots = (ap (λ z. z.slots) after ∙ done.slots) i;
        pipe = left i;
        ready = ready i;
      };
      alone = k.alone;
    }

-- ---- what isn't there

none_left : {A : Type 0} (xs : List A) (x : A) (rest more : List A) → xs ≡ x ∷ rest → xs ++ more ≡ [] → ⊥
none_left xs x rest more h k = let a : (x ∷ rest) ++ more ≡ [] = ap (λ q. q ++ more) (sym h) ∙ k in cc

pub no_entry : (s : Node) (a : Seen) (x : Entry) (rest : List Entry) → s.ready ≡ x ∷ rest → Looks s a →
    a.ready ≡ [] → ⊥
no_entry s a x rest h k none = none_left s.ready x rest s.su.ready h (ap (λ z. z.ready) k.is ∙ none)

pub no_message : (s : Node) (a : Seen) (x : Message) (rest : List Message) → s.events ≡ x ∷ rest → Looks s a →
    a.pipe ≡ [] → ⊥
no_message s a x rest h k none = none_left s.events x rest s.eu.outbox h (ap (λ z. z.pipe) k.is ∙ none)
