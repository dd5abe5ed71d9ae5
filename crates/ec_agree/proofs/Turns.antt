-- What takes one stage to the next.
use Rattle.std.proofs.Common.{◌≡◌, ◌⊎◌, inl, inr, ℕ, true, List, [], ◌∷◌, ◌++◌, length, Option, Some, None, ℤ, refl, ap, sym, ◌∙◌, append-nil, replicate, ◌-◌}
use Rattle.ec_core.specs.declared.message.Entry.{Entry}
use Rattle.ec_core.specs.declared.message.Entry.TheVariants as e
use Rattle.ec_core.specs.declared.message.Message.{Message}
use Rattle.ec_core.specs.declared.message.Message.TheVariants as m
use Rattle.ec_core.specs.declared.slots.Slot.{Slot}
use Rattle.ec_core.specs.declared.su.Su.{Su}
use Rattle.ec_core.specs.declared.node.Node.{Node}
use Rattle.ec_core.specs.Slots.{Row, risen}
use Rattle.ec_core.specs.Handle.{handle}
use Rattle.ec_small.specs.declared.tree.Program.{Program}
use Rattle.ec_small.specs.Sound.{Sound}
use Rattle.ec_split.specs.Cut.{code_of}
use Rattle.ec_agree.proofs.Shapes.Seen.{Seen, Looks, entry_taken, Entered, entry_looks, event_taken, Holds, Handled, handle_looks, no_entry, no_message}
use Rattle.ec_agree.proofs.Shapes.Cells.{frames_with}
use Rattle.ec_agree.proofs.Shapes.Stages.{Point, Asks, Answers, Stage, Entering, Halted, Sending, Printing, Told, Starting, Answering, Forgot, Answered, Closing, Over, expected, Good, Prints, Right, Stands, messages, main_back, main_call, main_slot, answer, rows, root_row}
use Rattle.ec_agree.proofs.Runs.Entries.{Runs, main_enters, main_goes_on}

-- ---- entries

-- the oldest entry brings what looks so to another stage
pub record EntryTurn (p : Program) (a : Seen) : Type 0 where
  pub next : Stage
  pub good : Good p next
  pub makes : Entered (code_of p) a (expected next)

-- a fiber of main runs to its end
ran : (p : Program) (a : Seen) (main : Option Slot) (x : Entry) → a.ready ≡ x ∷ [] → a.slots ≡ rows main →
    a.pipe ≡ [] →
    Runs p x a.frames a.output → EntryTurn p a
ran p a main x ready slots pipe r = record {
  next = Halted main a.output r.next;
  good = r.good;
  makes = record {
    entry = x;
    more = messages r.next;
    takes = ready;
    does = r.does;
    slots = slots;
    says = ap (λ q. q ++ messages r.next) pipe;
  };
}

-- the bytes are printed
printed : (p : Program) (f : ℕ) (bytes out : List ℕ) (point : Point) → Prints p bytes out point →
    EntryTurn p (expected (Printing f bytes out point))
printed p f bytes out point g = record {
  next = Told f point;
  good = g.ahead;
  makes = record {
    entry = e.Print bytes main_back;
    more = m.Sync 0 1 0 ∷ [];
    takes = refl;
    does = λ o i. record {
      frames = frames_with true point.cells;
      spawned = [];
      outbox = o ++ m.Sync 0 1 0 ∷ [];
      output = g.output i;
    };
    slots = refl;
    says = refl;
  };
}

-- the answer comes before main's slots go
filled_first : (p : Program) (main : Option Slot) (n : ℤ) (out : List ℕ) → Right p n out →
    EntryTurn p (expected (Answering main n out))
filled_first p main n out g = record {
  next = Answered main n out;
  good = g;
  makes = record { entry = answer n; more = m.Sync 0 0 0 ∷ []; takes = refl; does = λ o. refl; slots = refl; says = refl };
}

-- the answer comes after main's slots are gone
filled_last : (p : Program) (others : List Row) (n : ℤ) (out : List ℕ) → Right p n out →
    EntryTurn p (expected (Forgot others n out))
filled_last p others n out g = record {
  next = Closing others n out;
  good = g;
  makes = record { entry = answer n; more = m.Sync 0 0 0 ∷ []; takes = refl; does = λ o. refl; slots = refl; says = refl };
}

entry_turn : (p : Program) → Sound p → (stage : Stage) → Good p stage →
    ((expected stage).ready ≡ []) ⊎ EntryTurn p (expected stage)
entry_turn p sound Entering g = inr (ran p (expected Entering) None (e.Enter main_call) refl refl refl (main_enters p sound))
entry_turn p sound (Halted main out next) g = inl refl
entry_turn p sound (Sending f bytes out point) g = inl refl
entry_turn p sound (Printing f bytes out point) g = inr (printed p f bytes out point g)
entry_turn p sound (Told f point) g = inl refl
entry_turn p sound (Starting f point) g =
    inr (ran p (expected (Starting f point)) (Some (main_slot point.fiber f)) (e.Start 1 point.fiber 0 f) refl refl refl
    (main_goes_on p sound f point g))
entry_turn p sound (Answering main n out) g = inr (filled_first p main n out g)
entry_turn p sound (Forgot others n out) g = inr (filled_last p others n out g)
entry_turn p sound (Answered main n out) g = inl refl
entry_turn p sound (Closing others n out) g = inl refl
entry_turn p sound (Over others n out) g = inl refl

-- ---- messages

-- the oldest message brings what looks so to another stage
pub record MessageTurn (p : Program) (a : Seen) : Type 0 where
  pub next : Stage
  pub good : Good p next
  pub makes : Handled a (expected next)

-- what is told of a unit in which nothing more is ready
still : (u : Su) (slots : List Row) (ready : List Entry) → u.slots ≡ slots → u.ready ≡ ready →
    Holds u slots (ready ++ [])
still u slots ready h k = record { slots = h; ready = k ∙ sym (append-nil ready) }

-- a message changes the slots alone
settles : (a : Seen) (slots : List Row) (pipe : List Message) (x : Message) → a.pipe ≡ x ∷ pipe →
    ((u : Su) → Holds (handle 0 x (record u { slots = a.slots })) slots u.ready) →
    Handled a (record a { slots = slots; pipe = pipe })
settles a slots pipe x takes does = record {
  message = x;
  more = [];
  takes = takes;
  does = λ u. still _ slots u.ready (does u).slots (does u).ready;
  frames = refl;
  output = refl;
  readies = append-nil a.ready;
}

-- a message makes an entry ready
readies : (a : Seen) (slots : List Row) (pipe : List Message) (x : Message) (entry : Entry) →
    a.pipe ≡ x ∷ pipe →
    ((u : Su) → Holds (handle 0 x (record u { slots = a.slots })) slots (u.ready ++ entry ∷ [])) →
    Handled a (record a { slots = slots; pipe = pipe; ready = a.ready ++ entry ∷ [] })
readies a slots pipe x entry takes does =
    record { message = x; more = entry ∷ []; takes = takes; does = does; frames = refl; output = refl; readies = refl }

-- main's slot is set up
set_up : (p : Program) (main : Option Slot) (bytes out : List ℕ) (point : Point) → Prints p bytes out point →
    MessageTurn p (expected (Halted main out (Asks bytes point)))
set_up p None bytes out point g = record {
  next = Sending 0 bytes out point;
  good = g;
  makes = settles (expected (Halted None out (Asks bytes point))) _ _ (m.Init 1 0 1 1 point.fiber) refl
      (λ u. record { slots = refl; ready = refl });
}
set_up p (Some y) bytes out point g = record {
  next = Sending y.fillings bytes out point;
  good = g;
  makes = settles (expected (Halted (Some y) out (Asks bytes point))) _ _ (m.Init 1 0 1 1 point.fiber) refl
      (λ u. record { slots = refl; ready = refl });
}

-- main's slots go before the answer comes
forgets_first : (p : Program) (main : Option Slot) (n : ℤ) (out : List ℕ) → Right p n out →
    MessageTurn p (expected (Answering main n out))
forgets_first p None n out g = record {
  next = Forgot [] n out;
  good = g;
  makes = settles (expected (Answering None n out)) _ _ (m.EndFrame 1) refl (λ u. record { slots = refl; ready = refl });
}
forgets_first p (Some y) n out g = record {
  next = Forgot ([] ∷ []) n out;
  good = g;
  makes = settles (expected (Answering (Some y) n out)) _ _ (m.EndFrame 1) refl (λ u. record { slots = refl; ready = refl });
}

-- main's slots go after the answer has come
forgets_last : (p : Program) (main : Option Slot) (n : ℤ) (out : List ℕ) → Right p n out →
    MessageTurn p (expected (Answered main n out))
forgets_last p None n out g = record {
  next = Closing [] n out;
  good = g;
  makes = settles (expected (Answered None n out)) _ _ (m.EndFrame 1) refl (λ u. record { slots = refl; ready = refl });
}
forgets_last p (Some y) n out g = record {
  next = Closing ([] ∷ []) n out;
  good = g;
  makes = settles (expected (Answered (Some y) n out)) _ _ (m.EndFrame 1) refl (λ u. record { slots = refl; ready = refl });
}

message_turn : (p : Program) (stage : Stage) → Good p stage →
    ((expected stage).pipe ≡ []) ⊎ MessageTurn p (expected stage)
message_turn p Entering g = inl refl
message_turn p (Halted main out (Asks bytes point)) g = inr (set_up p main bytes out point g)
message_turn p (Halted main out (Answers n)) g = inr (record {
  next = Answering main n out;
  good = g;
  makes = readies (expected (Halted main out (Answers n))) _ _ (m.Work 0 (answer n)) (answer n) refl
      (λ u. record { slots = refl; ready = refl });
})
message_turn p (Sending f bytes out point) g = inr (record {
  next = Printing f bytes out point;
  good = g;
  makes = readies (expected (Sending f bytes out point)) _ _ (m.Work 0 (e.Print bytes main_back)) (e.Print bytes main_back) refl
      (λ u. record { slots = refl; ready = refl });
})
message_turn p (Printing f bytes out point) g = inl refl
message_turn p (Told f point) g = inr (record {
  next = Starting (risen f) point;
  good = g;
  makes = readies (expected (Told f point)) _ _ (m.Sync 0 1 0) (e.Start 1 point.fiber 0 (risen f)) refl
      (λ u. record { slots = refl; ready = refl });
})
message_turn p (Starting f point) g = inl refl
message_turn p (Answering main n out) g = inr (forgets_first p main n out g)
message_turn p (Forgot others n out) g = inl refl
message_turn p (Answered main n out) g = inr (forgets_last p main n out g)
message_turn p (Closing others n out) g = inr (record {
  next = Over (others ++ replicate (1 - length (root_row ∷ others)) []) n out;
  good = g;
  makes = settles (expected (Closing others n out)) _ _ (m.Sync 0 0 0) refl (λ u. record { slots = refl; ready = refl });
})
message_turn p (Over others n out) g = inl refl

-- ---- at a node

entry_stands_if : (p : Program) (s : Node) (a : Seen) (x : Entry) (rest : List Entry) → s.ready ≡ x ∷ rest →
    Looks s a →
    (a.ready ≡ []) ⊎ EntryTurn p a → Stands p (entry_taken (code_of p) x rest s)
entry_stands_if p s a x rest h k (inl none) = absurd (no_entry s a x rest h k none)
entry_stands_if p s a x rest h k (inr t) =
    record { stage = t.next; good = t.good; looks = entry_looks (code_of p) s a (expected t.next) x rest h t.makes k }

-- a node that takes an entry is at some stage again
pub entry_stands : (p : Program) → Sound p → (s : Node) (x : Entry) (rest : List Entry) → s.ready ≡ x ∷ rest →
    Stands p s → Stands p (entry_taken (code_of p) x rest s)
entry_stands p sound s x rest h k =
    entry_stands_if p s (expected k.stage) x rest h k.looks (entry_turn p sound k.stage k.good)

message_stands_if : (p : Program) (s : Node) (a : Seen) (x : Message) (rest : List Message) →
    s.events ≡ x ∷ rest →
    Looks s a → (a.pipe ≡ []) ⊎ MessageTurn p a → Stands p (event_taken x rest s)
message_stands_if p s a x rest h k (inl none) = absurd (no_message s a x rest h k none)
message_stands_if p s a x rest h k (inr t) =
    record { stage = t.next; good = t.good; looks = handle_looks s a (expected t.next) x rest h t.makes k }

-- a node that handles a message is at some stage again
pub message_stands : (p : Program) (s : Node) (x : Message) (rest : List Message) → s.events ≡ x ∷ rest →
    Stands p s →
    Stands p (event_taken x rest s)
message_stands p s x rest h k =
    message_stands_if p s (expected k.stage) x rest h k.looks (message_turn p k.stage k.good)
