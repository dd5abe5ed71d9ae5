-- Bytes that are written piece by piece.
use Rattle.std.proofs.Common.{◌≡◌, ℕ, ◌+◌, ◌-◌, List, length, take, drop, Option, Some, None, append_assoc, length-drop, arith}
use Rattle.std.proofs.Math.Seq.{take-add}
use Rattle.std.proofs.lemmas.List.{take_all}
use Rattle.std.specs.Io.KnownBytes.{Appends}

pub sent_more : (first then last : Option (List ℕ)) (done taken : ℕ) (bytes : List ℕ) → Appends first then (take done bytes) → Appends then last (take taken (take (length bytes - done) (drop done bytes))) → Appends first last (take (done + taken) bytes)
sent_more None then last done taken bytes sent more = tt
sent_more (Some a) None last done taken bytes sent more = absurd sent
sent_more (Some a) (Some b) None done taken bytes sent more = absurd more
sent_more (Some a) (Some b) (Some c) done taken bytes sent more =
    let whole : take (length bytes - done) (drop done bytes) ≡ drop done bytes = take_all _ _ (omega (arith, length-drop done bytes)) in
    rw (take-add done taken bytes, more, whole, sent, append_assoc)
