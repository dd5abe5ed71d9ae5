-- Synchronisation units in place that handle messages.
use Rattle.std.proofs.Common.{◌∙◌, ℕ, List, [], refl, Option, Some, None, slice_get}
use Rattle.std.specs.Prelude.{◌==◌}
use Rattle.std.proofs.lemmas.List.{length-replicate}
use Rattle.std.proofs.lemmas.List.Elements.{All-nil, All-push}
use Rattle.ec_code.specs.declared.message.Entry.{Entry}
use Rattle.ec_code.specs.declared.message.Entry.TheVariants as e
use Rattle.ec_code.specs.declared.message.Message.{Message}
use Rattle.ec_code.specs.declared.message.Message.TheVariants as m
use Rattle.ec_code.specs.InPlace.{IsEntry, IsMessage}
use Rattle.ec_world_laws.proofs.Units.Values.{either}
use Rattle.ec_slots.specs.declared.slot.Filled.{Filled}
use Rattle.ec_slots.specs.Slots.{Row, filled_by, slot_of, synced}
use Rattle.ec_su.specs.Handle.{SyncUnit, counted, handle, is_root, new_unit, readies, settled_by, starts, syncs, to_peer, with_slots}
use Rattle.ec_world_laws.specs.Worlds.{AreFor, IsFor, IsPlacedUnit}
use Rattle.ec_world_laws.proofs.Worlds.Numbered.{numbered_replicate, put_at_numbered, put_to_long}

module _ (n node : ℕ) where
  slots_placed : (rows : List Row) (u : SyncUnit) → IsPlacedUnit n node u → IsPlacedUnit n node (with_slots rows u)
  slots_placed rows u p = record { number = p.number; ready = p.ready; count = p.count; peers = p.peers }

  counted_placed : (u : SyncUnit) → IsPlacedUnit n node u → IsPlacedUnit n node (counted u)
  counted_placed u p = record { number = p.number; ready = p.ready; count = p.count; peers = p.peers }

  readies_placed : (x : Entry) (u : SyncUnit) → IsEntry n x → IsPlacedUnit n node u → IsPlacedUnit n node (readies x u)
  readies_placed x u h p =
      record { number = p.number; ready = All-push (IsEntry n) u.ready x p.ready h; count = p.count; peers = p.peers }

  to_peer_placed : (peer : ℕ) (x : Message) (u : SyncUnit) → IsFor n peer x → IsPlacedUnit n node u →
      IsPlacedUnit n node (to_peer peer x u)
  to_peer_placed peer x u h p = record {
    number = p.number;
    ready = p.ready;
    count = put_to_long (slice_get u.peers peer) peer x u.peers ∙ p.count;
    peers = put_at_numbered (IsFor n) peer x u.peers p.peers h;
  }

  starts_placed : (frame slot : ℕ) (o : Option Filled) (u : SyncUnit) → IsPlacedUnit n node u →
      IsPlacedUnit n node (starts frame slot o u)
  starts_placed frame slot None u p = p
  starts_placed frame slot (Some f) u p =
      either (IsPlacedUnit n node) (is_root u.node frame slot) _ _ p
      (readies_placed (e.Start frame f.fiber slot f.filling) u tt p)

  syncs_placed : (frame slot : ℕ) (u : SyncUnit) → IsPlacedUnit n node u → IsPlacedUnit n node (syncs frame slot u)
  syncs_placed frame slot u p =
      starts_placed frame slot (filled_by (slot_of frame slot u.slots)) (with_slots (synced frame slot u.slots) u)
      (slots_placed (synced frame slot u.slots) u p)

  pub handle_placed : (x : Message) (u : SyncUnit) → IsMessage n x → IsPlacedUnit n node u → IsPlacedUnit n node (handle x u)
  handle_placed (m.Init frame slot count reset fiber) u h p =
      let settled : SyncUnit = with_slots (settled_by (m.Init frame slot count reset fiber) u.slots) u in
      counted_placed settled (slots_placed settled.slots u p)
  handle_placed (m.Incr frame slot) u h p =
      let settled : SyncUnit = with_slots (settled_by (m.Incr frame slot) u.slots) u in
      counted_placed settled (slots_placed settled.slots u p)
  handle_placed (m.Sync to frame slot) u h p =
      let settled : IsPlacedUnit n node (with_slots u.slots u) = slots_placed u.slots u p in
      counted_placed _
      (either (IsPlacedUnit n node) (to == u.node) _ _ (syncs_placed frame slot (with_slots u.slots u) settled)
      (to_peer_placed to (m.Sync to frame slot) (with_slots u.slots u) (h, refl) settled))
  handle_placed (m.Work to entry) u h p =
      let settled : IsPlacedUnit n node (with_slots u.slots u) = slots_placed u.slots u p in
      counted_placed _
      (either (IsPlacedUnit n node) (to == u.node) _ _ (readies_placed entry (with_slots u.slots u) h.1 settled)
      (to_peer_placed to (m.Work to entry) (with_slots u.slots u) (h, refl) settled))
  handle_placed (m.EndFrame frame) u h p =
      let settled : SyncUnit = with_slots (settled_by (m.EndFrame frame) u.slots) u in
      counted_placed settled (slots_placed settled.slots u p)

  pub new_unit_placed : IsPlacedUnit n node (new_unit node n)
  new_unit_placed = record {
    number = refl;
    ready = All-nil (IsEntry n);
    count = length-replicate n [];
    peers = numbered_replicate (AreFor n) n [] (λ k. All-nil (IsFor n k));
  }
