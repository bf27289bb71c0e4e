-- What a receipt is, and what a party is of which one was split off, or which learned one.
use Rattle.std.proofs.Common.{◌≡◌, ℕ, [], refl, sym, ap, ◌∙◌, subst}
use Rattle.atomic_table.specs.Seated.{TableId}
use Rattle.cordyceps_shared.specs.Histories.{plain}
use Rattle.cordyceps_shared.proofs.Adding.{plain_unmarked}
use Rattle.cordyceps_queue.specs.declared.shared.spare.Spare.{Spare}
use Rattle.cordyceps_queue.specs.declared.shared.uses.RoomUse.{RoomUse}
use Rattle.cordyceps_queue.specs.Shared.Bell.{Hears}
use Rattle.cordyceps_queue.specs.Shared.Parts.{standing, IsSeated, IsConsuming}
use Rattle.cordyceps_queue.specs.Shared.Plays.{SeatState}
use Rattle.cordyceps_queue.specs.Shared.Receipts.{Learns}
use Rattle.cordyceps_queue.specs.Shared.Telling.{view_telling, view_hearing, HasHeard, IsReceipt}
use Rattle.cordyceps_queue.specs.Shared.Rule.{IsTable}
use Rattle.cordyceps_queue.specs.Shared.Uses.{HasUse}
use Rattle.cordyceps_queue.proofs.SharedTheory.BellSeats.{hears_seated, hears_consuming, hears_use, hears_call}

module _ {E : Type 0} where
  -- what holds of a seat holds of it after a receipt was split off
  pub same_seat : (Holds : TableId → SeatState E → Type 0) (z z' : TableId) (m k : SeatState E) → Holds z m → z' ≡ z → k ≡ m → Holds z' k
  same_seat Holds z z' m k holds at is = subst (λ (q : TableId × SeatState E). Holds q.0 q.1) (λ i. (sym at i, sym is i)) holds

  pub is_receipt : (z z' : TableId) (m k : SeatState E) → IsTable z → z' ≡ z → k ≡ (view_telling m.0, []) → IsReceipt z' k
  is_receipt z z' m k table at is = same_seat (λ y q. IsReceipt y q) z z' (view_telling m.0, []) k record {
    table = table;
    hand = refl;
    share = refl;
  } at is

  pub tells_seen : (m k : SeatState E) → k ≡ (view_telling m.0, []) → plain k.0.known.seen ≡ plain m.0.known.seen
  tells_seen m k is = ap (λ (q : SeatState E). plain q.0.known.seen) is ∙ plain_unmarked m.0.known.seen

  -- what it had been told changes nothing of what it saw
  heard : (m o k : SeatState E) → HasHeard (view_hearing m.0 o.0, m.1) k → Hears [] m k
  heard m o k h = let g = h.sees in record {
    view_is = h.view_is;
    hand = h.hand;
    sees = record { rest = g.rest; is = g.is; adds = g.adds; foreign = g.foreign; legal = g.legal; share = g.share; alone = g.alone };
  }

  pub heard_seated : (z z' : TableId) (m o k : SeatState E) (spare : Spare) → IsSeated z m spare → z' ≡ z → HasHeard (view_hearing m.0 o.0, m.1) k → IsSeated z' k spare
  heard_seated z z' m o k spare s at h = hears_seated z z' m k spare [] s at (heard m o k h) (λ q. (refl, refl))

  pub heard_consuming : (z z' : TableId) (t : ℕ) (m o k : SeatState E) (spare : Spare) → IsConsuming z t m spare → z' ≡ z → HasHeard (view_hearing m.0 o.0, m.1) k → IsConsuming z' t k spare
  heard_consuming z z' t m o k spare c at h = hears_consuming z z' t m k spare [] c at (heard m o k h) (λ q. (refl, (refl, refl)))

  pub heard_use : (m o k : SeatState E) (u : RoomUse) → HasHeard (view_hearing m.0 o.0, m.1) k → HasUse m u → HasUse k u
  heard_use m o k u h = hears_use m k u [] (heard m o k h)

  pub learns_it : (z z' : TableId) (m o k : SeatState E) → z' ≡ z → HasHeard (view_hearing m.0 o.0, m.1) k → Learns (plain o.0.known.seen) (standing z m.0) (standing z' k.0)
  learns_it z z' m o k at h = record {
    adds = (hears_call z z' m k [] at (heard m o k h)).0;
    told = h.told;
    rooms = (hears_call z z' m k [] at (heard m o k h)).1;
  }
