-- What a receipt is, and what a party is of which one was split off, or which learned one.
use Rattle.std.proofs.Common.{◌≡◌, [], length, refl, sym, ap, ◌∙◌, subst}
use Rattle.atomic_table.specs.Seated.{TableId}
use Rattle.cordyceps_shared.specs.FreeChains.{Tracks}
use Rattle.cordyceps_shared.specs.Histories.{plain}
use Rattle.cordyceps_shared.specs.Shares.{IsShare}
use Rattle.cordyceps_shared.specs.Slots.{Near}
use Rattle.cordyceps_shared.specs.declared.free.FreeRooms.{FreeRooms}
use Rattle.cordyceps_shared.proofs.Adding.{plain_unmarked}
use Rattle.cordyceps_stack.specs.Shared.Parts.{standing, IsSeated}
use Rattle.cordyceps_stack.specs.Shared.Plays.{SeatState, Sees, IsResting}
use Rattle.cordyceps_stack.specs.Shared.Receipts.{Learns}
use Rattle.cordyceps_stack.specs.Shared.Rule.{IsTable}
use Rattle.cordyceps_stack.specs.Shared.Telling.{view_telling, view_hearing, HasHeard, IsReceipt}
use Rattle.cordyceps_stack.specs.Shared.View.{View}
use Rattle.cordyceps_stack.proofs.SharedTheory.CallsHold.{adds}

module _ {E : Type 0} where
  -- what holds of a seat holds of it after a receipt was split off
  pub same_seat : (Holds : TableId → SeatState E → Type 0) (z z' : TableId) (m k : SeatState E) → Holds z m → z' ≡ z → k ≡ m → Holds z' k
  same_seat Holds z z' m k holds at is = subst (λ (q : TableId × SeatState E). Holds q.0 q.1) (λ i. (sym at i, sym is i)) holds

  pub is_receipt : (z z' : TableId) (m k : SeatState E) → IsTable z → z' ≡ z → k ≡ (view_telling m.0, []) → IsReceipt z' k
  is_receipt z z' m k table at is = same_seat (λ y q. IsReceipt y q) z z' (view_telling m.0, []) k record {
    table = table;
    hand = refl;
    share = refl;
  } at is

  pub tells_seen : (m k : SeatState E) → k ≡ (view_telling m.0, []) → plain k.0.known.seen ≡ plain m.0.known.seen
  tells_seen m k is = ap (λ (q : SeatState E). plain q.0.known.seen) is ∙ plain_unmarked m.0.known.seen

  -- what it had been told changes nothing of what it saw
  sees_too : (m o k : SeatState E) → HasHeard (view_hearing m.0 o.0, m.1) k → Sees m.0 [] k.0
  sees_too m o k h = let g = h.sees in record { rest = g.rest; is = g.is; adds = g.adds; foreign = g.foreign; legal = g.legal; share = g.share; alone = g.alone }

  pub heard_seated : (z z' : TableId) (m o k : SeatState E) (free : FreeRooms) → IsSeated z m free → z' ≡ z → HasHeard (view_hearing m.0 o.0, m.1) k → IsSeated z' k free
  heard_seated z z' m o k free s at h =
      let r = s.rests in
      let g = sees_too m o k h in
      let rests : IsResting z.slots k = record {
        idle = ap (λ (v : View E). v.doing) h.view_is ∙ r.idle;
        empty = h.hand ∙ r.empty;
        named = λ e. r.named (sym g.share ∙ e);
        near = subst (λ (v : View E). Near z.slots v.free.rooms) (sym h.view_is) r.near;
      } in record {
        table = subst (λ q. IsTable q) (sym at) s.table;
        rests = subst (λ (q : TableId). IsResting q.slots k) (sym at) rests;
        tracks = subst (λ (v : View E). Tracks free v.free) (sym h.view_is) s.tracks;
        legal = g.legal;
        alone = g.alone;
        share = subst IsShare (sym g.share) s.share;
      }

  pub learns_it : (z z' : TableId) (m o k : SeatState E) → z' ≡ z → HasHeard (view_hearing m.0 o.0, m.1) k → Learns (plain o.0.known.seen) (standing z m.0) (standing z' k.0)
  learns_it z z' m o k at h = record {
    adds = adds z z' m.0 k.0 [] (sees_too m o k h) at;
    told = h.told;
    rooms = ap (λ (v : View E). length v.free.rooms) h.view_is;
  }
