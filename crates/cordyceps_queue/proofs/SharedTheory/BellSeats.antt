-- What a party is after a step at which it looks at the history, and all else of it stays.
use Rattle.std.proofs.Common.{◌≡◌, ℕ, [], ◌∷◌, ◌++◌, List, length, refl, sym, ap, ◌∙◌, subst}
use Rattle.atomic_table.specs.Seated.{TableId}
use Rattle.cordyceps_shared.specs.FreeChains.{MayJoin}
use Rattle.cordyceps_shared.specs.Shares.{Name, first_name, IsShare}
use Rattle.cordyceps_shared.specs.Slots.{Near}
use Rattle.cordyceps_shared.proofs.StepEvents.{grown_then}
use Rattle.cordyceps_queue.specs.declared.shared.spare.Spare.{Spare}
use Rattle.cordyceps_queue.specs.declared.shared.uses.RoomUse.{RoomUse}
use Rattle.cordyceps_queue.specs.History.{Event, actor}
use Rattle.cordyceps_queue.specs.Shared.Bell.{Hears}
use Rattle.cordyceps_queue.specs.Shared.Calls.{same_name, Adds}
use Rattle.cordyceps_queue.specs.Shared.Parts.{standing, IsSeated, IsConsuming, TracksEnd}
use Rattle.cordyceps_queue.specs.Shared.Plays.{SeatState, LegalReversed, Sees, IsResting, IsHolding, carry}
use Rattle.cordyceps_queue.specs.Shared.Rule.{IsTable}
use Rattle.cordyceps_queue.specs.Shared.Uses.{HasUse}
use Rattle.cordyceps_queue.specs.Shared.View.{View, name, free_chain, back_chain, all_rooms, bit_of}
use Rattle.cordyceps_queue.proofs.Legality.{told_legal}
use Rattle.cordyceps_queue.proofs.SharedTheory.CallsHold.{adds, seated_after}
use Rattle.cordyceps_queue.proofs.SharedTheory.OwnNames.{Balanced, Neutral, linked_after, held_after}

module _ {E : Type 0} where
  -- a ring after a look
  pub rings_after : (m k l : SeatState E) → Hears [] m k → Hears (Event.Ring (name k.0) ∷ []) k l → Hears (Event.Ring (name m.0) ∷ []) m l
  rings_after m k l a b = record {
    view_is = b.view_is ∙ ap (λ (v : View E). record v { known = l.0.known }) a.view_is;
    hand = b.hand ∙ a.hand;
    sees = grown_then actor LegalReversed m.0.known k.0.known l.0.known [] (Event.Ring (name m.0) ∷ []) a.sees
        (subst (λ n. Sees k.0 (Event.Ring n ∷ []) l.0) (ap first_name a.sees.share) b.sees);
  }

  pub hears_seated : (z z' : TableId) (m k : SeatState E) (spare : Spare) (es : List (Event Name E)) → IsSeated z m spare → z' ≡ z → Hears es m k → Balanced es → IsSeated z' k spare
  hears_seated z z' m k spare es s at h even =
      let r = s.rests in
      let rests : IsResting z.slots k = record {
        stage = ap (λ (v : View E). v.stage) h.view_is ∙ r.stage;
        back = ap (λ (v : View E). v.back) h.view_is ∙ r.back;
        hand = h.hand ∙ r.hand;
        named = λ e. r.named (sym h.sees.share ∙ e);
        near = subst (λ (v : View E). Near z.slots v.free) (sym h.view_is) r.near;
      } in
      seated_after z z' z m k spare spare es s at refl rests (subst (λ (v : View E). TracksEnd spare (free_chain v)) (sym h.view_is) s.tracks) h.sees even

  pub hears_consuming : (z z' : TableId) (t : ℕ) (m k : SeatState E) (spare : Spare) (es : List (Event Name E)) → IsConsuming z t m spare → z' ≡ z → Hears es m k → Neutral es → IsConsuming z' t k spare
  hears_consuming z z' t m k spare es c at h even =
      let g = h.sees in
      let r = c.holds.right in
      let holds : IsHolding z.slots t k = record {
        right = record {
          stage = ap (λ (v : View E). v.stage) h.view_is ∙ r.stage;
          carries = h.hand ∙ (r.carries ∙ ap (λ (v : View E). carry v.back) (sym h.view_is));
          named = λ e. r.named (sym g.share ∙ e);
          near = subst (λ (v : View E). Near z.slots (v.free ++ v.back)) (sym h.view_is) r.near;
          inside = r.inside;
        };
        joins = subst (λ (v : View E). MayJoin (free_chain v) (back_chain v)) (sym h.view_is) c.holds.joins;
      } in record {
        table = subst (λ q. IsTable q) (sym at) c.table;
        holds = subst (λ (q : TableId). IsHolding q.slots t k) (sym at) holds;
        tracks = subst (λ (v : View E). TracksEnd spare (all_rooms v)) (sym h.view_is) c.tracks;
        legal = told_legal same_name _ g.legal;
        alone = g.alone;
        share = subst (λ ns. IsShare ns) (sym g.share) c.share;
        linked = linked_after m.0 k.0 es g c.legal c.linked (λ q. (even q).0);
        held = held_after m.0 k.0 es g c.legal c.held r.named (λ q. (even q).1);
      }

  pub hears_use : (m k : SeatState E) (u : RoomUse) (es : List (Event Name E)) → Hears es m k → HasUse m u → HasUse k u
  hears_use m k u es h has = (ap (λ (v : View E). bit_of v.bits u.room) h.view_is ∙ has.0, has.1)

  -- a call that is such a step: its events, and the number of rooms
  pub hears_call : (z z' : TableId) (m k : SeatState E) (es : List (Event Name E)) → z' ≡ z → Hears es m k → Adds (standing z m.0) es (standing z' k.0) × (length (k.0.back ++ k.0.free) ≡ length (m.0.back ++ m.0.free))
  hears_call z z' m k es at h = (adds z z' m.0 k.0 es h.sees at, ap (λ (v : View E). length (v.back ++ v.free)) h.view_is)
