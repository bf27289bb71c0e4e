use Rattle.std.proofs.Common.{suc, length, sym, refl, ap, ◌∙◌, subst, rules}
use Rattle.cordyceps_shared.specs.FreeChains.{FreeChain}
use Rattle.cordyceps_shared.specs.Places.{ItemAt}
use Rattle.cordyceps_shared.proofs.TrackRooms.{first_room}
use Rattle.cordyceps_queue.specs.Shared.Parts.{TracksEnd}
use Rattle.cordyceps_queue.specs.Shared.View.{free_chain}
use Rattle.cordyceps_queue.proofs.SharedTheory.EnqueueKeeps.{enqueued}
use Rattle.cordyceps_queue.proofs.SharedTheory.SpareRooms.{tracks_after}
use Rattle.cordyceps_queue.proofs.shared.steps.enqueue.Goals as goal

pub overflow_sub-room : goal.overflow_sub-room
overflow_sub-room g c = let (_, _, some_of) = first_room c.args.spare.now.rooms (free_chain c.args.seat.now.me.0) c.requires.rooms.0.tracks c.requires.rooms.1 in search rules

pub begin-next-requires-clause-room : goal.begin-next-requires-clause-room
begin-next-requires-clause-room g c = let f = first_room c.args.spare.now.rooms (free_chain c.args.seat.now.me.0) c.requires.rooms.0.tracks c.requires.rooms.1 in (f.0, f.1)

pub returns-clause-rest : goal.returns-clause-rest
returns-clause-rest g c =
    let begun = c.begin-next.ensures.begun in
    let swapped = c.swap_in-old.ensures.swapped in
    let free = c.link.ensures.free.0 ∙ swapped.free in
    let q = c.requires.rest in
    let (stage, back, hand) = c.link.ensures.rest in record {
      stage = stage;
      back = back;
      hand = hand;
      named = λ e. q.named (sym (c.link.ensures.sees.share ∙ (swapped.sees.share ∙ begun.sees.share)) ∙ e);
      near = λ i r ir.
          q.near (suc i) r (subst (λ l. ItemAt l (suc i) r) (sym begun.free) (subst (λ l. ItemAt l i r) free ir));
    }

pub returns-clause-tracks : goal.returns-clause-tracks
returns-clause-tracks g c =
    let begun = c.begin-next.ensures.begun in
    let swapped = c.swap_in-old.ensures.swapped in
    let free = c.link.ensures.free.0 ∙ swapped.free in
    let end = c.link.ensures.free.1 ∙ swapped.end in
    subst (TracksEnd _) (λ i. let chain : FreeChain = record { rooms = sym free i; end = sym end i } in chain)
    (tracks_after c.args.spare.now (free_chain c.args.seat.now.me.0) (free_chain c.begin-next.new.seat.me.0) _ c.begin-next.result.0 begun.free (sym begun.end) begun.next_is c.requires.rooms.0)

pub returns-clause-free : goal.returns-clause-free
returns-clause-free g c =
    let begun = c.begin-next.ensures.begun in
    let swapped = c.swap_in-old.ensures.swapped in
    let free = c.link.ensures.free.0 ∙ swapped.free in
    ap length begun.free ∙ ap (λ l. suc (length l)) (sym free)

pub returns-clause-sees : goal.returns-clause-sees
returns-clause-sees g c =
    let begun = c.begin-next.ensures.begun in
    let swapped = c.swap_in-old.ensures.swapped in
    enqueued c.args.seat.now.me.0 c.begin-next.new.seat.me.0 c.begin-next.new.seat.me.0 c.swap_in-old.new.seat.me.0 c.link.new.seat.me.0 c.args.item begun.sees refl swapped.sees c.link.ensures.sees
