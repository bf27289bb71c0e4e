use Rattle.std.proofs.Common.{◌≡◌, [], ◌∷◌, map, refl, sym, ◌∙◌, subst, inl}
use Rattle.std.proofs.lemmas.List.{map-id}
use Rattle.cordyceps.specs.Parties.Seated.{TableId}
use Rattle.cordyceps.specs.Elements.Element.{Element}
use Rattle.cordyceps.specs.Parties.Histories.{plain}
use Rattle.cordyceps.specs.Parties.Shares.{whole}
use Rattle.cordyceps.specs.Parties.Standings.{new_party}
use Rattle.cordyceps.proofs.Parties.Moving.{moves_then, moves_whole}
use Rattle.cordyceps.specs.Queues.History.{held}
use Rattle.cordyceps.specs.Queues.Calls.{Legal, Enqueues, TakesRight, same_name}
use Rattle.cordyceps.specs.Queues.Moves.{put_by, got_by, Moves}
use Rattle.cordyceps.proofs.Queues.PartyMoves.{all_kept, moves_enqueue, moves_right}
use Rattle.cordyceps_uses.proofs.Arriving.{Seat, it, taken}
use Rattle.cordyceps_uses.specs.declared.job.Job.{Job}
use Rattle.cordyceps_uses.proofs.examples.send_to_worker.Goals as goal

-- the party of a new queue has sent both
sent : (id : TableId) (u p q : Seat) (a b : Element Job) → u ≡ new_party id 8 → Enqueues a u p → Enqueues b p q → Moves it (a ∷ b ∷ []) [] (new_party id 8) q
sent id u p q a b new one two =
    subst (λ (z : Seat). Moves it (a ∷ b ∷ []) [] z q) new
    (moves_then (put_by it) (got_by it) (a ∷ []) [] (b ∷ []) [] u p q (moves_enqueue it a u p one) (moves_enqueue it b p q two))

-- it is alone, and took the right
came : (id : TableId) (q x : Seat) (a b : Element Job) → Moves it (a ∷ b ∷ []) [] (new_party id 8) q → TakesRight q x → (x.share ≡ whole) × (held (plain x.seen) ≡ a ∷ b ∷ [])
came id q x a b both right =
    let new : Seat = new_party id 8 in
    let more = moves_then (put_by it) (got_by it) (a ∷ b ∷ []) [] [] [] new q x both (moves_right it q x (inl right)) in
    let is : x.share ≡ whole = more.acts.share in
    let left = map it (held (plain x.seen)) in
    let all : a ∷ b ∷ [] ≡ left =
    moves_whole (put_by it) (got_by it) (λ h. Legal h) (λ h. map it (held h)) (λ h legal. all_kept it same_name h legal) new x (a ∷ b ∷ []) [] refl more right.0.0.legal (right.0.0.alone is) in
    (is, sym (map-id (held (plain x.seen))) ∙ sym all)

pub returns : goal.returns
returns c =
    let a = c.args in
    let new = c.in_ok-queue.ensures.1 in
    let x = c.in-Ok.jobs.party in
    let q = c.enqueue-2.new.party in
    let moved = sent c.in_ok-queue.queue.table c.in_ok-queue.party c.enqueue.new.party q a.first a.second new c.enqueue.ensures c.enqueue-2.ensures in
    let both = came c.in_ok-queue.queue.table q x a.first a.second moved c.in-Ok.ensures.answer.1 in
    c.ok.ensures.value ∙ taken c.take_linked.result x c.take_linked.new.self.party a.first a.second both.0 both.1 (c.take_linked.ensures.whole both.0) c.take_linked.ensures.answer
