use Rattle.std.proofs.Common.{ℕ, ◌≡◌, [], ◌∷◌, ◌++◌, map, refl, ap, sym, ◌∙◌, subst, inl}
use Rattle.std.proofs.lemmas.List.{map-id}
use Rattle.cordyceps.specs.Parties.Seated.{TableId}
use Rattle.cordyceps.specs.Elements.Element.{Element}
use Rattle.cordyceps.specs.Parties.Histories.{plain}
use Rattle.cordyceps.specs.Parties.Shares.{whole}
use Rattle.cordyceps.specs.Parties.Standings.{new_party, keeping, giving, Absorbs}
use Rattle.cordyceps.proofs.Parties.Interleaving.{only_right}
use Rattle.cordyceps.proofs.Parties.Ordering.{whole_share}
use Rattle.cordyceps.proofs.Parties.Moving.{moves_none, moves_then, moves_both, moves_whole}
use Rattle.cordyceps.specs.Queues.History.{held}
use Rattle.cordyceps.specs.Queues.Calls.{Legal, Enqueues, TakesRight, same_name}
use Rattle.cordyceps.specs.Queues.Moves.{put_by, got_by, Moves}
use Rattle.cordyceps.proofs.Queues.PartyMoves.{all_kept, moves_enqueue, moves_right}
use Rattle.cordyceps_uses.specs.declared.job.Job.{Job}
use Rattle.cordyceps_uses.proofs.Arriving.{Seat, it, taken}
use Rattle.cordyceps_uses.proofs.tour.send.Goals as goal

-- one party sent both, and was taken in by the other, which is alone then, and took the right
came : (rooms : ℕ) (id : TableId) (v o p q w x : Seat) (a b : Element Job) → v ≡ keeping 4 (new_party id rooms) → o ≡ giving 4 (new_party id rooms)
    → Enqueues a o p → Enqueues b p q → Absorbs (λ h. Legal h) v q w → (w.share ≡ whole) × (TakesRight w x → (x.share ≡ whole) × (held (plain x.seen) ≡ a ∷ b ∷ []))
came rooms id v o p q w x a b kept given one two met =
    let new : Seat = new_party id rooms in
    let mine = subst (λ (z : Seat). Moves it [] [] z v) kept (moves_none (put_by it) (got_by it) v) in
    let theirs = subst (λ (z : Seat). Moves it (a ∷ b ∷ []) [] z q) given
    (moves_then (put_by it) (got_by it) (a ∷ []) [] (b ∷ []) [] o p q (moves_enqueue it a o p one) (moves_enqueue it b p q two)) in
    let both = moves_both (put_by it) (got_by it) (λ h. Legal h) 4 new v q w [] [] (a ∷ b ∷ []) [] whole_share mine theirs met in (
      both.4.acts.share,
      λ right.
          let more = moves_then (put_by it) (got_by it) both.0 both.1 [] [] new w x both.4 (moves_right it w x (inl right)) in
          let is : x.share ≡ whole = more.acts.share in
          let left = map it (held (plain x.seen)) in
          let all : both.0 ++ [] ≡ (both.1 ++ []) ++ left =
          moves_whole (put_by it) (got_by it) (λ h. Legal h) (λ h. map it (held h)) (λ h legal. all_kept it same_name h legal) new x (both.0 ++ []) (both.1 ++ []) refl more right.0.0.legal (right.0.0.alone is) in
          let sent = only_right (a ∷ b ∷ []) both.0 both.2 in
          let got = only_right [] both.1 both.3 in
          (is, sym (map-id (held (plain x.seen))) ∙ (ap (λ z. (z ++ []) ++ left) (sym got) ∙ (sym all ∙ ap (λ z. z ++ []) sent))),
    )

pub returns : goal.returns
returns c =
    let a = c.args in
    let party = c.in_ok-queue.party in
    let id = c.in_ok-queue.queue.table in
    let count = ap (λ (z : Seat). z.rooms) c.in_ok-queue.ensures.1 in
    let new : party ≡ new_party id party.rooms = c.in_ok-queue.ensures.1 ∙ ap (λ k. new_party id k) (sym count) in
    let kept = c.split-sender.ensures.0 ∙ ap (λ (z : Seat). keeping 4 z) new in
    let given = c.split-sender.ensures.1 ∙ ap (λ (z : Seat). giving 4 z) new in
    let x = c.in-Ok.consumer in
    let both =
    (came party.rooms id c.split-sender.new.party c.split-sender.result c.enqueue.new.party c.enqueue-2.new.party c.absorb.new.party x a.first a.second kept given c.enqueue.ensures c.enqueue-2.ensures c.absorb.ensures).1
    c.in-Ok.ensures.answer in
    c.ok.ensures.value ∙ taken c.take_linked.result x c.take_linked.new.self a.first a.second both.0 both.1 (c.take_linked.ensures.whole both.0) c.take_linked.ensures.answer
