-- What a contract sees of a queue, once a request came in or went.
use Rattle.std.proofs.Common.{◌≡◌, ℕ, [], Option, Some, None, MatchOption, ap, sym, ◌∙◌, subst}
use Rattle.std.specs.Prelude.{IfSome}
use denote.RawPtr.{Ptr}
use Rattle.cordyceps.specs.Elements.Element.{Element}
use Rattle.cordyceps.specs.Elements.Nodes.{Nodes, spots}
use Rattle.cordyceps.specs.Spots.Agreeing.{HasElementAt}
use Rattle.cordyceps.specs.Spots.BySpot.{HasSpot, IsTaken}
use Rattle.cordyceps.specs.Spots.Spots.{AreDistinct}
use Rattle.cordyceps.proofs.Spots.Holding.{spot_is_at}
use Rattle.cordyceps_disk.specs.declared.request.Request.{Request}
use Rattle.cordyceps_disk.specs.declared.request.Ticket.{Ticket}
use Rattle.cordyceps_disk.specs.declared.request.Waiting.{Waiting}
use Rattle.cordyceps_disk.specs.Pairs.{Rises, due_of, sector_of, seen, waiting_of}
use Rattle.cordyceps_disk.specs.Queue.{HasLeft, IsNext, IsOut, Queue, element, put_by, submitted}
use Rattle.cordyceps_disk.proofs.Ahead.{same_split}
use Rattle.cordyceps_disk.proofs.Ordered.{put_taken}
use Rattle.cordyceps_disk.proofs.Pairing.{waiting_distinct, has_waiting, put_waiting, taken_waiting}

module _ {P : Type 0} (q : Queue P) (c : Nodes (Waiting P)) (t : Nodes Ticket) (h : ℕ) (view : seen c t h ≡ q) where
  pub seen_spot : (p : Ptr) → HasSpot q.waiting p → HasSpot c p
  seen_spot p there = has_waiting c p (subst (λ (w : Queue P). HasSpot w.waiting p) (sym view) there)

  pub seen_distinct : AreDistinct (spots c) → AreDistinct (spots q.waiting)
  seen_distinct distinct = subst (λ (w : Queue P). AreDistinct (spots w.waiting)) view (waiting_distinct c distinct)

  -- one came in
  module _ (d : Nodes (Waiting P)) (s : Nodes Ticket) (p : Ptr) (r : Request P) (put : (e : Element (Waiting P)) × (e.value.request ≡ r) × (d ≡ put_by sector_of (p, e) c)) where
    pub seen_submitted : due_of s ≡ put_by (λ x. x.0) (r.deadline, p) (due_of t) → seen d s h ≡ submitted p r q
    seen_submitted due =
        let (e, same, is) = put in
        let now : waiting_of d ≡ put_by (λ n. n.1.value.sector) (p, element r) (waiting_of c) =
        ap (λ l. waiting_of l) is ∙ put_waiting (p, e) c ∙ ap (λ x. put_by (λ (n : Ptr × Element (Request P)). n.1.value.sector) (p, element x) (waiting_of c)) same in
        let all : seen d s h ≡ submitted p r (seen c t h) = λ i. record { waiting = now i; due = due i; head = h } in
        all ∙ ap (submitted p r) view

    pub seen_others : Rises sector_of c → IsTaken (waiting_of d) p (element r) q.waiting
    seen_others rises =
        let (e, same, is) = put in
        let came = subst (λ l. IsTaken l p e c) (sym is) (put_taken (λ (w : Waiting P). w.request.sector) (p, e) c rises) in
        let now = subst (λ x. IsTaken (waiting_of d) p (element x) (waiting_of c)) same (taken_waiting d c p e came) in
        subst (λ (w : Queue P). IsTaken (waiting_of d) p (element r) w.waiting) view now

  -- one went
  module _ (d : Nodes (Waiting P)) (s : Nodes Ticket) (k : ℕ) (p : Ptr) (r : Request P) (taken : (e : Element (Waiting P)) × (e.value.request ≡ r) × IsTaken c p e d) where
    gone : IsTaken (waiting_of c) p (element r) (waiting_of d)
    gone = subst (λ x. IsTaken (waiting_of c) p (element x) (waiting_of d)) taken.1 (taken_waiting c d p taken.0 taken.2)

    pub seen_left : IsOut (due_of t) (r.deadline, p) (due_of s) → HasLeft p r q (seen d s k)
    seen_left out = subst (λ w. HasLeft p r w (seen d s k)) view (record { waiting = gone; due = out })

    -- it is the one that was next
    pub seen_next : (now : ℕ) (o : Request P) → AreDistinct (spots c) → IsNext now p o q → IsNext now p r q
    seen_next now o distinct next =
        let (b, a, is) = next.lies in
        let (f, z, was) = subst (λ (w : Queue P). HasElementAt w.waiting p (element r)) view (gone.0, gone.1, gone.2) in
        let same = same_split q.waiting b a f z p (element o) (element r) (seen_distinct distinct) is was in
        subst (λ x. IsNext now p x q) (ap (λ (e : Element (Request P)). e.value) same.1) next

-- a request that is next waits
pub next_there : {P : Type 0} (now : ℕ) (q : Queue P) (o : Option Ptr) → MatchOption o (q.waiting ≡ []) (λ p. (r : Request P) × IsNext now p r q) → IfSome o (λ p. HasSpot q.waiting p)
next_there now q None none = tt
next_there now q (Some p) (r, next) = spot_is_at q.waiting p (element r) next.lies
