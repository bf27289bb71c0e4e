-- What a request and its ticket are among the others, once both were put in.
use Rattle.std.proofs.Common.{◌≡◌, ℕ, List, [], ◌∷◌, ◌++◌, Option, Some, ap, sym, ◌∙◌, subst}
use denote.RawPtr.{Ptr}
use Rattle.cordyceps.specs.Elements.Element.{Element}
use Rattle.cordyceps.specs.Elements.Nodes.{Nodes, spots}
use Rattle.cordyceps.specs.Spots.Arranged.{Arranges}
use Rattle.cordyceps.specs.Spots.BySpot.{IsTaken}
use Rattle.cordyceps.specs.Spots.DoubleLines.{flat}
use Rattle.cordyceps.specs.Spots.Heap.{Holds}
use Rattle.cordyceps.specs.Spots.Spots.{AreDistinct}
use Rattle.cordyceps_disk.specs.declared.request.Ticket.{Ticket}
use Rattle.cordyceps_disk.specs.declared.request.Waiting.{Waiting}
use Rattle.cordyceps_disk.specs.Orders.{by_deadline, by_deadline_lawful, by_sector, by_sector_lawful}
use Rattle.cordyceps_disk.specs.Pairs.{Rises, deadline_of, sector_of, tickets_in}
use Rattle.cordyceps_disk.specs.Queue.{put_by}
use Rattle.cordyceps_disk.proofs.Ordered.{is_put, itself, put_taken}
use Rattle.cordyceps_disk.proofs.Pairing.{back_again, same_taken}
use Rattle.cordyceps_disk.proofs.Tickets.{changed, distinct, pushed, removed, rises, stands}

-- what an insertion answers
pub request_put : {P : Type 0} (c d : Nodes (Waiting P)) (n : Ptr × Element (Waiting P)) → Rises sector_of c
    → (Arranges by_sector c c → Arranges by_sector d (c ++ n ∷ [])) → d ≡ put_by sector_of n c
request_put {P} c d n rises insert =
    let key : Waiting P → ℕ = λ w. w.request.sector in
    is_put key by_sector_lawful c d n rises (insert (itself key by_sector_lawful c rises))

-- a ticket was pushed: before there were the lines ls, and now there are ns
module _ (ls ns : List (Nodes Ticket)) (u : Ptr) (k : Element Ticket) (was : Holds by_deadline ls (tickets_in ls))
    (came : Holds by_deadline ns (tickets_in ls ++ (u, k) ∷ [])) (apart : AreDistinct (spots (flat ns))) where
  came_last : IsTaken (tickets_in ns) u k (tickets_in ls)
  came_last =
      subst (λ l. IsTaken l u k (tickets_in ls)) (sym (pushed ls ns was (u, k) came))
      (put_taken (λ (w : Ticket). w.deadline) (u, k) (tickets_in ls) (rises ls))

  held_now : Holds by_deadline ns (tickets_in ns)
  held_now = (stands ns (tickets_in ls ++ (u, k) ∷ []) came).held

  -- it was changed
  module _ (ms : List (Nodes Ticket)) (e o : Element Ticket)
      (again : (a : Nodes Ticket) → Holds by_deadline ns a
      → (left : Nodes Ticket) × (IsTaken a u e left × Holds by_deadline ms (left ++ (u, o) ∷ []))) where
    pub same_ticket : k ≡ e
    same_ticket =
        let (left, (taken, _), _) = changed ns ms held_now u e o again in
        same_taken (tickets_in ns) (tickets_in ls) left u k e (distinct ns apart) came_last taken

    pub changed_put : tickets_in ms ≡ put_by deadline_of (u, o) (tickets_in ls)
    changed_put =
        let (left, (taken, arranged), _) = changed ns ms held_now u e o again in
        let same = back_again (tickets_in ns) (tickets_in ls) left u k e (distinct ns apart) came_last taken in
        is_put (λ (w : Ticket). w.deadline) by_deadline_lawful (tickets_in ls) (tickets_in ms) (u, o) (rises ls)
        (subst (λ l. Arranges by_deadline (tickets_in ms) (l ++ (u, o) ∷ [])) same arranged)

    pub changed_held : Holds by_deadline ms (tickets_in ms)
    changed_held = let (_, _, held) = changed ns ms held_now u e o again in held

  -- it was removed again
  module _ (ms : List (Nodes Ticket)) (e : Element Ticket)
      (gone : (a : Nodes Ticket) → Holds by_deadline ns a
      → (rest : Nodes Ticket) × (IsTaken a u e rest × Holds by_deadline ms rest)) where
    pub nothing_left : tickets_in ms ≡ tickets_in ls
    nothing_left =
        back_again (tickets_in ns) (tickets_in ls) (tickets_in ms) u k e (distinct ns apart) came_last
        (removed ns ms held_now u e gone).0

    pub left_held : Holds by_deadline ms (tickets_in ms)
    left_held = (removed ns ms held_now u e gone).1

-- a ticket of which both parts are known
ticket_of_parts : (w : Ticket) (d : ℕ) (o : Option Ptr) → w.deadline ≡ d → w.request ≡ o → w ≡ record { deadline = d; request = o }
ticket_of_parts w d o p q = λ i. record { deadline = p i; request = q i }

-- what the change left of a ticket: it has the spot of its request
pub ticket_told : (k e : Element Ticket) (w v x : Ticket) (d : ℕ) (p : Ptr) → e ≡ k → k.value.deadline ≡ d → v ≡ e.value → x ≡ w → x.deadline ≡ v.deadline → x.request ≡ Some p → w ≡ record { deadline = d; request = Some p }
ticket_told k e w v x d p same dated shows leaves kept told =
    ticket_of_parts w d (Some p) (ap (λ (t : Ticket). t.deadline) (sym leaves) ∙ kept ∙ ap (λ (t : Ticket). t.deadline) shows ∙ ap (λ (n : Element Ticket). n.value.deadline) same ∙ dated) (ap (λ (t : Ticket). t.request) (sym leaves) ∙ told)
