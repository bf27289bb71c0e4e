-- Requests and their tickets: they come and go together, and what a contract sees of them.
use Rattle.std.proofs.Common.{◌≡◌, suc, List, [], ◌∷◌, ◌++◌, length, length-append, slice_get, Some, refl, ap, sym, ◌∙◌, subst, arith, inl, inr}
use denote.RawPtr.{Ptr}
use Rattle.cordyceps.specs.Elements.Element.{Element}
use Rattle.cordyceps.specs.Elements.Nodes.{Nodes, spots}
use Rattle.cordyceps.specs.Spots.BySpot.{HasSpot, IsTaken}
use Rattle.cordyceps.specs.Spots.Spots.{AreDistinct}
use Rattle.cordyceps.specs.Spots.Agreeing.{HasElementAt}
use Rattle.cordyceps.proofs.Spots.Holding.{spot_is_at, left_is_at, taken_or_left, taken_gone}
use Rattle.cordyceps_disk.specs.declared.request.Request.{Request}
use Rattle.cordyceps_disk.specs.declared.request.Ticket.{Ticket}
use Rattle.cordyceps_disk.specs.declared.request.Waiting.{Waiting}
use Rattle.cordyceps_disk.specs.Pairs.{Paired, Rises, deadline_of, sector_of, due_of, spot_or, ticket_for, waiting_of}
use Rattle.cordyceps_disk.specs.Queue.{IsOut, element, put_by}
use Rattle.cordyceps_disk.proofs.Ahead.{same_split}
use Rattle.cordyceps_disk.proofs.Ordered.{put_long, put_mapped, put_rises, put_taken, rises_without}

taken_long : {X : Type 0} (c d : Nodes X) (p : Ptr) (e : Element X) → IsTaken c p e d → length c ≡ suc (length d)
taken_long c d p e (b, a, is, left) = ap length is ∙ length-append b ((p, e) ∷ a) ∙ (omega (arith, length-append b a)) ∙ ap (λ l. suc (length l)) (sym left)

-- an element that was put in and went again left nothing behind
pub back_again : {X : Type 0} (c d s : Nodes X) (p : Ptr) (e o : Element X) → AreDistinct (spots c) → IsTaken c p e d → IsTaken c p o s → s ≡ d
back_again c d s p e o distinct (b, a, is, left) (f, r, was, rest) = let same = same_split c b a f r p e o distinct is was in rest ∙ (λ i. sym same.0 i ++ sym same.2 i) ∙ sym left

-- what was taken out at one spot is the same
pub same_taken : {X : Type 0} (c d s : Nodes X) (p : Ptr) (e o : Element X) → AreDistinct (spots c) → IsTaken c p e d → IsTaken c p o s → e ≡ o
same_taken c d s p e o distinct (b, a, is, left) (f, r, was, rest) = (same_split c b a f r p e o distinct is was).1

-- ---- what a contract sees
pub put_due : (n : Ptr × Element Ticket) (t : Nodes Ticket) → due_of (put_by deadline_of n t) ≡ put_by (λ d. d.0) (n.1.value.deadline, spot_or n.1.value.request) (due_of t)
put_due n t = put_mapped deadline_of (λ d. d.0) (λ m. (m.1.value.deadline, spot_or m.1.value.request)) (λ m. refl) (λ s. due_of s) refl (λ m s. refl) n t

pub taken_due : (t s : Nodes Ticket) (u : Ptr) (k : Element Ticket) → IsTaken t u k s → IsOut (due_of t) (k.value.deadline, spot_or k.value.request) (due_of s)
taken_due t s u k (b, a, is, left) = (due_of b, due_of a, ap (λ l. due_of l) is ∙ due_join b ((u, k) ∷ a), ap (λ l. due_of l) left ∙ due_join b a) where
  due_join : (b a : Nodes Ticket) → due_of (b ++ a) ≡ due_of b ++ due_of a
  due_join [] a = refl
  due_join (n ∷ b) a = ap (λ l. (n.1.value.deadline, spot_or n.1.value.request) ∷ l) (due_join b a)

module _ {P : Type 0} where
  abbrev plain : Ptr × Element (Waiting P) → Ptr × Element (Request P)
  plain n = (n.0, element n.1.value.request)

  pub put_waiting : (n : Ptr × Element (Waiting P)) (c : Nodes (Waiting P)) → waiting_of (put_by sector_of n c) ≡ put_by (λ m. m.1.value.sector) (n.0, element n.1.value.request) (waiting_of c)
  put_waiting n c = put_mapped sector_of (λ m. m.1.value.sector) plain (λ m. refl) (λ s. waiting_of s) refl (λ m s. refl) n c

  pub join_waiting : (b a : Nodes (Waiting P)) → waiting_of (b ++ a) ≡ waiting_of b ++ waiting_of a
  join_waiting [] a = refl
  join_waiting (n ∷ b) a = ap (λ l. plain n ∷ l) (join_waiting b a)

  pub spots_waiting : (c : Nodes (Waiting P)) → spots (waiting_of c) ≡ spots c
  spots_waiting [] = refl
  spots_waiting (n ∷ c) = ap (λ l. n.0 ∷ l) (spots_waiting c)

  pub waiting_distinct : (c : Nodes (Waiting P)) → AreDistinct (spots c) → AreDistinct (spots (waiting_of c))
  waiting_distinct c distinct = subst AreDistinct (sym (spots_waiting c)) distinct

  pub long_waiting : (c : Nodes (Waiting P)) → length (waiting_of c) ≡ length c
  long_waiting [] = refl
  long_waiting (n ∷ c) = ap suc (long_waiting c)

  pub has_waiting : (c : Nodes (Waiting P)) (p : Ptr) → HasSpot (waiting_of c) p → HasSpot c p
  has_waiting c p (k, at) = (k, subst (λ (l : List Ptr). slice_get l k ≡ Some p) (spots_waiting c) at)

  pub taken_waiting : (c d : Nodes (Waiting P)) (p : Ptr) (e : Element (Waiting P)) → IsTaken c p e d → IsTaken (waiting_of c) p (element e.value.request) (waiting_of d)
  taken_waiting c d p e (b, a, is, left) = (waiting_of b, waiting_of a, ap (λ l. waiting_of l) is ∙ join_waiting b ((p, e) ∷ a), ap (λ l. waiting_of l) left ∙ join_waiting b a)

  pub waiting_is_at : (c : Nodes (Waiting P)) (q : Ptr) (e : Element (Waiting P)) → HasElementAt c q e → HasElementAt (waiting_of c) q (element e.value.request)
  waiting_is_at c q e (b, a, is) = (waiting_of b, waiting_of a, ap (λ l. waiting_of l) is ∙ join_waiting b ((q, e) ∷ a))

  -- ---- coming and going
  module _ (c : Nodes (Waiting P)) (t : Nodes Ticket) (was : Paired c t) where
    pub ticket_there : (q : Ptr) (e : Element (Waiting P)) (d : Nodes (Waiting P)) → IsTaken c q e d → HasSpot t e.value.ticket
    ticket_there q e d (b, a, is, left) = let (k, lies, _) = was.ticket q e (b, a, is) in spot_is_at t e.value.ticket k lies

    -- the ticket of a request that is taken out
    pub ticket_is : (q u : Ptr) (e : Element (Waiting P)) (k : Element Ticket) (d : Nodes (Waiting P)) (s : Nodes Ticket) → IsTaken c q e d → e.value.ticket ≡ u → IsTaken t u k s → k.value ≡ ticket_for q e
    ticket_is q u e k d s (b, a, is, left) at (f, r, has, rest) =
        let (o, lies, says) = was.ticket q e (b, a, is) in
        let (g, z, there) = subst (λ p. HasElementAt t p o) at lies in
        ap (λ (x : Element Ticket). x.value) (same_split t f r g z u k o was.tickets_distinct has there).1 ∙ says

    pub left_paired : (q u : Ptr) (e : Element (Waiting P)) (k : Element Ticket) (d : Nodes (Waiting P)) (s : Nodes Ticket) → IsTaken c q e d → e.value.ticket ≡ u → IsTaken t u k s → AreDistinct (spots d) → AreDistinct (spots s) → Paired d s
    left_paired q u e k d s gone at went distinct tickets_distinct = record {
      by_sector = subst (Rises sector_of) (sym gone.3) (rises_without sector_of gone.0 gone.1 (q, e) (subst (Rises sector_of) gone.2 was.by_sector));
      by_deadline = subst (Rises deadline_of) (sym went.3) (rises_without deadline_of went.0 went.1 (u, k) (subst (Rises deadline_of) went.2 was.by_deadline));
      distinct = distinct;
      tickets_distinct = tickets_distinct;
      length = omega (arith, taken_long c d q e gone, taken_long t s u k went, was.length);
      ticket = tickets;
      request = requests;
    } where
      says : k.value ≡ ticket_for q e
      says = ticket_is q u e k d s gone at went

      tickets : (r : Ptr) (o : Element (Waiting P)) → HasElementAt d r o → (j : Element Ticket) × HasElementAt s o.value.ticket j × (j.value ≡ ticket_for r o)
      tickets r o lies =
          let (j, there, is) = was.ticket r o (left_is_at c d q r e o gone lies) in
          elim (taken_or_left t s u o.value.ticket k j went there) as (λ _. (j : Element Ticket) × HasElementAt s o.value.ticket j × (j.value ≡ ticket_for r o)) [
            | inl same ↦
                let both : ticket_for r o ≡ ticket_for q e = sym is ∙ ap (λ (x : Element Ticket). x.value) same.1 ∙ says in
                let one : r ≡ q = ap (λ (x : Ticket). spot_or x.request) both in
                absurd (taken_gone c d q e was.distinct gone (subst (λ p. HasSpot d p) one (spot_is_at d r o lies)))
            | inr still ↦ (j, still, is)
          ]

      requests : (v : Ptr) (j : Element Ticket) → HasElementAt s v j → (r : Ptr) × (o : Element (Waiting P)) × HasElementAt d r o × (o.value.ticket ≡ v) × (j.value ≡ ticket_for r o)
      requests v j lies =
          let (r, o, there, where_at, is) = was.request v j (left_is_at t s u v k j went lies) in
          elim (taken_or_left c d q r e o gone there) as (λ _. (r : Ptr) × (o : Element (Waiting P)) × HasElementAt d r o × (o.value.ticket ≡ v) × (j.value ≡ ticket_for r o)) [
            | inl same ↦
                let one : v ≡ u = sym where_at ∙ ap (λ (x : Element (Waiting P)). x.value.ticket) same.1 ∙ at in
                absurd (taken_gone t s u k was.tickets_distinct went (subst (λ p. HasSpot s p) one (spot_is_at s v j lies)))
            | inr still ↦ (r, o, still, where_at, is)
          ]

    pub put_paired : (q u : Ptr) (e : Element (Waiting P)) (k : Element Ticket) (d : Nodes (Waiting P)) (s : Nodes Ticket) → d ≡ put_by sector_of (q, e) c → s ≡ put_by deadline_of (u, k) t → e.value.ticket ≡ u → k.value ≡ ticket_for q e → AreDistinct (spots d) → AreDistinct (spots s) → Paired d s
    put_paired q u e k d s put placed at says distinct tickets_distinct = record {
      by_sector = subst (Rises sector_of) (sym put) (put_rises sector_of (q, e) c was.by_sector);
      by_deadline = subst (Rises deadline_of) (sym placed) (put_rises deadline_of (u, k) t was.by_deadline);
      distinct = distinct;
      tickets_distinct = tickets_distinct;
      length = omega (arith, ap length put, ap length placed, put_long sector_of (q, e) c, put_long deadline_of (u, k) t, was.length);
      ticket = tickets;
      request = requests;
    } where
      came : IsTaken d q e c
      came = subst (λ l. IsTaken l q e c) (sym put) (put_taken (λ (w : Waiting P). w.request.sector) (q, e) c was.by_sector)

      got : IsTaken s u k t
      got = subst (λ l. IsTaken l u k t) (sym placed) (put_taken (λ (w : Ticket). w.deadline) (u, k) t was.by_deadline)

      tickets : (r : Ptr) (o : Element (Waiting P)) → HasElementAt d r o → (j : Element Ticket) × HasElementAt s o.value.ticket j × (j.value ≡ ticket_for r o)
      tickets r o lies = elim (taken_or_left d c q r e o came lies) as (λ _. (j : Element Ticket) × HasElementAt s o.value.ticket j × (j.value ≡ ticket_for r o)) [
        | inl same ↦ (
          k,
          subst (λ p. HasElementAt s p k) (sym at ∙ ap (λ (x : Element (Waiting P)). x.value.ticket) (sym same.1)) (got.0, got.1, got.2),
          says ∙ (λ i. ticket_for (sym same.0 i) (sym same.1 i)),
        )
        | inr there ↦ let (j, lay, is) = was.ticket r o there in (j, left_is_at s t u o.value.ticket k j got lay, is)
      ]

      requests : (v : Ptr) (j : Element Ticket) → HasElementAt s v j → (r : Ptr) × (o : Element (Waiting P)) × HasElementAt d r o × (o.value.ticket ≡ v) × (j.value ≡ ticket_for r o)
      requests v j lies = elim (taken_or_left s t u v k j got lies) as (λ _. (r : Ptr) × (o : Element (Waiting P)) × HasElementAt d r o × (o.value.ticket ≡ v) × (j.value ≡ ticket_for r o)) [
        | inl same ↦ (q, e, (came.0, came.1, came.2), at ∙ sym same.0, ap (λ (x : Element Ticket). x.value) same.1 ∙ says)
        | inr there ↦ let (r, o, lay, where_at, is) = was.request v j there in (r, o, left_is_at d c q r e o came lay, where_at, is)
      ]
