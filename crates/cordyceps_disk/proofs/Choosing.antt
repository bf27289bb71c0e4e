-- Which request is the next.
use Rattle.std.proofs.Common.{◌≡◌, ℕ, ◌<◌, ◌≤◌, List, [], ◌∷◌, ◌++◌, Option, Some, None, MatchOption, refl, ap, sym, ◌∙◌, subst, arith, inl, inr}
use Rattle.std.specs.List.{AllByRecursion}
use denote.RawPtr.{Ptr}
use Rattle.cordyceps.specs.Elements.Element.{Element}
use Rattle.cordyceps.specs.Elements.Nodes.{Nodes}
use Rattle.cordyceps.specs.Spots.BySpot.{HoldsAt, IsFirst}
use Rattle.cordyceps.specs.Spots.Agreeing.{HasElementAt}
use Rattle.cordyceps_disk.specs.declared.request.Request.{Request}
use Rattle.cordyceps_disk.specs.declared.request.Ticket.{Ticket}
use Rattle.cordyceps_disk.specs.declared.request.Waiting.{Waiting}
use Rattle.cordyceps_disk.specs.Pairs.{Paired, Rises, ahead_of, deadline_of, sector_of, due_of, seen, spot_or, ticket_for, waiting_of}
use Rattle.cordyceps_disk.specs.Queue.{Each, Any, IsNext, IsUrgent, element}
use Rattle.cordyceps_disk.proofs.Ahead.{found, holds_value, none_found}
use Rattle.cordyceps_disk.proofs.Ordered.{high}
use Rattle.cordyceps_disk.proofs.Pairing.{join_waiting, waiting_is_at}

abbrev head_or : {A : Type 0} → A → List A → A
head_or z [] = z
head_or z (x ∷ s) = x

abbrev rest_of : {A : Type 0} → List A → List A
rest_of [] = []
rest_of (x ∷ s) = s

-- the first key is the least
least_first : {X : Type 0} (key : Ptr × Element X → ℕ) (n : Ptr × Element X) (s : Nodes X) → AllByRecursion (λ m. key n ≤ key m) s → (q : Ptr) (e : Element X) → HasElementAt (n ∷ s) q e → key n ≤ key (q, e)
least_first key n s all q e ([], a, is) = let same = ap (head_or n) is in omega (arith, ap key same)
least_first key n s all q e (m ∷ b, a, is) = go s all b a (ap rest_of is) where
  go : (s : Nodes _) → AllByRecursion (λ m. key n ≤ key m) s → (b a : Nodes _) → s ≡ b ++ (q, e) ∷ a → key n ≤ key (q, e)
  go [] all [] a is = absurd cc
  go [] all (l ∷ b) a is = absurd cc
  go (x ∷ s) all [] a is = let same = ap (head_or x) is in omega (arith, all.0, ap key same)
  go (x ∷ s) all (l ∷ b) a is = go s all.1 b a (ap rest_of is)

module _ {P : Type 0} where
  -- what lies among those that a contract sees
  pub lay : (c : Nodes (Waiting P)) (q : Ptr) (w : Element (Request P)) → HasElementAt (waiting_of c) q w → (e : Element (Waiting P)) × HasElementAt c q e × (w ≡ element e.value.request)
  lay [] q w ([], a, is) = absurd cc
  lay [] q w (m ∷ b, a, is) = absurd cc
  lay (n ∷ c) q w ([], a, is) =
      let same = ap (head_or (q, w)) is in
      let at : n.0 ≡ q = ap (λ (m : Ptr × Element (Request P)). m.0) same in
      (n.1, ([], c, λ i. (at i, n.1) ∷ c), sym (ap (λ (m : Ptr × Element (Request P)). m.1) same))
  lay (n ∷ c) q w (m ∷ b, a, is) = let (e, (f, r, at), same) = lay c q w (b, a, ap rest_of is) in (e, (n ∷ f, r, ap (λ l. n ∷ l) at), same)

  each_of : (Q : Request P → Type 0) (c : Nodes (Waiting P)) → AllByRecursion (λ n. Q n.1.value.request) c → Each (waiting_of c) Q
  each_of Q [] all q w ([], a, is) = absurd cc
  each_of Q [] all q w (m ∷ b, a, is) = absurd cc
  each_of Q (n ∷ c) all q w ([], a, is) = subst (λ (m : Ptr × Element (Request P)). Q m.1.value) (ap (head_or (q, w)) is) all.0
  each_of Q (n ∷ c) all q w (m ∷ b, a, is) = each_of Q c all.1 q w (b, a, ap rest_of is)

  module _ (c : Nodes (Waiting P)) (t : Nodes Ticket) (h now : ℕ) (was : Paired c t) (u : Ptr) (first : IsFirst t u) (w : Ticket) (holds : HoldsAt t u w) where
    abbrev k : Element Ticket
    k = first.0

    t_is : t ≡ (u, k) ∷ first.1
    t_is = first.2

    value_is : w ≡ k.value
    value_is = holds_value t [] first.1 u k w was.tickets_distinct t_is holds

    -- the request of the first ticket
    owner : (q : Ptr) × (e : Element (Waiting P)) × HasElementAt c q e × (e.value.ticket ≡ u) × (k.value ≡ ticket_for q e)
    owner = was.request u k ([], first.1, t_is)

    -- no deadline is earlier
    earliest : (q : Ptr) (e : Element (Waiting P)) → HasElementAt c q e → w.deadline ≤ e.value.request.deadline
    earliest q e lies =
        let (j, there, is) = was.ticket q e lies in
        let rises = subst (Rises deadline_of) t_is was.by_deadline in
        let low = least_first deadline_of (u, k) first.1 rises.0 e.value.ticket j (subst (λ s. HasElementAt s e.value.ticket j) t_is there) in
        omega (arith, low, ap (λ (x : Ticket). x.deadline) is, ap (λ (x : Ticket). x.deadline) value_is)

    earliest_seen : (q : Ptr) (v : Element (Request P)) → HasElementAt (waiting_of c) q v → w.deadline ≤ v.value.deadline
    earliest_seen q v lies = let (e, there, same) = lay c q v lies in
        omega (arith, earliest q e there, ap (λ (x : Element (Request P)). x.value.deadline) same)

    pub next_urgent : w.deadline < now → MatchOption w.request (waiting_of c ≡ []) (λ p. (r : Request P) × IsNext now p r (seen c t h))
    next_urgent late =
        let (q, e, lies, at, says) = owner in
        let all : w ≡ ticket_for q e = value_is ∙ says in
        let dated : w.deadline ≡ e.value.request.deadline = ap (λ (x : Ticket). x.deadline) all in
        let r = e.value.request in
        let there = waiting_is_at c q e lies in
        subst (λ o. MatchOption o (waiting_of c ≡ []) (λ p. (r : Request P) × IsNext now p r (seen c t h))) (sym (ap (λ (x : Ticket). x.request) all)) (
          r,
          record {
            lies = there;
            urgent = λ any. record {
              overdue = omega (arith, late, dated);
              earliest = λ p v lay. omega (arith, earliest_seen p v lay, dated);
              first = (due_of first.1, ap (λ s. due_of s) t_is ∙ ap (λ (x : Ticket). (x.deadline, spot_or x.request) ∷ due_of first.1) says);
            };
            upwards = λ each. absurd (let on = each q (element r) there in omega (arith, late, dated, on));
          },
        )

    module _ (early : now ≤ w.deadline) where
      not_late : {p : Ptr} {r : Request P} → Any (waiting_of c) (λ v. v.deadline < now) → IsUrgent now p r (seen c t h)
      not_late (q, v, lies, late) = absurd (let on = earliest_seen q v lies in omega (arith, on, late, early))

      pub next_ahead : (p : Ptr) → ahead_of h c ≡ Some p → (r : Request P) × IsNext now p r (seen c t h)
      next_ahead p ahead =
          let (b, e, a, is, below, above) = found h c p ahead in
          let r = e.value.request in (
            r,
            record {
              lies = waiting_is_at c p e (b, a, is);
              urgent = not_late;
              upwards = λ each. record {
                before = waiting_of b;
                after = waiting_of a;
                waiting = ap (λ s. waiting_of s) is ∙ join_waiting b ((p, e) ∷ a);
                turn = inl (each_of (λ v. v.sector < h) b below, above);
                least = each_of (λ v. r.sector ≤ v.sector) a (high sector_of b a (p, e) (subst (Rises sector_of) is was.by_sector));
              };
            },
          )

      next_lowest : (p : Ptr) → ahead_of h c ≡ None → IsFirst c p → (r : Request P) × IsNext now p r (seen c t h)
      next_lowest p none (e, a, is) =
          let r = e.value.request in (
            r,
            record {
              lies = waiting_is_at c p e ([], a, is);
              urgent = not_late;
              upwards = λ each. record {
                before = [];
                after = waiting_of a;
                waiting = ap (λ s. waiting_of s) is;
                turn = inr (refl, each_of (λ v. v.sector < h) c (none_found h c none));
                least = each_of (λ v. r.sector ≤ v.sector) a (subst (Rises sector_of) is was.by_sector).0;
              };
            },
          )

      pub next_front : (o : Option Ptr) → ahead_of h c ≡ None → MatchOption o (c ≡ []) (λ p. IsFirst c p) → MatchOption o (waiting_of c ≡ []) (λ p. (r : Request P) × IsNext now p r (seen c t h))
      next_front None none is = ap (λ s. waiting_of s) is
      next_front (Some p) none first = next_lowest p none first
