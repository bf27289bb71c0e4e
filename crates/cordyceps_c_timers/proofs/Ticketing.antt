-- What a call on nodes that are seen in the order of a number does to their tickets.
use Rattle.std.proofs.Common.{◌≡◌, ℕ, [], ◌∷◌, refl, sym, subst, IsPermutation}
use Rattle.std.proofs.lemmas.List.Sorted.{IsPermutation-sym}
use denote.RawPtr.{Ptr}
use Rattle.cordyceps_base.specs.Element.{Element}
use Rattle.cordyceps_base.specs.Nodes.{Nodes, spots}
use Rattle.cordyceps_base.specs.BySpot.{IsTaken}
use Rattle.cordyceps_base.specs.Spots.{AreDistinct}
use Rattle.cordyceps_heap.proofs.Apart.{permuted_distinct}
use Rattle.cordyceps_c_base.specs.declared.tickets.Ticket.{Ticket}
use Rattle.cordyceps_c_base.specs.declared.tickets.Tickets.{Tickets}
use Rattle.cordyceps_c_base.specs.Tickets.{Ends, Fit, Gives, GivesNone, IsEnded, IsGiven, ticketed}
use Rattle.cordyceps_c_base.proofs.Fitting.{ended_fits, permuted_fits}
use Rattle.cordyceps_c_base.proofs.Stale.{changed_gives_none, put_gives, put_gives_none, taken_ends}
use Rattle.cordyceps_c_timers.specs.Arranged.{arranged, placed}
use Rattle.cordyceps_c_timers.proofs.Arranging.{kept, placed_taken}

-- the first was taken out, and its ticket was ended, if it had one
pub popped_fits : {X : Type 0} (slot : X → ℕ) (s t : Tickets) (c d : Nodes X) (p : Ptr) (e : Element X) → Fit slot s c → AreDistinct (spots c)
    → IsPermutation c ((p, e) ∷ d) → IsEnded e.id (slot e.value) s t → Fit slot t d
popped_fits slot s t c d p e fit distinct same ended =
    let all = (p, e) ∷ d in
    ended_fits slot s t all d p e (permuted_fits slot s c all same fit) (permuted_distinct c all same distinct) ([], d, refl, refl) ended

module _ {X : Type 0} (number slot : X → ℕ) (s t : Tickets) (c d : Nodes X) (p : Ptr) where
  -- one was put in, with the next ticket, or without one
  pub comes_in : (e : Element X) (k : Ticket) → IsGiven s.collection s.given k → e.id ≡ k.number → arranged number d ≡ placed number p e (arranged number c)
      → t.collection ≡ s.collection → t.given ≡ k.number → Gives slot k (ticketed s (arranged number c)) (ticketed t (arranged number d))
  comes_in e k is_new id put same given =
      let a = arranged number c in
      put_gives slot s t a (arranged number d) p e k is_new id (subst (λ b. IsTaken b p e a) (sym put) (placed_taken number p e a)) same given

  pub comes_in_without : (e : Element X) → e.id ≡ 0 → arranged number d ≡ placed number p e (arranged number c)
      → GivesNone slot (ticketed s (arranged number c)) (ticketed s (arranged number d))
  comes_in_without e none put =
      let a = arranged number c in
      put_gives_none slot s a (arranged number d) p e (subst (λ b. IsTaken b p e a) (sym put) (placed_taken number p e a)) none

  -- one was taken out, and its ticket was ended, if it had one
  pub comes_out : (e : Element X) → Fit slot s c → AreDistinct (spots c) → IsTaken (arranged number c) p e (arranged number d)
      → IsEnded e.id (slot e.value) s t → Ends slot e (ticketed s (arranged number c)) (ticketed t (arranged number d))
  comes_out e fit distinct taken ended =
      let a = arranged number c in let same = IsPermutation-sym a c (kept number c) in
      taken_ends slot s t a (arranged number d) p e (permuted_fits slot s c a same fit) (permuted_distinct c a same distinct) taken ended

  -- one was taken out, and came again with its ticket
  pub comes_again : (e w : Element X) (others : Nodes X) → IsTaken (arranged number c) p e others → arranged number d ≡ placed number p w others
      → w.id ≡ e.id → slot w.value ≡ slot e.value → GivesNone slot (ticketed s (arranged number c)) (ticketed s (arranged number d))
  comes_again e w others taken put id_is slot_is =
      changed_gives_none slot s (arranged number c) (arranged number d) others p e w taken (subst (λ b. IsTaken b p w others) (sym put) (placed_taken number p w others)) id_is slot_is
