-- Which tickets a call gives or ends, and that a stale one stays stale.
use Rattle.std.proofs.Common.{◌≡◌, ◌<◌, ◌≤◌, ℕ, inl, inr, refl, sym, ap, ◌∙◌, subst, arith}
use Rattle.std.proofs.lemmas.Option.{none-some}
use Rattle.slab.specs.Slab.{get}
use denote.RawPtr.{Ptr}
use Rattle.cordyceps_base.specs.Element.{Element}
use Rattle.cordyceps_base.specs.Nodes.{Nodes, spots}
use Rattle.cordyceps_base.specs.BySpot.{IsTaken}
use Rattle.cordyceps_base.specs.Spots.{AreDistinct}
use Rattle.cordyceps_stable.specs.Agreeing.{HasElementAt}
use Rattle.cordyceps_stable.proofs.Holding.{left_is_at, taken_is_at, taken_or_left}
use Rattle.cordyceps_c_base.specs.declared.tickets.Ticket.{Ticket}
use Rattle.cordyceps_c_base.specs.declared.tickets.Tickets.{Tickets}
use Rattle.cordyceps_c_base.specs.Tickets.{Bears, Ends, Fit, Gives, GivesNone, IsEnded, IsGiven, IsStale, Ticketed, ticketed}
use Rattle.cordyceps_c_base.proofs.Fitting.{ended_fits}

module _ {X : Type 0} (slot : X → ℕ) where
  -- the ticket is of an element
  abbrev IsBorne : Ticketed X → Ticket → Type 0
  IsBorne l k = (p : Ptr) × (e : Element X) × HasElementAt l.nodes p e × Bears slot l.collection k e

  -- what was stale is, if each element with a ticket that was given before had it before
  stays_stale : (l m : Ticketed X) → m.collection ≡ l.collection → l.given ≤ m.given
      → ((k : Ticket) (p : Ptr) (e : Element X) → HasElementAt m.nodes p e → Bears slot l.collection k e → k.number ≤ l.given → IsBorne l k)
      → (k : Ticket) → IsStale slot l k → IsStale slot m k
  stays_stale l m collection more from k (none, before) = (
    (λ p e there b.
        let (q, o, was, bears) = from k p e there (record { of = b.of ∙ collection; slot_is = b.slot_is; number = b.number; given = b.given }) before in
        none q o was bears),
    omega (arith, more, before),
  )

  -- one with the next ticket was put in
  pub put_gives : (s t : Tickets) (c d : Nodes X) (p : Ptr) (e : Element X) (k : Ticket) → IsGiven s.collection s.given k → e.id ≡ k.number → IsTaken d p e c
      → t.collection ≡ s.collection → t.given ≡ k.number → Gives slot k (ticketed s c) (ticketed t d)
  put_gives s t c d p e k is_new id taken same given =
      let number = is_new.1 in record {
        is_new = is_new;
        collection = same;
        given = given;
        stale = stays_stale (ticketed s c) (ticketed t d) same (omega (arith, number, given)) (λ o q w there b before.
            elim (taken_or_left d c p q e w taken there) as (λ _. IsBorne (ticketed s c) o) [
              | inl (_, is) ↦ let new = ap (λ (x : Element X). x.id) is in let of = b.number in absurd (omega (arith, new, of, id, number, before))
              | inr was ↦ (q, w, was, b)
            ]);
      }

  -- no ticket was given or ended
  gives_none : (s : Tickets) (c d : Nodes X)
      → ((k : Ticket) (p : Ptr) (e : Element X) → HasElementAt d p e → Bears slot s.collection k e → IsBorne (ticketed s c) k)
      → GivesNone slot (ticketed s c) (ticketed s d)
  gives_none s c d from = record {
    collection = refl;
    given = refl;
    stale = stays_stale (ticketed s c) (ticketed s d) refl (omega arith) (λ k p e there b before. from k p e there b);
  }

  -- one without a ticket was put in
  pub put_gives_none : (s : Tickets) (c d : Nodes X) (p : Ptr) (e : Element X) → IsTaken d p e c → e.id ≡ 0 → GivesNone slot (ticketed s c) (ticketed s d)
  put_gives_none s c d p e taken none = gives_none s c d (λ k q o there b.
      elim (taken_or_left d c p q e o taken there) as (λ _. IsBorne (ticketed s c) k) [
        | inl (_, is) ↦ let new = ap (λ (x : Element X). x.id) is in let of = b.number in let one = b.given in absurd (omega (arith, new, of, none, one))
        | inr was ↦ (q, o, was, b)
      ])

  -- one was changed or moved, and kept its ticket
  pub changed_gives_none : (s : Tickets) (c d rest : Nodes X) (p : Ptr) (e w : Element X) → IsTaken c p e rest → IsTaken d p w rest
      → w.id ≡ e.id → slot w.value ≡ slot e.value → GivesNone slot (ticketed s c) (ticketed s d)
  changed_gives_none s c d rest p e w was is id_is slot_is = gives_none s c d (λ k q o there b.
      elim (taken_or_left d rest p q w o is there) as (λ _. IsBorne (ticketed s c) k) [
        | inl (_, one) ↦ (
          p,
          e,
          taken_is_at c rest p e was,
          record {
            of = b.of;
            slot_is = sym slot_is ∙ sym (ap (λ (x : Element X). slot x.value) one) ∙ b.slot_is;
            number = sym id_is ∙ sym (ap (λ (x : Element X). x.id) one) ∙ b.number;
            given = b.given;
          },
        )
        | inr on ↦ (q, o, left_is_at c rest p q e o was on, b)
      ])

  -- one was taken out, and its ticket was ended, if it had one
  pub taken_ends : (s t : Tickets) (c d : Nodes X) (p : Ptr) (e : Element X) → Fit slot s c → AreDistinct (spots c) → IsTaken c p e d
      → IsEnded e.id (slot e.value) s t → Ends slot e (ticketed s c) (ticketed t d)
  taken_ends s t c d p e fit distinct taken ended =
      let given = ended.given in let left = ended_fits slot s t c d p e fit distinct taken ended in
      record {
        ended = λ k b.
            let some : 0 < e.id = subst (λ n. 0 < n) (sym b.number) b.given in
            let low = fit.given (slot e.value) (record { number = e.id; spot = p }) (fit.found p e (taken_is_at c d p e taken) some) in (
              (λ q o stays other.
                  none-some _ (sym (ended.gone some).changed ∙ ap (get t.slots) (b.slot_is ∙ sym other.slot_is) ∙ left.found q o stays (subst (λ n. 0 < n) (sym other.number) other.given))),
              (let number = b.number in omega (arith, number, low, given)),
            );
        rest = record {
          collection = ended.collection;
          given = given;
          stale = stays_stale (ticketed s c) (ticketed t d) ended.collection (omega (arith, given)) (λ k q o there b before. (q, o, left_is_at c d p q e o taken there, b));
        };
      }
