-- What the tickets of a list name.
use Rattle.std.proofs.Common.{◌≡◌, ℕ, ◌<◌, Option, Some, None, MatchOption, refl, ap, sym, ◌∙◌, subst}
use Rattle.std.specs.Option.{unwrap_or}
use Rattle.slab.specs.Slab.{get}
use denote.RawPtr.{Ptr}
use Rattle.cordyceps_base.specs.Element.{Element}
use Rattle.cordyceps_base.specs.Nodes.{Nodes, spots}
use Rattle.cordyceps_stable.specs.Agreeing.{HasElementAt}
use Rattle.cordyceps_base.specs.BySpot.{HasSpot, HoldsAt, IsTaken}
use Rattle.cordyceps_base.specs.Spots.{AreDistinct}
use Rattle.cordyceps_stable.proofs.Holding.{spot_is_at, taken_is_at, unique}
use Rattle.cordyceps_c_base.specs.declared.tickets.Entry.{Entry}
use Rattle.cordyceps_c_base.specs.declared.tickets.Ticket.{Ticket}
use Rattle.cordyceps_c_base.specs.declared.tickets.Tickets.{Tickets}
use Rattle.cordyceps_c_base.specs.Tickets.{Leads, ticketed}
use Rattle.cordyceps_c_base.proofs.Fitting.{leads_to, none_bears}
use Rattle.cordyceps_c_lists.specs.declared.list.Item.{Item}
use Rattle.cordyceps_c_lists.specs.Lists.{IsAt, Listed, Names, NamesNone, Sound, slot_of}

-- two entries of one slot have one number
one_number : {o : Option Entry} (n m : Entry) → o ≡ Some n → o ≡ Some m → n.number ≡ m.number
one_number n m is was = ap (λ (x : Option Entry). (unwrap_or x n).number) (sym is ∙ was)

module _ (s : Tickets) (c : Nodes Item) where
  pub finds : (k : Ticket) (o : Option Ptr) → Sound s c → AreDistinct (spots c) → MatchOption o ((p : Ptr) → Leads s k p → ⊥) (Leads s k)
      → MatchOption o (NamesNone (ticketed s c) k) (IsAt (ticketed s c) k)
  finds k None sound distinct none = none_bears slot_of s c k sound.fit none
  finds k (Some p) sound distinct leads =
      let (e, there, bears) = leads_to slot_of s c k p sound.fit leads in
      (e, record { there = there; bears = bears; alone = distinct })

  -- the slot of an element has its ticket
  pub slotted : (p : Ptr) (w : Item) → Sound s c → HoldsAt c p w → (n : ℕ) × (get s.slots w.slot ≡ Some (record { number = n; spot = p }))
  slotted p w sound (before, id, after, is) =
      let e : Element Item = record { id = id; value = w } in let there : HasElementAt c p e = (before, after, is) in
      (id, sound.fit.found p e there (sound.given p e there))

  pub named_at : (p : Ptr) (w : Item) (n : Entry) → Sound s c → AreDistinct (spots c) → HoldsAt c p w → get s.slots w.slot ≡ Some n
      → IsAt (ticketed s c) (record { collection = s.collection; slot = w.slot; number = n.number }) p
  named_at p w n sound distinct (before, id, after, is) at =
      let e : Element Item = record { id = id; value = w } in let there : HasElementAt c p e = (before, after, is) in let pos = sound.given p e there in
      let same : id ≡ n.number = one_number (record { number = id; spot = p }) n (sound.fit.found p e there pos) at in
      (e, record { there = there; bears = record { of = refl; slot_is = refl; number = same; given = subst (λ m. 0 < m) same pos }; alone = distinct })

module _ (l : Listed) where
  -- what a ticket names has its spot there
  pub has_spot : (k : Ticket) (p : Ptr) → IsAt l k p → HasSpot l.nodes p
  has_spot k p (e, is) = spot_is_at l.nodes p e is.there

  -- a spot names one element
  pub same_element : (p : Ptr) (e o : Element Item) → AreDistinct (spots l.nodes) → HasElementAt l.nodes p e → HasElementAt l.nodes p o → e ≡ o
  same_element p e o distinct (b, a, is) (d, z, was) = (unique b a d z p e o (sym is ∙ was) (subst (λ n. AreDistinct (spots n)) is distinct)).1

  -- what was taken out there is what the ticket names, and so is a value that is there
  pub taken_named : (k : Ticket) (p : Ptr) (e : Element Item) (d : Nodes Item) → IsAt l k p → IsTaken l.nodes p e d → Names l k p e
  taken_named k p e d (o, is) taken = subst (Names l k p) (same_element p o e is.alone is.there (taken_is_at l.nodes d p e taken)) is

  pub held_named : (k : Ticket) (p : Ptr) (w : Item) → IsAt l k p → HoldsAt l.nodes p w → (e : Element Item) × Names l k p e × (w.payload ≡ e.value.payload)
  held_named k p w (o, is) (before, id, after, there) =
      let e : Element Item = record { id = id; value = w } in (e, subst (Names l k p) (same_element p o e is.alone is.there (before, after, there)) is, refl)

  -- tickets with two slots name two elements
  pub other_spot : (k m : Ticket) (p q : Ptr) → IsAt l k p → IsAt l m q → (k.slot ≡ m.slot → ⊥) → p ≡ q → ⊥
  other_spot k m p q (e, one) (o, other) apart same =
      let is = same_element p e o one.alone one.there (subst (λ r. HasElementAt l.nodes r o) (sym same) other.there) in
      apart (sym one.bears.slot_is ∙ ap (λ (x : Element Item). x.value.slot) is ∙ other.bears.slot_is)

-- tickets with one slot that name an element are the same
pub same_ticket : (s : Tickets) (c : Nodes Item) (k m : Ticket) (p q : Ptr) → Sound s c → IsAt (ticketed s c) k p → IsAt (ticketed s c) m q → k.slot ≡ m.slot → k ≡ m
same_ticket s c k m p q sound (e, one) (o, other) same =
    let at = sound.fit.found p e one.there (sound.given p e one.there) in let on = sound.fit.found q o other.there (sound.given q o other.there) in
    let slots : e.value.slot ≡ o.value.slot = one.bears.slot_is ∙ same ∙ sym other.bears.slot_is in
    let number : e.id ≡ o.id = one_number (record { number = e.id; spot = p }) (record { number = o.id; spot = q }) at (ap (get s.slots) slots ∙ on) in
    let collection = one.bears.of ∙ sym other.bears.of in let numbers = sym one.bears.number ∙ number ∙ other.bears.number in
    λ i. record { collection = collection i; slot = same i; number = numbers i }
