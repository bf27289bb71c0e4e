-- Each element of a list still has its ticket after a call, and a stale ticket stays stale.
use Rattle.std.proofs.Common.{◌≡◌, ◌+◌, ◌<◌, ℕ, Some, inl, inr, refl, sym, ap, ◌∙◌, subst, arith}
use Rattle.slab.specs.Slab.{SameValues, Updates}
use denote.RawPtr.{Ptr}
use Rattle.cordyceps_base.specs.Element.{Element}
use Rattle.cordyceps_base.specs.Nodes.{Nodes, spots}
use Rattle.cordyceps_base.specs.BySpot.{IsTaken}
use Rattle.cordyceps_base.specs.Spots.{AreDistinct}
use Rattle.cordyceps_stable.proofs.Holding.{left_is_at, taken_is_at, taken_or_left}
use Rattle.cordyceps_c_base.specs.declared.tickets.Ticket.{Ticket}
use Rattle.cordyceps_c_base.specs.declared.tickets.Tickets.{Tickets}
use Rattle.cordyceps_c_base.specs.Tickets.{Ends, Gives, GivesNone, IsEnded, IsNext, ticketed}
use Rattle.cordyceps_c_base.proofs.Fitting.{changed_fits, ended_fits, put_fits, same_fits}
use Rattle.cordyceps_c_base.proofs.Stale.{changed_gives_none, put_gives, taken_ends}
use Rattle.cordyceps_c_lists.specs.declared.list.Item.{Item}
use Rattle.cordyceps_c_lists.specs.Lists.{Listed, Sound, new_element, slot_of}

-- the same tickets are valid
pub same_sound : (s t : Tickets) (c : Nodes Item) → SameValues s.slots t.slots → t.given ≡ s.given → Sound s c → Sound t c
same_sound s t c same given sound = record { fit = same_fits slot_of s t c sound.fit given same; given = sound.given }

-- one was put in, with the next ticket
pub put_sound : (s t : Tickets) (c d : Nodes Item) (p : Ptr) (k : Ticket) (x : ℕ) (e : Element Item) → Sound s c → IsNext s k
    → e ≡ new_element k x → IsTaken d p e c → t.given ≡ k.number
    → Updates s.slots t.slots k.slot (Some (record { number = k.number; spot = p })) → Sound t d
put_sound s t c d p k x e sound next is taken given up = record {
  fit = put_fits slot_of s t c d p e k sound.fit next taken (ap (λ (o : Element Item). o.value.slot) is) (ap (λ (o : Element Item). o.id) is) given up;
  given = λ q o there. elim (taken_or_left d c p q e o taken there) as (λ _. 0 < o.id) [
    | inl (_, same) ↦ let number = ap (λ (n : Element Item). n.id) (same ∙ is) in let one = next.number in omega (arith, number, one)
    | inr on ↦ sound.given q o on
  ];
}

-- one was taken out, and its ticket was ended
pub taken_sound : (s t : Tickets) (c d : Nodes Item) (p : Ptr) (e : Element Item) → Sound s c → AreDistinct (spots c) → IsTaken c p e d
    → IsEnded e.id (slot_of e.value) s t → Sound t d
taken_sound s t c d p e sound distinct taken ended = record {
  fit = ended_fits slot_of s t c d p e sound.fit distinct taken ended;
  given = λ q o there. sound.given q o (left_is_at c d p q e o taken there);
}

-- one was moved
pub moved_sound : (s : Tickets) (c d rest : Nodes Item) (p : Ptr) (e : Element Item) → Sound s c → IsTaken c p e rest → IsTaken d p e rest → Sound s d
moved_sound s c d rest p e sound was is = record {
  fit = changed_fits slot_of s c d rest p e e sound.fit was is refl refl;
  given = λ q o there. elim (taken_or_left d rest p q e o is there) as (λ _. 0 < o.id) [
    | inl (_, same) ↦ subst (λ (n : Element Item). 0 < n.id) (sym same) (sound.given p e (taken_is_at c rest p e was))
    | inr on ↦ sound.given q o (left_is_at c rest p q e o was on)
  ];
}

-- ---- which tickets were given, and which are stale
module _ (s : Tickets) (c : Nodes Item) (l : Listed) (view : ticketed s c ≡ l) where
  pub gives : (t u : Tickets) (d : Nodes Item) (p : Ptr) (k : Ticket) (x : ℕ) (e : Element Item) → t.collection ≡ s.collection → t.given ≡ s.given → IsNext t k
      → e ≡ new_element k x → IsTaken d p e c → u.collection ≡ t.collection → u.given ≡ k.number → Gives slot_of k l (ticketed u d)
  gives t u d p k x e collection given next is taken after last =
      subst (λ (v : Listed). Gives slot_of k v (ticketed u d)) view
      (put_gives slot_of s u c d p e k (next.collection ∙ collection, next.number ∙ ap (λ n. n + 1) given) (ap (λ (n : Element Item). n.id) is) taken (after ∙ collection) last)

  pub moves : (d rest : Nodes Item) (p : Ptr) (e : Element Item) → IsTaken c p e rest → IsTaken d p e rest → GivesNone slot_of l (ticketed s d)
  moves d rest p e was is = subst (λ (v : Listed). GivesNone slot_of v (ticketed s d)) view (changed_gives_none slot_of s c d rest p e e was is refl refl)

  pub ends : (t : Tickets) (d : Nodes Item) (p : Ptr) (e : Element Item) → Sound s c → AreDistinct (spots c) → IsTaken c p e d
      → IsEnded e.id (slot_of e.value) s t → Ends slot_of e l (ticketed t d)
  ends t d p e sound distinct taken ended = subst (λ (v : Listed). Ends slot_of e v (ticketed t d)) view (taken_ends slot_of s t c d p e sound.fit distinct taken ended)
