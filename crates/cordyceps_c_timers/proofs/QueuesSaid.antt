-- What the calls of a heap and of its tickets say of a priority queue.
use Rattle.std.proofs.Common.{◌≡◌, ℕ, ◌+◌, [], ◌∷◌, ◌++◌, List, true, Some, ap, ◌∙◌}
use denote.RawPtr.{Ptr}
use Rattle.cordyceps_base.specs.Element.{Element}
use Rattle.cordyceps_base.specs.Nodes.{Nodes, spots}
use Rattle.cordyceps_single.specs.Arrangement.{IsEarliestLeast}
use Rattle.cordyceps_stable.specs.Arranged.{precedes}
use Rattle.cordyceps_base.specs.BySpot.{HasSpot, IsTaken}
use Rattle.cordyceps_base.specs.DoubleLines.{flat}
use Rattle.cordyceps_heap.specs.Heap.{Holds}
use Rattle.cordyceps_base.specs.Spots.{AreDistinct}
use Rattle.cordyceps_stable.proofs.Arrivals.{Stands, first_of}
use Rattle.cordyceps_stable.proofs.Holding.{first_taken}
use Rattle.cordyceps_stable.proofs.Valid.{permuted_is_at, permuted_keeps}
use Rattle.cordyceps_c_base.specs.declared.tickets.Ticket.{Ticket}
use Rattle.cordyceps_c_base.specs.declared.tickets.Tickets.{Tickets}
use Rattle.cordyceps_c_base.specs.Tickets.{Fit, IsEnded, Leads, NoneBears, no_ticket}
use Rattle.cordyceps_c_base.proofs.Fitting.{bears_at, none_bears}
use Rattle.cordyceps_c_timers.specs.Arranged.{arranged, placed}
use Rattle.cordyceps_c_timers.specs.declared.queue.Item.{Item}
use Rattle.cordyceps_c_timers.specs.declared.queue.Ranked.{Ranked}
use Rattle.cordyceps_c_timers.specs.Queues.{Changes, ChangesAt, Pops, Pushes, PushesAt, Queued, Removes, RemovesAt, item_of, key_of, new_item, slot_of, with_key}
use Rattle.cordyceps_c_timers.proofs.Arranging.{changed, comes_of_heap, kept, popped, pushed, removed, stayed}
use Rattle.cordyceps_c_timers.proofs.Placing.{by_number, lawful}
use Rattle.cordyceps_c_timers.proofs.Ticketing.{comes_again, comes_in, comes_in_without, comes_out}

abbrev Lines : Type 0
Lines = List (Nodes Ranked)

-- the items of a heap's lines
abbrev pub seen : Lines → Tickets → Queued
seen ls s = record { nodes = arranged key_of (flat ls); collection = s.collection; given = s.given }

abbrev Held : Lines → Nodes Ranked → Type 0
Held = Holds (by_number key_of)

-- no item has the ticket
pub none_has : (c : Nodes Ranked) (s : Tickets) (k : Ticket) → Fit slot_of s c → ((p : Ptr) → Leads s k p → ⊥)
    → NoneBears slot_of s.collection k (arranged key_of c)
none_has c s k fit none p e lies = none_bears slot_of s c k fit none p e (permuted_is_at (arranged key_of c) c p e (kept key_of c) lies)

module _ (ls ms : Lines) (s t : Tickets) (a b : Nodes Ranked) (held : Held ls a) (left : Held ms b) where
  was : Stands (by_number key_of) (Held ls) (arranged key_of (flat ls))
  was = comes_of_heap key_of ls a held

  is_left : Stands (by_number key_of) (Held ms) (arranged key_of (flat ms))
  is_left = comes_of_heap key_of ms b left

  pub pushes : (p : Ptr) (e : Element Ranked) (k : Ticket) (key payload : ℕ) → e ≡ new_item key payload k
      → k.collection ≡ s.collection → k.number ≡ s.given + 1 → t.collection ≡ s.collection → t.given ≡ k.number
      → ((x : Nodes Ranked) → Held ls x → Held ms (x ++ (p, e) ∷ []))
      → Pushes key payload (Some k) (seen ls s) (seen ms t)
  pushes p e k key payload is of number coll given h =
      let new = pushed key_of (flat ls) (flat ms) (Held ls) (Held ms) was is_left p e h in let put = new ∙ ap (λ x. placed key_of p x (arranged key_of (flat ls))) is in (
        comes_in key_of slot_of s t (flat ls) (flat ms) p e k (of, number) (ap (λ (x : Element Ranked). x.id) is) new coll given,
        (p, λ i. record { nodes = put i; collection = coll i; given = given i }),
      )

  pub removes : (p : Ptr) (e : Element Ranked) (k : Ticket) (f : Item) → Fit slot_of s (flat ls) → AreDistinct (spots (flat ls)) → Leads s k p → IsTaken (flat ls) p e (flat ms)
      → f ≡ item_of e → IsEnded e.id (slot_of e.value) s t
      → ((x : Nodes Ranked) → Held ls x → (rest : Nodes Ranked) × (IsTaken x p e rest × Held ms rest))
      → Removes k (Some f) (seen ls s) (seen ms t)
  removes p e k f fit distinct leads taken is ended h =
      let out = removed key_of (flat ls) (flat ms) (Held ls) (Held ms) was is_left p e h in record {
        spot = p;
        ranked = e;
        bears = bears_at slot_of s (flat ls) (flat ms) k p e fit distinct taken leads;
        taken = out;
        is = is;
        kept = λ i. record { nodes = arranged key_of (flat ms); collection = ended.collection i; given = ended.given i };
        ended = comes_out key_of slot_of s t (flat ls) (flat ms) p e fit distinct out ended;
      }

  pub pops : (p : Ptr) (e : Element Ranked) (f : Item) → Fit slot_of s (flat ls) → AreDistinct (spots (flat ls)) → f ≡ item_of e → IsEnded e.id (slot_of e.value) s t
      → ((x : Nodes Ranked) → Held ls x → (rest : Nodes Ranked) × (IsEarliestLeast (precedes (by_number key_of)) x (p, e) rest × Held ms rest))
      → Pops (Some f) (seen ls s) (seen ms t)
  pops p e f fit distinct is ended h =
      let a = arranged key_of (flat ls) in let b = arranged key_of (flat ms) in let first = popped key_of (flat ls) (flat ms) (Held ls) (Held ms) was is_left p e h in (
        p,
        e,
        first,
        is,
        (λ i. record { nodes = b; collection = ended.collection i; given = ended.given i }),
        comes_out key_of slot_of s t (flat ls) (flat ms) p e fit distinct (first_taken a b p e first) ended,
      )

  -- the same arrivals, in other lines
  pub same_items : ((x : Nodes Ranked) → Held ls x → Held ms x) → seen ms s ≡ seen ls s
  same_items h = λ i. record { nodes = stayed key_of (flat ls) (flat ms) (Held ls) (Held ms) was is_left h i; collection = s.collection; given = s.given }

  -- an item got another key, and its ticket stays
  pub changes : (p : Ptr) (e w : Element Ranked) (rest : Nodes Ranked) (k : Ticket) (key : ℕ) → Fit slot_of s (flat ls) → AreDistinct (spots (flat ls)) → Leads s k p
      → IsTaken (flat ls) p e rest → w ≡ with_key key e
      → ((x : Nodes Ranked) → Held ls x → (r : Nodes Ranked) × (IsTaken x p e r × Held ms (r ++ (p, w) ∷ [])))
      → Changes k key true (seen ls s) (seen ms s)
  changes p e w rest k key fit distinct leads taken is h =
      let (others, out, put) = changed key_of (flat ls) (flat ms) (Held ls) (Held ms) was is_left p e w h in
      let all = put ∙ ap (λ x. placed key_of p x others) is in record {
        spot = p;
        ranked = e;
        others = others;
        bears = bears_at slot_of s (flat ls) rest k p e fit distinct taken leads;
        taken = out;
        put = λ i. record { nodes = all i; collection = s.collection; given = s.given };
        stale = comes_again key_of slot_of s s (flat ls) (flat ms) p e w others out put (ap (λ (x : Element Ranked). x.id) is) (ap (λ (x : Element Ranked). slot_of x.value) is);
      }

  -- the same by spots
  pub pushes_at : (p : Ptr) (e : Element Ranked) (key payload : ℕ) → e ≡ new_item key payload no_ticket
      → ((x : Nodes Ranked) → Held ls x → Held ms (x ++ (p, e) ∷ []))
      → PushesAt key payload (Some p) (seen ls s) (seen ms s)
  pushes_at p e key payload is h =
      let new = pushed key_of (flat ls) (flat ms) (Held ls) (Held ms) was is_left p e h in let put = new ∙ ap (λ x. placed key_of p x (arranged key_of (flat ls))) is in (
        (λ i. record { nodes = put i; collection = s.collection; given = s.given }),
        comes_in_without key_of slot_of s s (flat ls) (flat ms) p e (ap (λ (x : Element Ranked). x.id) is) new,
      )

  pub removes_at : (p : Ptr) (e : Element Ranked) (f : Item) → Fit slot_of s (flat ls) → AreDistinct (spots (flat ls)) → f ≡ item_of e → IsEnded e.id (slot_of e.value) s t
      → ((x : Nodes Ranked) → Held ls x → (rest : Nodes Ranked) × (IsTaken x p e rest × Held ms rest))
      → RemovesAt p f (seen ls s) (seen ms t)
  removes_at p e f fit distinct is ended h =
      let out = removed key_of (flat ls) (flat ms) (Held ls) (Held ms) was is_left p e h in (
        e,
        out,
        is,
        (λ i. record { nodes = arranged key_of (flat ms); collection = ended.collection i; given = ended.given i }),
        comes_out key_of slot_of s t (flat ls) (flat ms) p e fit distinct out ended,
      )

  pub changes_at : (p : Ptr) (e w : Element Ranked) (key : ℕ) → w ≡ with_key key e
      → ((x : Nodes Ranked) → Held ls x → (r : Nodes Ranked) × (IsTaken x p e r × Held ms (r ++ (p, w) ∷ [])))
      → ChangesAt p key (seen ls s) (seen ms s)
  changes_at p e w key is h =
      let (others, out, put) = changed key_of (flat ls) (flat ms) (Held ls) (Held ms) was is_left p e w h in
      let all = put ∙ ap (λ x. placed key_of p x others) is in (
        e,
        others,
        out,
        (λ i. record { nodes = all i; collection = s.collection; given = s.given }),
        comes_again key_of slot_of s s (flat ls) (flat ms) p e w others out put (ap (λ (x : Element Ranked). x.id) is) (ap (λ (x : Element Ranked). slot_of x.value) is),
      )

-- an item that is seen is in the heap
pub waits_at : (c : Nodes Ranked) (p : Ptr) → HasSpot (arranged key_of c) p → HasSpot c p
waits_at c p there = permuted_keeps (arranged key_of c) c (kept key_of c) p there

-- the first of the items
pub first : (ls : Lines) (s : Tickets) (a : Nodes Ranked) → Held ls a → (x : Ptr × Element Ranked)
    → ((b : Nodes Ranked) → Held ls b → (rest : Nodes Ranked) × IsEarliestLeast (precedes (by_number key_of)) b x rest)
    → (rest : Nodes Ranked) × (arranged key_of (flat ls) ≡ x ∷ rest)
first ls s a held x h = first_of (lawful key_of) (Held ls) (arranged key_of (flat ls)) (comes_of_heap key_of ls a held) x h
