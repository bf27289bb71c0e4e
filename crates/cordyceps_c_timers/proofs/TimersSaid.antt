-- What the calls of a queue of times and of its tickets say of timers.
use Rattle.std.proofs.Common.{◌≡◌, ◌⊎◌, ℕ, ◌+◌, ◌<◌, ◌≤◌, max, [], ◌∷◌, ◌++◌, length, length-append, true, Option, Some, None, MatchOption, refl, ap, ◌∙◌, subst, arith}
use Rattle.std.proofs.lemmas.List.Sorted.{IsPermutation-sym}
use Rattle.std.specs.List.{AllByRecursion}
use Rattle.std.specs.Prelude.{IfSome}
use denote.RawPtr.{Ptr}
use Rattle.cordyceps_base.specs.Element.{Element}
use Rattle.cordyceps_base.specs.Nodes.{Nodes, spots}
use Rattle.cordyceps_single.specs.Arrangement.{IsEarliestLeast}
use Rattle.cordyceps_stable.specs.Agreeing.{HasElementAt}
use Rattle.cordyceps_stable.specs.Arranged.{precedes}
use Rattle.cordyceps_base.specs.BySpot.{HasSpot, IsTaken}
use Rattle.cordyceps_clock.specs.Clock.{Holds, rounded}
use Rattle.cordyceps_base.specs.Spots.{AreDistinct}
use Rattle.cordyceps_stable.proofs.Classes.{all_back}
use Rattle.cordyceps_stable.proofs.Valid.{permuted_is_at, permuted_keeps}
use Rattle.cordyceps_c_base.specs.declared.tickets.Ticket.{Ticket}
use Rattle.cordyceps_c_base.specs.declared.tickets.Tickets.{Tickets}
use Rattle.cordyceps_c_base.specs.Tickets.{Fit, IsEnded, Leads, NoneBears, no_ticket}
use Rattle.cordyceps_c_base.proofs.Fitting.{bears_at, none_bears}
use Rattle.cordyceps_c_timers.specs.Arranged.{InOrder, arranged, placed}
use Rattle.cordyceps_c_timers.specs.declared.timers.Fired.{Fired}
use Rattle.cordyceps_c_timers.specs.declared.timers.Timer.{Timer}
use Rattle.cordyceps_c_timers.specs.Timers.{due_of, fired_of, new_timer, slot_of, with_deadline, Bounds, Fires, IsBound, NoneFires, Restarts, RestartsAt, Running, Starts, StartsAt, Stops, StopsAt}
use Rattle.cordyceps_c_timers.proofs.Arranging.{all_of, changed, comes, in_order, kept, popped, pushed, removed, stayed}
use Rattle.cordyceps_c_timers.proofs.Placing.{by_number}
use Rattle.cordyceps_c_timers.proofs.Ticketing.{comes_again, comes_in, comes_in_without, comes_out}
use Rattle.cordyceps_stable.proofs.Holding.{first_taken}

-- the timers of a queue
abbrev pub seen : Nodes Timer → ℕ → Tickets → Running
seen c now s = record { nodes = arranged due_of c; clock = now; collection = s.collection; given = s.given }

abbrev Held : Nodes Timer → Nodes Timer → Type 0
Held = Holds (by_number due_of)

-- no timer has the ticket
pub none_has : (c : Nodes Timer) (now : ℕ) (s : Tickets) (k : Ticket) → Fit slot_of s c → ((p : Ptr) → Leads s k p → ⊥)
    → NoneBears slot_of s.collection k (arranged due_of c)
none_has c now s k fit none p e lies = none_bears slot_of s c k fit none p e (permuted_is_at (arranged due_of c) c p e (kept due_of c) lies)

module _ (c d : Nodes Timer) (now later : ℕ) (s t : Tickets) where
  pub starts : (p : Ptr) (e : Element Timer) (k : Ticket) (deadline payload : ℕ) → e ≡ new_timer now deadline payload k
      → k.collection ≡ s.collection → k.number ≡ s.given + 1 → later ≡ now → t.collection ≡ s.collection → t.given ≡ k.number
      → ((a : Nodes Timer) → Held c a → Held d (a ++ (p, e) ∷ []))
      → Starts deadline payload (Some k) (seen c now s) (seen d later t)
  starts p e k deadline payload is of number same coll given h =
      let new = pushed due_of c d (Held c) (Held d) (comes due_of c) (comes due_of d) p e h in let put = new ∙ ap (λ x. placed due_of p x (arranged due_of c)) is in (
        comes_in due_of slot_of s t c d p e k (of, number) (ap (λ (x : Element Timer). x.id) is) new coll given,
        (p, λ i. record { nodes = put i; clock = same i; collection = coll i; given = given i }),
      )

  pub stops : (p : Ptr) (e : Element Timer) (k : Ticket) (f : Fired) → Fit slot_of s c → AreDistinct (spots c) → Leads s k p → IsTaken c p e d
      → f ≡ fired_of e → later ≡ now → IsEnded e.id (slot_of e.value) s t
      → ((a : Nodes Timer) → Held c a → (rest : Nodes Timer) × (IsTaken a p e rest × Held d rest))
      → Stops k (Some f) (seen c now s) (seen d later t)
  stops p e k f fit distinct leads taken is same ended h =
      let out = removed due_of c d (Held c) (Held d) (comes due_of c) (comes due_of d) p e h in record {
        spot = p;
        timer = e;
        bears = bears_at slot_of s c d k p e fit distinct taken leads;
        taken = out;
        is = is;
        kept = λ i. record { nodes = arranged due_of d; clock = same i; collection = ended.collection i; given = ended.given i };
        ended = comes_out due_of slot_of s t c d p e fit distinct out ended;
      }

  pub starts_at : (p : Ptr) (e : Element Timer) (deadline payload : ℕ) → e ≡ new_timer now deadline payload no_ticket → later ≡ now
      → ((a : Nodes Timer) → Held c a → Held d (a ++ (p, e) ∷ []))
      → StartsAt deadline payload (Some p) (seen c now s) (seen d later s)
  starts_at p e deadline payload is same h =
      let new = pushed due_of c d (Held c) (Held d) (comes due_of c) (comes due_of d) p e h in let put = new ∙ ap (λ x. placed due_of p x (arranged due_of c)) is in (
        (λ i. record { nodes = put i; clock = same i; collection = s.collection; given = s.given }),
        comes_in_without due_of slot_of s s c d p e (ap (λ (x : Element Timer). x.id) is) new,
      )

  pub stops_at : (p : Ptr) (e : Element Timer) (f : Fired) → Fit slot_of s c → AreDistinct (spots c) → f ≡ fired_of e → later ≡ now → IsEnded e.id (slot_of e.value) s t
      → ((a : Nodes Timer) → Held c a → (rest : Nodes Timer) × (IsTaken a p e rest × Held d rest))
      → StopsAt p f (seen c now s) (seen d later t)
  stops_at p e f fit distinct is same ended h =
      let out = removed due_of c d (Held c) (Held d) (comes due_of c) (comes due_of d) p e h in (
        e,
        out,
        is,
        (λ i. record { nodes = arranged due_of d; clock = same i; collection = ended.collection i; given = ended.given i }),
        comes_out due_of slot_of s t c d p e fit distinct out ended,
      )

  pub fires : (until : ℕ) (p : Ptr) (e : Element Timer) (f : Fired) → Fit slot_of s c → AreDistinct (spots c) → f ≡ fired_of e → later ≡ e.value.due → e.value.due ≤ until
      → IsEnded e.id (slot_of e.value) s t
      → ((a : Nodes Timer) → Held c a → (rest : Nodes Timer) × (IsEarliestLeast (precedes (by_number due_of)) a (p, e) rest × Held d rest))
      → Fires until f (seen c now s) (seen d later t)
  fires until p e f fit distinct is clock early ended h =
      let a = arranged due_of c in let b = arranged due_of d in
      let first = popped due_of c d (Held c) (Held d) (comes due_of c) (comes due_of d) p e h in record {
        spot = p;
        timer = e;
        first = first;
        is = is;
        due = early;
        kept = λ i. record { nodes = b; clock = clock i; collection = ended.collection i; given = ended.given i };
        ended = comes_out due_of slot_of s t c d p e fit distinct (first_taken a b p e first) ended;
      }

  pub none_fires : (until : ℕ) → later ≡ max now until → AllByRecursion (λ n. until < due_of n.1.value) d
      → ((a : Nodes Timer) → Held c a → Held d a) → NoneFires until (seen c now s) (seen d later s)
  none_fires until clock after h =
      let same = stayed due_of c d (Held c) (Held d) (comes due_of c) (comes due_of d) h in (
        subst (AllByRecursion (λ n. until < due_of n.1.value)) same (all_of due_of (λ n. until < due_of n.1.value) d after),
        λ i. record { nodes = same i; clock = clock i; collection = s.collection; given = s.given },
      )

-- a timer was started again, and its ticket stays
pub restarts : (c d : Nodes Timer) (now later : ℕ) (s : Tickets) (p : Ptr) (e w : Element Timer) (rest : Nodes Timer) (k : Ticket) (deadline : ℕ) → Fit slot_of s c
    → AreDistinct (spots c) → Leads s k p → IsTaken c p e rest → w ≡ with_deadline now deadline e → later ≡ now
    → ((a : Nodes Timer) → Held c a → (left : Nodes Timer) × (IsTaken a p e left × Held d (left ++ (p, w) ∷ [])))
    → Restarts k deadline true (seen c now s) (seen d later s)
restarts c d now later s p e w rest k deadline fit distinct leads taken is same h =
    let (others, was, put) = changed due_of c d (Held c) (Held d) (comes due_of c) (comes due_of d) p e w h in
    let all = put ∙ ap (λ x. placed due_of p x others) is in record {
      spot = p;
      timer = e;
      others = others;
      bears = bears_at slot_of s c rest k p e fit distinct taken leads;
      taken = was;
      put = λ i. record { nodes = all i; clock = same i; collection = s.collection; given = s.given };
      stale = comes_again due_of slot_of s s c d p e w others was put (ap (λ (x : Element Timer). x.id) is) (ap (λ (x : Element Timer). slot_of x.value) is);
    }

pub restarts_at : (c d : Nodes Timer) (now later : ℕ) (s : Tickets) (p : Ptr) (e w : Element Timer) (deadline : ℕ)
    → w ≡ with_deadline now deadline e → later ≡ now
    → ((a : Nodes Timer) → Held c a → (left : Nodes Timer) × (IsTaken a p e left × Held d (left ++ (p, w) ∷ [])))
    → RestartsAt p deadline (seen c now s) (seen d later s)
restarts_at c d now later s p e w deadline is same h =
    let (others, was, put) = changed due_of c d (Held c) (Held d) (comes due_of c) (comes due_of d) p e w h in
    let all = put ∙ ap (λ x. placed due_of p x others) is in (
      e,
      others,
      was,
      (λ i. record { nodes = all i; clock = same i; collection = s.collection; given = s.given }),
      comes_again due_of slot_of s s c d p e w others was put (ap (λ (x : Element Timer). x.id) is) (ap (λ (x : Element Timer). slot_of x.value) is),
    )

-- a timer that is seen is in the queue
pub runs_at : (c : Nodes Timer) (p : Ptr) → HasSpot (arranged due_of c) p → HasSpot c p
runs_at c p there = permuted_keeps (arranged due_of c) c (kept due_of c) p there

-- ---- the time until which nobody has to look
module _ (now time : ℕ) where
  -- a node of the least time tells the time before which none is
  pub record IsNear (c : Nodes Timer) : Type 0 where
    pub spot : Ptr
    pub timer : Element Timer
    pub lies : HasElementAt c spot timer
    pub least : AllByRecursion (λ n. timer.value.due ≤ due_of n.1.value) c
    pub near : time ≡ rounded now timer.value.due
    pub later : (now < time) ⊎ (timer.value.due ≡ time)

  bound_of : (a : Nodes Timer) (s : Tickets) → InOrder due_of a → AllByRecursion (λ n. time ≤ due_of n.1.value) a → IsNear a
      → IsBound time (record { nodes = a; clock = now; collection = s.collection; given = s.given })
  bound_of [] s order none n = let (front, back, is) = n.lies in absurd (omega (arith, ap length is, length-append front ((n.spot, n.timer) ∷ back)))
  bound_of (x ∷ a) s order none n =
      let (front, back, is) = n.lies in let first = due_of x.1.value in
      let least : first ≤ n.timer.value.due = (all_back (λ y. first ≤ due_of y.1.value) front ((n.spot, n.timer) ∷ back)
      (subst (AllByRecursion (λ y. first ≤ due_of y.1.value)) is (omega arith, order.0))).0 in
      let most = n.least.0 in let same : n.timer.value.due ≡ first = omega (arith, least, most) in
      record {
        none_before = none;
        spot = x.0;
        timer = x.1;
        others = a;
        first = refl;
        near = n.near ∙ ap (rounded now) same;
        later = subst (λ m. (now < time) ⊎ (m ≡ time)) same n.later;
      }

pub bounds : (c : Nodes Timer) (now : ℕ) (s : Tickets) (bound : Option ℕ) → MatchOption bound (c ≡ []) (λ time. AllByRecursion (λ n. time ≤ due_of n.1.value) c)
    → IfSome bound (λ time. IsNear now time c) → Bounds bound (seen c now s)
bounds c now s None none near = ap (arranged due_of) none
bounds c now s (Some time) none near =
    let a = arranged due_of c in
    bound_of now time a s (in_order due_of c) (all_of due_of (λ n. time ≤ due_of n.1.value) c none)
    (record {
      spot = near.spot;
      timer = near.timer;
      lies = permuted_is_at c a near.spot near.timer (IsPermutation-sym a c (kept due_of c)) near.lies;
      least = all_of due_of (λ n. near.timer.value.due ≤ due_of n.1.value) c near.least;
      near = near.near;
      later = near.later;
    })
