-- Timers, each with its spot: the first to fire first, equals as they were started.
use Rattle.std.specs.Prelude.{◌≡◌, ℕ, ◌≤◌, max, [], ◌∷◌, nat_lt, if◌then◌else◌, Option, None, Some}
use Rattle.std.specs.List.{AllByRecursion}
use denote.RawPtr.{Ptr}
use Rattle.cordyceps.specs.Elements.Element.{Element}
use Rattle.cordyceps.specs.Elements.Nodes.{Nodes, spots}
use Rattle.cordyceps.specs.Spots.Clock.{rounded}
use Rattle.cordyceps.specs.Spots.Spots.{AreDistinct}
use Rattle.cordyceps_shared_uses.specs.declared.timers.Timer.{Timer}

-- what a contract sees of timers: those that run, in the order in which they fire, and the time that has come
pub record Running (P : Type 0) : Type 0 where
  pub nodes : Nodes (Timer P)
  pub clock : ℕ

module _ {P : Type 0} where
  -- a new timer, whose number is its deadline
  abbrev pub new_timer : ℕ → P → Element (Timer P)
  new_timer d p = record { id = d; value = record { deadline = d; payload = p } }

  -- the time at which a timer fires: its deadline, or the clock, if the deadline has passed
  abbrev pub time_of : (clock : ℕ) → Element (Timer P) → ℕ
  time_of clock t = max t.value.deadline clock

  abbrev pub InOrder : (clock : ℕ) → Nodes (Timer P) → Type 0
  InOrder clock [] = Unit {0}
  InOrder clock (x ∷ s) = AllByRecursion (λ y. time_of clock x.1 ≤ time_of clock y.1) s × InOrder clock s

  -- no deadline is before this time
  abbrev pub NoneBefore : ℕ → Nodes (Timer P) → Type 0
  NoneBefore now s = AllByRecursion (λ n. now ≤ n.1.value.deadline) s

  -- one more, which is at q, after all that do not fire later
  abbrev pub started : (clock : ℕ) → Ptr → Element (Timer P) → Nodes (Timer P) → Nodes (Timer P)
  started clock q t [] = (q, t) ∷ []
  started clock q t (x ∷ s) =
      if nat_lt (time_of clock t) (time_of clock x.1) then (q, t) ∷ x ∷ s else x ∷ started clock q t s

  -- more, one after the other
  abbrev pub started_all : (clock : ℕ) → Nodes (Timer P) → Nodes (Timer P) → Nodes (Timer P)
  started_all clock s [] = s
  started_all clock s (n ∷ more) = started_all clock (started clock n.0 n.1 s) more

  -- timers in the order in which they fire
  abbrev pub arranged : (clock : ℕ) → Nodes (Timer P) → Nodes (Timer P)
  arranged clock c = started_all clock [] c

  -- What timers are kept as: they fire in order, no two are at one spot, and no deadline counts as earlier than the
  -- clock.
  pub record AreKept (nodes : Nodes (Timer P)) (clock earliest : ℕ) : Type 0 where
    pub order : InOrder clock (arranged clock nodes)
    pub distinct : AreDistinct (spots nodes)
    pub counts : earliest ≡ clock

  -- the time goes on to the earliest deadline, where a timer runs
  abbrev pub until_first : ℕ → Nodes (Timer P) → ℕ
  until_first now [] = now
  until_first now (x ∷ s) = x.1.value.deadline

  -- the time at which the first timer fires
  abbrev pub first_time : (clock : ℕ) → Nodes (Timer P) → Option ℕ
  first_time clock [] = None
  first_time clock (x ∷ s) = Some (time_of clock x.1)

  -- that time without its bits below the highest in which it differs from the clock
  abbrev pub first_rounded : (clock : ℕ) → Nodes (Timer P) → Option ℕ
  first_rounded clock [] = None
  first_rounded clock (x ∷ s) = Some (rounded clock (time_of clock x.1))

  -- those that fire at the time `now` or before
  abbrev pub due : (clock now : ℕ) → Nodes (Timer P) → Nodes (Timer P)
  due clock now [] = []
  due clock now (x ∷ s) = if nat_lt now (time_of clock x.1) then due clock now s else x ∷ due clock now s
