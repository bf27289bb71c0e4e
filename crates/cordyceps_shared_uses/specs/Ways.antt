-- What a party of the scheduler sent and received, and what its thread's account got and gave.
use Rattle.std.specs.Prelude.{◌≡◌, ℕ, ◌+◌, List, [], ◌++◌}
use Rattle.cordyceps.specs.Elements.Element.{Element}
use Rattle.cordyceps.specs.Parties.Counts.{tally}
use Rattle.cordyceps.specs.Queues.Calls.{PartyOf}
use Rattle.cordyceps.specs.Queues.Moves.{Moves}
use Rattle.cordyceps_shared_uses.specs.Accounts.{Entries, Moved}
use Rattle.cordyceps_shared_uses.specs.Names.{name_of, one_more}
use Rattle.cordyceps_shared_uses.specs.declared.scheduler.name.Name.{Name}
use Rattle.cordyceps_shared_uses.specs.declared.scheduler.work.Work.{Work}
use Rattle.cordyceps_shared_uses.specs.declared.timers.Timer.{Timer}

-- what is seen of a party
abbrev pub Seat : Type 0
Seat = PartyOf (Element (Timer Work))

-- from u to w a party sent these tasks, and received none
abbrev pub Sent : List Name → Seat → Seat → Type 0
Sent xs u w = Moves name_of xs [] u w

-- from u to w a party sent some tasks, which the account got before, from a to b
pub record Woken (a b : Entries) (u w : Seat) : Type 0 where
  pub tasks : List Name
  pub sent : Sent tasks u w
  pub moved : Moved tasks [] a b

-- from u to w a party sent these tasks, and then some that it woke
pub record SentAll (xs : List Name) (a b : Entries) (u w : Seat) : Type 0 where
  pub woken : List Name
  pub sent : Sent (xs ++ woken) u w
  pub moved : Moved woken [] a b

-- from u to w a party received some tasks, which the account gave away, from a to b
pub record Came (a b : Entries) (u w : Seat) : Type 0 where
  pub tasks : List Name
  pub took : Moves name_of [] tasks u w
  pub moved : Moved [] tasks a b

-- each task that a worker got has run one round more, if one was left, and then either went away from it, or is one of
-- those that are done or kept
abbrev pub RanOneEach : Entries → List Name → List Name → Type 0
RanOneEach a done kept = (f : Name → ℕ)
    → tally (λ x. f (one_more x)) a.got ≡ tally f a.gave + (tally f done + tally f kept)

-- a worker, whose account goes from a to b, gave t away as it is, or t is one more of those that are done or kept
pub record Settles (t : Element (Timer Work)) (a b : Entries) (done kept done' kept' : List Name) : Type 0 where
  pub table : b.table ≡ a.table
  pub parts : b.parts ≡ a.parts
  pub got : b.got ≡ a.got
  pub gave : (f : Name → ℕ) → tally f b.gave + (tally f done' + tally f kept')
      ≡ f (name_of t) + (tally f a.gave + (tally f done + tally f kept))
