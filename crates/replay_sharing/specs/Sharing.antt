-- What two workers that share a stack do.
use Rattle.std.specs.Prelude.{◌≡◌, ℕ, List, [], ◌∷◌, ◌++◌, reverse, Result, Ok, Err, decimal}
use Rattle.cordyceps_base.specs.Element.{Element}
use Rattle.cordyceps_shared.specs.Histories.{plain}
use Rattle.cordyceps_shared.specs.Interleaving.{Interleaves}
use Rattle.cordyceps_shared.specs.Shares.{Name, whole}
use Rattle.cordyceps_shared.specs.Standings.{name_of}
use Rattle.cordyceps_commands.specs.declared.item.Item.{Item}
use Rattle.cordyceps_stack.specs.History.{Event, Load, Push, Taken, pushes, held}
use Rattle.cordyceps_stack.specs.Shared.Calls.{PartyOf, Adds}
use Rattle.replay_driver.specs.declared.fault.Fault.{Fault}
use Rattle.replay_driver.specs.declared.fault.Fault.TheVariants as faults

-- the element of the item whose value and number are these
abbrev pub item : ℕ → Element Item
item v = record { id = v; value = record { value = v; id = v } }

-- no event is a taking
abbrev pub NoBatch : {P E : Type 0} → List (Event P E) → Type 0
NoBatch [] = Unit {0}
NoBatch (Load p ∷ h) = NoBatch h
NoBatch (Push p e ∷ h) = NoBatch h
NoBatch (Taken p batch ∷ h) = ⊥

-- a worker pushed a and then b, and nothing else, and took nothing; its two rooms are in use
pub record Works (a b : Element Item) (u w : PartyOf (Element Item)) : Type 0 where
  pub events : List (Event Name (Element Item))
  pub adds : Adds u events w
  pub none : NoBatch events
  pub pushed : pushes events ≡ a ∷ b ∷ []
  pub rooms : w.rooms ≡ 0

-- a worker did so, or it was called off, and its party is as it was
abbrev pub Leaves : (a b : Element Item) → PartyOf (Element Item)
    → Result (PartyOf (Element Item)) (PartyOf (Element Item)) → Type 0
Leaves a b u (Ok w) = Works a b u w
Leaves a b u (Err w) = w ≡ u

-- a whole party with four rooms, whose stack is empty
pub record IsReady (u : PartyOf (Element Item)) : Type 0 where
  pub whole : u.share ≡ whole
  pub rooms : u.rooms ≡ 4
  pub empty : held (plain u.seen) ≡ []

-- A whole party has gained the pushes of 10, 11, 20 and 21, loads, and last the taking of the four, and no other event;
-- 10 came before 11, and 20 before 21. The result is what was taken, in order.
pub record Shared (u w : PartyOf (Element Item)) (values : List ℕ) : Type 0 where
  pub events : List (Event Name (Element Item))
  pub adds : Adds u (events ++ Taken (name_of u) (reverse (pushes events)) ∷ []) w
  pub none : NoBatch events
  pub pushed : Interleaves (item 10 ∷ item 11 ∷ []) (item 20 ∷ item 21 ∷ []) (pushes events)
  pub rooms : w.rooms ≡ u.rooms
  pub answer : values ≡ 10 ∷ 11 ∷ 20 ∷ 21 ∷ []

-- a line of numbers
abbrev pub line_of_numbers : List ℕ → List ℕ
line_of_numbers [] = 10 ∷ []
line_of_numbers (v ∷ []) = decimal v ++ 10 ∷ []
line_of_numbers (v ∷ w ∷ vs) = decimal v ++ 32 ∷ line_of_numbers (w ∷ vs)

-- What a run of mode share writes and returns.
abbrev pub Prints : (took : List ℕ → Type 0) (write_failed : Type 0) → Result (Unit {0}) Fault → Type 0
Prints took write_failed (Ok _) = took (line_of_numbers (10 ∷ 11 ∷ 20 ∷ 21 ∷ []))
Prints took write_failed (Err faults.Memory) = took []
Prints took write_failed (Err faults.Write) =
    write_failed × (written : List ℕ) × (rest : List ℕ) × (line_of_numbers (10 ∷ 11 ∷ 20 ∷ 21 ∷ []) ≡ written ++ rest)
    × took written
Prints took write_failed (Err faults.Read) = ⊥
Prints took write_failed (Err (faults.BadLine n)) = ⊥
