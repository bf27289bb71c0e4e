-- How far a run of a script has come.
use Rattle.std.specs.Prelude.{◌≡◌, ℕ, ◌+◌, ◌<◌, ◌≤◌, Bool, true, false, List, [], ◌∷◌, ◌++◌, length, drop, None, Some}
use Rattle.std.specs.Prelude.{Result, Ok, Err, nat_eq}
use Rattle.std.specs.List.{concat, flat_map, All, AllByRecursion}
use Rattle.replay_driver.specs.Script.{Machine, step_of, Steps, StopsAmong, RanOrNot, last_line}
use Rattle.replay_driver.specs.declared.fault.Fault.{Fault}
use Rattle.replay_driver.specs.declared.fault.Fault.TheVariants as faults
use Rattle.replay_driver.specs.declared.session.Stop.{Stop}
use Rattle.replay_driver.specs.declared.session.Stop.TheVariants as stops

-- a line with its line feed
abbrev pub with_line_feed : List ℕ → List ℕ
with_line_feed line = line ++ 10 ∷ []

abbrev pub HasNoFeed : List ℕ → Type 0
HasNoFeed bytes = All (λ b. nat_eq b 10 ≡ false) bytes

-- The sink took a prefix of the text that was waiting and of what was added to it. The rest waits.
abbrev pub Writes : {O : Type 0} → (O → O → List ℕ → Type 0) → O → List ℕ → O → List ℕ → List ℕ → Type 0
Writes takes old text new rest added = (written : List ℕ) × takes old new written × (text ++ added ≡ written ++ rest)

-- a session took a line, and its replies were added to the text
abbrev pub TakesLine : {S E : Type 0} → Machine S → S → List ℕ → S → List ℕ → List ℕ → Result Bool E → Type 0
TakesLine machine old line new text after (Ok true) =
    (texts : List (List ℕ)) × (machine.step old line ≡ Some (new, texts)) × (after ≡ text ++ concat texts)
TakesLine machine old line new text after (Ok false) = (machine.step old line ≡ None) × (new ≡ old) × (after ≡ text)
TakesLine {S} machine old line new text after (Err e) =
    (next : S) × (texts : List (List ℕ)) × (front : List ℕ) × (machine.step old line ≡ Some (next, texts))
    × StopsAmong texts front × (after ≡ text ++ front) × RanOrNot old next new

-- memory was refused at a command that the end completes, and the texts of those before it were added
abbrev pub EndStops : {S : Type 0} → Machine S → (old new : S) → List ℕ → List ℕ → Type 0
EndStops machine old new text after =
    (front : List ℕ) × (0 < length (machine.ending old)) × StopsAmong (machine.ending old) front
    × (after ≡ text ++ front) × RanOrNot old (machine.last old) new

-- a session's last replies were added to the text
abbrev pub Ends : {S E : Type 0} → Machine S → (old new : S) → List ℕ → List ℕ → Result (Unit {0}) E → Type 0
Ends machine old new text after (Ok _) = (new ≡ machine.last old) × (after ≡ text ++ concat (machine.ending old))
Ends machine old new text after (Err e) = EndStops machine old new text after

-- A run of a script between two steps: the machine's state, the sink, and the text that waits to be written.
pub record RunState (S O : Type 0) : Type 0 where
  pub state : S
  pub sink : O
  pub text : List ℕ

-- one line was taken, or stopped the script
abbrev pub TakesOne : {S O : Type 0} → Machine S → (O → O → List ℕ → Type 0) → (failed : Type 0) → (line : List ℕ) →
    (old new : RunState S O) → Result (Unit {0}) Stop → Type 0
TakesOne machine takes failed line old new (Ok _) =
    (texts : List (List ℕ)) × (step_of machine old.state line ≡ Some (new.state, texts))
    × Writes takes old.sink old.text new.sink new.text (concat texts)
TakesOne machine takes failed line old new (Err stops.Bad) =
    (step_of machine old.state line ≡ None) × (new.state ≡ old.state)
    × Writes takes old.sink old.text new.sink new.text []
TakesOne {S} machine takes failed line old new (Err stops.Memory) =
    (next : S) × (texts : List (List ℕ)) × (front : List ℕ) × (step_of machine old.state line ≡ Some (next, texts))
    × StopsAmong texts front × Writes takes old.sink old.text new.sink new.text front
    × RanOrNot old.state next new.state
TakesOne machine takes failed line old new (Err stops.Write) =
    (texts : List (List ℕ)) × (waiting : List ℕ) × (step_of machine old.state line ≡ Some (new.state, texts))
    × Writes takes old.sink old.text new.sink waiting (concat texts) × failed

-- the bytes are these lines, each with its line feed, and then a rest; the lines are good, and have these replies
pub record Leads {S : Type 0} (machine : Machine S) (old : S) (bytes : List ℕ) (lines : List (List ℕ)) (rest : List ℕ)
    (new : S) (texts : List (List ℕ)) : Type 0 where
  pub cut : bytes ≡ flat_map with_line_feed lines ++ rest
  pub no_feed : AllByRecursion HasNoFeed lines
  pub steps : Steps machine old lines new texts

-- a run with the number of good lines so far
pub record Progress (S O : Type 0) : Type 0 where
  pub run : RunState S O
  pub count : ℕ

-- the lines of a block were taken, or one of them stopped the script
abbrev pub TakesLines : {S O : Type 0} → Machine S → (O → O → List ℕ → Type 0) → (failed : Type 0) →
    (block : List ℕ) → (old new : Progress S O) → Result ℕ Stop → Type 0
TakesLines machine takes failed block old new (Ok used) =
    (lines : List (List ℕ)) × (texts : List (List ℕ))
    × Leads machine old.run.state block lines (drop used block) new.run.state texts
    × (used ≤ length block) × HasNoFeed (drop used block) × (new.count ≡ old.count + length lines)
    × Writes takes old.run.sink old.run.text new.run.sink new.run.text (concat texts)
TakesLines machine takes failed block old new (Err stops.Bad) =
    (lines : List (List ℕ)) × (texts : List (List ℕ)) × (line : List ℕ) × (rest : List ℕ)
    × Leads machine old.run.state block lines (line ++ 10 ∷ rest) new.run.state texts
    × HasNoFeed line × (step_of machine new.run.state line ≡ None) × (new.count ≡ old.count + length lines)
    × Writes takes old.run.sink old.run.text new.run.sink new.run.text (concat texts)
TakesLines {S} machine takes failed block old new (Err stops.Memory) =
    (lines : List (List ℕ)) × (texts : List (List ℕ)) × (line : List ℕ) × (rest : List ℕ) × (mid : S) × (next : S)
    × (added : List (List ℕ)) × (front : List ℕ)
    × Leads machine old.run.state block lines (line ++ 10 ∷ rest) mid texts × HasNoFeed line
    × (step_of machine mid line ≡ Some (next, added)) × StopsAmong added front
    × Writes takes old.run.sink old.run.text new.run.sink new.run.text (concat texts ++ front)
    × RanOrNot mid next new.run.state
TakesLines machine takes failed block old new (Err stops.Write) =
    (lines : List (List ℕ)) × (texts : List (List ℕ)) × (rest : List ℕ) × (waiting : List ℕ)
    × Leads machine old.run.state block lines rest new.run.state texts
    × Writes takes old.run.sink old.run.text new.run.sink waiting (concat texts) × failed

-- How far bytes were taken: these are the good lines so far, the texts of their replies, and what was written of them.
pub record SoFar {S O : Type 0} (machine : Machine S) (takes : O → O → List ℕ → Type 0) (bytes rest : List ℕ)
    (old new : RunState S O) (count : ℕ) : Type 0 where
  pub lines : List (List ℕ)
  pub texts : List (List ℕ)
  pub leads : Leads machine old.state bytes lines rest new.state texts
  pub counted : count ≡ length lines
  pub writes : Writes takes old.sink old.text new.sink new.text (concat texts)

-- what a stop at this line is to the caller
abbrev pub fault_of : Stop → ℕ → Fault
fault_of stops.Bad line = faults.BadLine line
fault_of stops.Memory line = faults.Memory
fault_of stops.Write line = faults.Write

-- what follows the last line feed was taken, if it is a line, or stopped the script
abbrev pub TakesLast : {S O : Type 0} → Machine S → (O → O → List ℕ → Type 0) → (failed : Type 0) → (line : List ℕ) →
    (old new : RunState S O) → Result (Unit {0}) Stop → Type 0
TakesLast machine takes failed line old new (Ok _) =
    (texts : List (List ℕ)) × Steps machine old.state (last_line line) new.state texts
    × Writes takes old.sink old.text new.sink new.text (concat texts)
TakesLast machine takes failed line old new (Err stop) =
    (0 < length line) × TakesOne machine takes failed line old new (Err stop)

-- what was read between the states follows what was held
abbrev pub Reads : {I : Type 0} → (I → I → List ℕ → Type 0) → I → I → List ℕ → List ℕ → Type 0
Reads gives old new held now = (bytes : List ℕ) × gives old new bytes × (now ≡ held ++ bytes)
