-- What a script's lines are, and what a mode replies to them.
use Rattle.std.specs.Prelude.{◌≡◌, ℕ, suc, ◌<◌, ◌≤◌, List, [], ◌∷◌, ◌++◌, length, take, Option, None, Some, Result, Ok}
use Rattle.std.specs.Prelude.{Err, if◌then◌else◌, nat_lt, nat_eq, ◌⊎◌}
use Rattle.std.specs.Option.{option_map, unwrap_or}
use Rattle.std.specs.List.{slice_split, concat}
use Rattle.replay_driver.specs.declared.fault.Fault.{Fault}
use Rattle.replay_driver.specs.declared.fault.Fault.TheVariants as faults

-- What a mode does, as a machine over lines. A line leads to a state, and to the texts of the replies to the commands
-- that it completes, a text for each; a bad line has no step. The end of the lines completes the commands that are
-- still open, and leads to a last state.
pub record Machine (S : Type 0) : Type 0 where
  pub step : S → List ℕ → Option (S × List (List ℕ))
  pub ending : S → List (List ℕ)
  pub last : S → S

-- the same, where a line of more than 120 bytes is bad
abbrev pub step_of : {S : Type 0} → Machine S → S → List ℕ → Option (S × List (List ℕ))
step_of machine state line = if nat_lt 120 (length line) then None else machine.step state line

-- none of these lines is bad: they lead on, and these are the texts of the replies so far
abbrev pub Steps : {S : Type 0} → Machine S → S → List (List ℕ) → S → List (List ℕ) → Type 0
Steps machine old [] new texts = (new ≡ old) × (texts ≡ [])
Steps {S} machine old (line ∷ lines) new texts =
    (mid : S) × (first : List (List ℕ)) × (others : List (List ℕ)) × (step_of machine old line ≡ Some (mid, first))
    × Steps machine mid lines new others × (texts ≡ first ++ others)

-- the texts of the replies, a text for each command, up to the first bad line
abbrev pub replies : {S : Type 0} → Machine S → S → List (List ℕ) → List (List ℕ)
replies machine state [] = machine.ending state
replies machine state (line ∷ lines) =
    unwrap_or (option_map (λ next. next.1
    ++ replies machine next.0 lines) (step_of machine state line)) (machine.ending state)

-- the number of the first bad line, counted from 1
abbrev pub first_bad : {S : Type 0} → Machine S → S → List (List ℕ) → Option ℕ
first_bad machine state [] = None
first_bad machine state (line ∷ lines) =
    unwrap_or (option_map (λ next.
    option_map suc (first_bad machine next.0 lines)) (step_of machine state line)) (Some 1)

-- the state after the lines, up to the first bad one, and after the end
abbrev pub state_after : {S : Type 0} → Machine S → S → List (List ℕ) → S
state_after machine state [] = machine.last state
state_after machine state (line ∷ lines) =
    unwrap_or (option_map (λ next. state_after machine next.0 lines) (step_of machine state line)) (machine.last state)

-- the first of these lines, some or all, led to this state, with these texts
abbrev pub SomeLead : {S : Type 0} → Machine S → S → List (List ℕ) → S → List (List ℕ) → Type 0
SomeLead machine state lines new texts =
    (some : List (List ℕ)) × (others : List (List ℕ)) × (lines ≡ some ++ others) × Steps machine state some new texts

-- the first of these lines led to this state, or all up to the first bad one, and the end
abbrev pub LeadTo : {S : Type 0} → Machine S → S → List (List ℕ) → S → Type 0
LeadTo machine state lines new =
    ((texts : List (List ℕ)) × SomeLead machine state lines new texts) ⊎ (new ≡ state_after machine state lines)

-- the text of a script: its reply lines, one after the other
abbrev pub text : {S : Type 0} → Machine S → S → List (List ℕ) → List ℕ
text machine state lines = concat (replies machine state lines)

-- what is between line feeds: each part but the last is a line, and the last is one that is not complete
abbrev pub parts : List ℕ → List (List ℕ)
parts bytes = slice_split (λ b. nat_eq b 10) bytes

-- what follows the last line feed is a line if it has a byte
abbrev pub last_line : List ℕ → List (List ℕ)
last_line [] = []
last_line (b ∷ bytes) = (b ∷ bytes) ∷ []

-- the same, without a last line that has no byte
abbrev pub without_empty_last : List (List ℕ) → List (List ℕ)
without_empty_last [] = []
without_empty_last (line ∷ []) = last_line line
without_empty_last (line ∷ next ∷ rest) = line ∷ without_empty_last (next ∷ rest)

-- the lines of a whole script
abbrev pub lines_of : List ℕ → List (List ℕ)
lines_of script = without_empty_last (parts script)

-- Of bytes that were read, these are the lines, complete ones and then one that is not complete. It counts as a line
-- where the input ended with it, or where it is too long already.
abbrev pub AreLines : (ended : Type 0) → List (List ℕ) → List ℕ → List (List ℕ) → Type 0
AreLines ended complete unfinished lines =
    (lines ≡ complete) ⊎ ((ended ⊎ (120 < length unfinished)) × (lines ≡ complete ++ last_line unfinished))

-- Memory was refused at one of these commands, and this is the text of those before it. Where there are none, it is
-- empty.
abbrev pub StopsAmong : List (List ℕ) → List ℕ → Type 0
StopsAmong texts front = (n : ℕ) × ((n ≡ 0) ⊎ (n < length texts)) × (front ≡ concat (take n texts))

-- there is no further line, or it is bad
abbrev pub IsOver : {S : Type 0} → Machine S → S → List (List ℕ) → Type 0
IsOver machine state [] = Unit {0}
IsOver machine state (line ∷ lines) = step_of machine state line ≡ None

-- Where memory was refused to a command, it was not run, or was, and its reply was lost.
abbrev pub RanOrNot : {S : Type 0} → (state next new : S) → Type 0
RanOrNot state next new = (new ≡ state) ⊎ (new ≡ next)

-- Memory was refused at a command of the next line, or where that is over, at one that the end completes.
abbrev pub StopsNext : {S : Type 0} → Machine S → (state new : S) → List (List ℕ) → List ℕ → Type 0
StopsNext {S} machine state new lines front =
    ((line : List ℕ) × (after : List (List ℕ)) × (next : S) × (texts : List (List ℕ)) × (lines ≡ line ∷ after)
    × (step_of machine state line ≡ Some (next, texts)) × StopsAmong texts front × RanOrNot state next new)
    ⊎ (IsOver machine state lines × (0 < length (machine.ending state)) × StopsAmong (machine.ending state) front
    × RanOrNot state (machine.last state) new)

-- Memory was refused at a command. The lines before its own are good, and what was written is the text of all of them,
-- and of the commands before it.
abbrev pub Stops : {S : Type 0} → Machine S → (state new : S) → List (List ℕ) → List ℕ → Type 0
Stops {S} machine state new lines written =
    (before : List (List ℕ)) × (others : List (List ℕ)) × (mid : S) × (texts : List (List ℕ)) × (front : List ℕ)
    × (lines ≡ before ++ others) × Steps machine state before mid texts × StopsNext machine mid new others front
    × (written ≡ concat texts ++ front)

-- What a run of a script may return, where these lines were read and these bytes were written.
abbrev pub Answers : {S : Type 0} → Machine S → (state new : S) → (ended read_failed write_failed : Type 0) →
    (complete : List (List ℕ)) (unfinished : List ℕ) (lines : List (List ℕ)) (written : List ℕ) →
    Result (Unit {0}) Fault → Type 0
Answers machine state new ended read_failed write_failed complete unfinished lines written (Ok _) =
    ended × (lines ≡ complete ++ last_line unfinished) × (first_bad machine state lines ≡ None)
    × (written ≡ text machine state lines) × (new ≡ state_after machine state lines)
Answers machine state new ended read_failed write_failed complete unfinished lines written (Err (faults.BadLine n)) =
    (first_bad machine state lines ≡ Some n) × (written ≡ text machine state lines)
    × (new ≡ state_after machine state lines)
Answers machine state new ended read_failed write_failed complete unfinished lines written (Err faults.Read) =
    read_failed × (lines ≡ complete) × (length unfinished ≤ 120) × (first_bad machine state lines ≡ None)
    × (written ≡ text machine state lines) × (new ≡ state_after machine state lines)
Answers machine state new ended read_failed write_failed complete unfinished lines written (Err faults.Write) =
    write_failed × LeadTo machine state lines new × (rest : List ℕ) × (text machine state lines ≡ written ++ rest)
Answers machine state new ended read_failed write_failed complete unfinished lines written (Err faults.Memory) =
    ((complete ≡ []) × (unfinished ≡ []) × (written ≡ []) × (new ≡ state)) ⊎ Stops machine state new lines written

-- Each line of a script is good, all and the end were taken, and the text of all was written.
abbrev pub AnswersAll : {S : Type 0} → Machine S → (state new : S) → (script : List ℕ) (took : List ℕ → Type 0) →
    Type 0
AnswersAll machine state new script took =
    (first_bad machine state (lines_of script) ≡ None) × took (text machine state (lines_of script))
    × (new ≡ state_after machine state (lines_of script))

-- What a run of a script reads, writes and returns, and the state that it leaves.
pub record Runs {S : Type 0} (machine : Machine S) (state new : S) (gave : List ℕ → Type 0)
    (ended read_failed : Type 0) (took : List ℕ → Type 0) (write_failed : Type 0)
    (result : Result (Unit {0}) Fault) : Type 0 where
  pub complete : List (List ℕ)
  pub unfinished : List ℕ
  pub bytes : List ℕ
  pub read : gave bytes
  pub cut : parts bytes ≡ complete ++ unfinished ∷ []
  pub lines : List (List ℕ)
  pub are_lines : AreLines ended complete unfinished lines
  pub written : List ℕ
  pub wrote : took written
  pub answers : Answers machine state new ended read_failed write_failed complete unfinished lines written result

-- The same of a script that is in memory: a prefix of it was read, and no read failed.
abbrev pub RunsOver : {S : Type 0} → Machine S → (state new : S) →
    (script : List ℕ) (took : List ℕ → Type 0) (write_failed : Type 0) → Result (Unit {0}) Fault → Type 0
RunsOver machine state new script took write_failed result =
    (rest : List ℕ) × Runs machine state new (λ bytes. script ≡ bytes ++ rest) (rest ≡ []) ⊥ took write_failed result
