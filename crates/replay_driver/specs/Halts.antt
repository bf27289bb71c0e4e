-- How the reading of a script halts, before the session is told of the end and the last text is written.
use Rattle.std.specs.Prelude.{◌≡◌, ℕ, ◌≤◌, List, [], ◌∷◌, ◌++◌, length, None, Some, Result, Ok, Err, ◌⊎◌}
use Rattle.std.specs.List.{concat}
use Rattle.replay_driver.specs.Script.{Machine, Steps, replies, first_bad, IsOver, SomeLead, Stops, parts, last_line, AreLines}
use Rattle.replay_driver.specs.Steps.{Writes, EndStops, RunState}
use Rattle.replay_driver.specs.declared.fault.Fault.{Fault}
use Rattle.replay_driver.specs.declared.fault.Fault.TheVariants as faults

-- all of these lines were taken, or those before the first bad one
abbrev pub Taken : {S : Type 0} → Machine S → S → List (List ℕ) → S → List (List ℕ) → Type 0
Taken machine old lines new texts =
    (before : List (List ℕ)) × (others : List (List ℕ)) × (lines ≡ before ++ others)
    × Steps machine old before new texts × IsOver machine new others

-- the lines, the texts of the replies so far, and how the run then is
abbrev pub Halted : {S O : Type 0} → Machine S → (ended read_failed : Type 0) → (O → O → List ℕ → Type 0) →
    (write_failed : Type 0) → (old new : RunState S O) → (complete : List (List ℕ)) → (unfinished : List ℕ) →
    (lines texts : List (List ℕ)) → Result (Unit {0}) Fault → Type 0
Halted machine ended read_failed takes write_failed old new complete unfinished lines texts (Ok _) =
    ended × (lines ≡ complete ++ last_line unfinished) × (first_bad machine old.state lines ≡ None)
    × Taken machine old.state lines new.state texts × Writes takes old.sink old.text new.sink new.text (concat texts)
Halted machine ended read_failed takes write_failed old new complete unfinished lines texts (Err (faults.BadLine n)) =
    (first_bad machine old.state lines ≡ Some n) × Taken machine old.state lines new.state texts
    × Writes takes old.sink old.text new.sink new.text (concat texts)
Halted machine ended read_failed takes write_failed old new complete unfinished lines texts (Err faults.Read) =
    read_failed × (lines ≡ complete) × (length unfinished ≤ 120) × (first_bad machine old.state lines ≡ None)
    × Taken machine old.state lines new.state texts × Writes takes old.sink old.text new.sink new.text (concat texts)
Halted machine ended read_failed takes write_failed old new complete unfinished lines texts (Err faults.Write) =
    write_failed × SomeLead machine old.state lines new.state texts × (waiting : List ℕ)
    × Writes takes old.sink old.text new.sink waiting (concat texts)
Halted machine ended read_failed takes write_failed old new complete unfinished lines texts (Err faults.Memory) =
    (front : List ℕ) × Stops machine old.state new.state lines front
    × Writes takes old.sink old.text new.sink new.text front

pub record Halts {S O : Type 0} (machine : Machine S) (gave : List ℕ → Type 0) (ended read_failed : Type 0)
    (takes : O → O → List ℕ → Type 0) (write_failed : Type 0) (old new : RunState S O)
    (result : Result (Unit {0}) Fault) : Type 0 where
  pub complete : List (List ℕ)
  pub unfinished : List ℕ
  pub bytes : List ℕ
  pub read : gave bytes
  pub cut : parts bytes ≡ complete ++ unfinished ∷ []
  pub lines : List (List ℕ)
  pub are_lines : AreLines ended complete unfinished lines
  pub texts : List (List ℕ)
  pub more : List (List ℕ)
  pub all : replies machine old.state lines ≡ texts ++ more
  pub halted : Halted machine ended read_failed takes write_failed old new complete unfinished lines texts result

-- The session was told of the end, unless writing or memory had failed.
abbrev pub EndsLines : {S : Type 0} → Machine S → (state state' : S) → (text text' : List ℕ) →
    (halt result : Result (Unit {0}) Fault) → Type 0
EndsLines machine state state' text text' (Err faults.Memory) result =
    (result ≡ Err faults.Memory) × (text' ≡ text) × (state' ≡ state)
EndsLines machine state state' text text' (Err faults.Write) result =
    (result ≡ Err faults.Write) × (text' ≡ text) × (state' ≡ state)
EndsLines machine state state' text text' halt result =
    ((result ≡ halt) × (text' ≡ text ++ concat (machine.ending state)) × (state' ≡ machine.last state))
    ⊎ ((result ≡ Err faults.Memory) × EndStops machine state state' text text')
