-- A script of which all was read.
use Rattle.std.proofs.Common.{◌≡◌, ℕ, List, [], ◌∷◌, ◌++◌, Some, Result, Ok, Err, OnOk, refl, sym, ◌∙◌, ap, inl, inr}
use Rattle.std.proofs.lemmas.List.{append-nil}
use Rattle.replay_driver.specs.Script.{Machine, AreLines, Answers, Runs, parts, last_line, lines_of, without_empty_last, AnswersAll}
use Rattle.replay_driver.specs.Known.{Gives}
use Rattle.replay_driver.specs.declared.fault.Fault.{Fault}
use Rattle.replay_driver.specs.declared.fault.Fault.TheVariants as faults

whole_lines : (complete : List (List ℕ)) (unfinished : List ℕ) → without_empty_last (complete ++ unfinished ∷ []) ≡ complete ++ last_line unfinished
whole_lines [] unfinished = refl
whole_lines (line ∷ []) unfinished = refl
whole_lines (line ∷ next ∷ rest) unfinished = ap (λ (lines : List (List ℕ)). line ∷ lines) (whole_lines (next ∷ rest) unfinished)

-- what was read up to the end of known bytes is all of them
pub gave_all : (script left bytes : List ℕ) (ended ended' : Type 0) → Gives (Some script) (Some left) ended ended' bytes → left ≡ [] → bytes ≡ script
gave_all script left bytes ended ended' gave none = sym (gave.0 ∙ ap (λ (rest : List ℕ). bytes ++ rest) none ∙ append-nil bytes)

pub ran_whole : {S : Type 0} {machine : Machine S} {state new : S} {gave : List ℕ → Type 0} {ended read_failed : Type 0} {took : List ℕ → Type 0} {write_failed : Type 0}
    (script : List ℕ) (result : Result (Unit {0}) Fault) → Runs machine state new gave ended read_failed took write_failed result → ((bytes : List ℕ) → gave bytes → ended → bytes ≡ script) →
    OnOk result (AnswersAll machine state new script took)
ran_whole {machine = machine} {state = state} {took = took} script (Ok done) h all =
    let (at_end, are, good, said, moved) = h.answers in
    let is : h.lines ≡ lines_of script = are ∙ sym (whole_lines h.complete h.unfinished) ∙ ap without_empty_last (sym h.cut ∙ ap parts (all h.bytes h.read at_end)) in
    (rw is at good, rw (said, is) at h.wrote, rw is at moved)
ran_whole script (Err fault) h all = tt

lines_over : (ended ended' : Type 0) (complete : List (List ℕ)) (unfinished : List ℕ) (lines : List (List ℕ)) → (ended → ended') → AreLines ended complete unfinished lines → AreLines ended' complete unfinished lines
lines_over ended ended' complete unfinished lines ends (inl are) = inl are
lines_over ended ended' complete unfinished lines ends (inr (inl at_end, are)) = inr (inl (ends at_end), are)
lines_over ended ended' complete unfinished lines ends (inr (inr long, are)) = inr (inr long, are)

answers_over : {S : Type 0} (machine : Machine S) (state new : S) (ended ended' read_failed write_failed : Type 0) (complete : List (List ℕ)) (unfinished : List ℕ) (lines : List (List ℕ)) (written : List ℕ) (result : Result (Unit {0}) Fault) →
    (ended → ended') → Answers machine state new ended read_failed write_failed complete unfinished lines written result → Answers machine state new ended' read_failed write_failed complete unfinished lines written result
answers_over machine state new ended ended' read_failed write_failed complete unfinished lines written (Ok done) ends (at_end, are, good, said, moved) = (ends at_end, are, good, said, moved)
answers_over machine state new ended ended' read_failed write_failed complete unfinished lines written (Err (faults.BadLine n)) ends h = h
answers_over machine state new ended ended' read_failed write_failed complete unfinished lines written (Err faults.Read) ends h = h
answers_over machine state new ended ended' read_failed write_failed complete unfinished lines written (Err faults.Write) ends h = h
answers_over machine state new ended ended' read_failed write_failed complete unfinished lines written (Err faults.Memory) ends h = h

pub ran_over : {S : Type 0} {machine : Machine S} {state new : S} {gave gave' : List ℕ → Type 0} {ended ended' read_failed : Type 0} {took : List ℕ → Type 0} {write_failed : Type 0} (result : Result (Unit {0}) Fault) →
    Runs machine state new gave ended read_failed took write_failed result → ((bytes : List ℕ) → gave bytes → gave' bytes) → (ended → ended') → Runs machine state new gave' ended' read_failed took write_failed result
ran_over {machine = machine} {state = state} {new = new} result h gives ends = record {
  complete = h.complete;
  unfinished = h.unfinished;
  bytes = h.bytes;
  read = gives h.bytes h.read;
  cut = h.cut;
  lines = h.lines;
  are_lines = lines_over _ _ h.complete h.unfinished h.lines ends h.are_lines;
  written = h.written;
  wrote = h.wrote;
  answers = answers_over machine state new _ _ _ _ h.complete h.unfinished h.lines h.written result ends h.answers;
}
