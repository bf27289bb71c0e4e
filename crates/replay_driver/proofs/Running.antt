-- A whole run of a script.
use Rattle.std.proofs.Common.{◌≡◌, ℕ, ◌<◌, List, [], ◌∷◌, ◌++◌, length, take, drop, Result, Ok, Err, refl, sym, ◌∙◌, ap, append_assoc, inl, inr}
use Rattle.std.proofs.lemmas.List.{append-nil, take-append-drop}
use Rattle.std.specs.List.{concat}
use Rattle.replay_driver.specs.Script.{Machine, replies, text, state_after, LeadTo, StopsAmong, IsOver, RanOrNot, StopsNext, Stops, Runs}
use Rattle.replay_driver.specs.Steps.{Writes, EndStops, RunState}
use Rattle.replay_driver.specs.Halts.{Taken, Halts, EndsLines}
use Rattle.replay_driver.specs.declared.fault.Fault.{Fault}
use Rattle.replay_driver.specs.declared.fault.Fault.TheVariants as faults
use Rattle.replay_driver.proofs.Leads.{concat-append, replies-steps, state_after-steps, steps-append, steps-one}

-- what was written by the reading and by the last flush
total : {O : Type 0} (takes : O → O → List ℕ → Type 0) (more : (s t u : O) (xs ys : List ℕ) → takes s t xs → takes t u ys → takes s u (xs ++ ys)) (o p q : O) (text1 text2 rest a b : List ℕ) →
    Writes takes o [] p text1 a → text2 ≡ text1 ++ b → Writes takes p text2 q rest [] → (written : List ℕ) × takes o q written × (a ++ b ≡ written ++ rest)
total takes more o p q text1 text2 rest a b (w, took, split) added (v, took2, split2) = (
  w ++ v,
  more o p q w v took took2,
  ap (λ (xs : List ℕ). xs ++ b) split ∙ append_assoc w text1 b ∙ ap (λ (xs : List ℕ). w ++ xs) (sym added ∙ sym (append-nil text2) ∙ split2) ∙ sym (append_assoc w v rest),
)

split_at : (k : ℕ) (xs : List (List ℕ)) → concat xs ≡ concat (take k xs) ++ concat (drop k xs)
split_at k xs = ap concat (sym (take-append-drop k xs)) ∙ concat-append (take k xs) (drop k xs)

pub runs_without_memory : {S : Type 0} {machine : Machine S} {state : S} {gave : List ℕ → Type 0} {is_end read_failed write_failed : Type 0} {took : List ℕ → Type 0} →
    gave [] → took [] → Runs machine state state gave is_end read_failed took write_failed (Err faults.Memory)
runs_without_memory gave took = record {
  complete = [];
  unfinished = [];
  bytes = [];
  read = gave;
  cut = refl;
  lines = [];
  are_lines = inl refl;
  written = [];
  wrote = took;
  answers = inl (refl, refl, refl, refl);
}

said_all : (all texts more : List (List ℕ)) (written : List ℕ) → all ≡ texts ++ more → concat texts ++ concat more ≡ written ++ [] → written ≡ concat all
said_all all texts more written whole is = rw (whole, concat-append) (sym (append-nil written) ∙ sym is)

-- What is written is a prefix of the text.
begins_all : (all texts more : List (List ℕ)) (written rest : List ℕ) → all ≡ texts ++ more → concat texts ++ concat more ≡ written ++ rest → (others : List ℕ) × (concat all ≡ written ++ others)
begins_all all texts more written rest whole is = (rest, rw (whole, concat-append) is)

begins_front : (all front more written rest : List ℕ) → all ≡ front ++ more → front ≡ written ++ rest → (others : List ℕ) × (all ≡ written ++ others)
begins_front all front more written rest whole is =
    (rest ++ more, whole ∙ ap (λ (xs : List ℕ). xs ++ more) is ∙ append_assoc written rest more)

over_replies : {S : Type 0} (machine : Machine S) (state : S) (lines : List (List ℕ)) → IsOver machine state lines → replies machine state lines ≡ machine.ending state
over_replies machine state [] over = refl
over_replies machine state (line ∷ lines) over = rw over refl

taken_replies : {S : Type 0} (machine : Machine S) (old new : S) (lines texts : List (List ℕ)) → Taken machine old lines new texts → replies machine old lines ≡ texts ++ machine.ending new
taken_replies machine old new lines texts (before, others, are, steps, over) =
    rw are (replies-steps machine old new before others texts steps ∙ ap (λ (xs : List (List ℕ)). texts ++ xs) (over_replies machine new others over))

over_state : {S : Type 0} (machine : Machine S) (state : S) (lines : List (List ℕ)) → IsOver machine state lines → state_after machine state lines ≡ machine.last state
over_state machine state [] over = refl
over_state machine state (line ∷ lines) over = rw over refl

-- the state after the end of lines that were taken
taken_state : {S : Type 0} (machine : Machine S) (old new : S) (lines texts : List (List ℕ)) → Taken machine old lines new texts → state_after machine old lines ≡ machine.last new
taken_state machine old new lines texts (before, others, are, steps, over) =
    rw are (state_after-steps machine old new before others texts steps ∙ over_state machine new others over)

-- the same where memory was refused at the end, or was not
lead_end : {S : Type 0} (machine : Machine S) (old new state : S) (lines texts : List (List ℕ)) → Taken machine old lines new texts → RanOrNot new (machine.last new) state → LeadTo machine old lines state
lead_end machine old new state lines texts (before, others, are, steps, over) (inl same) = inl (texts, (before, others, are, rw same steps))
lead_end machine old new state lines texts taken (inr same) = inr (same ∙ sym (taken_state machine old new lines texts taken))

-- and where it was refused at a line
stops_lead : {S : Type 0} (machine : Machine S) (old new : S) (lines : List (List ℕ)) (written : List ℕ) → Stops machine old new lines written → LeadTo machine old lines new
stops_lead machine old new lines written (before, others, mid, texts, front, are, steps, inl (line, after, next, added, here, step, among, inl same), is) =
    inl (texts, (before, others, are, rw same steps))
stops_lead machine old new lines written (before, others, mid, texts, front, are, steps, inl (line, after, next, added, here, step, among, inr same), is) =
    inl (
      texts ++ added,
      (
        before ++ line ∷ [],
        after,
        are ∙ ap (λ (xs : List (List ℕ)). before ++ xs) here ∙ sym (append_assoc before (line ∷ []) after),
        rw same (steps-append machine old mid next before (line ∷ []) texts added steps (steps-one machine mid next line added step)),
      ),
    )
stops_lead machine old new lines written (before, others, mid, texts, front, are, steps, inr (over, some, among, moved), is) =
    lead_end machine old mid new lines texts (before, others, are, steps, over) moved

-- Where memory was refused, what was written is a prefix of the text too.
among_begins : (texts : List (List ℕ)) (front : List ℕ) → StopsAmong texts front → (more : List ℕ) × (concat texts ≡ front ++ more)
among_begins texts front (n, low, is) = (concat (drop n texts), split_at n texts ∙ ap (λ (xs : List ℕ). xs ++ concat (drop n texts)) (sym is))

next_begins : {S : Type 0} (machine : Machine S) (state new : S) (lines : List (List ℕ)) (front : List ℕ) → StopsNext machine state new lines front → (more : List ℕ) × (concat (replies machine state lines) ≡ front ++ more)
next_begins machine state new lines front (inl (line, after, last, texts, are, step, among, moved)) =
    let (more, split) = among_begins texts front among in
    let others = concat (replies machine last after) in
    (more ++ others, rw (are, step, concat-append) (ap (λ (xs : List ℕ). xs ++ others) split ∙ append_assoc front more others))
next_begins machine state new lines front (inr (over, some, among, moved)) =
    let (more, split) = among_begins (machine.ending state) front among in (more, ap concat (over_replies machine state lines over) ∙ split)

stops_begin : {S : Type 0} (machine : Machine S) (state new : S) (lines : List (List ℕ)) (written : List ℕ) → Stops machine state new lines written → (more : List ℕ) × (text machine state lines ≡ written ++ more)
stops_begin machine state new lines written (before, others, mid, texts, front, are, steps, next, is) =
    let (more, split) = next_begins machine mid new others front next in (
      more,
      rw (are, is) (ap concat (replies-steps machine state mid before others texts steps) ∙ concat-append texts (replies machine mid others) ∙ ap (λ (xs : List ℕ). concat texts ++ xs) split ∙ sym (append_assoc (concat texts) front more)),
    )

-- Memory was refused at the end of the lines.
stops_end : {S : Type 0} (machine : Machine S) (old new state : S) (lines texts : List (List ℕ)) (front written : List ℕ) → Taken machine old lines new texts → 0 < length (machine.ending new) → StopsAmong (machine.ending new) front →
    RanOrNot new (machine.last new) state → written ≡ concat texts ++ front → Stops machine old state lines written
stops_end machine old new state lines texts front written (before, others, are, steps, over) some among moved is =
    (before, others, new, texts, front, are, steps, inr (over, some, among, moved), is)

end_flushed : {S O : Type 0} {machine : Machine S} {takes : O → O → List ℕ → Type 0} (more : (s t u : O) (xs ys : List ℕ) → takes s t xs → takes t u ys → takes s u (xs ++ ys))
    {old state : S} {o q : O} {new : RunState S O} (text2 : List ℕ) {gave : List ℕ → Type 0} {is_end read_failed write_failed write_failed2 : Type 0} (halt : Result (Unit {0}) Fault)
    (h : Halts machine gave is_end read_failed takes write_failed (record { state = old; sink = o; text = [] }) new halt) → Taken machine old h.lines new.state h.texts → Writes takes o [] new.sink new.text (concat h.texts) → EndStops machine new.state state new.text text2 → Writes takes new.sink text2 q [] [] →
    Runs machine old state gave is_end read_failed (takes o q) write_failed2 (Err faults.Memory)
end_flushed {machine = machine} {takes = takes} more {old = old} {state = state} {o = o} {q = q} {new = new} text2 halt h taken wrote (front, some, among, added, moved) writes =
    let (written, took, is) = total takes more o new.sink q new.text text2 [] (concat h.texts) front wrote added writes in
    record {
      complete = h.complete;
      unfinished = h.unfinished;
      bytes = h.bytes;
      read = h.read;
      cut = h.cut;
      lines = h.lines;
      are_lines = h.are_lines;
      written = written;
      wrote = took;
      answers = inr (stops_end machine old new.state state h.lines h.texts front written taken some among moved (sym (append-nil written) ∙ sym is));
    }

end_unflushed : {S O : Type 0} {machine : Machine S} {takes : O → O → List ℕ → Type 0} (more : (s t u : O) (xs ys : List ℕ) → takes s t xs → takes t u ys → takes s u (xs ++ ys))
    {old state : S} {o q : O} {new : RunState S O} (text2 : List ℕ) {gave : List ℕ → Type 0} {is_end read_failed write_failed write_failed2 : Type 0} (halt : Result (Unit {0}) Fault)
    (h : Halts machine gave is_end read_failed takes write_failed (record { state = old; sink = o; text = [] }) new halt) → Taken machine old h.lines new.state h.texts → Writes takes o [] new.sink new.text (concat h.texts) → EndStops machine new.state state new.text text2 → write_failed2 → (rest : List ℕ) → Writes takes new.sink text2 q rest [] →
    Runs machine old state gave is_end read_failed (takes o q) write_failed2 (Err faults.Write)
end_unflushed {machine = machine} {takes = takes} more {old = old} {state = state} {o = o} {q = q} {new = new} text2 halt h taken wrote (front, some, among, added, moved) did_fail rest writes =
    let (written, took, is) = total takes more o new.sink q new.text text2 rest (concat h.texts) front wrote added writes in
    let whole = concat h.texts ++ front in
    let (others, begins) = stops_begin machine old state h.lines whole (stops_end machine old new.state state h.lines h.texts front whole taken some among moved refl) in
    record {
      complete = h.complete;
      unfinished = h.unfinished;
      bytes = h.bytes;
      read = h.read;
      cut = h.cut;
      lines = h.lines;
      are_lines = h.are_lines;
      written = written;
      wrote = took;
      answers = (let found = begins_front (text machine old h.lines) whole others written rest begins is in (did_fail, lead_end machine old new.state state h.lines h.texts taken moved, found.0, found.1));
    }

pub runs_flushed : {S O : Type 0} {machine : Machine S} {takes : O → O → List ℕ → Type 0} (more : (s t u : O) (xs ys : List ℕ) → takes s t xs → takes t u ys → takes s u (xs ++ ys))
    {old state : S} {o q : O} {new : RunState S O} (text2 : List ℕ) {gave : List ℕ → Type 0} {is_end read_failed write_failed write_failed2 : Type 0} (halt end : Result (Unit {0}) Fault) →
    Halts machine gave is_end read_failed takes write_failed (record { state = old; sink = o; text = [] }) new halt → EndsLines machine new.state state new.text text2 halt end → (end ≡ Err faults.Write → ⊥) → Writes takes new.sink text2 q [] [] →
    Runs machine old state gave is_end read_failed (takes o q) write_failed2 end
runs_flushed {machine = machine} {takes = takes} more {old = old} {state = state} {o = o} {q = q} {new = new} text2 (Ok u) end h (inl (same, added, moved)) differs writes =
    let (at_end, lines_are, none_bad, taken, wrote) = h.halted in
    let (written, took, is) = total takes more o new.sink q new.text text2 [] (concat h.texts) (concat (machine.ending new.state)) wrote added writes in
    let said : written ≡ text machine old h.lines = said_all _ h.texts (machine.ending new.state) written (taken_replies machine old new.state h.lines h.texts taken) is in
    rw same (record { complete = h.complete; unfinished = h.unfinished; bytes = h.bytes; read = h.read; cut = h.cut; lines = h.lines; are_lines = h.are_lines; written = written; wrote = took; answers = (at_end, lines_are, none_bad, said, moved ∙ sym (taken_state machine old new.state h.lines h.texts taken)) })
runs_flushed {machine = machine} {takes = takes} more {old = old} {state = state} {o = o} {q = q} {new = new} text2 (Ok u) end h (inr (same, refused)) differs writes =
    let (at_end, lines_are, none_bad, taken, wrote) = h.halted in
    rw same (end_flushed more text2 (Ok u) h taken wrote refused writes)
runs_flushed {machine = machine} {takes = takes} more {old = old} {state = state} {o = o} {q = q} {new = new} text2 (Err (faults.BadLine line)) end h (inl (same, added, moved)) differs writes =
    let (bad, taken, wrote) = h.halted in
    let (written, took, is) = total takes more o new.sink q new.text text2 [] (concat h.texts) (concat (machine.ending new.state)) wrote added writes in
    let said : written ≡ text machine old h.lines = said_all _ h.texts (machine.ending new.state) written (taken_replies machine old new.state h.lines h.texts taken) is in
    rw same (record { complete = h.complete; unfinished = h.unfinished; bytes = h.bytes; read = h.read; cut = h.cut; lines = h.lines; are_lines = h.are_lines; written = written; wrote = took; answers = (bad, said, moved ∙ sym (taken_state machine old new.state h.lines h.texts taken)) })
runs_flushed {machine = machine} {takes = takes} more {old = old} {state = state} {o = o} {q = q} {new = new} text2 (Err (faults.BadLine line)) end h (inr (same, refused)) differs writes =
    let (bad, taken, wrote) = h.halted in
    rw same (end_flushed more text2 (Err (faults.BadLine line)) h taken wrote refused writes)
runs_flushed {machine = machine} {takes = takes} more {old = old} {state = state} {o = o} {q = q} {new = new} text2 (Err faults.Read) end h (inl (same, added, moved)) differs writes =
    let (did_fail, lines_are, short, none_bad, taken, wrote) = h.halted in
    let (written, took, is) = total takes more o new.sink q new.text text2 [] (concat h.texts) (concat (machine.ending new.state)) wrote added writes in
    let said : written ≡ text machine old h.lines = said_all _ h.texts (machine.ending new.state) written (taken_replies machine old new.state h.lines h.texts taken) is in
    rw same (record { complete = h.complete; unfinished = h.unfinished; bytes = h.bytes; read = h.read; cut = h.cut; lines = h.lines; are_lines = h.are_lines; written = written; wrote = took; answers = (did_fail, lines_are, short, none_bad, said, moved ∙ sym (taken_state machine old new.state h.lines h.texts taken)) })
runs_flushed {machine = machine} {takes = takes} more {old = old} {state = state} {o = o} {q = q} {new = new} text2 (Err faults.Read) end h (inr (same, refused)) differs writes =
    let (did_fail, lines_are, short, none_bad, taken, wrote) = h.halted in
    rw same (end_flushed more text2 (Err faults.Read) h taken wrote refused writes)
runs_flushed {machine = machine} {takes = takes} more {old = old} {state = state} {o = o} {q = q} {new = new} text2 (Err faults.Memory) end h (same, kept, unmoved) differs writes =
    let (front, stops, wrote) = h.halted in
    let (written, took, is) = total takes more o new.sink q new.text text2 [] front [] wrote (kept ∙ sym (append-nil new.text)) writes in
    let all : front ≡ written = sym (append-nil front) ∙ is ∙ append-nil written in
    rw same (record { complete = h.complete; unfinished = h.unfinished; bytes = h.bytes; read = h.read; cut = h.cut; lines = h.lines; are_lines = h.are_lines; written = written; wrote = took; answers = inr (rw (← all, unmoved) stops) })
runs_flushed {machine = machine} {takes = takes} more {old = old} {state = state} {o = o} {q = q} {new = new} text2 (Err faults.Write) end h (same, kept, unmoved) differs writes = absurd (differs same)

pub runs_unflushed : {S O : Type 0} {machine : Machine S} {takes : O → O → List ℕ → Type 0} (more : (s t u : O) (xs ys : List ℕ) → takes s t xs → takes t u ys → takes s u (xs ++ ys))
    {old state : S} {o q : O} {new : RunState S O} (text2 : List ℕ) {gave : List ℕ → Type 0} {is_end read_failed write_failed write_failed2 : Type 0} (halt end : Result (Unit {0}) Fault) →
    Halts machine gave is_end read_failed takes write_failed (record { state = old; sink = o; text = [] }) new halt → EndsLines machine new.state state new.text text2 halt end → (end ≡ Err faults.Write → ⊥) → write_failed2 → (rest : List ℕ) → Writes takes new.sink text2 q rest [] →
    Runs machine old state gave is_end read_failed (takes o q) write_failed2 (Err faults.Write)
runs_unflushed {machine = machine} {takes = takes} more {old = old} {state = state} {o = o} {q = q} {new = new} text2 (Ok u) end h (inl (same, added, moved)) differs did_fail rest writes =
    let (at_end, lines_are, none_bad, taken, wrote) = h.halted in
    let (written, took, is) = total takes more o new.sink q new.text text2 rest (concat h.texts) (concat (machine.ending new.state)) wrote added writes in
    record { complete = h.complete; unfinished = h.unfinished; bytes = h.bytes; read = h.read; cut = h.cut; lines = h.lines; are_lines = h.are_lines; written = written; wrote = took; answers = (let found = begins_all _ h.texts (machine.ending new.state) written rest (taken_replies machine old new.state h.lines h.texts taken) is in (did_fail, inr (moved ∙ sym (taken_state machine old new.state h.lines h.texts taken)), found.0, found.1)) }
runs_unflushed {machine = machine} {takes = takes} more {old = old} {state = state} {o = o} {q = q} {new = new} text2 (Ok u) end h (inr (same, refused)) differs did_fail rest writes =
    let (at_end, lines_are, none_bad, taken, wrote) = h.halted in
    end_unflushed more text2 (Ok u) h taken wrote refused did_fail rest writes
runs_unflushed {machine = machine} {takes = takes} more {old = old} {state = state} {o = o} {q = q} {new = new} text2 (Err (faults.BadLine line)) end h (inl (same, added, moved)) differs did_fail rest writes =
    let (bad, taken, wrote) = h.halted in
    let (written, took, is) = total takes more o new.sink q new.text text2 rest (concat h.texts) (concat (machine.ending new.state)) wrote added writes in
    record { complete = h.complete; unfinished = h.unfinished; bytes = h.bytes; read = h.read; cut = h.cut; lines = h.lines; are_lines = h.are_lines; written = written; wrote = took; answers = (let found = begins_all _ h.texts (machine.ending new.state) written rest (taken_replies machine old new.state h.lines h.texts taken) is in (did_fail, inr (moved ∙ sym (taken_state machine old new.state h.lines h.texts taken)), found.0, found.1)) }
runs_unflushed {machine = machine} {takes = takes} more {old = old} {state = state} {o = o} {q = q} {new = new} text2 (Err (faults.BadLine line)) end h (inr (same, refused)) differs did_fail rest writes =
    let (bad, taken, wrote) = h.halted in
    end_unflushed more text2 (Err (faults.BadLine line)) h taken wrote refused did_fail rest writes
runs_unflushed {machine = machine} {takes = takes} more {old = old} {state = state} {o = o} {q = q} {new = new} text2 (Err faults.Read) end h (inl (same, added, moved)) differs did_fail rest writes =
    let (read_fail, lines_are, short, none_bad, taken, wrote) = h.halted in
    let (written, took, is) = total takes more o new.sink q new.text text2 rest (concat h.texts) (concat (machine.ending new.state)) wrote added writes in
    record { complete = h.complete; unfinished = h.unfinished; bytes = h.bytes; read = h.read; cut = h.cut; lines = h.lines; are_lines = h.are_lines; written = written; wrote = took; answers = (let found = begins_all _ h.texts (machine.ending new.state) written rest (taken_replies machine old new.state h.lines h.texts taken) is in (did_fail, inr (moved ∙ sym (taken_state machine old new.state h.lines h.texts taken)), found.0, found.1)) }
runs_unflushed {machine = machine} {takes = takes} more {old = old} {state = state} {o = o} {q = q} {new = new} text2 (Err faults.Read) end h (inr (same, refused)) differs did_fail rest writes =
    let (read_fail, lines_are, short, none_bad, taken, wrote) = h.halted in
    end_unflushed more text2 (Err faults.Read) h taken wrote refused did_fail rest writes
runs_unflushed {machine = machine} {takes = takes} more {old = old} {state = state} {o = o} {q = q} {new = new} text2 (Err faults.Memory) end h (same, kept, unmoved) differs did_fail rest writes =
    let (front, stops, wrote) = h.halted in
    let (written, took, is) = total takes more o new.sink q new.text text2 rest front [] wrote (kept ∙ sym (append-nil new.text)) writes in
    let (others, begins) = stops_begin machine old new.state h.lines front stops in
    record { complete = h.complete; unfinished = h.unfinished; bytes = h.bytes; read = h.read; cut = h.cut; lines = h.lines; are_lines = h.are_lines; written = written; wrote = took; answers = (let found = begins_front (text machine old h.lines) front others written rest begins (sym (append-nil front) ∙ is) in (did_fail, rw unmoved (stops_lead machine old new.state h.lines front stops), found.0, found.1)) }
runs_unflushed {machine = machine} {takes = takes} more {old = old} {state = state} {o = o} {q = q} {new = new} text2 (Err faults.Write) end h (same, kept, unmoved) differs did_fail rest writes = absurd (differs same)

pub runs_unwritten : {S O : Type 0} {machine : Machine S} {takes : O → O → List ℕ → Type 0} {old state : S} {o : O} {new : RunState S O} (text2 : List ℕ) {gave : List ℕ → Type 0} {is_end read_failed write_failed : Type 0} (halt end : Result (Unit {0}) Fault) →
    Halts machine gave is_end read_failed takes write_failed (record { state = old; sink = o; text = [] }) new halt → EndsLines machine new.state state new.text text2 halt end → end ≡ Err faults.Write →
    Runs machine old state gave is_end read_failed (takes o new.sink) write_failed (Err faults.Write)
runs_unwritten text2 (Ok u) end h (inl (same, added, moved)) stopped = let e = sym same ∙ stopped in cc
runs_unwritten text2 (Ok u) end h (inr (same, added)) stopped = let e = sym same ∙ stopped in cc
runs_unwritten text2 (Err (faults.BadLine line)) end h (inl (same, added, moved)) stopped = let e = sym same ∙ stopped in cc
runs_unwritten text2 (Err (faults.BadLine line)) end h (inr (same, added)) stopped = let e = sym same ∙ stopped in cc
runs_unwritten text2 (Err faults.Read) end h (inl (same, added, moved)) stopped = let e = sym same ∙ stopped in cc
runs_unwritten text2 (Err faults.Read) end h (inr (same, added)) stopped = let e = sym same ∙ stopped in cc
runs_unwritten text2 (Err faults.Memory) end h (same, kept, unmoved) stopped = let e = sym same ∙ stopped in cc
runs_unwritten {machine = machine} {old = old} {state = state} text2 (Err faults.Write) end h (same, kept, unmoved) stopped =
    let (did_fail, (some, others, are, steps), waiting, (written, took, is)) = h.halted in
    record {
      complete = h.complete;
      unfinished = h.unfinished;
      bytes = h.bytes;
      read = h.read;
      cut = h.cut;
      lines = h.lines;
      are_lines = h.are_lines;
      written = written;
      wrote = took;
      answers = (let found = begins_front (text machine old h.lines) (concat h.texts) (concat h.more) written waiting (ap concat h.all ∙ concat-append h.texts h.more) is in (did_fail, inl (h.texts, (some, others, are, rw unmoved steps)), found.0, found.1));
    }

pub from_empty : {S O : Type 0} {machine : Machine S} {old : S} {o : O} {start : List ℕ} {new : RunState S O} {gave : List ℕ → Type 0} {is_end read_failed : Type 0} {takes : O → O → List ℕ → Type 0} {write_failed : Type 0} {halt : Result (Unit {0}) Fault} →
    Halts machine gave is_end read_failed takes write_failed (record { state = old; sink = o; text = start }) new halt → start ≡ [] → Halts machine gave is_end read_failed takes write_failed (record { state = old; sink = o; text = [] }) new halt
from_empty h empty = rw empty at h
