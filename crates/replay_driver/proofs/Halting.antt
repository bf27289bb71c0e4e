-- How the reading of a script halts.
use Rattle.std.proofs.Common.{◌≡◌, ℕ, ◌+◌, ◌<◌, ◌≤◌, List, [], ◌∷◌, ◌++◌, length, take, drop, Some, None, Ok, Err, true, refl, sym, ◌∙◌, ap, arith, append_assoc, length-append, length-take, ◌^◌, nat_lt, nat_eq, inl, inr}
use Rattle.std.proofs.lemmas.List.{append-nil}
use Rattle.std.proofs.lemmas.List.Concat.{flat_map-append}
use Rattle.std.proofs.lemmas.List.Splits.{slice_split_at, slice_split_none, length-slice_split}
use Rattle.std.proofs.lemmas.Bool.Decides.{nat_tests}
use Rattle.std.specs.List.{concat, flat_map, AllByRecursion}
use Rattle.replay_driver.specs.Script.{Machine, step_of, Steps, replies, parts, last_line}
use Rattle.replay_driver.specs.Steps.{with_line_feed, HasNoFeed, Writes, Leads, RunState, Progress, SoFar, TakesLines, TakesLast, fault_of}
use Rattle.replay_driver.specs.Halts.{Halts}
use Rattle.replay_driver.specs.declared.fault.Fault.TheVariants as faults
use Rattle.replay_driver.specs.declared.session.Stop.{Stop}
use Rattle.replay_driver.specs.declared.session.Stop.TheVariants as stops
use Rattle.replay_driver.proofs.Leads.{concat-append, steps-append, steps-one, replies-steps, first_bad-steps, first_bad-at, all-append, writes_more}

feeds : (lines : List (List ℕ)) → length lines ≤ length (flat_map with_line_feed lines)
feeds [] = omega arith
feeds (line ∷ lines) = let h = feeds lines in simp length-append (omega arith)

pub parts-after : (lines : List (List ℕ)) (rest : List ℕ) → AllByRecursion HasNoFeed lines → parts (flat_map with_line_feed lines ++ rest) ≡ lines ++ parts rest
parts-after [] rest clean = refl
parts-after (line ∷ lines) rest (first, others) =
    let regroup : (with_line_feed line ++ flat_map with_line_feed lines) ++ rest ≡ line ++ 10 ∷ (flat_map with_line_feed lines ++ rest) = rw (append_assoc, append_assoc) refl in
    rw regroup (slice_split_at (λ b. nat_eq b 10) line 10 (flat_map with_line_feed lines ++ rest) first refl ∙ ap (λ (xs : List (List ℕ)). line ∷ xs) (parts-after lines rest others))

pub parts-clean : (rest : List ℕ) → HasNoFeed rest → parts rest ≡ rest ∷ []
parts-clean rest clean = slice_split_none (λ b. nat_eq b 10) rest clean

last_of : {A : Type 0} (xs : List A) → 0 < length xs → (front : List A) × (last : A) × (xs ≡ front ++ last ∷ [])
last_of [] lt = absurd (omega arith)
last_of (x ∷ []) lt = ([], x, refl)
last_of (x ∷ y ∷ xs) lt =
    let (front, last, split) = last_of (y ∷ xs) (omega arith) in (x ∷ front, last, ap (λ zs. x ∷ zs) split)

length_front_of : (n : ℕ) (xs : List ℕ) → n ≤ length xs → length (take n xs) ≡ n
length_front_of n xs le = omega (arith, length-take n xs)

-- there is a last part
pub parts-last : (bytes : List ℕ) → (front : List (List ℕ)) × (last : List ℕ) × (parts bytes ≡ front ++ last ∷ [])
parts-last bytes = last_of (parts bytes) (omega (arith, length-slice_split (λ b. nat_eq b 10) bytes))

pub leads_joined : {S : Type 0} {machine : Machine S} {old mid new : S} {bytes rest rest2 : List ℕ} {lines lines2 texts texts2 : List (List ℕ)} →
    Leads machine old bytes lines rest mid texts → Leads machine mid rest lines2 rest2 new texts2 → Leads machine old bytes (lines ++ lines2) rest2 new (texts ++ texts2)
leads_joined {machine = machine} {rest2 = rest2} {lines = lines} {lines2 = lines2} a b = record {
  cut = a.cut ∙ ap (λ (xs : List ℕ). flat_map with_line_feed lines ++ xs) b.cut ∙ sym (append_assoc (flat_map with_line_feed lines) (flat_map with_line_feed lines2) rest2) ∙ ap (λ (xs : List ℕ). xs ++ rest2) (sym (flat_map-append with_line_feed lines lines2));
  no_feed = all-append HasNoFeed lines lines2 a.no_feed b.no_feed;
  steps = steps-append machine _ _ _ lines lines2 _ _ a.steps b.steps;
}

pub counted_le : {S O : Type 0} {machine : Machine S} {takes : O → O → List ℕ → Type 0} {old new : RunState S O} {bytes rest : List ℕ} {n : ℕ} →
    SoFar machine takes bytes rest old new n → n + length rest ≤ length bytes
counted_le so_far = rw (so_far.leads.cut, length-append, so_far.counted) (let h = feeds so_far.lines in omega arith)

pub extended : {S O : Type 0} {machine : Machine S} {takes : O → O → List ℕ → Type 0} {old new : RunState S O} {bytes rest : List ℕ} {n : ℕ} →
    SoFar machine takes bytes rest old new n → (more : List ℕ) → SoFar machine takes (bytes ++ more) (rest ++ more) old new n
extended {rest = rest} so_far more = record {
  lines = so_far.lines;
  texts = so_far.texts;
  leads = record { cut = ap (λ (xs : List ℕ). xs ++ more) so_far.leads.cut ∙ append_assoc (flat_map with_line_feed so_far.lines) rest more; no_feed = so_far.leads.no_feed; steps = so_far.leads.steps };
  counted = so_far.counted;
  writes = so_far.writes;
}

pub joined : {S O : Type 0} {machine : Machine S} {takes : O → O → List ℕ → Type 0} (more : (s t u : O) (xs ys : List ℕ) → takes s t xs → takes t u ys → takes s u (xs ++ ys)) {old mid : RunState S O} {new : Progress S O} {bytes rest : List ℕ} {n used : ℕ} → (failed : Type 0) →
    SoFar machine takes bytes rest old mid n → TakesLines machine takes failed rest (record { run = mid; count = n }) new (Ok used) →
    SoFar machine takes bytes (drop used rest) old new.run new.count
joined {takes = takes} more failed so_far (lines, texts, leads, within, clean, counted, writes) = record {
  lines = so_far.lines ++ lines;
  texts = so_far.texts ++ texts;
  leads = leads_joined so_far.leads leads;
  counted = rw length-append (counted ∙ ap (λ k. k + length lines) so_far.counted);
  writes = rw concat-append (writes_more takes more _ _ _ _ _ _ _ _ so_far.writes writes);
}

-- More bytes were read after those that are held.
pub grown : {S O : Type 0} {machine : Machine S} {takes : O → O → List ℕ → Type 0} {old new : RunState S O} {bytes rest : List ℕ} {n : ℕ} →
    SoFar machine takes bytes rest old new n → (more now block seen : List ℕ) (held end room left : ℕ) → now ≡ rest ++ more →
    held ≤ length block → rest ≡ take held block → end ≤ length seen → now ≡ take end seen →
    end + left ≡ held + room → length bytes + room ≤ 2 ^ 63 →
    (length (bytes ++ more) + left ≤ 2 ^ 63) × SoFar machine takes (bytes ++ more) now old new n × (n + length now ≤ 2 ^ 63)
grown {bytes = bytes} {rest = rest} {n = n} so_far more now block seen held end room left join within is_rest within2 is_now fewer bound =
    let wider = extended so_far more in
    let sizes : length now ≡ length rest + length more = ap length join ∙ length-append rest more in
    let size_rest : length rest ≡ held = ap length is_rest ∙ length_front_of held block within in
    let size_now : length now ≡ end = ap length is_now ∙ length_front_of end seen within2 in
    let total : length (bytes ++ more) ≡ length bytes + length more = length-append bytes more in
    let small : length (bytes ++ more) + left ≤ 2 ^ 63 = omega arith in
    let so_far_now = rw (← join) at wider in
    let le = counted_le so_far_now in
    (small, so_far_now, omega arith)

-- The source failed.
pub halts_unread : {S O : Type 0} {machine : Machine S} {takes : O → O → List ℕ → Type 0} {old new : RunState S O} {bytes rest : List ℕ} {n : ℕ} {gave : List ℕ → Type 0} {is_end read_failed write_failed : Type 0} →
    SoFar machine takes bytes rest old new n → gave bytes → HasNoFeed rest → length rest ≤ 120 → read_failed →
    Halts machine gave is_end read_failed takes write_failed old new (Err faults.Read)
halts_unread {machine = machine} {old = old} {new = new} {bytes = bytes} {rest = rest} so_far gave clean short did_fail = record {
  complete = so_far.lines;
  unfinished = rest;
  bytes = bytes;
  read = gave;
  cut = ap parts so_far.leads.cut ∙ parts-after so_far.lines rest so_far.leads.no_feed ∙ ap (λ (xs : List (List ℕ)). so_far.lines ++ xs) (parts-clean rest clean);
  lines = so_far.lines;
  are_lines = inl refl;
  texts = so_far.texts;
  more = machine.ending new.state;
  all = ap (replies machine old.state) (sym (append-nil so_far.lines)) ∙ replies-steps machine old.state new.state so_far.lines [] so_far.texts so_far.leads.steps;
  halted = (did_fail, refl, short, first_bad-steps machine old.state new.state so_far.lines so_far.texts so_far.leads.steps, (so_far.lines, [], sym (append-nil so_far.lines), so_far.leads.steps, tt), so_far.writes);
}

-- The input ended, and the last line is good.
pub halts_ended : {S O : Type 0} {machine : Machine S} {takes : O → O → List ℕ → Type 0} (more : (s t u : O) (xs ys : List ℕ) → takes s t xs → takes t u ys → takes s u (xs ++ ys))
    {old mid new : RunState S O} {bytes rest : List ℕ} {n : ℕ} {gave : List ℕ → Type 0} {is_end read_failed write_failed : Type 0} →
    SoFar machine takes bytes rest old mid n → gave bytes → HasNoFeed rest → is_end → TakesLast machine takes write_failed rest mid new (Ok tt) →
    Halts machine gave is_end read_failed takes write_failed old new (Ok tt)
halts_ended {machine = machine} {takes = takes} more {old = old} {mid = mid} {new = new} {bytes = bytes} {rest = rest} so_far gave clean at_end (added, steps, writes) =
    let lines = so_far.lines ++ last_line rest in
    let texts = so_far.texts ++ added in
    let whole : Steps machine old.state lines new.state texts = steps-append machine old.state mid.state new.state so_far.lines (last_line rest) so_far.texts added so_far.leads.steps steps in
    record {
      complete = so_far.lines;
      unfinished = rest;
      bytes = bytes;
      read = gave;
      cut = ap parts so_far.leads.cut ∙ parts-after so_far.lines rest so_far.leads.no_feed ∙ ap (λ (xs : List (List ℕ)). so_far.lines ++ xs) (parts-clean rest clean);
      lines = lines;
      are_lines = inr (inl at_end, refl);
      texts = texts;
      more = machine.ending new.state;
      all = ap (replies machine old.state) (sym (append-nil lines)) ∙ replies-steps machine old.state new.state lines [] texts whole;
      halted = (at_end, refl, first_bad-steps machine old.state new.state lines texts whole, (lines, [], sym (append-nil lines), whole, tt), rw concat-append (writes_more takes more _ _ _ _ _ _ _ _ so_far.writes writes));
    }

-- The sink failed, after complete lines.
pub halts_unwritten : {S O : Type 0} {machine : Machine S} {takes : O → O → List ℕ → Type 0} (more : (s t u : O) (xs ys : List ℕ) → takes s t xs → takes t u ys → takes s u (xs ++ ys))
    {old new : RunState S O} {q : O} {text2 bytes rest : List ℕ} {n : ℕ} {gave : List ℕ → Type 0} {is_end read_failed write_failed : Type 0} →
    SoFar machine takes bytes rest old new n → gave bytes → HasNoFeed rest → write_failed → (waiting : List ℕ) → Writes takes new.sink new.text q waiting [] →
    Halts machine gave is_end read_failed takes write_failed old (record { state = new.state; sink = q; text = text2 }) (Err faults.Write)
halts_unwritten {machine = machine} {takes = takes} more {old = old} {new = new} {bytes = bytes} {rest = rest} so_far gave clean did_fail waiting writes = record {
  complete = so_far.lines;
  unfinished = rest;
  bytes = bytes;
  read = gave;
  cut = ap parts so_far.leads.cut ∙ parts-after so_far.lines rest so_far.leads.no_feed ∙ ap (λ (xs : List (List ℕ)). so_far.lines ++ xs) (parts-clean rest clean);
  lines = so_far.lines;
  are_lines = inl refl;
  texts = so_far.texts;
  more = machine.ending new.state;
  all = ap (replies machine old.state) (sym (append-nil so_far.lines)) ∙ replies-steps machine old.state new.state so_far.lines [] so_far.texts so_far.leads.steps;
  halted = (
    did_fail,
    (so_far.lines, [], sym (append-nil so_far.lines), so_far.leads.steps),
    waiting,
    rw append-nil at (writes_more takes more _ _ _ _ _ _ (concat so_far.texts) [] so_far.writes writes),
  );
}

long_bad : {S : Type 0} (machine : Machine S) (state : S) (line : List ℕ) → 120 < length line → step_of machine state line ≡ None
long_bad machine state line long = let is : nat_lt 120 (length line) ≡ true = grind (arith, nat_tests) in rw is refl

some_line : (line : List ℕ) → 0 < length line → last_line line ≡ line ∷ []
some_line [] lt = absurd (omega arith)
some_line (b ∷ line) lt = refl

-- A line is too long before its line feed was read.
pub halts_long : {S O : Type 0} {machine : Machine S} {takes : O → O → List ℕ → Type 0} {old new : RunState S O} {bytes rest : List ℕ} {n : ℕ} {gave : List ℕ → Type 0} {is_end read_failed write_failed : Type 0} →
    SoFar machine takes bytes rest old new n → gave bytes → HasNoFeed rest → 120 < length rest →
    Halts machine gave is_end read_failed takes write_failed old new (Err (faults.BadLine (n + 1)))
halts_long {machine = machine} {old = old} {new = new} {bytes = bytes} {rest = rest} {n = n} so_far gave clean long =
    let bad = long_bad machine new.state rest long in
    let one : last_line rest ≡ rest ∷ [] = some_line rest (omega arith) in
    record {
      complete = so_far.lines;
      unfinished = rest;
      bytes = bytes;
      read = gave;
      cut = ap parts so_far.leads.cut ∙ parts-after so_far.lines rest so_far.leads.no_feed ∙ ap (λ (xs : List (List ℕ)). so_far.lines ++ xs) (parts-clean rest clean);
      lines = so_far.lines ++ last_line rest;
      are_lines = inr (inr long, refl);
      texts = so_far.texts;
      more = machine.ending new.state;
      all = rw one (replies-steps machine old.state new.state so_far.lines (rest ∷ []) so_far.texts so_far.leads.steps ∙ ap (λ (xs : List (List ℕ)). so_far.texts ++ xs) (rw bad refl));
      halted = (rw one (first_bad-at machine old.state new.state so_far.lines [] rest so_far.texts so_far.leads.steps bad ∙ ap (λ k. Some (k + 1)) (sym so_far.counted)), (so_far.lines, last_line rest, refl, so_far.leads.steps, rw one bad), so_far.writes);
    }

-- The last line, which has no line feed, stops the script.
pub halts_last : {S O : Type 0} {machine : Machine S} {takes : O → O → List ℕ → Type 0} (more : (s t u : O) (xs ys : List ℕ) → takes s t xs → takes t u ys → takes s u (xs ++ ys))
    {old mid new : RunState S O} {bytes rest : List ℕ} {n : ℕ} {gave : List ℕ → Type 0} {is_end read_failed write_failed : Type 0} (stop : Stop) →
    SoFar machine takes bytes rest old mid n → gave bytes → HasNoFeed rest → is_end → TakesLast machine takes write_failed rest mid new (Err stop) →
    Halts machine gave is_end read_failed takes write_failed old new (Err (fault_of stop (n + 1)))
halts_last {machine = machine} {takes = takes} more {old = old} {mid = mid} {new = new} {bytes = bytes} {rest = rest} {gave = gave} stops.Bad so_far gave_them clean at_end (some, (step, same, writes)) =
    let one : last_line rest ≡ rest ∷ [] = some_line rest some in
    let bad : step_of machine new.state rest ≡ None = rw same step in
    let led : Steps machine old.state so_far.lines new.state so_far.texts = rw same so_far.leads.steps in
    record {
      complete = so_far.lines;
      unfinished = rest;
      bytes = bytes;
      read = gave_them;
      cut = ap parts so_far.leads.cut ∙ parts-after so_far.lines rest so_far.leads.no_feed ∙ ap (λ (xs : List (List ℕ)). so_far.lines ++ xs) (parts-clean rest clean);
      lines = so_far.lines ++ last_line rest;
      are_lines = inr (inl at_end, refl);
      texts = so_far.texts;
      more = machine.ending new.state;
      all = rw one (replies-steps machine old.state new.state so_far.lines (rest ∷ []) so_far.texts led ∙ ap (λ (xs : List (List ℕ)). so_far.texts ++ xs) (rw bad refl));
      halted = (
        rw one (first_bad-at machine old.state new.state so_far.lines [] rest so_far.texts led bad ∙ ap (λ k. Some (k + 1)) (sym so_far.counted)),
        (so_far.lines, last_line rest, refl, led, rw one bad),
        rw append-nil at (writes_more takes more _ _ _ _ _ _ (concat so_far.texts) [] so_far.writes writes),
      );
    }
halts_last {machine = machine} {takes = takes} more {old = old} {mid = mid} {new = new} {bytes = bytes} {rest = rest} stops.Memory so_far gave_them clean at_end (some, (next, added, front, step, among, writes, moved)) =
    let one : last_line rest ≡ rest ∷ [] = some_line rest some in
    record {
      complete = so_far.lines;
      unfinished = rest;
      bytes = bytes;
      read = gave_them;
      cut = ap parts so_far.leads.cut ∙ parts-after so_far.lines rest so_far.leads.no_feed ∙ ap (λ (xs : List (List ℕ)). so_far.lines ++ xs) (parts-clean rest clean);
      lines = so_far.lines ++ last_line rest;
      are_lines = inr (inl at_end, refl);
      texts = so_far.texts;
      more = replies machine mid.state (last_line rest);
      all = replies-steps machine old.state mid.state so_far.lines (last_line rest) so_far.texts so_far.leads.steps;
      halted = (
        concat so_far.texts ++ front,
        (so_far.lines, last_line rest, mid.state, so_far.texts, front, refl, so_far.leads.steps, inl (rest, [], next, added, one, step, among, moved), refl),
        writes_more takes more _ _ _ _ _ _ _ _ so_far.writes writes,
      );
    }
halts_last {machine = machine} {takes = takes} more {old = old} {mid = mid} {new = new} {bytes = bytes} {rest = rest} stops.Write so_far gave_them clean at_end (some, (added, waiting, step, writes, did_fail)) =
    let one : last_line rest ≡ rest ∷ [] = some_line rest some in
    let lines = so_far.lines ++ last_line rest in
    let texts = so_far.texts ++ added in
    let whole : Steps machine old.state lines new.state texts = rw one (steps-append machine old.state mid.state new.state so_far.lines (rest ∷ []) so_far.texts added so_far.leads.steps (steps-one machine mid.state new.state rest added step)) in
    record {
      complete = so_far.lines;
      unfinished = rest;
      bytes = bytes;
      read = gave_them;
      cut = ap parts so_far.leads.cut ∙ parts-after so_far.lines rest so_far.leads.no_feed ∙ ap (λ (xs : List (List ℕ)). so_far.lines ++ xs) (parts-clean rest clean);
      lines = lines;
      are_lines = inr (inl at_end, refl);
      texts = texts;
      more = machine.ending new.state;
      all = ap (replies machine old.state) (sym (append-nil lines)) ∙ replies-steps machine old.state new.state lines [] texts whole;
      halted = (did_fail, (lines, [], sym (append-nil lines), whole), waiting, rw concat-append (writes_more takes more _ _ _ _ _ _ _ _ so_far.writes writes));
    }

-- A line of a block stops the script.
pub halts_stopped : {S O : Type 0} {machine : Machine S} {takes : O → O → List ℕ → Type 0} (more : (s t u : O) (xs ys : List ℕ) → takes s t xs → takes t u ys → takes s u (xs ++ ys))
    {old mid : RunState S O} {bytes rest : List ℕ} {n : ℕ} {gave : List ℕ → Type 0} {is_end read_failed write_failed : Type 0} (new : Progress S O) (stop : Stop) →
    SoFar machine takes bytes rest old mid n → gave bytes → TakesLines machine takes write_failed rest (record { run = mid; count = n }) new (Err stop) →
    Halts machine gave is_end read_failed takes write_failed old new.run (Err (fault_of stop (new.count + 1)))
halts_stopped {machine = machine} {takes = takes} more {old = old} {mid = mid} {bytes = bytes} new stops.Bad so_far gave_them (lines2, texts2, line, rest2, leads2, clean, bad, counted, writes) =
    let lines = so_far.lines ++ lines2 in
    let texts = so_far.texts ++ texts2 in
    let leads : Leads machine old.state bytes lines (line ++ 10 ∷ rest2) new.run.state texts = leads_joined so_far.leads leads2 in
    let (front, last, split) = parts-last rest2 in
    let count : new.count ≡ length lines = counted ∙ ap (λ k. k + length lines2) so_far.counted ∙ sym (length-append so_far.lines lines2) in
    record {
      complete = lines ++ line ∷ front;
      unfinished = last;
      bytes = bytes;
      read = gave_them;
      cut = ap parts leads.cut ∙ parts-after lines (line ++ 10 ∷ rest2) leads.no_feed ∙ ap (λ (xs : List (List ℕ)). lines ++ xs) (slice_split_at (λ b. nat_eq b 10) line 10 rest2 clean refl ∙ ap (λ (xs : List (List ℕ)). line ∷ xs) split) ∙ sym (append_assoc lines (line ∷ front) (last ∷ []));
      lines = lines ++ line ∷ front;
      are_lines = inl refl;
      texts = texts;
      more = machine.ending new.run.state;
      all = replies-steps machine old.state new.run.state lines (line ∷ front) texts leads.steps ∙ ap (λ (xs : List (List ℕ)). texts ++ xs) (rw bad refl);
      halted = (
        first_bad-at machine old.state new.run.state lines front line texts leads.steps bad ∙ ap (λ k. Some (k + 1)) (sym count),
        (lines, line ∷ front, refl, leads.steps, bad),
        rw concat-append (writes_more takes more _ _ _ _ _ _ _ _ so_far.writes writes),
      );
    }
halts_stopped {machine = machine} {takes = takes} more {old = old} {mid = mid} {bytes = bytes} new stops.Memory so_far gave_them (lines2, texts2, line, rest2, here, after, added, front, leads2, clean, step, among, writes, moved) =
    let lines = so_far.lines ++ lines2 in
    let texts = so_far.texts ++ texts2 in
    let leads : Leads machine old.state bytes lines (line ++ 10 ∷ rest2) here texts = leads_joined so_far.leads leads2 in
    let (others, last, split) = parts-last rest2 in
    record {
      complete = lines ++ line ∷ others;
      unfinished = last;
      bytes = bytes;
      read = gave_them;
      cut = ap parts leads.cut ∙ parts-after lines (line ++ 10 ∷ rest2) leads.no_feed ∙ ap (λ (xs : List (List ℕ)). lines ++ xs) (slice_split_at (λ b. nat_eq b 10) line 10 rest2 clean refl ∙ ap (λ (xs : List (List ℕ)). line ∷ xs) split) ∙ sym (append_assoc lines (line ∷ others) (last ∷ []));
      lines = lines ++ line ∷ others;
      are_lines = inl refl;
      texts = texts;
      more = replies machine here (line ∷ others);
      all = replies-steps machine old.state here lines (line ∷ others) texts leads.steps;
      halted = (
        concat texts ++ front,
        (lines, line ∷ others, here, texts, front, refl, leads.steps, inl (line, others, after, added, refl, step, among, moved), refl),
        rw (concat-append, append_assoc) (writes_more takes more _ _ _ _ _ _ _ _ so_far.writes writes),
      );
    }
halts_stopped {machine = machine} {takes = takes} more {old = old} {mid = mid} {bytes = bytes} new stops.Write so_far gave_them (lines2, texts2, rest2, waiting, leads2, writes, did_fail) =
    let lines = so_far.lines ++ lines2 in
    let texts = so_far.texts ++ texts2 in
    let leads : Leads machine old.state bytes lines rest2 new.run.state texts = leads_joined so_far.leads leads2 in
    let (front, last, split) = parts-last rest2 in
    record {
      complete = lines ++ front;
      unfinished = last;
      bytes = bytes;
      read = gave_them;
      cut = ap parts leads.cut ∙ parts-after lines rest2 leads.no_feed ∙ ap (λ (xs : List (List ℕ)). lines ++ xs) split ∙ sym (append_assoc lines front (last ∷ []));
      lines = lines ++ front;
      are_lines = inl refl;
      texts = texts;
      more = replies machine new.run.state front;
      all = replies-steps machine old.state new.run.state lines front texts leads.steps;
      halted = (did_fail, (lines, front, refl, leads.steps), waiting, rw concat-append (writes_more takes more _ _ _ _ _ _ _ _ so_far.writes writes));
    }

nil_end : (xs more : List ℕ) → length more ≡ 0 → xs ++ more ≡ xs
nil_end xs [] none = append-nil xs
nil_end xs (x ∷ more) none = absurd (omega arith)

-- Where nothing was read, what is held stays.
pub nothing_more : (old new more : List ℕ) (held : ℕ) → held ≤ length old → length new ≡ length old → take held new ≡ take held old ++ more → take held new ≡ take held old
nothing_more old new more held within same join =
    let sizes : length (take held new) ≡ length (take held old) + length more = ap length join ∙ length-append (take held old) more in
    let size_old : length (take held old) ≡ held = length_front_of held old within in
    let size_new : length (take held new) ≡ held = length_front_of held new (omega arith) in
    let none : length more ≡ 0 = omega arith in
    join ∙ nil_end (take held old) more none

-- What was waiting is written.
pub flushed : {S O : Type 0} {machine : Machine S} {takes : O → O → List ℕ → Type 0} (more : (s t u : O) (xs ys : List ℕ) → takes s t xs → takes t u ys → takes s u (xs ++ ys))
    {old new : RunState S O} {q : O} {bytes rest : List ℕ} {n : ℕ} →
    SoFar machine takes bytes rest old new n → Writes takes new.sink new.text q [] [] → SoFar machine takes bytes rest old (record { state = new.state; sink = q; text = [] }) n
flushed {takes = takes} more so_far writes = record {
  lines = so_far.lines;
  texts = so_far.texts;
  leads = so_far.leads;
  counted = so_far.counted;
  writes = rw append-nil at (writes_more takes more _ _ _ _ _ _ (concat so_far.texts) [] so_far.writes writes);
}
