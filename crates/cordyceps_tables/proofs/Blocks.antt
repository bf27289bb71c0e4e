-- Lines of a cursor block.
use Rattle.std.proofs.Common.{◌≡◌, ℕ, zero, suc, ◌+◌, ◌<◌, ◌≤◌, Bool, true, false, not, List, [], ◌∷◌, ◌++◌, length, take, drop, Option, Some, slice_get, refl, sym, ap, ◌∙◌, arith, inl, inr, eq-eqb, set, ◌≢◌, subst}
use Rattle.std.specs.Prelude.{nat_lt, nat_eq, nat_le, if◌then◌else◌, ◌&&◌}
use Rattle.std.proofs.lemmas.List.{set-set, set-get_or, get_or-set_same, get_or-set_other}
use Rattle.std.proofs.lemmas.Bool.{cases_lt}
use Rattle.std.proofs.lemmas.Bool.Decides.{nat_tests}
use Rattle.cordyceps_base.specs.Runs.{after, replies_to}
use Rattle.cordyceps_base.specs.Element.{Element, Elements, values, with_value}
use Rattle.cordyceps_list.specs.Cursor.{CursorMut, Stands, elements, place}
use Rattle.cordyceps_list.proofs.Lent.{same_value}
use Rattle.cordyceps_tables.proofs.Places.{same_or_not, inside}
use Rattle.cordyceps_commands.specs.declared.item.Item.{Item}
use Rattle.cordyceps_commands.specs.declared.reply.Reply.{Reply}
use Rattle.cordyceps_commands.specs.declared.list_command.ListEnd.{ListEnd}
use Rattle.cordyceps_commands.specs.declared.list_command.CursorCommand.{CursorCommand}
use Rattle.cordyceps_commands.specs.declared.list_command.CursorCommand.TheVariants as lines
use Rattle.cordyceps_tables.specs.declared.replay.blocks.Side.{Side}
use Rattle.cordyceps_tables.specs.declared.replay.blocks.Side.TheVariants.{After}
use Rattle.cordyceps_commands.specs.Replies.{Line, lines_of, done, found_or_nothing}
use Rattle.cordyceps_tables.specs.Tables.{Table, held_at}
use Rattle.cordyceps_tables.specs.Blocks.{Spot, State, run_lines, first_place, set_at, Goes, call_on, line_step, moved_to, state_of, Cuts, Reaches, cut_beside, put_beside, split_to, splice_from, split_on, splice_on, made_for}

pub goes_written : (old new : CursorMut Item) (s : Elements Item) (k at : ℕ) (o : Option Item) (item : Item) (value : ℕ) (reply : Reply) →
    Stands old new (with_value s at (record item { value = value })) k → Some item ≡ o → lines_of reply ≡ done ∷ [] → Goes old new (set_at s k at o value) reply
goes_written old new s k at o item value reply stands is told = rw (← is) (record { stands = stands; told = told })

pub goes_on : (old new : CursorMut Item) (s : Elements Item) (k : ℕ) (x : Item) (reply : Reply) →
    Stands old new (with_value s k x) (k + 1) → Some x ≡ slice_get (values s) k → lines_of reply ≡ found_or_nothing (Some x) ∷ [] →
    Goes old new ((s, if nat_lt k (length s) then k + 1 else k), found_or_nothing (slice_get (values s) k)) reply
goes_on old new s k x reply stands is told =
    let below = inside s k x is in
    let moved : (if nat_lt k (length s) then k + 1 else k) ≡ k + 1 = grind (arith, nat_tests) in
    let same = same_value s k x (sym is) in
    rw (moved, ← is) (record { stands = rw same at stands; told = told })

-- what a list holds, where the list with a number was put back
put_back : (table : Table) (n : ℕ) (s : Elements Item) → n < length table → held_at (set table n s) n ≡ s
put_back table n s lt = get_or-set_same table n s [] lt

not_the_other : (n m : ℕ) (b : Bool) → (not (nat_eq n m) && b) ≡ true → m ≢ n
not_the_other n m b is e = let both = eq-eqb n m (sym e) in let never : false ≡ true = rw both at is in absurd cc

held_at_other : (table : Table) (n m : ℕ) (s : Elements Item) (p : Elements Item → Bool) → (not (nat_eq n m) && p (held_at (set table n s) m)) ≡ (not (nat_eq n m) && p (held_at table m))
held_at_other table n m s p = elim (same_or_not n m) [
  | inl e ↦ rw (eq-eqb n m e) refl
  | inr ne ↦ rw (get_or-set_other table n m s [] ne) refl
]

set_over : (table : Table) (n m : ℕ) (s t u : Elements Item) → set (set (set table n s) m t) n u ≡ set (set table m t) n u
set_over [] n m s t u = refl
set_over (row ∷ table) zero zero s t u = refl
set_over (row ∷ table) zero (suc m) s t u = refl
set_over (row ∷ table) (suc n) zero s t u = ap (λ (rows : Table). t ∷ rows) (set-set table n s u)
set_over (row ∷ table) (suc n) (suc m) s t u = ap (λ (rows : Table). row ∷ rows) (set_over table n m s t u)

pub cuts_after : (old new : CursorMut Item) (gone : Elements Item) → place old ≤ length (elements old) →
    (place old < length (elements old) → gone ≡ drop (place old + 1) (elements old)) →
    (place old < length (elements old) → Stands old new (take (place old + 1) (elements old)) (place old)) →
    (place old ≡ length (elements old) → gone ≡ elements old) → (place old ≡ length (elements old) → Stands old new [] 0) →
    Cuts old new gone (cut_beside After (elements old) (place old))
cuts_after old new gone within inside inside_stands null null_stands = elim (cases_lt (place old) (length (elements old))) [
  | inl lt ↦
      let is : nat_lt (place old) (length (elements old)) ≡ true = grind (arith, nat_tests) in
      rw is (record { stands = inside_stands lt; cut_off = inside lt })
  | inr ge ↦
      let is : nat_lt (place old) (length (elements old)) ≡ false = grind (arith, nat_tests) in
      let at_end : place old ≡ length (elements old) = omega arith in
      rw is (record { stands = null_stands at_end; cut_off = null at_end })
]

pub is_after : (old new : CursorMut Item) (more : Elements Item) → place old ≤ length (elements old) →
    (place old < length (elements old) → Stands old new (take (place old + 1) (elements old) ++ more ++ drop (place old + 1) (elements old)) (place old)) →
    (place old ≡ length (elements old) → Stands old new (more ++ elements old) (length (elements old) + length more)) →
    let put = put_beside After (elements old) (place old) more in Stands old new put.0 put.1
is_after old new more within inside null = elim (cases_lt (place old) (length (elements old))) [
  | inl lt ↦
      let is : nat_lt (place old) (length (elements old)) ≡ true = grind (arith, nat_tests) in
      rw is (inside lt)
  | inr ge ↦
      let is : nat_lt (place old) (length (elements old)) ≡ false = grind (arith, nat_tests) in
      let at_end : place old ≡ length (elements old) = omega arith in
      let P : ℕ → Type 0 = λ k. Stands old new (more ++ elements old) (k + length more) in
      rw is (subst P (sym at_end) (null at_end))
]

same_state : (before after : Table) (n : ℕ) (s t : Elements Item) (j k : ℕ) → before ≡ after → s ≡ t → j ≡ k → let state : State = (set before n s, j) in state ≡ (set after n t, k)
same_state before after n s t j k p q r = rw (p, q, r) refl

module _ (n m : ℕ) (table : Table) (old new : CursorMut Item) (reply : Reply) (within : n < length table) where
  split_run : (gone : Elements Item) (cut : Spot × Elements Item) → true ≡ (not (nat_eq n m) && nat_eq (length (held_at table m)) 0) → Cuts old new gone cut → lines_of reply ≡ done ∷ [] →
      (state_of (set table m gone) n new ≡ (split_to (state_of table n old) n m cut).0) × (lines_of reply ≡ (split_to (state_of table n old) n m cut).1 ∷ [])
  split_run gone cut free cuts told =
      let done_so : split_to (state_of table n old) n m cut ≡ ((set (set table m cut.1) n cut.0.0, cut.0.1), done) =
      rw (held_at_other table n m (elements old) (λ t. nat_eq (length t) 0), ← free, set_over table n m (elements old) cut.1 cut.0.0) refl in
      (rw done_so (same_state (set table m gone) (set table m cut.1) n (elements new) cut.0.0 (place new) cut.0.1 (ap (λ t. set table m t) cuts.cut_off) cuts.stands.elements_are cuts.stands.place_is), rw done_so told)

  pub split_steps : (side : Side) (gone : Elements Item) → true ≡ (not (nat_eq n m) && nat_eq (length (held_at table m)) 0) → Cuts old new gone (cut_beside side (elements old) (place old)) → lines_of reply ≡ done ∷ [] →
      Reaches n (set table m gone) old new (split_on (state_of table n old) n side m) reply
  split_steps side gone free cuts told =
      let run = split_run gone (cut_beside side (elements old) (place old)) free cuts told in
      let held = put_back table n (elements old) within in
      record { same_reference = cuts.stands.same_reference; state_is = rw held run.0; told = rw held run.1 }

  splice_run : (joined : Spot) → true ≡ (not (nat_eq n m) && nat_le (length (elements old) + length (held_at table m)) 18446744073709551615) → Stands old new joined.0 joined.1 → lines_of reply ≡ done ∷ [] →
      (state_of (set table m []) n new ≡ (splice_from (state_of table n old) n m joined).0) × (lines_of reply ≡ (splice_from (state_of table n old) n m joined).1 ∷ [])
  splice_run joined fits stands told =
      let done_so : splice_from (state_of table n old) n m joined ≡ ((set (set table m []) n joined.0, joined.1), done) =
      rw (put_back table n (elements old) within, held_at_other table n m (elements old) (λ t. nat_le (length (elements old) + length t) 18446744073709551615), ← fits, set_over table n m (elements old) [] joined.0) refl in
      (rw done_so (same_state (set table m []) (set table m []) n (elements new) joined.0 (place new) joined.1 refl stands.elements_are stands.place_is), rw done_so told)

  pub splice_steps : (side : Side) → true ≡ (not (nat_eq n m) && nat_le (length (elements old) + length (held_at table m)) 18446744073709551615) →
      Stands old new (put_beside side (elements old) (place old) (held_at table m)).0 (put_beside side (elements old) (place old) (held_at table m)).1 → lines_of reply ≡ done ∷ [] →
      Reaches n (set table m []) old new (splice_on (state_of table n old) n side m) reply
  splice_steps side fits stands told =
      let run = splice_run (put_beside side (elements old) (place old) (held_at table m)) fits stands told in
      let held = put_back table n (elements old) within in
      let other = get_or-set_other table n m (elements old) [] (not_the_other n m _ (sym fits)) in
      record { same_reference = stands.same_reference; state_is = rw (held, other) (rw (held, other) at run.0); told = rw (held, other) (rw (held, other) at run.1) }

-- a line on the cursor's list alone
pub alone_steps : (n : ℕ) (table : Table) (old new : CursorMut Item) (step : State × Line) (to : Spot × Line) (reply : Reply) → step ≡ moved_to (table, place old) n to →
    Goes old new to reply → Reaches n table old new step reply
alone_steps n table old new step to reply is goes =
    record {
      same_reference = goes.stands.same_reference;
      state_is = rw is (same_state table table n (elements new) to.0.0 (place new) to.0.1 refl goes.stands.elements_are goes.stands.place_is);
      told = rw is goes.told;
    }

-- a line that neither inserts an item nor names another list
pub record IsCall (line : CursorCommand) : Type 0 where
  pub no_insert_after : (item : Item) → line ≡ lines.InsertAfter item → ⊥
  pub no_insert_before : (item : Item) → line ≡ lines.InsertBefore item → ⊥
  pub no_split_after : (other : ℕ) → line ≡ lines.SplitAfter other → ⊥
  pub no_split_before : (other : ℕ) → line ≡ lines.SplitBefore other → ⊥
  pub no_splice_after : (other : ℕ) → line ≡ lines.SpliceAfter other → ⊥
  pub no_splice_before : (other : ℕ) → line ≡ lines.SpliceBefore other → ⊥

pub call_steps : (n : ℕ) (table : Table) (k : ℕ) (line : CursorCommand) → IsCall line → line_step n (table, k) line ≡ moved_to (table, k) n (call_on (held_at table n) k line)
call_steps n table k (lines.InsertAfter item) is = absurd (is.no_insert_after item refl)
call_steps n table k (lines.InsertBefore item) is = absurd (is.no_insert_before item refl)
call_steps n table k (lines.SplitAfter other) is = absurd (is.no_split_after other refl)
call_steps n table k (lines.SplitBefore other) is = absurd (is.no_split_before other refl)
call_steps n table k (lines.SpliceAfter other) is = absurd (is.no_splice_after other refl)
call_steps n table k (lines.SpliceBefore other) is = absurd (is.no_splice_before other refl)
call_steps n table k line is = refl

pub makes_nothing : (line : CursorCommand) → IsCall line → made_for line ≡ []
makes_nothing (lines.InsertAfter item) is = absurd (is.no_insert_after item refl)
makes_nothing (lines.InsertBefore item) is = absurd (is.no_insert_before item refl)
makes_nothing line is = refl

-- it sees what the list holds
pub sees_list : (n : ℕ) (table : Table) (s : Elements Item) (k : ℕ) (to : Elements Item → Spot × Line) → n < length table → moved_to (set table n s, k) n (to (held_at (set table n s) n)) ≡ moved_to (table, k) n (to s)
sees_list n table s k to within = rw (put_back table n s within, set-set) refl

-- the first of the nodes that were made is the one that is put in
pub first_made : (nodes rest : Elements Item) (e made : Element Item) → nodes ≡ e ∷ rest → take 1 nodes ≡ made ∷ [] → e ≡ made
first_made [] rest e made is same = absurd cc
first_made (node ∷ nodes) rest e made is same = cc

-- the lines of a block were run on the list that was taken out, and it was put back
pub block_done : (n : ℕ) (table left : Table) (first last : CursorMut Item) (end : ListEnd) (lines : List CursorCommand) (before told : List Line) → n < length table →
    elements first ≡ held_at table n → place first ≡ first_place end (length (held_at table n)) →
    state_of left n last ≡ after (line_step n) (state_of (set table n []) n first) lines →
    told ≡ before ++ replies_to (line_step n) (state_of (set table n []) n first) lines →
    let result : Table × List Line = (set left n (elements last), told) in result ≡ run_lines table n end lines before
block_done n table left first last end lines before told within held at state said =
    let start : State = (table, first_place end (length (held_at table n))) in
    let opened : state_of (set table n []) n first ≡ start =
    rw set-set (same_state table table n (elements first) (held_at table n) (place first) (first_place end (length (held_at table n))) refl held at ∙ rw (set-get_or) refl) in
    let run : state_of left n last ≡ after (line_step n) start lines = rw opened at state in
    let replied : told ≡ before ++ replies_to (line_step n) start lines = rw opened at said in
    rw (ap (λ (p : State). p.0) run, replied) refl
