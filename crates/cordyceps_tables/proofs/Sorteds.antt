-- A command on one of the sorted lists is a command on the table.
use Rattle.std.proofs.Common.{◌≡◌, ℕ, ◌+◌, ◌-◌, ◌<◌, ◌≤◌, false, cond, nat_lt, List, [], ◌++◌, length, refl, ap, sym, ◌∙◌, subst, get_or, All, slice_set, arith, length-append}
use Rattle.std.proofs.lemmas.List.{set-append_left, set-append_right, get_or_append_left, get_or-append-add, get_or-map, map-set, length-map}
use Rattle.std.proofs.lemmas.Bool.{lt-ltb, ltb-true}
use Rattle.std.specs.declared.cmp.Ordering.{Ordering}
use Rattle.std.specs.List.Sorted.{IsSortedBy}
use Rattle.cordyceps_base.specs.Element.{Elements}
use Rattle.cordyceps_single.specs.Arrangement.{Sorted, less}
use Rattle.cordyceps_single.proofs.Preorder.{by_test}
use Rattle.cordyceps_commands.specs.declared.item.Item.{Item}
use Rattle.cordyceps_commands.specs.declared.sorted_command.SortedCommand.{SortedCommand}
use Rattle.cordyceps_commands.specs.Replies.{Line}
use Rattle.cordyceps_tables.specs.Tables.{Table, held_at}
use Rattle.cordyceps_tables.specs.Sorteds.{contents, order_of, step_on, step, list_of, AreInOrder}

-- a command on a list of the table is that on the table
on_list : (order : ℕ → Item → Item → Ordering) (cmp : Item → Item → Ordering) (table after : Table) (old new : Elements Item) (lines : List Line) (command : SortedCommand) →
    order (list_of command) ≡ cmp → held_at table (list_of command) ≡ old → after ≡ slice_set table (list_of command) new →
    (IsSortedBy (less cmp) old → (new, lines) ≡ step_on cmp old command) → AreInOrder order table → (after, lines) ≡ step order table command
on_list order cmp table after old new lines command is held set ran sorted =
    let n = list_of command in
    let first : IsSortedBy (less cmp) (held_at table n) = subst (λ f. IsSortedBy (less f) (held_at table n)) is (sorted n) in
    let here = ran (subst (IsSortedBy (less cmp)) held first) in
    ap (λ t. (t, lines)) set ∙ ap (λ (p : Elements Item × List Line). (slice_set table n p.0, p.1)) (here ∙ (λ i. step_on (sym is i) (sym held i) command))

module _ {O : Type 0} (front back : Table) (lists : List (Sorted Item O)) (i : ℕ) where
  within : i < length lists → length front + i < length (front ++ contents lists)
  within below = rw (length-append, length-map) (omega arith)

  held_within : (d : Sorted Item O) → i < length lists → held_at ((front ++ contents lists) ++ back) (length front + i) ≡ (get_or lists i d).elements
  held_within d below =
      get_or_append_left (front ++ contents lists) back [] (length front + i) (within below) ∙ get_or-append-add front (contents lists) i [] ∙ get_or-map (λ (l : Sorted Item O). l.elements) lists i d [] below

  set_within : (new : Sorted Item O) → i < length lists → slice_set ((front ++ contents lists) ++ back) (length front + i) new.elements ≡ (front ++ contents (slice_set lists i new)) ++ back
  set_within new below =
      let same : length front + i - length front ≡ i = omega arith in
      set-append_left (front ++ contents lists) back (length front + i) new.elements (within below)
      ∙ ap (λ l. l ++ back) (set-append_right front (contents lists) (length front) (length front + i) new.elements refl (omega arith) ∙ ap (λ l. front ++ l) (ap (λ k. slice_set (contents lists) k new.elements) same ∙ sym (map-set (λ (l : Sorted Item O). l.elements) lists i new)))

  -- a command on one of some lists that are within the table
  pub ran_within : (order : ℕ → Item → Item → Ordering) (cmp : Item → Item → Ordering) (table after : Table) (d new : Sorted Item O) (lines : List Line) (command : SortedCommand) →
      list_of command ≡ length front + i → i < length lists → order (list_of command) ≡ cmp →
      table ≡ (front ++ contents lists) ++ back → after ≡ (front ++ contents (slice_set lists i new)) ++ back →
      (IsSortedBy (less cmp) (get_or lists i d).elements → (new.elements, lines) ≡ step_on cmp (get_or lists i d).elements command) → AreInOrder order table → (after, lines) ≡ step order table command
  ran_within order cmp table after d new lines command at below is before then ran sorted =
      on_list order cmp table after (get_or lists i d).elements new.elements lines command is
      ((λ j. held_at (before j) (at j)) ∙ held_within d below)
      (then ∙ sym (set_within new below) ∙ (λ j. slice_set (sym before j) (sym at j) new.elements))
      ran sorted

-- which order the lists have
module _ (own cmp : Item → Item → Ordering) (n : ℕ) where
  not_below : (k : ℕ) → k ≤ n → nat_lt n k ≡ false
  not_below k above = by_test (nat_lt n k) (λ t. let below : n < k = ltb-true n k t in absurd (omega arith)) (λ f. f)

  pub order_of_least : n < 6 → order_of own cmp n ≡ own
  order_of_least below = ap (λ b. cond b own (cond (nat_lt n 11) (λ x y. own y x) cmp)) (lt-ltb n 6 below)

  pub order_of_greatest : 6 ≤ n → n < 11 → order_of own cmp n ≡ (λ x y. own y x)
  order_of_greatest above below =
      ap (λ b. cond b own (cond (nat_lt n 11) (λ x y. own y x) cmp)) (not_below 6 above) ∙ ap (λ b. cond b (λ x y. own y x) cmp) (lt-ltb n 11 below)

  pub order_of_own : 11 ≤ n → order_of own cmp n ≡ cmp
  order_of_own above =
      ap (λ b. cond b own (cond (nat_lt n 11) (λ x y. own y x) cmp)) (not_below 6 (omega arith)) ∙ ap (λ b. cond b (λ x y. own y x) cmp) (not_below 11 above)

-- lists that all have the order `by`
module _ {F : Type 0} (by : F) where
  pub same_order : (now inside : List (Sorted Item F)) (k : ℕ) (d : Sorted Item F) → inside ≡ now → All (λ l. l.order ≡ by) now → k < length inside → (get_or inside k d).order ≡ by
  same_order now inside k d same all within = (rw (sym same) at all) k d within
