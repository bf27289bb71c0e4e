-- Lists in order: what a command leaves is in order, and is what the command means.
use Rattle.std.proofs.Common.{◌≡◌, ℕ, zero, suc, Bool, List, [], ◌∷◌, length, map, drop, reverse, refl, ap, sym, ◌∙◌, subst, cond, Option, Some, None, nat_eq, nat_lt, slice_set, slice_index_or, ◌<◌, arith, Result, Ok, Err, IfOk, OnErr}
use Rattle.std.specs.declared.cmp.Ordering.{Ordering}
use Rattle.std.specs.List.Sorted.{IsSortedBy}
use Rattle.cordyceps_base.specs.Element.{Elements}
use Rattle.cordyceps_single.specs.Arrangement.{Sorted, less, Represents, put_all}
use Rattle.cordyceps_single.specs.Preorder.{IsPreorder}
use Rattle.cordyceps_single.proofs.Preorder.{by_test, ranks}
use Rattle.cordyceps_single.proofs.Puts.{put_all_represents, is_put_all, put_in_order}
use Rattle.cordyceps_single.proofs.Arrangement.{arrangement_nil, ascends_from_sorted, sorted_from_ascends}
use denote.Param.{read}
use Rattle.std.specs.declared.cmp.Ord.Ghosts.{cmp}
use Rattle.std.specs.Cmp.{back_total}
use Rattle.cordyceps_single.specs.Preorder.{preorder_from_total}
use Rattle.cordyceps_commands.specs.contracts.item.ItemOrd.TheImpl.{ghosts}
use Rattle.cordyceps_commands.specs.contracts.item.ItemOrd.TheImpl.Laws.{total-law}
use Rattle.cordyceps_commands.specs.declared.item.Item.{Item}
use Rattle.cordyceps_commands.specs.declared.sorted_command.SortedCommand.{SortedCommand}
use Rattle.cordyceps_commands.specs.declared.sorted_command.SortedCommand.TheVariants as commands
use Rattle.cordyceps_commands.specs.declared.reply.Reply.{Reply}
use Rattle.cordyceps_commands.specs.Replies.{Line, lines_of, done, not_there}
use Rattle.cordyceps_tables.specs.Tables.{Table, empty_table, element_of, held_at}
use Rattle.cordyceps_tables.specs.Sorteds.{contents, order_of, made_of, fill, step_on, step, list_of, AreInOrder}

-- the order of items
abbrev pub own : Item → Item → Ordering
own = read (cmp {X-1 = Item}) ghosts

module _ {cmp : Item → Item → Ordering} (o : IsPreorder cmp) where
  -- what a command leads to, where the list is made of a stack
  pub made_is : (s t stack : Elements Item) (made : Option (Elements Item)) (lines : List Line) (outcome : Elements Item × List Line) → (made_of cmp s made, lines) ≡ outcome → made ≡ Some stack → Represents cmp t stack → (t, lines) ≡ outcome
  made_is s t stack made lines outcome means is stands = ap (λ l. (l, lines)) (is_put_all o t stack stands ∙ ap (made_of cmp s) (sym is)) ∙ means

  rest_in_order : (s : Elements Item) → IsSortedBy (less cmp) s → IsSortedBy (less cmp) (drop 1 s)
  rest_in_order [] h = h
  rest_in_order (x ∷ s) h = sorted_from_ascends (less cmp) s (ascends_from_sorted (less cmp) (ranks o (λ e. e.value)) (x ∷ s) h).1

  fill_in_order : (items : List Item) (s : Elements Item) → IsSortedBy (less cmp) s → IsSortedBy (less cmp) (fill cmp items s).0
  fill_in_order items s h =
      let all = put_all cmp [] (map element_of (reverse items)) in
      let outcome : Bool → Elements Item × List Line = λ b. cond b (all, done ∷ []) (s, not_there ∷ []) in
      let InOrder : Bool → Type 0 = λ b. IsSortedBy (less cmp) (outcome b).0 in
      by_test (nat_eq (length s) 0) (λ t. subst InOrder (sym t) (put_all_represents o [] [] (map element_of (reverse items)) (arrangement_nil (less cmp))).in_order) (λ f. subst InOrder (sym f) h)

  -- a command leaves its list in order
  pub step_on_in_order : (s : Elements Item) (command : SortedCommand) → IsSortedBy (less cmp) s → IsSortedBy (less cmp) (step_on cmp s command).0
  step_on_in_order s (commands.Insert list item) h = put_in_order o s (element_of item) h
  step_on_in_order s (commands.PopFront list) h = rest_in_order s h
  step_on_in_order s (commands.Show list) h = h
  step_on_in_order s (commands.FromStack list items) h = fill_in_order items.items s h

-- what a command leads to, where no list is made
pub left_is : (cmp : Item → Item → Ordering) (s : Elements Item) (made : Option (Elements Item)) (lines : List Line) (outcome : Elements Item × List Line) → (made_of cmp s made, lines) ≡ outcome → made ≡ None → (s, lines) ≡ outcome
left_is cmp s made lines outcome means is = ap (λ l. (l, lines)) (ap (made_of cmp s) (sym is)) ∙ means

-- items in their order, and in that the other way round
pub item_order : IsPreorder own
item_order = preorder_from_total total-law

pub item_order_back : IsPreorder (λ x y. own y x)
item_order_back = preorder_from_total (back_total total-law)

-- each list has a total preorder, where the caller's is one
pub each_is_preorder : (cmp : Item → Item → Ordering) → IsPreorder cmp → (n : ℕ) → IsPreorder (order_of own cmp n)
each_is_preorder cmp o n =
    by_test (nat_lt n 6)
    (λ t. subst (λ b. IsPreorder (cond b own (cond (nat_lt n 11) (λ x y. own y x) cmp))) (sym t) item_order)
    (λ f. subst (λ b. IsPreorder (cond b own (cond (nat_lt n 11) (λ x y. own y x) cmp))) (sym f) (by_test (nat_lt n 11) (λ t. subst (λ b. IsPreorder (cond b (λ x y. own y x) cmp)) (sym t) item_order_back) (λ g. subst (λ b. IsPreorder (cond b (λ x y. own y x) cmp)) (sym g) o)))

-- what holds of each structure holds once one of them holds something else of which it holds
held_after : (Holds : ℕ → Elements Item → Type 0) (table : Table) (n : ℕ) (s : Elements Item) → ((m : ℕ) → Holds m (held_at table m)) → Holds n s → (m : ℕ) → Holds m (held_at (slice_set table n s) m)
held_after Holds [] n s each here m = each m
held_after Holds (row ∷ table) zero s each here zero = here
held_after Holds (row ∷ table) zero s each here (suc m) = each (suc m)
held_after Holds (row ∷ table) (suc n) s each here zero = each zero
held_after Holds (row ∷ table) (suc n) s each here (suc m) = held_after (λ k. Holds (suc k)) table n s (λ k. each (suc k)) here m

-- a command leaves each list in order
step_in_order : (order : ℕ → Item → Item → Ordering) → ((n : ℕ) → IsPreorder (order n)) → (table : Table) (command : SortedCommand) → AreInOrder order table → AreInOrder order (step order table command).0
step_in_order order each table command h =
    let n = list_of command in
    held_after (λ m s. IsSortedBy (less (order m)) s) table n (step_on (order n) (held_at table n) command).0 h (step_on_in_order (each n) (held_at table n) command (h n))

-- the same of what a command was found to lead to
pub stays_in_order : (order : ℕ → Item → Item → Ordering) → ((n : ℕ) → IsPreorder (order n)) → (table after : Table) (lines : List Line) (command : SortedCommand) → (after, lines) ≡ step order table command → AreInOrder order table → AreInOrder order after
stays_in_order order each table after lines command is_step h =
    let is : (step order table command).0 ≡ after = ap (λ (p : Table × List Line). p.0) (sym is_step) in
    subst (AreInOrder order) is (step_in_order order each table command h)

-- the same of a command that may have been refused memory, and has then changed nothing
pub stays_in_order_if : {E : Type 0} (order : ℕ → Item → Item → Ordering) → ((n : ℕ) → IsPreorder (order n)) → (table after : Table) (command : SortedCommand) (result : Result Reply E) →
    IfOk result (λ reply. (after, lines_of reply) ≡ step order table command) → OnErr result (after ≡ table) → AreInOrder order table → AreInOrder order after
stays_in_order_if order each table after command (Ok reply) ran same h = stays_in_order order each table after (lines_of reply) command ran h
stays_in_order_if order each table after command (Err e) ran same h = subst (AreInOrder order) (sym same) h

held_in_empty : (k n : ℕ) → held_at (empty_table k) n ≡ []
held_in_empty zero n = refl
held_in_empty (suc k) zero = refl
held_in_empty (suc k) (suc n) = held_in_empty k n

-- empty lists are in any order
pub empty_in_order : (order : ℕ → Item → Item → Ordering) (k : ℕ) → AreInOrder order (empty_table k)
empty_in_order order k n = subst (IsSortedBy (less (order n))) (sym (held_in_empty k n)) (arrangement_nil (less (order n))).in_order

-- lists that hold nothing are so many empty ones
pub contents_empty : {O : Type 0} (d : Sorted Item O) (lists : List (Sorted Item O)) (n : ℕ) → length lists ≡ n → ((i : ℕ) → i < n → (slice_index_or lists i d).elements ≡ []) → contents lists ≡ empty_table n
contents_empty d [] zero long each = refl
contents_empty d [] (suc n) long each = absurd cc
contents_empty d (list ∷ lists) zero long each = absurd cc
contents_empty d (list ∷ lists) (suc n) long each =
    let first : list.elements ≡ [] = each 0 (omega arith) in
    let others : contents lists ≡ empty_table n = contents_empty d lists n (omega arith) (λ i lt. each (suc i) (omega arith)) in
    cc
