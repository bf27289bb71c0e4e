-- What the calls of a table of tasks leave of it.
use Rattle.std.proofs.Common.{◌≡◌, ℕ, Bool, true, false, cond, if◌then◌else◌, List, [], ◌∷◌, ◌++◌, slice_get, Option, Some, None, is_some, nat_eq, refl, sym, ap, ◌∙◌, subst, arith}
use Rattle.std.specs.Prelude.{IfSome}
use Rattle.std.specs.Map.{lookup_entry, remove_entry}
use denote.RawPtr.{Ptr}
use Rattle.cordyceps.specs.Elements.Nodes.{Nodes}
use Rattle.cordyceps.specs.Spots.Spots.{same_ptr}
use Rattle.cordyceps.proofs.Spots.{same_ptr_eq}
use Rattle.cordyceps.specs.Spots.Entries.{value_at}
use Rattle.cordyceps.specs.Spots.MultiList.{list_at, SameBut, IsFirstOf}
use Rattle.cordyceps.specs.Spots.StableMap.{Mapped}
use Rattle.cordyceps.specs.Spots.Threads.{is_in, without}
use Rattle.cordyceps.proofs.Spots.Members.{in_self, other_mid}
use Rattle.cordyceps.proofs.Spots.Threads.{split, differ, other_way, in_there, in_more, not_in_both, without_other, without_gone}
use Rattle.cordyceps_uses.specs.Keyed.{with_value, in_order, order, AreFrom, HasAt, IsAt, IsSound, IsPlaced, IsTakenOut, IsPut, IsLinkedIn}
use Rattle.cordyceps_uses.specs.declared.task_table.State.TheVariants.{Ready, Waiting, Running}
use Rattle.cordyceps_uses.specs.TaskTable.{Entry, priority, task, others, state, running, without_task, waits, shown, IsReadied, IsSpawned, IsTable}
use Rattle.cordyceps_uses.proofs.ByKey.{once_of, order_without, linked_is, absent_in, spot_apart, found_by}
use Rattle.cordyceps_uses.proofs.Ordered.{passes, none_cut, from_less, from_cut, order_here, order_mid}
use Rattle.cordyceps_uses.proofs.Placing.{order_other}

-- an entry that a list has is at one of its spots
pub record AtSpot {X : Type 0} (c : Nodes X) (l : List Ptr) (x : X) : Type 0 where
  pub spot : Ptr
  pub listed : is_in spot l ≡ true
  pub value : value_at c spot ≡ Some x

entry_by : {K X : Type 0} (t : K → Bool) (c : Nodes (K × X)) (p : Ptr) (l : List Ptr) (x : K × X) → (lookup_entry t (in_order c l) ≡ Some x → AtSpot c l x) → (o : Option (K × X)) → value_at c p ≡ o → lookup_entry t (with_value o (in_order c l)) ≡ Some x → AtSpot c (p ∷ l) x
entry_by t c p l x rest None v h = let r = rest h in record { spot = r.spot; listed = in_more r.spot p l r.listed; value = r.value }
entry_by t c p l x rest (Some y) v h = split (t y.0)
    (λ yes. let is : y ≡ x = let u = sym (ap (λ (b : Bool). cond b (Some y) (lookup_entry t (in_order c l))) yes) ∙ h in cc in
    record { spot = p; listed = in_self p l; value = v ∙ ap (λ z. Some z) is })
    (λ no. let r = rest (sym (ap (λ (b : Bool). cond b (Some y) (lookup_entry t (in_order c l))) no) ∙ h) in record { spot = r.spot; listed = in_more r.spot p l r.listed; value = r.value })

pub entry_at : {K X : Type 0} (t : K → Bool) (c : Nodes (K × X)) (l : List Ptr) (x : K × X) → lookup_entry t (in_order c l) ≡ Some x → AtSpot c l x
entry_at t c [] x e = absurd cc
entry_at t c (p ∷ l) x e = entry_by t c p l x (entry_at t c l x) (value_at c p) refl e

module _ {T : Type 0} (m : Mapped (Entry T)) (s : IsSound nat_eq m) where
  -- ---- what a task does
  told : (pid : ℕ) (p : Ptr) → IsAt nat_eq 0 m pid p → (i : ℕ) (b : Bool) → is_in p (list_at i m.lists) ≡ b → is_some (task pid (order i m)) ≡ b
  told pid p a i b e = sym (linked_is nat_eq m s p a.entry a.value i pid a.same) ∙ e

  module _ (pid : ℕ) where
    state_by : (a b : Bool) (o : Option (Entry T)) → is_some (task pid (order 1 m)) ≡ a → is_some (task pid (order 2 m)) ≡ b → task pid (order 0 m) ≡ o
        → state pid (shown m) ≡ (if a then Some Ready else if b then Some Waiting else elim o [ Some _ ↦ Some Running | None ↦ None ])
    state_by a b o ready waits all = λ i. if ready i then Some Ready else if waits i then Some Waiting else elim (all i) [ Some _ ↦ Some Running | None ↦ None ]

    running_by : (a b : Bool) (o : Option (Entry T)) → is_some (task pid (order 1 m)) ≡ a → is_some (task pid (order 2 m)) ≡ b → task pid (order 0 m) ≡ o
        → running pid (shown m) ≡ (if a then None else if b then None else o)
    running_by a b o ready waits all = λ i. if ready i then None else if waits i then None else all i

    pub no_state : task pid (order 0 m) ≡ None → state pid (shown m) ≡ None
    no_state none = state_by false false None (ap is_some (absent_in nat_eq m s 1 pid none)) (ap is_some (absent_in nat_eq m s 2 pid none)) none

    pub none_runs : task pid (order 0 m) ≡ None → running pid (shown m) ≡ None
    none_runs none = running_by false false None (ap is_some (absent_in nat_eq m s 1 pid none)) (ap is_some (absent_in nat_eq m s 2 pid none)) none

    pub none_goes : task pid (order 0 m) ≡ None → shown m ≡ without_task pid (shown m)
    none_goes none =
        let all = none_cut (nat_eq pid) (order 0 m) none in let ready = none_cut (nat_eq pid) (order 1 m) (absent_in nat_eq m s 1 pid none) in
        let waits = none_cut (nat_eq pid) (order 2 m) (absent_in nat_eq m s 2 pid none) in
        λ i. record { tasks = sym all i; ready = sym ready i; waiting = sym waits i }

    module _ (p : Ptr) (a : IsAt nat_eq 0 m pid p) where
      pub is_ready : is_in p (list_at 1 m.lists) ≡ true → (state pid (shown m) ≡ Some Ready) × (running pid (shown m) ≡ None)
      is_ready one = let r = told pid p a 1 true one in (state_by true (is_some (task pid (order 2 m))) (task pid (order 0 m)) r refl refl, running_by true (is_some (task pid (order 2 m))) (task pid (order 0 m)) r refl refl)

      pub is_waiting : is_in p (list_at 1 m.lists) ≡ false → is_in p (list_at 2 m.lists) ≡ true → (state pid (shown m) ≡ Some Waiting) × (running pid (shown m) ≡ None)
      is_waiting one two = let r = told pid p a 1 false one in let w = told pid p a 2 true two in (state_by false true (task pid (order 0 m)) r w refl, running_by false true (task pid (order 0 m)) r w refl)

      pub is_running : is_in p (list_at 1 m.lists) ≡ false → is_in p (list_at 2 m.lists) ≡ false → (state pid (shown m) ≡ Some Running) × (running pid (shown m) ≡ Some a.entry)
      is_running one two = let r = told pid p a 1 false one in let w = told pid p a 2 false two in (state_by false false (Some a.entry) r w a.found, running_by false false (Some a.entry) r w a.found)

    pub in_table : (i : ℕ) → IfSome (task pid (order i m)) (λ x. task pid (order 0 m) ≡ Some x)
    in_table i = by (task pid (order i m)) refl where
      by : (o : Option (Entry T)) → task pid (order i m) ≡ o → IfSome o (λ x. task pid (order 0 m) ≡ Some x)
      by None e = tt
      by (Some x) e = let r = entry_at (nat_eq pid) m.nodes (list_at i m.lists) x e in found_by nat_eq m s r.spot x r.value pid (passes (nat_eq pid) (order i m) x e)

    pub ready_apart : IsTable m → is_some (task pid (order 1 m)) ≡ true → task pid (order 2 m) ≡ None
    ready_apart t some = by (task pid (order 1 m)) refl some where
      by : (o : Option (Entry T)) → task pid (order 1 m) ≡ o → is_some o ≡ true → task pid (order 2 m) ≡ None
      by None e h = absurd cc
      by (Some x) e h =
          let r = entry_at (nat_eq pid) m.nodes (list_at 1 m.lists) x e in let same = passes (nat_eq pid) (order 1 m) x e in
          spot_apart nat_eq m s 2 pid r.spot (record { entry = x; value = r.value; same = same; found = found_by nat_eq m s r.spot x r.value pid same }) (t.apart r.spot r.listed)

  -- the first of a list
  pub first_is : (i : ℕ) (p : Ptr) (x : Entry T) → value_at m.nodes p ≡ Some x → IsFirstOf (list_at i m.lists) p → slice_get (order i m) 0 ≡ Some x
  first_is i p x v (after, is) = ap (λ (l : List (Entry T)). slice_get l 0) (ap (in_order m.nodes) is ∙ order_here m.nodes p after x v)

  module _ (t : IsTable m) where
    module _ (p : Ptr) (x : Entry T) (v : value_at m.nodes p ≡ Some x) where
      out_of : (i : ℕ) → is_in p (without p (list_at i m.lists)) ≡ false
      out_of i = without_gone p (list_at i m.lists) (once_of (list_at i m.lists) (s.once i))

      -- what is in the rest of a list
      left_in : (i : ℕ) (q : Ptr) → is_in q (without p (list_at i m.lists)) ≡ true → (same_ptr p q ≡ false) × (is_in q (list_at i m.lists) ≡ true)
      left_in i q h =
          let other = other_way q p (differ q p (without p (list_at i m.lists)) h (out_of i)) in (other, sym (without_other p q (list_at i m.lists) other) ∙ h)

      -- ---- it was ready, and waits now
      module _ (u : Mapped (Entry T)) (nodes : u.nodes ≡ m.nodes) (zero : list_at 0 u.lists ≡ list_at 0 m.lists) (one : list_at 1 u.lists ≡ without p (list_at 1 m.lists)) (two : list_at 2 u.lists ≡ list_at 2 m.lists ++ p ∷ []) where
        order_of : (i : ℕ) (l : List Ptr) → list_at i u.lists ≡ l → order i u ≡ in_order m.nodes l
        order_of i l e = ap (λ c. in_order c (list_at i u.lists)) nodes ∙ ap (in_order m.nodes) e

        ready_left : order 1 u ≡ remove_entry (nat_eq x.0) (order 1 m)
        ready_left = order_of 1 (without p (list_at 1 m.lists)) one ∙ order_without nat_eq m s p x v 1

        pub waited : shown u ≡ waits (shown m) x
        waited =
            let tasks = order_of 0 (list_at 0 m.lists) zero in let waiting = order_of 2 (list_at 2 m.lists ++ p ∷ []) two ∙ order_mid m.nodes (list_at 2 m.lists) [] p x v in
            λ i. record { tasks = tasks i; ready = ready_left i; waiting = waiting i }

        pub waited_table : IsTable u
        waited_table = record {
          apart = λ q h. let r = left_in 1 q (sym (ap (is_in q) one) ∙ h) in
              ap (is_in q) two ∙ not_in_both q (list_at 2 m.lists) (p ∷ []) (t.apart q r.1) (in_there q p [] (other_way p q r.0));
          sorted = subst (AreFrom priority 0) (sym ready_left) (from_cut priority (nat_eq x.0) 0 (order 1 m) t.sorted);
        }

      -- ---- it is ready now, and does not wait
      module _ (w : Mapped (Entry T)) (nodes : w.nodes ≡ m.nodes) (two : list_at 2 w.lists ≡ without p (list_at 2 m.lists)) (others : SameBut 2 m.lists w.lists) where
        order_kept : (i : ℕ) (l : List Ptr) → list_at i w.lists ≡ l → order i w ≡ in_order m.nodes l
        order_kept i l e = ap (λ c. in_order c (list_at i w.lists)) nodes ∙ ap (in_order m.nodes) e

        same1 : list_at 1 w.lists ≡ list_at 1 m.lists
        same1 = others 1 (λ e. absurd cc)

        pub ready_sorted : AreFrom priority 0 (order 1 w)
        ready_sorted = subst (AreFrom priority 0) (sym (order_kept 1 (list_at 1 m.lists) same1)) t.sorted

        module _ (u : Mapped (Entry T)) (l : IsLinkedIn priority 1 w p u) where
          pub readied : IsReadied (shown m) x (shown u)
          readied =
              let is : l.entry ≡ x = (let a = sym l.value ∙ ap (λ c. value_at c p) nodes ∙ v in cc) in record {
                tasks = order_other priority 1 w p u l 0 (λ e. absurd cc) ∙ order_kept 0 (list_at 0 m.lists) (others 0 (λ e. absurd cc));
                ready = subst (λ y. IsPlaced priority (order 1 m) y (order 1 u)) is (subst (λ z. IsPlaced priority z l.entry (order 1 u)) (order_kept 1 (list_at 1 m.lists) same1) l.placed);
                waiting = order_other priority 1 w p u l 2 (λ e. absurd cc) ∙ order_kept 2 (without p (list_at 2 m.lists)) two ∙ order_without nat_eq m s p x v 2;
              }

          pub readied_table : IsTable u
          readied_table = record {
            apart = λ q h. ap (is_in q) (l.others 2 (λ e. absurd cc) ∙ two) ∙ split (same_ptr p q)
                (λ is. subst (λ z. is_in z (without p (list_at 2 m.lists)) ≡ false) (same_ptr_eq p q is) (out_of 2))
                (λ other. without_other p q (list_at 2 m.lists) other
                ∙ t.apart q (sym (ap (is_in q) (l.new) ∙ other_mid q p l.before l.after (other_way p q other) ∙ sym (ap (is_in q) l.old) ∙ ap (is_in q) same1) ∙ h));
            sorted = l.sorted;
          }

      -- ---- it went
      pub left_table : (u : Mapped (Entry T)) → IsTakenOut nat_eq 3 m p x u → IsTable u
      left_table u r =
          let one = r.lists 1 (omega arith) in let two = r.lists 2 (omega arith) in record {
            apart = λ q h. let i = left_in 1 q (sym (ap (is_in q) one) ∙ h) in ap (is_in q) two ∙ without_other p q (list_at 2 m.lists) i.0 ∙ t.apart q i.1;
            sorted = subst (AreFrom priority 0) (sym (r.orders 1 (omega arith))) (from_cut priority (nat_eq x.0) 0 (order 1 m) t.sorted);
          }

      -- ---- it was the first that is ready, and runs now
      pub first_ready : (u : Mapped (Entry T)) → u.nodes ≡ m.nodes → list_at 1 m.lists ≡ p ∷ list_at 1 u.lists → order 1 m ≡ x ∷ order 1 u
      first_ready u nodes one = ap (in_order m.nodes) one ∙ order_here m.nodes p (list_at 1 u.lists) x v ∙ ap (λ c. x ∷ in_order c (list_at 1 u.lists)) (sym nodes)

      pub run_table : (u : Mapped (Entry T)) → u.nodes ≡ m.nodes → list_at 1 m.lists ≡ p ∷ list_at 1 u.lists → SameBut 1 m.lists u.lists → IsTable u
      run_table u nodes one others = record {
        apart = λ q h. ap (is_in q) (others 2 (λ e. absurd cc)) ∙ t.apart q (ap (is_in q) one ∙ in_more q p (list_at 1 u.lists) h);
        sorted = from_less priority (priority x.1) 0 (order 1 u) (omega arith) ((subst (AreFrom priority 0) (first_ready u nodes one) t.sorted).1);
      }

    -- ---- a node came
    pub put_table : (p : Ptr) (x : Entry T) (u : Mapped (Entry T)) → IsPut nat_eq m p x u → IsTable u
    put_table p x u r =
        let one = r.others 1 (λ e. absurd cc) in let two = r.others 2 (λ e. absurd cc) in record {
          apart = λ q h. ap (is_in q) two ∙ t.apart q (sym (ap (is_in q) one) ∙ h);
          sorted = subst (AreFrom priority 0) (sym (r.orders 1 (omega arith))) t.sorted;
        }

  pub spawned : (p : Ptr) (x : Entry T) (w u : Mapped (Entry T)) → task x.0 (order 0 m) ≡ None → IsPut nat_eq m p x w → HasAt w (λ y. IsReadied (shown w) y (shown u)) p → IsSpawned (shown m) x (shown u)
  spawned p x w u none r h =
      let is : h.entry ≡ x = (let a = sym h.value ∙ r.value in cc) in record {
        absent = none;
        tasks = h.holds.tasks ∙ r.entries;
        ready = subst (λ y. IsPlaced priority (order 1 m) y (order 1 u)) is (subst (λ z. IsPlaced priority z h.entry (order 1 u)) (r.orders 1 (omega arith)) h.holds.ready);
        waiting = h.holds.waiting ∙ ap (λ (y : Entry T). others y.0 (order 2 w)) is ∙ ap (others x.0) (r.orders 2 (omega arith)) ∙ none_cut (nat_eq x.0) (order 2 m) (absent_in nat_eq m s 2 x.0 none);
      }
