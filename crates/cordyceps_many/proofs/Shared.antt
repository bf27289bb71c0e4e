-- What one list's call leaves of all.
use Rattle.std.proofs.Common.{◌≡◌, ◌≢◌, ◌⊎◌, inl, inr, ℕ, zero, suc, ◌+◌, ◌<◌, ◌≤◌, Bool, true, false, if◌then◌else◌, List, [], ◌∷◌, ◌++◌, length, take, drop, slice_get, Some, refl, sym, ap, ◌∙◌, subst, arith}
use Rattle.std.proofs.lemmas.Bool.{cases_eq, cases_lt}
use lib.ListN.{set, replicate}
use denote.RawPtr.{Ptr, null_ptr}
use Rattle.cordyceps_many.specs.declared.hook.Hook.{Hook}
use Rattle.cordyceps_many.specs.declared.hook.Ends.{Ends}
use Rattle.cordyceps_base.specs.Boxes.{box_addresses, box_values}
use Rattle.cordyceps_base.specs.BySpot.{HasSpot, IsTaken}
use Rattle.cordyceps_base.specs.Element.{Element}
use Rattle.cordyceps_base.specs.Spots.{same_ptr, index_of, IsNew, AreDistinct, AreNullComparable}
use Rattle.cordyceps_many.specs.Threads.{is_in, without, no_ends, ends_in, walk, AllOff, IsThread, IsOpen}
use Rattle.cordyceps_base.specs.declared.boxes.homes.Home.{Home}
use Rattle.cordyceps_many.specs.declared.block.Block.{Block}
use Rattle.cordyceps_many.specs.Rows.{Held, hook_at, nodes_of, block_of, block_element, IsOut, KeepsOthers}
use Rattle.cordyceps_many.proofs.HookRows.{cut, at_none, at_left, in_left, left_new, marked_in, at_joined, other_joined, marks_joined, addresses_joined, nodes_joined}
use Rattle.cordyceps_base.proofs.SpotsMemory.{same_ptr_eq, same_ptr_refl}
use Rattle.cordyceps_base.specs.Nodes.{Nodes, spots}
use Rattle.cordyceps_base.proofs.Memory.{take-drop}
use Rattle.cordyceps_many.proofs.Members.{has_in, in_has}
use Rattle.cordyceps_many.specs.MultiList.{Multi, list_at, thread, lists_in, AreThreads, IsMulti, SameBut}
use Rattle.cordyceps_many.proofs.Threads.{split, differ, without_other, thread_none, other_way, in_here, in_there, in_more, in_append, Same, same_all, chain_keep, thread_is}

ends_past : (es : List Ends) (i : ℕ) → length es ≤ i → ends_in es i ≡ no_ends
ends_past [] i l = refl
ends_past (e ∷ es) zero l = absurd (omega arith)
ends_past (e ∷ es) (suc i) l = ends_past es i (omega arith)

positive : (j : ℕ) → (j ≡ 0 → ⊥) → 0 < j
positive zero n = absurd (n refl)
positive (suc j) n = omega arith

ends_set : (es : List Ends) (i : ℕ) (e : Ends) → i < length es → ends_in (set es i e) i ≡ e
ends_set [] i e l = absurd (omega arith)
ends_set (f ∷ es) zero e l = refl
ends_set (f ∷ es) (suc i) e l = ends_set es i e (omega arith)

ends_kept : (es : List Ends) (i j : ℕ) (e : Ends) → j ≢ i → ends_in (set es i e) j ≡ ends_in es j
ends_kept [] i j e n = refl
ends_kept (f ∷ es) zero zero e n = absurd (n refl)
ends_kept (f ∷ es) zero (suc j) e n = refl
ends_kept (f ∷ es) (suc i) zero e n = refl
ends_kept (f ∷ es) (suc i) (suc j) e n = ends_kept es i j e (λ h. n (ap suc h))

ends_long : (es : List Ends) (i : ℕ) (e : Ends) → length (set es i e) ≡ length es
ends_long [] i e = refl
ends_long (f ∷ es) zero e = refl
ends_long (f ∷ es) (suc i) e = ap suc (ends_long es i e)

-- a list is what a walk comes to
pub own : (f : Ptr → Hook) (e : Ends) (s : List Ptr) → IsThread f e s → IsThread f e (walk f e.len e.first.ptr)
own f e s t = subst (IsThread f e) (sym (thread_is f e s t)) t

-- a list stays where its hooks do
pub moved : (f g : Ptr → Hook) (e : Ends) (s : List Ptr) → ((q : Ptr) → g q ≡ f q) → IsThread f e s → IsThread g e s
moved f g e s k t = record { long = t.long; once = t.once; marks = λ p. ap (λ (h : Hook). h.linked) (k p) ∙ t.marks p; chain = chain_keep f g null_ptr e.first.ptr s e.last.ptr null_ptr t.chain (same_all f g s k) }

moved_in : (f g : Ptr → Hook) (e : Ends) (s : List Ptr) → ((q : Ptr) → (g q).linked ≡ (f q).linked) → Same f g s → IsThread f e s → IsThread g e s
moved_in f g e s k a t = record { long = t.long; once = t.once; marks = λ p. k p ∙ t.marks p; chain = chain_keep f g null_ptr e.first.ptr s e.last.ptr null_ptr t.chain a }

same_in : (f g : Ptr → Hook) (s : List Ptr) → ((x : Ptr) → is_in x s ≡ true → g x ≡ f x) → Same f g s
same_in f g [] k = tt
same_in f g (x ∷ s) k = (k x (in_here x x s (same_ptr_refl x)), same_in f g s (λ y m. k y (in_more y x s m)))

-- the last of distinct spots is none of the others
new_end : (q : Ptr) (s : List Ptr) (p : Ptr) → IsNew q (s ++ p ∷ []) → same_ptr q p ≡ false
new_end q [] p n = n.0
new_end q (x ∷ s) p n = new_end q s p n.1

pub last_new : (s : List Ptr) (p : Ptr) → AreDistinct (s ++ p ∷ []) → is_in p s ≡ false
last_new [] p d = refl
last_new (x ∷ s) p d = in_there p x s (other_way x p (new_end x s p d.0)) ∙ last_new s p d.1

module _ {X Y A E : Type 0} where
  pub spots_are : (ns : List (Held X Y A E)) → spots (nodes_of ns) ≡ box_addresses ns
  spots_are [] = refl
  spots_are (n ∷ ns) = ap (λ ps. n.0 ∷ ps) (spots_are ns)

  list_from : (ns : List (Held X Y A E)) (es : List Ends) (i j k : ℕ) → k ≡ i + j → list_at j (lists_in ns i es) ≡ thread ns k (ends_in es j)
  list_from ns [] i j k e = refl
  list_from ns (f ∷ es) i zero k e = let same : k ≡ i = omega arith in ap (λ m. thread ns m f) (sym same)
  list_from ns (f ∷ es) i (suc j) k e = list_from ns es (suc i) j k (omega arith)

  pub list_is : (ns : List (Held X Y A E)) (es : List Ends) (j : ℕ) → list_at j (lists_in ns 0 es) ≡ thread ns j (ends_in es j)
  list_is ns es j = list_from ns es 0 j j (omega arith)

  -- what is known of all lists but list i
  pub record AreOthers (k i : ℕ) (es : List Ends) (ns : List (Held X Y A E)) : Type 0 where
    pub long : length es ≡ k
    pub distinct : AreDistinct (box_addresses ns)
    pub comparable : AreNullComparable (box_addresses ns)
    pub threads : (j : ℕ) → j ≢ i → IsThread (hook_at ns j) (ends_in es j) (thread ns j (ends_in es j))

  pub others_of : (k i : ℕ) (es : List Ends) (ns : List (Held X Y A E)) → AreThreads k es ns → AreOthers k i es ns
  others_of k i es ns w = record { long = w.long; distinct = w.distinct; comparable = w.comparable; threads = λ j n. w.threads j }

  -- a call has changed list i
  module _ (k : ℕ) (es : List Ends) (ns ms : List (Held X Y A E)) (i : ℕ) (e : Ends) (w : AreOthers k i es ns) (within : i < k) (rest : KeepsOthers i ns ms) where
    fits : i < length es
    fits = let l = w.long in omega (arith, l, within)

    pub other : (j : ℕ) → j ≢ i → IsThread (hook_at ms j) (ends_in (set es i e) j) (thread ns j (ends_in es j))
    other j n = subst (λ d. IsThread (hook_at ms j) d (thread ns j (ends_in es j))) (sym (ends_kept es i j e n)) (moved (hook_at ns j) (hook_at ms j) (ends_in es j) (thread ns j (ends_in es j)) (rest.hooks j n) (w.threads j n))

    pub ends_with : ends_in (set es i e) i ≡ e
    ends_with = ends_set es i e fits

    pub others_with : AreOthers k i (set es i e) ms
    others_with = record {
      long = ends_long es i e ∙ w.long;
      distinct = subst AreDistinct (sym rest.addresses) w.distinct;
      comparable = subst AreNullComparable (sym rest.addresses) w.comparable;
      threads = λ j n. own (hook_at ms j) (ends_in (set es i e) j) (thread ns j (ends_in es j)) (other j n);
    }

    pub lists_with : SameBut i (lists_in ns 0 es) (lists_in ms 0 (set es i e))
    lists_with j n = list_is ms (set es i e) j ∙ thread_is (hook_at ms j) (ends_in (set es i e) j) (thread ns j (ends_in es j)) (other j n) ∙ sym (list_is ns es j)

    module _ (s : List Ptr) (t : IsThread (hook_at ms i) e s) where
      this : IsThread (hook_at ms i) (ends_in (set es i e) i) s
      this = subst (λ d. IsThread (hook_at ms i) d s) (sym ends_with) t

      threads' : (j : ℕ) → (j ≡ i) ⊎ (j ≡ i → ⊥) → IsThread (hook_at ms j) (ends_in (set es i e) j) (thread ms j (ends_in (set es i e) j))
      threads' j (inl same) = subst (λ m. IsThread (hook_at ms m) (ends_in (set es i e) m) (thread ms m (ends_in (set es i e) m))) (sym same) (own (hook_at ms i) (ends_in (set es i e) i) s this)
      threads' j (inr n) = own (hook_at ms j) (ends_in (set es i e) j) (thread ns j (ends_in es j)) (other j n)

      pub parts_with : AreThreads k (set es i e) ms
      parts_with = record {
        long = others_with.long;
        distinct = others_with.distinct;
        comparable = others_with.comparable;
        threads = λ j. threads' j (cases_eq j i);
      }

      pub list_with : list_at i (lists_in ms 0 (set es i e)) ≡ s
      list_with = list_is ms (set es i e) i ∙ thread_is (hook_at ms i) (ends_in (set es i e) i) s this

      module _ (all : i ≡ 0 → (p : Ptr) → is_in p (box_addresses ns) ≡ true → is_in p s ≡ true) (kept : (i ≡ 0 → ⊥) → (p : Ptr) → is_in p (box_addresses ns) ≡ true → (hook_at ns 0 p).linked ≡ true) where
        whole' : (i ≡ 0) ⊎ (i ≡ 0 → ⊥) → (p : Ptr) → is_in p (box_addresses ms) ≡ true → (hook_at ms 0 p).linked ≡ true
        whole' (inl z) p there = subst (λ m. (hook_at ms m p).linked ≡ true) z (t.marks p ∙ all z p (subst (λ a. is_in p a ≡ true) rest.addresses there))
        whole' (inr n) p there = ap (λ (h : Hook). h.linked) (rest.hooks 0 (λ z. n (sym z)) p) ∙ kept n p (subst (λ a. is_in p a ≡ true) rest.addresses there)

        pub multi_with : IsMulti k (set es i e) ms
        multi_with = record { parts = parts_with; whole = whole' (cases_eq i 0) }

  -- a node that no list but list 0 has came
  module _ (k : ℕ) (es : List Ends) (ns js : List (Held X Y A E)) (p : Ptr) (a : Home) (x : Block X Y A E) (w : AreThreads k es ns) (is : js ≡ ns ++ (p, a, x) ∷ []) (d : AreDistinct (box_addresses js)) (c : AreNullComparable (box_addresses js)) (off : AllOff x.hooks) where
    module _ (j : ℕ) (more : 0 < j) where
      came_marks : (q : Ptr) → (hook_at js j q).linked ≡ (hook_at ns j q).linked
      came_marks q = ap (λ ls. (hook_at ls j q).linked) is ∙ marks_joined ns p a x j q more off

      came_same : (s : List Ptr) → ((q : Ptr) → is_in q s ≡ true → is_in q (box_addresses ns) ≡ true) → Same (hook_at ns j) (hook_at js j) s
      came_same s all = same_in (hook_at ns j) (hook_at js j) s (λ q m. ap (λ ls. hook_at ls j q) is ∙ at_joined ns ((p, a, x) ∷ []) j q (all q m))

      pub came_thread : (e : Ends) (s : List Ptr) → IsThread (hook_at ns j) e s → IsThread (hook_at js j) e s
      came_thread e s t = moved_in (hook_at ns j) (hook_at js j) e s came_marks (came_same s (λ q m. marked_in ns j q (t.marks q ∙ m))) t

    pub came : AreOthers k 0 es js
    came = record {
      long = w.long;
      distinct = d;
      comparable = c;
      threads = λ j n. own (hook_at js j) (ends_in es j) (thread ns j (ends_in es j)) (came_thread j (positive j n) (ends_in es j) (thread ns j (ends_in es j)) (w.threads j));
    }

    addresses : box_addresses js ≡ box_addresses ns ++ p ∷ []
    addresses = ap box_addresses is ∙ addresses_joined ns ((p, a, x) ∷ [])

    pub came_new : is_in p (box_addresses ns) ≡ false
    came_new = last_new (box_addresses ns) p (subst AreDistinct addresses d)

    pub came_there : is_in p (box_addresses js) ≡ true
    came_there = ap (is_in p) addresses ∙ in_append p (box_addresses ns) (p ∷ []) ∙ ap (λ (b : Bool). if b then true else is_in p (p ∷ [])) came_new ∙ in_here p p [] (same_ptr_refl p)

    pub came_away : (s : List Ptr) → ((q : Ptr) → is_in q s ≡ true → is_in q (box_addresses ns) ≡ true) → is_in p s ≡ false
    came_away s all = split (is_in p s) (λ yes. let t = all p yes in let n = came_new in absurd cc) (λ no. no)

    -- list 0 has not got it yet
    pub came_open : (e : Ends) (s : List Ptr) → IsThread (hook_at ns 0) e s → IsOpen (hook_at js 0) e s p
    came_open e s t =
        let away = came_away s (λ q m. marked_in ns 0 q (t.marks q ∙ m)) in
        let same : (q : Ptr) → same_ptr p q ≡ false → hook_at js 0 q ≡ hook_at ns 0 q = λ q n. ap (λ ls. hook_at ls 0 q) is ∙ other_joined ns p a x 0 q n in
        record {
          long = t.long;
          once = t.once;
          away = away;
          marks = λ q n. ap (λ (h : Hook). h.linked) (same q n) ∙ t.marks q;
          chain = chain_keep (hook_at ns 0) (hook_at js 0) null_ptr e.first.ptr s e.last.ptr null_ptr t.chain (same_in (hook_at ns 0) (hook_at js 0) s (λ q m. same q (other_way q p (differ q p s m away))));
        }

    pub came_all : (s : List Ptr) → ((q : Ptr) → is_in q (box_addresses ns) ≡ true → is_in q s ≡ true) → (q : Ptr) → is_in q (box_addresses js) ≡ true → is_in q (s ++ p ∷ []) ≡ true
    came_all s all q e = in_append q s (p ∷ []) ∙ split (is_in q (box_addresses ns)) (λ yes. ap (λ (b : Bool). if b then true else is_in q (p ∷ [])) (all q yes))
        (λ no.
        let at : is_in q (p ∷ []) ≡ true = sym (ap (λ (b : Bool). if b then true else is_in q (p ∷ [])) no) ∙ sym (in_append q (box_addresses ns) (p ∷ [])) ∙ sym (ap (is_in q) addresses) ∙ e in
        split (is_in q s) (λ yes. ap (λ (b : Bool). if b then true else is_in q (p ∷ [])) yes) (λ out. ap (λ (b : Bool). if b then true else is_in q (p ∷ [])) out ∙ at))

    pub came_nodes : nodes_of js ≡ nodes_of ns ++ (p, block_element x) ∷ []
    came_nodes = ap nodes_of is ∙ nodes_joined ns ((p, a, x) ∷ [])

    pub came_lists : (j : ℕ) → j ≢ 0 → list_at j (lists_in js 0 es) ≡ list_at j (lists_in ns 0 es)
    came_lists j n = list_is js es j ∙ thread_is (hook_at js j) (ends_in es j) (thread ns j (ends_in es j)) (came_thread j (positive j n) (ends_in es j) (thread ns j (ends_in es j)) (w.threads j)) ∙ sym (list_is ns es j)

  -- a node that no list but list 0 had was taken out, and list 0 is s without it
  module _ (k : ℕ) (es : List Ends) (ns js : List (Held X Y A E)) (p : Ptr) (e : Element X) (s : List Ptr) (w : AreOthers k 0 es ns) (around : IsOpen (hook_at ns 0) (ends_in es 0) (without p s) p) (out : IsOut ns p e js) (d : AreDistinct (box_addresses js)) (c : AreNullComparable (box_addresses js))
      (off : (i : ℕ) → 0 < i → (hook_at ns i p).linked ≡ false) where
    gone_hook : (i : ℕ) (q : Ptr) → same_ptr q p ≡ false → hook_at js i q ≡ hook_at ns i q
    gone_hook i q n = ap (λ ls. hook_at ls i q) out.left ∙ at_left out.front (p, out.alloc, out.block) out.back i q n ∙ sym (ap (λ ls. hook_at ls i q) out.was)

    pub gone_none : is_in p (box_addresses js) ≡ false
    gone_none = ap (λ ls. is_in p (box_addresses ls)) out.left ∙ left_new out.front (p, out.alloc, out.block) out.back (subst (λ ls. AreDistinct (box_addresses ls)) out.was w.distinct)

    module _ (i : ℕ) (more : 0 < i) where
      gone_marks : (q : Ptr) → (hook_at js i q).linked ≡ (hook_at ns i q).linked
      gone_marks q = split (same_ptr q p)
          (λ same. subst (λ z. (hook_at js i z).linked ≡ (hook_at ns i z).linked) (sym (same_ptr_eq q p same)) (ap (λ (h : Hook). h.linked) (at_none js i p gone_none) ∙ sym (off i more)))
          (λ other. ap (λ (h : Hook). h.linked) (gone_hook i q other))

      gone_apart : (q : Ptr) → (hook_at ns i q).linked ≡ true → same_ptr q p ≡ false
      gone_apart q m = split (same_ptr q p) (λ same. let t : (hook_at ns i p).linked ≡ true = subst (λ z. (hook_at ns i z).linked ≡ true) (same_ptr_eq q p same) m in let f = off i more in absurd cc) (λ other. other)

      gone_thread : (f : Ends) (l : List Ptr) → IsThread (hook_at ns i) f l → IsThread (hook_at js i) f l
      gone_thread f l t = moved_in (hook_at ns i) (hook_at js i) f l gone_marks (same_in (hook_at ns i) (hook_at js i) l (λ q m. gone_hook i q (gone_apart q (t.marks q ∙ m)))) t

    gone_first : IsThread (hook_at js 0) (ends_in es 0) (without p s)
    gone_first = record {
      long = around.long;
      once = around.once;
      marks = λ q. split (same_ptr q p)
          (λ same. subst (λ z. (hook_at js 0 z).linked ≡ is_in z (without p s)) (sym (same_ptr_eq q p same)) (ap (λ (h : Hook). h.linked) (at_none js 0 p gone_none) ∙ sym around.away))
          (λ other. ap (λ (h : Hook). h.linked) (gone_hook 0 q other) ∙ around.marks q (other_way q p other));
      chain = chain_keep (hook_at ns 0) (hook_at js 0) null_ptr (ends_in es 0).first.ptr (without p s) (ends_in es 0).last.ptr null_ptr around.chain (same_in (hook_at ns 0) (hook_at js 0) (without p s) (λ q m. gone_hook 0 q (differ q p (without p s) m around.away)));
    }

    gone_threads : (j : ℕ) → (j ≡ 0) ⊎ (j ≡ 0 → ⊥) → IsThread (hook_at js j) (ends_in es j) (thread js j (ends_in es j))
    gone_threads j (inl z) = subst (λ m. IsThread (hook_at js m) (ends_in es m) (thread js m (ends_in es m))) (sym z) (own (hook_at js 0) (ends_in es 0) (without p s) gone_first)
    gone_threads j (inr n) = own (hook_at js j) (ends_in es j) (thread ns j (ends_in es j)) (gone_thread j (positive j n) (ends_in es j) (thread ns j (ends_in es j)) (w.threads j n))

    pub gone_in : (q : Ptr) → is_in q (box_addresses js) ≡ true → is_in q (box_addresses ns) ≡ true
    gone_in q m = subst (λ ls. is_in q (box_addresses ls) ≡ true) (sym out.was) (in_left out.front (p, out.alloc, out.block) out.back q (subst (λ ls. is_in q (box_addresses ls) ≡ true) out.left m))

    -- where list 0 had all nodes
    pub gone : ((q : Ptr) → is_in q (box_addresses ns) ≡ true → is_in q s ≡ true) → IsMulti k es js
    gone all = record {
      parts = record { long = w.long; distinct = d; comparable = c; threads = λ j. gone_threads j (cases_eq j 0) };
      whole = λ q m. gone_first.marks q ∙ without_other p q s (other_way q p (differ q p (box_addresses js) m gone_none)) ∙ all q (gone_in q m);
    }

    pub gone_list : list_at 0 (lists_in js 0 es) ≡ without p s
    gone_list = list_is js es 0 ∙ thread_is (hook_at js 0) (ends_in es 0) (without p s) gone_first

    pub gone_others : (j : ℕ) → j ≢ 0 → list_at j (lists_in js 0 es) ≡ list_at j (lists_in ns 0 es)
    gone_others j n = list_is js es j ∙ thread_is (hook_at js j) (ends_in es j) (thread ns j (ends_in es j)) (gone_thread j (positive j n) (ends_in es j) (thread ns j (ends_in es j)) (w.threads j n)) ∙ sym (list_is ns es j)

  -- what is seen of the lists says of each what links it
  module _ (k : ℕ) (es : List Ends) (ns : List (Held X Y A E)) (v : Multi X) (w : IsMulti k es ns) (seen : record { nodes = nodes_of ns; lists = lists_in ns 0 es } ≡ v) where
    pub in_row : (p : Ptr) → is_in p (spots v.nodes) ≡ true → is_in p (box_addresses ns) ≡ true
    in_row p e = subst (λ s. is_in p s ≡ true) (ap (λ (m : Multi X). spots m.nodes) (sym seen) ∙ spots_are ns) e

    shown : (i : ℕ) → thread ns i (ends_in es i) ≡ list_at i v.lists
    shown i = sym (list_is ns es i) ∙ ap (λ (m : Multi X). list_at i m.lists) seen

    pub linked : (i : ℕ) → IsThread (hook_at ns i) (ends_in es i) (list_at i v.lists)
    linked i = subst (λ (x : List Ptr). IsThread (hook_at ns i) (ends_in es i) x) (shown i) (w.parts.threads i)

    pub all_of : (i : ℕ) → i ≡ 0 → (p : Ptr) → is_in p (box_addresses ns) ≡ true → is_in p (list_at i v.lists) ≡ true
    all_of i z p e = sym ((linked i).marks p) ∙ subst (λ m. (hook_at ns m p).linked ≡ true) (sym z) (w.whole p e)

    pub seen_in : (p : Ptr) → is_in p (box_addresses ns) ≡ true → is_in p (spots v.nodes) ≡ true
    seen_in p e = subst (λ s. is_in p s ≡ true) (sym (ap (λ (m : Multi X). spots m.nodes) (sym seen) ∙ spots_are ns)) e

    pub none_left : (ls : List (Held X Y A E)) → ls ≡ ns → length (list_at 0 v.lists) ≡ 0 → ls ≡ []
    none_left [] is z = refl
    none_left (n ∷ ls) is z = absurd (never (list_at 0 v.lists) z (all_of 0 refl n.0 (subst (λ a. is_in n.0 (box_addresses a) ≡ true) is (in_here n.0 n.0 (box_addresses ls) (same_ptr_refl n.0))))) where
      never : (s : List Ptr) → length s ≡ 0 → is_in n.0 s ≡ true → ⊥
      never [] l m = cc
      never (q ∷ s) l m = absurd (omega (arith, l))

    -- a node that is in no other list of these is in none
    pub away_all : (p : Ptr) → ((j : ℕ) → 0 < j → j < k → is_in p (list_at j v.lists) ≡ false) → (j : ℕ) → (j ≡ 0 → ⊥) → is_in p (list_at j v.lists) ≡ false
    away_all p away j n = past (cases_lt j k) where
      past : (j < k) ⊎ (k ≤ j) → is_in p (list_at j v.lists) ≡ false
      past (inl less) = away j (positive j n) less
      past (inr more) =
          let long = w.parts.long in
          ap (is_in p) (thread_none (hook_at ns j) (ends_in es j) (list_at j v.lists) (linked j) (ap (λ (f : Ends). f.len) (ends_past es j (omega (arith, long, more)))))

    pub others_seen : (ls : List (List Ptr)) (i : ℕ) → SameBut i (lists_in ns 0 es) ls → SameBut i v.lists ls
    others_seen ls i k j n = k j n ∙ ap (λ (m : Multi X). list_at j m.lists) seen

-- ---- a call has changed list i
module _ {X Y A E : Type 0} where
  -- list i is s now, and no other has changed
  pub record Turned (k : ℕ) (ls : List (List Ptr)) (es : List Ends) (ms : List (Held X Y A E)) (i : ℕ) (s : List Ptr) : Type 0 where
    pub parts : AreThreads k es ms
    pub list : list_at i (lists_in ms 0 es) ≡ s
    pub others : SameBut i ls (lists_in ms 0 es)

  module _ (k : ℕ) (es : List Ends) (ns ms : List (Held X Y A E)) (i : ℕ) (e : Ends) (s : List Ptr) (w : AreOthers k i es ns) (within : i < k) (t : IsThread (hook_at ms i) e s) (rest : KeepsOthers i ns ms) (new : List Ends) (is : new ≡ set es i e) (ls : List (List Ptr)) (same : (j : ℕ) → j ≢ i → list_at j (lists_in ns 0 es) ≡ list_at j ls) where
    pub turned : Turned k ls new ms i s
    turned = record {
      parts = subst (λ z. AreThreads k z ms) (sym is) (parts_with k es ns ms i e w within rest s t);
      list = subst (λ z. list_at i (lists_in ms 0 z) ≡ s) (sym is) (list_with k es ns ms i e w within rest s t);
      others = λ j n. subst (λ z. list_at j (lists_in ms 0 z) ≡ list_at j ls) (sym is) (lists_with k es ns ms i e w within rest j n ∙ same j n);
    }

    module _ (all : i ≡ 0 → (p : Ptr) → is_in p (box_addresses ns) ≡ true → is_in p s ≡ true) (kept : (i ≡ 0 → ⊥) → (p : Ptr) → is_in p (box_addresses ns) ≡ true → (hook_at ns 0 p).linked ≡ true) where
      pub turned_multi : IsMulti k new ms
      turned_multi = subst (λ z. IsMulti k z ms) (sym is) (multi_with k es ns ms i e w within rest s t all kept)

  -- what is seen before the call and after it
  pub record After (k : ℕ) (v : Multi X) (es : List Ends) (ms : List (Held X Y A E)) (i : ℕ) (s : List Ptr) : Type 0 where
    pub multi : IsMulti k es ms
    pub nodes : nodes_of ms ≡ v.nodes
    pub list : list_at i (lists_in ms 0 es) ≡ s
    pub others : SameBut i v.lists (lists_in ms 0 es)

  module _ (k : ℕ) (es : List Ends) (ns : List (Held X Y A E)) (v : Multi X) (w : IsMulti k es ns) (seen : record { nodes = nodes_of ns; lists = lists_in ns 0 es } ≡ v) where
    pub same_lists : (j : ℕ) → list_at j (lists_in ns 0 es) ≡ list_at j v.lists
    same_lists j = ap (λ (m : Multi X). list_at j m.lists) seen

    pub held : (i : ℕ) (e : Ends) → e ≡ ends_in es i → IsThread (hook_at ns i) e (list_at i v.lists)
    held i e is = subst (λ f. IsThread (hook_at ns i) f (list_at i v.lists)) (sym is) (linked k es ns v w seen i)

    pub spot_in : (p : Ptr) → HasSpot v.nodes p → is_in p (box_addresses ns) ≡ true
    spot_in p h = in_row k es ns v w seen p (has_in v.nodes p h)

    pub in_spot : (p : Ptr) → is_in p (box_addresses ns) ≡ true → HasSpot v.nodes p
    in_spot p m = in_has v.nodes p (seen_in k es ns v w seen p m)

    pub listed : (i : ℕ) (p : Ptr) → is_in p (list_at i v.lists) ≡ true → is_in p (box_addresses ns) ≡ true
    listed i p m = marked_in ns i p ((linked k es ns v w seen i).marks p ∙ m)

    module _ (ms : List (Held X Y A E)) (i : ℕ) (e : Ends) (s : List Ptr) (within : i < k) (t : IsThread (hook_at ms i) e s) (rest : KeepsOthers i ns ms) (new : List Ends) (is : new ≡ set es i e) (all : i ≡ 0 → (p : Ptr) → is_in p (list_at i v.lists) ≡ true → is_in p s ≡ true) where
      pub after : After k v new ms i s
      after =
          let o = others_of k i es ns w.parts in let u = turned k es ns ms i e s o within t rest new is v.lists (λ j n. same_lists j) in
          record {
            multi = turned_multi k es ns ms i e s o within t rest new is v.lists (λ j n. same_lists j) (λ z p m. all z p (all_of k es ns v w seen i z p m)) (λ n. w.whole);
            nodes = rest.nodes ∙ ap (λ (m : Multi X). m.nodes) seen;
            list = u.list;
            others = u.others;
          }

  -- a node was taken out of the row
  pub out_taken : (ns ms : List (Held X Y A E)) (p : Ptr) (e : Element X) → IsOut ns p e ms → IsTaken (nodes_of ns) p e (nodes_of ms)
  out_taken ns ms p e o = (
    nodes_of o.front,
    nodes_of o.back,
    ap nodes_of o.was ∙ nodes_joined o.front ((p, o.alloc, o.block) ∷ o.back) ∙ ap (λ x. nodes_of o.front ++ (p, x) ∷ nodes_of o.back) o.shows,
    ap nodes_of o.left ∙ nodes_joined o.front o.back,
  )

  -- what a node that is read shows
  pub record ShownAt (d : Nodes X) (p : Ptr) (b : Block X Y A E) : Type 0 where
    pub before : Nodes X
    pub behind : Nodes X
    pub whole : d ≡ before ++ (p, block_element b) ∷ behind

  pub shown_at : (ns : List (Held X Y A E)) (d : Nodes X) → nodes_of ns ≡ d → (p : Ptr) → is_in p (box_addresses ns) ≡ true → (b : Block X Y A E) → slice_get (box_values (drop (index_of p (box_addresses ns)) ns)) 0 ≡ Some b → ShownAt d p b
  shown_at ns d is p here b got =
      let u = cut ns p here in let k = index_of p (box_addresses ns) in
      let at : Some (block_of u.node) ≡ Some b = sym (ap (λ ls. slice_get (box_values ls) 0) u.back) ∙ got in let same : block_of u.node ≡ b = cc in
      record {
        before = nodes_of (take k ns);
        behind = nodes_of u.after;
        whole = sym is ∙ ap nodes_of (take-drop k ns ∙ (λ i. take k ns ++ u.back i)) ∙ nodes_joined (take k ns) (u.node ∷ u.after) ∙ (λ i. nodes_of (take k ns) ++ (u.lies i, block_element (same i)) ∷ nodes_of u.after);
      }

-- no list has a node
pub none_at : (k i : ℕ) → ends_in (replicate k no_ends) i ≡ no_ends
none_at zero i = refl
none_at (suc k) zero = refl
none_at (suc k) (suc i) = none_at k i

none_long : (k : ℕ) → length (replicate k no_ends) ≡ k
none_long zero = refl
none_long (suc k) = ap suc (none_long k)

module _ (X Y A E : Type 0) where
  abbrev nothing : List (Held X Y A E)
  nothing = []

  pub none_linked : (k : ℕ) → IsMulti k (replicate k no_ends) nothing
  none_linked k = record {
    parts = record {
      long = none_long k;
      distinct = tt;
      comparable = tt;
      threads = λ i. subst (λ (e : Ends). IsThread (hook_at nothing i) e (thread nothing i e)) (sym (none_at k i)) (record { long = refl; once = tt; marks = λ p. refl; chain = (refl, refl) });
    };
    whole = λ p e. absurd cc;
  }

  pub none_shown : (k i : ℕ) → list_at i (lists_in nothing 0 (replicate k no_ends)) ≡ []
  none_shown k i = list_is nothing (replicate k no_ends) i ∙ ap (λ (e : Ends). thread nothing i e) (none_at k i)
