-- What stays linked where a node is reached by its spot.
use Rattle.std.proofs.Common.{◌≡◌, ℕ, zero, suc, ◌+◌, ◌-◌, ◌<◌, ◌≤◌, Bool, true, false, if◌then◌else◌, List, [], ◌∷◌, ◌++◌, length, take, drop, slice_get, Some, refl, sym, ap, ◌∙◌, subst, arith, length-append, append_assoc}
use lib.Dec.{lit<}
use denote.RawPtr.{Ptr, null_ptr, Testable, InBlock}
use Rattle.cordyceps_base.specs.declared.boxes.homes.Home.{Home}
use Rattle.cordyceps_base.specs.declared.boxes.Address.{Address}
use Rattle.cordyceps_base.specs.declared.node.Block.{Block}
use Rattle.cordyceps_base.specs.Element.{Element}
use Rattle.cordyceps_base.specs.Boxes.{box_addresses, box_values, set_value}
use Rattle.cordyceps_base.specs.Spots.{same_ptr, index_of, AreNullComparable}
use Rattle.cordyceps_base.specs.BySpot.{HasSpot, IsFirst, IsLast, AreNext}
use Rattle.cordyceps_base.specs.DoubleChain.{Segment, IsLinked, next_of, prev_of}
use Rattle.cordyceps_base.specs.Nodes.{Nodes, spots, block_of, block_element, OwnedNode, nodes_of}
use Rattle.cordyceps_base.proofs.SpotsMemory.{same_ptr_eq, same_ptr_refl}
use Rattle.cordyceps_base.proofs.Memory.{take-drop}
use Rattle.cordyceps_base.proofs.DoubleChain.{with_next}
use Rattle.cordyceps_base.proofs.Nodes.{Row, nodes_of-append, nodes_of-set, length-nodes_of, at_place}

pub null_Testable : Testable null_ptr
null_Testable = lit< tt

module _ {Z B : Type 0} where
  -- the box that lies at an address, where the row is cut
  record Found (p : Ptr) (ns : List (Ptr × Z × B)) : Type 0 where
    box : Ptr × Z × B
    after : List (Ptr × Z × B)
    back : drop (index_of p (box_addresses ns)) ns ≡ box ∷ after
    lies : box.0 ≡ p

  found : (ns : List (Ptr × Z × B)) (p : Ptr) (k : ℕ) → slice_get (box_addresses ns) k ≡ Some p → Found p ns
  found [] p k e = cc
  found (n ∷ ns) p zero e =
      let here : n.0 ≡ p = cc in
      let same : same_ptr p n.0 ≡ true = subst (λ q. same_ptr p q ≡ true) (sym here) (same_ptr_refl p) in
      record { box = n; after = ns; back = ap (λ (b : Bool). drop (if b then zero else suc (index_of p (box_addresses ns))) (n ∷ ns)) same; lies = here }
  found (n ∷ ns) p (suc k) e = (elim (same_ptr p n.0) as (λ z. same_ptr p n.0 ≡ z → Found p (n ∷ ns)) [
    | true ↦ λ same. record { box = n; after = ns; back = ap (λ (b : Bool). drop (if b then zero else suc (index_of p (box_addresses ns))) (n ∷ ns)) same; lies = sym (same_ptr_eq p n.0 same) }
    | false ↦ λ other. let on = found ns p k e in record { box = on.box; after = on.after; back = ap (λ (b : Bool). drop (if b then zero else suc (index_of p (box_addresses ns))) (n ∷ ns)) other ∙ on.back; lies = on.lies }
  ]) refl

  pub comparable_front : (xs ys : List (Ptr × Z × B)) → AreNullComparable (box_addresses (xs ++ ys)) → AreNullComparable (box_addresses xs)
  comparable_front [] ys a = tt
  comparable_front (x ∷ xs) ys a = (a.0, comparable_front xs ys a.1)

  pub comparable_upto : (xs : List (Ptr × Z × B)) (n : Ptr × Z × B) (ys : List (Ptr × Z × B)) → AreNullComparable (box_addresses (xs ++ n ∷ ys)) → AreNullComparable (box_addresses (xs ++ n ∷ []))
  comparable_upto [] n ys a = (a.0, tt)
  comparable_upto (x ∷ xs) n ys a = (a.0, comparable_upto xs n ys a.1)

  pub comparable_back : (xs ys : List (Ptr × Z × B)) → AreNullComparable (box_addresses (xs ++ ys)) → AreNullComparable (box_addresses ys)
  comparable_back [] ys a = a
  comparable_back (x ∷ xs) ys a = comparable_back xs ys a.1

module _ {X : Type 0} where
  pub segment_front : (p h : Ptr) (xs : Row X) (n : OwnedNode X) (ys : Row X) (t q : Ptr) → Segment p h (xs ++ n ∷ ys) t q → Segment p h xs (prev_of (block_of n)) n.0
  segment_front p h [] n ys t q f = f.0
  segment_front p h (x ∷ xs) n ys t q f = (f.0, segment_front x.0 (next_of (block_of x)) xs n ys t q f.1)

  pub segment_back : (p h : Ptr) (xs : Row X) (n : OwnedNode X) (ys : Row X) (t q : Ptr) → Segment p h (xs ++ n ∷ ys) t q → Segment n.0 (next_of (block_of n)) ys t q
  segment_back p h [] n ys t q f = f.1
  segment_back p h (x ∷ xs) n ys t q f = segment_back x.0 (next_of (block_of x)) xs n ys t q f.1

  pub segment_upto : (p h : Ptr) (xs : Row X) (n : OwnedNode X) (ys : Row X) (t q : Ptr) → Segment p h (xs ++ n ∷ ys) t q → Segment p h (xs ++ n ∷ []) n.0 (next_of (block_of n))
  segment_upto p h [] n ys t q f = (f.0, (refl, refl))
  segment_upto p h (x ∷ xs) n ys t q f = (f.0, segment_upto x.0 (next_of (block_of x)) xs n ys t q f.1)

  -- ---- the last node
  pub last_testable : (p h : Ptr) (ns : Row X) (t q : Ptr) → Segment p h ns t q → AreNullComparable (box_addresses ns) → Testable p → Testable t
  last_testable p h [] t q f a z = subst Testable (sym f.1) z
  last_testable p h (n ∷ ns) t q f a z = last_testable n.0 (next_of (block_of n)) ns t q f.1 a.1 a.0.1

  last_block : (p h : Ptr) (n : OwnedNode X) (ns : Row X) (t q : Ptr) → Segment p h (n ∷ ns) t q → AreNullComparable (box_addresses (n ∷ ns)) → InBlock t
  last_block p h n [] t q f a = subst InBlock (sym f.1.1) a.0.0
  last_block p h n (m ∷ ns) t q f a = last_block n.0 (next_of (block_of n)) m ns t q f.1 a.1

  pub some_last : (h : Ptr) (ns : Row X) (t q : Ptr) → Segment null_ptr h ns t q → InBlock t → 0 < length ns
  some_last h [] t q f b = absurd (subst InBlock f.1 b)
  some_last h (n ∷ ns) t q f b = omega arith

  pub no_last : (h nx : Ptr) (ns : Row X) (t q : Ptr) → Segment null_ptr h ns t q → AreNullComparable (box_addresses ns) → t ≡ null_ptr → Segment null_ptr nx ns t nx
  no_last h nx [] t q f a e = (refl, f.1)
  no_last h nx (n ∷ ns) t q f a e = absurd (subst InBlock e (last_block null_ptr h n ns t q f a))

  pub last_there : (p h : Ptr) (ns : Row X) (t q : Ptr) (j : ℕ) → suc j ≡ length ns → Segment p h ns t q → slice_get (box_addresses (drop j ns)) 0 ≡ Some t
  last_there p h [] t q j e f = absurd (omega (arith, e))
  last_there p h (n ∷ []) t q zero e f = ap Some (sym f.1.1)
  last_there p h (n ∷ []) t q (suc j) e f = absurd (omega (arith, e))
  last_there p h (n ∷ m ∷ ns) t q zero e f = absurd (omega (arith, e))
  last_there p h (n ∷ m ∷ ns) t q (suc j) e f = last_there n.0 (next_of (block_of n)) (m ∷ ns) t q j (omega (arith, e)) f.1

  pub last_relinked : (p h : Ptr) (ns : Row X) (t q : Ptr) (nx : Address) (b : Block X) (j : ℕ) → suc j ≡ length ns → Segment p h ns t q → slice_get (box_values (drop j ns)) 0 ≡ Some b
      → Segment p h (take j ns ++ set_value (drop j ns) 0 (with_next b nx)) t nx.ptr
  last_relinked p h [] t q nx b j e f r = absurd (omega (arith, e))
  last_relinked p h (n ∷ []) t q nx b zero e f r = let same : block_of n ≡ b = cc in ((f.0.0, ap (λ (x : Block X). prev_of x) (sym same) ∙ f.0.1), (refl, f.1.1))
  last_relinked p h (n ∷ []) t q nx b (suc j) e f r = absurd (omega (arith, e))
  last_relinked p h (n ∷ m ∷ ns) t q nx b zero e f r = absurd (omega (arith, e))
  last_relinked p h (n ∷ m ∷ ns) t q nx b (suc j) e f r = (f.0, last_relinked n.0 (next_of (block_of n)) (m ∷ ns) t q nx b j (omega (arith, e)) f.1 r)

  pub shown_relinked : (ns : Row X) (k : ℕ) (b : Block X) (nx : Address) → slice_get (box_values (drop k ns)) 0 ≡ Some b → nodes_of (take k ns ++ set_value (drop k ns) 0 (with_next b nx)) ≡ nodes_of ns
  shown_relinked ns k b nx e =
      nodes_of-append (take k ns) (set_value (drop k ns) 0 (with_next b nx)) ∙ ap (λ s. nodes_of (take k ns) ++ s) (nodes_of-set (drop k ns) 0 b (with_next b nx) e refl refl)
      ∙ sym (nodes_of-append (take k ns) (drop k ns)) ∙ ap nodes_of (sym (take-drop k ns))

  pub last_one : (p h : Ptr) (ns : Row X) (t q : Ptr) (j : ℕ) → suc j ≡ length ns → Segment p h ns t q → (a : Home) × (x : Block X) × (drop j ns ≡ (t, a, x) ∷ [])
  last_one p h [] t q j e f = absurd (omega (arith, e))
  last_one p h (n ∷ []) t q zero e f = (n.1, block_of n, λ i. (sym f.1.1 i, n.1, block_of n) ∷ [])
  last_one p h (n ∷ []) t q (suc j) e f = absurd (omega (arith, e))
  last_one p h (n ∷ m ∷ ns) t q zero e f = absurd (omega (arith, e))
  last_one p h (n ∷ m ∷ ns) t q (suc j) e f = last_one n.0 (next_of (block_of n)) (m ∷ ns) t q j (omega (arith, e)) f.1

  -- ---- the first node
  pub first_one : (p h : Ptr) (ns : Row X) (t q : Ptr) → 0 < length ns → Segment p h ns t q → (a : Home) × (x : Block X) × (take 1 ns ≡ (h, a, x) ∷ [])
  first_one p h [] t q some f = absurd (omega (arith, some))
  first_one p h (n ∷ ns) t q some f = (n.1, block_of n, λ i. (sym f.0.0 i, n.1, block_of n) ∷ [])

  pub first_testable : (p f : Ptr) (ns : Row X) (t : Ptr) → Segment p f ns t null_ptr → AreNullComparable (box_addresses ns) → Testable f
  first_testable p f [] t s a = subst Testable (sym s.0) null_Testable
  first_testable p f (n ∷ ns) t s a = subst Testable (sym s.0.0) a.0.1

  pub first_there : (p f : Ptr) (ns : Row X) (t : Ptr) → Segment p f ns t null_ptr → InBlock f → slice_get (box_addresses ns) 0 ≡ Some f
  first_there p f [] t s b = absurd (subst InBlock s.0 b)
  first_there p f (n ∷ ns) t s b = ap Some (sym s.0.0)

  pub no_first : (p f pr : Ptr) (ns : Row X) (t : Ptr) → Segment p f ns t null_ptr → AreNullComparable (box_addresses ns) → f ≡ null_ptr → Segment pr f ns pr null_ptr
  no_first p f pr [] t s a e = (e, refl)
  no_first p f pr (n ∷ ns) t s a e = absurd (subst InBlock (sym s.0.0 ∙ e) a.0.0)

module _ {X : Type 0} where
  -- all that a cut at an address shows of a chain
  pub record Cut (h t : Ptr) (ns front back : Row X) (p : Ptr) : Type 0 where
    pub node : OwnedNode X
    pub after : Row X
    pub here : back ≡ node ∷ after
    pub whole : ns ≡ front ++ node ∷ after
    pub lies : node.0 ≡ p
    pub there : slice_get (box_addresses back) 0 ≡ Some p
    pub first : Segment null_ptr h front (prev_of (block_of node)) node.0
    pub second : Segment node.0 (next_of (block_of node)) after t null_ptr

  pub cut : {h t : Ptr} {len : ℕ} {ns front back : Row X} {v : Nodes X} {p : Ptr} → nodes_of ns ≡ v → HasSpot v p → IsLinked h t len ns
      → (front ≡ take (index_of p (box_addresses ns)) ns) × (back ≡ drop (index_of p (box_addresses ns)) ns) → Cut h t ns front back p
  cut {h = h} {t = t} {ns = ns} {front = front} {v = v} {p = p} seen at linked (f, g) =
      let i = index_of p (box_addresses ns) in
      let on : Found p ns = found ns p at.0 (at_place ns v seen at.0 p at.1) in let n = on.box in let ys = on.after in
      let whole : ns ≡ front ++ n ∷ ys = take-drop i ns ∙ (λ j. sym f j ++ on.back j) in
      let linked' : Segment null_ptr h (front ++ n ∷ ys) t null_ptr = subst (λ ls. Segment null_ptr h ls t null_ptr) whole linked.segment in
      record {
        node = n;
        after = ys;
        here = g ∙ on.back;
        whole = whole;
        lies = on.lies;
        there = ap (λ ls. slice_get (box_addresses ls) 0) (g ∙ on.back) ∙ ap Some on.lies;
        first = segment_front null_ptr h front n ys t null_ptr linked';
        second = segment_back null_ptr h front n ys t null_ptr linked';
      }

  module _ {h t : Ptr} {ns front back : Row X} {p : Ptr} (u : Cut h t ns front back p) where
    pub node_is : (b : Block X) → slice_get (box_values back) 0 ≡ Some b → block_of u.node ≡ b
    node_is b e = let at : slice_get (box_values (u.node ∷ u.after)) 0 ≡ Some b = subst (λ ls. slice_get (box_values ls) 0 ≡ Some b) u.here e in cc

    pub rest_is : (rest : Row X) → rest ≡ drop 1 back → rest ≡ u.after
    rest_is rest e = e ∙ ap (drop 1) u.here

    pub one_is : (one : Row X) (a : Home) → one ≡ take 1 back → one ≡ (p, a, block_of u.node) ∷ []
    one_is one a e = e ∙ ap (take 1) u.here ∙ (λ i. (u.lies i, a, block_of u.node) ∷ [])

    pub front_linked : (b : Block X) → slice_get (box_values back) 0 ≡ Some b → (q : Ptr) × Segment null_ptr h front (prev_of b) q
    front_linked b e = (u.node.0, subst (λ x. Segment null_ptr h front (prev_of x) u.node.0) (node_is b e) u.first)

    pub rest_linked : (b : Block X) (rest : Row X) → slice_get (box_values back) 0 ≡ Some b → rest ≡ drop 1 back → (q : Ptr) × Segment q (next_of b) rest t null_ptr
    rest_linked b rest e f = (u.node.0, subst (λ (s : Block X × Row X). Segment u.node.0 (next_of s.0) s.1 t null_ptr) (λ i. (node_is b e i, sym (rest_is rest f) i)) u.second)

    pub front_comparable : AreNullComparable (box_addresses ns) → AreNullComparable (box_addresses front)
    front_comparable a = comparable_front front (u.node ∷ u.after) (subst (λ ls. AreNullComparable (box_addresses ls)) u.whole a)

    pub rest_comparable : (rest : Row X) → rest ≡ drop 1 back → AreNullComparable (box_addresses ns) → AreNullComparable (box_addresses rest)
    rest_comparable rest f a =
        let all : AreNullComparable (box_addresses (u.node ∷ u.after)) = comparable_back front (u.node ∷ u.after) (subst (λ ls. AreNullComparable (box_addresses ls)) u.whole a) in
        subst (λ ls. AreNullComparable (box_addresses ls)) (sym (rest_is rest f)) all.1

    lengths : length ns ≡ length front + suc (length u.after)
    lengths = ap length u.whole ∙ length-append front (u.node ∷ u.after)

    pub some : 1 ≤ length ns
    some = let l = lengths in omega (arith, l)

    pub left_length : (rest f r js : Row X) → rest ≡ drop 1 back → nodes_of f ≡ nodes_of front → nodes_of r ≡ nodes_of rest → js ≡ f ++ r → length ns - 1 ≡ length js
    left_length rest f r js e m o is =
        let l = lengths in
        let a : length f ≡ length front = sym (length-nodes_of f) ∙ ap length m ∙ length-nodes_of front in
        let b : length r ≡ length u.after = sym (length-nodes_of r) ∙ ap length o ∙ length-nodes_of rest ∙ ap length (rest_is rest e) in
        let c : length js ≡ length f + length r = ap length is ∙ length-append f r in
        omega (arith, l, a, b, c)

    pub taken_is : (v : Nodes X) (x : Block X) → nodes_of ns ≡ v → block_of u.node ≡ x → v ≡ nodes_of front ++ (p, block_element x) ∷ nodes_of u.after
    taken_is v x seen same = sym seen ∙ ap nodes_of u.whole ∙ nodes_of-append front (u.node ∷ u.after) ∙ (λ i. nodes_of front ++ (u.lies i, block_element (same i)) ∷ nodes_of u.after)

    pub left_is : (rest f r js : Row X) → rest ≡ drop 1 back → nodes_of f ≡ nodes_of front → nodes_of r ≡ nodes_of rest → js ≡ f ++ r → nodes_of js ≡ nodes_of front ++ nodes_of u.after
    left_is rest f r js e m o is = ap nodes_of is ∙ nodes_of-append f r ∙ (λ i. m i ++ (o ∙ ap nodes_of (rest_is rest e)) i)

  module _ (ns back : Row X) (v : Nodes X) (p : Ptr) (seen : nodes_of ns ≡ v) (at : (k : ℕ) × (slice_get (spots v) k ≡ Some p)) (e : back ≡ drop (index_of p (box_addresses ns)) ns) where
    on : Found p ns
    on = found ns p at.0 (at_place ns v seen at.0 p at.1)

    pub place_there : slice_get (box_addresses back) 0 ≡ Some p
    place_there = ap (λ ls. slice_get (box_addresses ls) 0) (e ∙ on.back) ∙ ap Some on.lies

    pub value_there : (b : Block X) → slice_get (box_values back) 0 ≡ Some b → (before : Nodes X) × (id : ℕ) × (after : Nodes X) × (v ≡ before ++ (p, record { id = id; value = b.value }) ∷ after)
    value_there b r =
        let front : Row X = take (index_of p (box_addresses ns)) ns in
        let r' : slice_get (box_values (on.box ∷ on.after)) 0 ≡ Some b = subst (λ ls. slice_get (box_values ls) 0 ≡ Some b) (e ∙ on.back) r in let same : block_of on.box ≡ b = cc in
        (nodes_of front, b.id, nodes_of on.after, sym seen ∙ ap nodes_of (take-drop (index_of p (box_addresses ns)) ns ∙ (λ i. front ++ on.back i)) ∙ nodes_of-append front (on.box ∷ on.after) ∙ (λ i. nodes_of front ++ (on.lies i, block_element (same i)) ∷ nodes_of on.after))

  module _ {h t : Ptr} {ns front back : Row X} {p : Ptr} (u : Cut h t ns front back p) where
    pub back_linked : (q : Ptr) × Segment q p back t null_ptr
    back_linked = (prev_of (block_of u.node), subst (λ ls. Segment (prev_of (block_of u.node)) p ls t null_ptr) (sym u.here) ((sym u.lies, refl), u.second))

    pub all_comparable : AreNullComparable (box_addresses ns) → AreNullComparable (box_addresses back)
    all_comparable a = subst (λ ls. AreNullComparable (box_addresses ls)) (sym u.here) (comparable_back front (u.node ∷ u.after) (subst (λ ls. AreNullComparable (box_addresses ls)) u.whole a))

    pub back_shown : (s : Nodes X) (n : Ptr × Element X) → s ≡ nodes_of front ++ n ∷ nodes_of back → s ≡ nodes_of front ++ n ∷ (p, block_element (block_of u.node)) ∷ nodes_of u.after
    back_shown s n e = e ∙ (λ i. nodes_of front ++ n ∷ nodes_of (u.here i)) ∙ (λ i. nodes_of front ++ n ∷ (u.lies i, block_element (block_of u.node)) ∷ nodes_of u.after)

    pub both_lengths : length ns ≡ length front + length back
    both_lengths = let l = lengths u in let b : length back ≡ suc (length u.after) = ap length u.here in omega (arith, l, b)

    -- the row up to the node and with it, f, and that after it, r
    module _ (one f r : Row X) (is_one : one ≡ take 1 back) (is_f : f ≡ front ++ one) (is_r : r ≡ drop 1 back) where
      upto_is : f ≡ front ++ u.node ∷ []
      upto_is = is_f ∙ (λ i. front ++ is_one i) ∙ (λ i. front ++ take 1 (u.here i))

      pub upto_linked : Segment null_ptr h ns t null_ptr → (q : Ptr) × Segment null_ptr h f p q
      upto_linked g = (
        next_of (block_of u.node),
        subst (λ (s : Row X × Ptr). Segment null_ptr h s.0 s.1 (next_of (block_of u.node))) (λ i. (sym upto_is i, u.lies i))
            (segment_upto null_ptr h front u.node u.after t null_ptr (subst (λ ls. Segment null_ptr h ls t null_ptr) u.whole g)),
      )

      pub upto_tested : AreNullComparable (box_addresses ns) → AreNullComparable (box_addresses f)
      upto_tested a = subst (λ ls. AreNullComparable (box_addresses ls)) (sym upto_is) (comparable_upto front u.node u.after (subst (λ ls. AreNullComparable (box_addresses ls)) u.whole a))

      pub upto_shown : (s : Nodes X) (n : Ptr × Element X) → s ≡ nodes_of f ++ n ∷ nodes_of r → s ≡ nodes_of front ++ (p, block_element (block_of u.node)) ∷ n ∷ nodes_of u.after
      upto_shown s n e =
          e ∙ (λ i. nodes_of (upto_is i) ++ n ∷ nodes_of (rest_is u r is_r i)) ∙ (λ i. nodes_of-append front (u.node ∷ []) i ++ n ∷ nodes_of u.after) ∙ append_assoc (nodes_of front) ((u.node.0, block_element (block_of u.node)) ∷ []) (n ∷ nodes_of u.after)
          ∙ (λ i. nodes_of front ++ (u.lies i, block_element (block_of u.node)) ∷ n ∷ nodes_of u.after)

      pub upto_lengths : length ns ≡ length f + length r
      upto_lengths =
          let l = lengths u in
          let a : length f ≡ length front + 1 = ap length upto_is ∙ length-append front (u.node ∷ []) in
          let b : length r ≡ length u.after = ap length (rest_is u r is_r) in
          omega (arith, l, a, b)

  -- how many nodes there are where one was put between two rows
  pub put_length : (js front back : Row X) (n : Ptr × Element X) → nodes_of js ≡ nodes_of front ++ n ∷ nodes_of back → length front + length back + 1 ≡ length js
  put_length js front back n e =
      let a : length js ≡ length front + suc (length back) = sym (length-nodes_of js) ∙ ap length e ∙ length-append (nodes_of front) (n ∷ nodes_of back) ∙ (λ i. length-nodes_of front i + suc (length-nodes_of back i)) in
      omega (arith, a)

  -- ---- neighbours
  -- a row as its last node and those before
  record LastNode (ns : Row X) (t : Ptr) : Type 0 where
    front : Row X
    node : OwnedNode X
    parts : ns ≡ front ++ node ∷ []
    lies : node.0 ≡ t

  last_split : (p h : Ptr) (ns : Row X) (t q : Ptr) → Segment p h ns t q → 0 < length ns → LastNode ns t
  last_split p h [] t q f some = absurd (omega (arith, some))
  last_split p h (n ∷ []) t q f some = record { front = []; node = n; parts = refl; lies = sym f.1.1 }
  last_split p h (n ∷ m ∷ ns) t q f some = let on = last_split n.0 (next_of (block_of n)) (m ∷ ns) t q f.1 (omega arith) in record { front = n ∷ on.front; node = on.node; parts = ap (λ l. n ∷ l) on.parts; lies = on.lies }

  first_shown : (a f : Ptr) (ns : Row X) (t : Ptr) → Segment a f ns t null_ptr → InBlock f → (o : Element X) × (rest : Nodes X) × (nodes_of ns ≡ (f, o) ∷ rest)
  first_shown a f [] t s b = absurd (subst InBlock s.0 b)
  first_shown a f (n ∷ ns) t s b = (block_element (block_of n), nodes_of ns, λ i. (sym s.0.0 i, block_element (block_of n)) ∷ nodes_of ns)

  -- what a null address leads to, and what it ends
  pub none_led : (p h : Ptr) (ns : Row X) (t : Ptr) → Segment p h ns t null_ptr → AreNullComparable (box_addresses ns) → h ≡ null_ptr → ns ≡ []
  none_led p h [] t s z e = refl
  none_led p h (n ∷ ns) t s z e = absurd (subst InBlock (sym s.0.0 ∙ e) z.0.0)

  pub none_ended : (p h : Ptr) (ns : Row X) (t q : Ptr) → Segment p h ns t q → AreNullComparable (box_addresses ns) → t ≡ null_ptr → ns ≡ []
  none_ended p h [] t q f z e = refl
  none_ended p h (n ∷ ns) t q f z e = absurd (subst InBlock e (last_block p h n ns t q f z))

  module _ {h t : Ptr} {ns front back : Row X} {p : Ptr} (u : Cut h t ns front back p) (v : Nodes X) (seen : nodes_of ns ≡ v) (z : AreNullComparable (box_addresses ns)) (b : Block X) (e : slice_get (box_values back) 0 ≡ Some b) where
    here_is : v ≡ nodes_of front ++ (p, block_element (block_of u.node)) ∷ nodes_of u.after
    here_is = taken_is u v (block_of u.node) seen refl

    same : block_of u.node ≡ b
    same = node_is u b e

    after_comparable : AreNullComparable (box_addresses u.after)
    after_comparable = rest_comparable u u.after (sym (ap (drop 1) u.here)) z

    pub next_testable : Testable (next_of b)
    next_testable = subst (λ (x : Block X). Testable (next_of x)) same (first_testable u.node.0 (next_of (block_of u.node)) u.after t u.second after_comparable)

    pub prev_testable : Testable (prev_of b)
    prev_testable = subst (λ (x : Block X). Testable (prev_of x)) same (last_testable null_ptr h front (prev_of (block_of u.node)) u.node.0 u.first (front_comparable u z) null_Testable)

    pub next_there : InBlock (next_of b) → AreNext v p (next_of b)
    next_there i =
        let (o, rest, shown) = first_shown u.node.0 (next_of (block_of u.node)) u.after t u.second (subst (λ (x : Block X). InBlock (next_of x)) (sym same) i) in
        (nodes_of front, block_element (block_of u.node), o, rest, here_is ∙ (λ j. nodes_of front ++ (p, block_element (block_of u.node)) ∷ shown j) ∙ (λ j. nodes_of front ++ (p, block_element (block_of u.node)) ∷ (next_of (same j), o) ∷ rest))

    pub next_none : next_of b ≡ null_ptr → IsLast v p
    next_none i =
        let none = none_led u.node.0 (next_of (block_of u.node)) u.after t u.second after_comparable (ap (λ (x : Block X). next_of x) same ∙ i) in
        (nodes_of front, block_element (block_of u.node), here_is ∙ (λ j. nodes_of front ++ (p, block_element (block_of u.node)) ∷ nodes_of (none j)))

    pub prev_there : InBlock (prev_of b) → AreNext v (prev_of b) p
    prev_there i =
        let some = some_last h front (prev_of (block_of u.node)) u.node.0 u.first (subst (λ (x : Block X). InBlock (prev_of x)) (sym same) i) in
        let on = last_split null_ptr h front (prev_of (block_of u.node)) u.node.0 u.first some in let o = block_element (block_of on.node) in
        let lies : on.node.0 ≡ prev_of b = on.lies ∙ ap (λ (x : Block X). prev_of x) same in (
          nodes_of on.front,
          o,
          block_element (block_of u.node),
          nodes_of u.after,
          here_is ∙ (λ j. (ap nodes_of on.parts ∙ nodes_of-append on.front (on.node ∷ [])) j ++ (p, block_element (block_of u.node)) ∷ nodes_of u.after) ∙ append_assoc (nodes_of on.front) ((on.node.0, o) ∷ []) ((p, block_element (block_of u.node)) ∷ nodes_of u.after)
              ∙ (λ j. nodes_of on.front ++ (lies j, o) ∷ (p, block_element (block_of u.node)) ∷ nodes_of u.after),
        )

    pub prev_none : prev_of b ≡ null_ptr → IsFirst v p
    prev_none i =
        let none = none_ended null_ptr h front (prev_of (block_of u.node)) u.node.0 u.first (front_comparable u z) (ap (λ (x : Block X). prev_of x) same ∙ i) in
        (block_element (block_of u.node), nodes_of u.after, here_is ∙ (λ j. nodes_of (none j) ++ (p, block_element (block_of u.node)) ∷ nodes_of u.after))

-- a chain of one node, whose address is known
pub sole_place : {X : Type 0} (c : Nodes X) (q p : Ptr) (e : Element X) → c ≡ (q, e) ∷ [] → slice_get (spots c) 0 ≡ Some p → c ≡ (p, e) ∷ []
sole_place c q p e is at =
    let there : slice_get (spots ((q, e) ∷ [])) 0 ≡ Some p = subst (λ s. slice_get (spots s) 0 ≡ Some p) is at in let same : q ≡ p = cc in is ∙ (λ i. (same i, e) ∷ [])

pub sole_element : {X : Type 0} (c : Nodes X) (p q : Ptr) (e o : Element X) → c ≡ (p, e) ∷ [] → c ≡ (q, o) ∷ [] → e ≡ o
sole_element {X = X} c p q e o is or =
    let both : (p, e) ∷ [] ≡ (q, o) ∷ [] = sym is ∙ or in let same : (p, e) ≡ (q, o) = cc in ap (λ (n : Ptr × Element X). n.1) same
