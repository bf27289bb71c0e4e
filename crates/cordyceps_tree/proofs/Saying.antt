-- What the calls of a tree say of its nodes.
use Rattle.std.proofs.Common.{inl, inr, ◌≤◌, ◌-◌, if◌then◌else◌, Option, Some, None, MatchOption, ◌≡◌, ℕ, suc, ◌+◌, ◌^◌, ◌<◌, length-append, Bool, true, false, List, [], ◌∷◌, ◌++◌, length, refl, sym, ap, ◌∙◌, subst, arith}
use denote.RawPtr.{Ptr, null_ptr, InBlock}
use Rattle.cordyceps_base.specs.Boxes.{box_addresses}
use Rattle.cordyceps_base.specs.BySpot.{IsTaken, IsFirst, IsLast, AreNext}
use Rattle.cordyceps_base.specs.Element.{Element}
use Rattle.cordyceps_base.specs.Nodes.{Nodes, spots}
use Rattle.cordyceps_base.specs.Spots.{AreDistinct, AreNullComparable}
use Rattle.cordyceps_base.specs.declared.boxes.Address.{Address}
use Rattle.cordyceps_base.proofs.SpotsMemory.{same_ptr_refl}
use Rattle.cordyceps_stable.specs.Replacing.{IsReplaced}
use Rattle.cordyceps_tree.specs.Bounds.{first_spot, IsPutWhere, IsBoundWhere}
use Rattle.cordyceps_tree.specs.Places.{IsPlace}
use Rattle.cordyceps_tree.specs.Rows.{Held, hook_at, block_of, block_element, nodes_of, IsTree, IsWhole, IsGone, IsPutAt, IsSwapped}
use Rattle.cordyceps_tree.specs.Heights.{least, IsAtMostLog}
use Rattle.cordyceps_tree.specs.Trees.{is_in, Reaches, Shape, leaf, node, flat, Linked, height_at, before, after, IsDown, IsOutermost, IsNeighbour, first_in, is_none}
use Rattle.cordyceps_tree.specs.declared.finding.Place.{Place}
use Rattle.cordyceps_tree.proofs.Descending.{all_down, same_place, sundered}
use Rattle.cordyceps_tree.proofs.Firsts.{first_put, first_next}
use Rattle.cordyceps_tree.proofs.Heights.{not_high, not_tall, not_higher}
use Rattle.cordyceps_tree.proofs.HookRows.{in_here, in_more}
use Rattle.cordyceps_tree.proofs.Members.{in_row, size_flat}
use Rattle.cordyceps_tree.proofs.Placing.{spots_of, snoc, parted, leads}
use Rattle.cordyceps_tree.proofs.Putting.{gap_order}
use Rattle.cordyceps_tree.proofs.Reaching.{tree_reaches, null_reaches, in_reaches}
use Rattle.cordyceps_tree.proofs.Trees.{height_known}

one_in : (a : List Ptr) (p : Ptr) (b : List Ptr) → is_in p (a ++ p ∷ b) ≡ true
one_in [] p b = in_here p p b (same_ptr_refl p)
one_in (x ∷ a) p b = in_more p x (a ++ p ∷ b) (one_in a p b)

second_in : (a : List Ptr) (p q : Ptr) (b : List Ptr) → is_in q (a ++ p ∷ q ∷ b) ≡ true
second_in [] p q b = in_more q p (q ∷ b) (in_here q q b (same_ptr_refl q))
second_in (x ∷ a) p q b = in_more q x (a ++ p ∷ q ∷ b) (second_in a p q b)

-- a neighbour, or null, may be reached
pub neighbour_reaches : (d : Bool) (ps : List Ptr) (p q : Ptr) → AreNullComparable ps → IsNeighbour d ps p q → Reaches q ps
neighbour_reaches false ps p q c w = elim w [
  | inl u ↦ in_reaches q ps c (subst (λ s. is_in q s ≡ true) (sym u.2) (one_in u.0 q (p ∷ u.1)))
  | inr u ↦ subst (λ z. Reaches z ps) (sym u.2) (null_reaches ps)
]
neighbour_reaches true ps p q c w = elim w [
  | inl u ↦ in_reaches q ps c (subst (λ s. is_in q s ≡ true) (sym u.2) (second_in u.0 p q u.1))
  | inr u ↦ subst (λ z. Reaches z ps) (sym u.2) (null_reaches ps)
]

pub first_reaches : (ps : List Ptr) (p : Ptr) → p ≡ first_in ps → AreNullComparable ps → Reaches p ps
first_reaches [] p e c = subst (λ z. Reaches z []) (sym e) (null_reaches [])
first_reaches (x ∷ ps) p e c = subst (λ z. Reaches z (x ∷ ps)) (sym e) (in_reaches x (x ∷ ps) c (in_here x x ps (same_ptr_refl x)))

-- what an option of a spot is, where it is none if the spot is null
abbrev pub IsOptional : Option Ptr → Ptr → Type 0
IsOptional o r = MatchOption o (r ≡ null_ptr) (λ z. InBlock z × (z ≡ r))

module _ {X : Type 0} where
  pub gone_taken : (c s d : Nodes X) (p q : Ptr) (one : List (Held X)) → c ≡ s → p ≡ q → IsGone c p one d → (e : Element X) × IsTaken s q e d × (nodes_of one ≡ (q, e) ∷ [])
  gone_taken c s d p q one view at g =
      (block_element g.block, (g.front, g.back, sym view ∙ g.was ∙ (λ i. g.front ++ (at i, block_element g.block) ∷ g.back), g.is), ap nodes_of g.alone ∙ (λ i. (at i, block_element g.block) ∷ []))

  pub none_there : (ns : List (Held X)) → box_addresses ns ≡ [] → length ns ≡ 0
  none_there [] e = refl
  none_there (n ∷ ns) e = absurd cc

  pub root_solid : (root : Ptr) (ns : List (Held X)) → IsTree root ns → 0 < length ns → InBlock root
  root_solid root ns t some = go t.settled.shape t.settled.order t.settled.linked where
    go : (u : Shape) → flat u ≡ box_addresses ns → Linked (hook_at ns) null_ptr false root u → InBlock root
    go leaf o w = let n = none_there ns (sym o) in absurd (omega (arith, n, some))
    go (node x p y) o w = subst InBlock (sym w.at) w.solid

  pub root_down : (root : Ptr) (ns : List (Held X)) (d : Bool) → IsTree root ns → IsDown (hook_at ns) (box_addresses ns) d [] root
  root_down root ns d t = all_down (hook_at ns) root t.settled.shape (box_addresses ns) d t.settled.order t.settled.linked

  pub root_reaches : (root : Ptr) (ns : List (Held X)) → IsTree root ns → Reaches root (box_addresses ns)
  root_reaches root ns t = tree_reaches (hook_at ns) null_ptr false root t.settled.shape (box_addresses ns) t.comparable t.settled.linked (λ z i. in_row t.settled.shape (box_addresses ns) t.settled.order z i)

  pub long_nodes : (ns : List (Held X)) → length ns ≡ length (nodes_of ns)
  long_nodes [] = refl
  long_nodes (m ∷ ns) = ap suc (long_nodes ns)

  pub long_addresses : (ns : List (Held X)) → length (box_addresses ns) ≡ length ns
  long_addresses [] = refl
  long_addresses (m ∷ ns) = ap suc (long_addresses ns)

  pub no_nodes : (ns : List (Held X)) (c : Nodes X) → nodes_of ns ≡ c → length c ≡ 0 → ns ≡ []
  no_nodes [] c e n = refl
  no_nodes (m ∷ ns) c e n = let l = ap length e in absurd (omega (arith, l, n))

  pub root_high : (root : Ptr) (ns : List (Held X)) → IsTree root ns → least (height_at (hook_at ns) root) ≤ length (nodes_of ns)
  root_high root ns t =
      let h = height_known (hook_at ns) null_ptr false root t.settled.shape t.settled.linked in
      let a = not_high t.settled.shape t.settled.balanced in let b = size_flat t.settled.shape in let d = ap length t.settled.order in
      let l = long_addresses ns ∙ long_nodes ns in
      subst (λ z. least z ≤ length (nodes_of ns)) (sym h) (omega (arith, a, b, d, l))

  -- its height is at most 1.44 log2(n + 2)
  pub root_log : (root : Ptr) (ns : List (Held X)) → IsTree root ns → length (nodes_of ns) < 2 ^ 64 → IsAtMostLog (height_at (hook_at ns) root) (length (nodes_of ns))
  root_log root ns t few =
      let h = height_known (hook_at ns) null_ptr false root t.settled.shape t.settled.linked in
      let b = size_flat t.settled.shape in let d = ap length t.settled.order in let l = long_addresses ns ∙ long_nodes ns in
      let low = not_tall t.settled.shape t.settled.balanced (omega (arith, b, d, l, few)) in
      not_higher (height_at (hook_at ns) root) (length (nodes_of ns)) (omega (arith, h, low)) (root_high root ns t)

  -- ---- the ends
  pub first_said : (ns : List (Held X)) (r : Ptr) (o : Option Ptr) → r ≡ first_in (box_addresses ns) → AreNullComparable (box_addresses ns) → IsOptional o r → MatchOption o (nodes_of ns ≡ []) (IsFirst (nodes_of ns))
  first_said [] r None e c m = refl
  first_said [] r (Some z) e c m = absurd (subst InBlock (m.1 ∙ e) m.0)
  first_said (n ∷ ns) r None e c m = absurd (subst InBlock (sym e ∙ m) c.0.0)
  first_said (n ∷ ns) r (Some z) e c m = (block_element (block_of n), nodes_of ns, ap (λ q. (q, block_element (block_of n)) ∷ nodes_of ns) (sym e ∙ sym m.1))

  pub last_said : (ns : List (Held X)) (q r : Ptr) → r ≡ q → IsOutermost (box_addresses ns) true [] q → IsLast (nodes_of ns) r
  last_said ns q r is (rest, e) = let s = snoc (nodes_of ns) rest q (spots_of ns ∙ e) in (s.front, s.element, s.is ∙ ap (λ z. s.front ++ (z, s.element) ∷ []) (sym is))

  -- ---- the neighbours
  pub next_said : (ns : List (Held X)) (p q r : Ptr) (o : Option Ptr) → q ≡ p → IsNeighbour true (box_addresses ns) q r → IsOptional o r → MatchOption o (IsLast (nodes_of ns) p) (λ z. AreNext (nodes_of ns) p z)
  next_said ns p q r None is w m = elim w [
    | inl u ↦ absurd (subst InBlock m u.3)
    | inr u ↦ last_said ns q p (sym is) (u.0, u.1)
  ]
  next_said ns p q r (Some z) is w m = elim w [
    | inl u ↦ (let s = sundered (nodes_of ns) u.0 q r u.1 (spots_of ns ∙ u.2) in (s.front, s.first, s.second, s.back, s.is ∙ (λ i. s.front ++ (is i, s.first) ∷ (sym m.1 i, s.second) ∷ s.back)))
    | inr u ↦ absurd (subst InBlock (m.1 ∙ u.2) m.0)
  ]

  first_at : (c : Nodes X) (p q : Ptr) (b : List Ptr) → q ≡ p → spots c ≡ q ∷ b → IsFirst c p
  first_at [] p q b is e = absurd cc
  first_at (n ∷ c) p q b is e = let here : n.0 ≡ q = cc in (n.1, c, ap (λ z. (z, n.1) ∷ c) (here ∙ is))

  pub prev_said : (ns : List (Held X)) (p q r : Ptr) (o : Option Ptr) → q ≡ p → IsNeighbour false (box_addresses ns) q r → IsOptional o r → MatchOption o (IsFirst (nodes_of ns) p) (λ z. AreNext (nodes_of ns) z p)
  prev_said ns p q r None is w m = elim w [
    | inl u ↦ absurd (subst InBlock m u.3)
    | inr u ↦ first_at (nodes_of ns) p q u.0 is (spots_of ns ∙ u.1)
  ]
  prev_said ns p q r (Some z) is w m = elim w [
    | inl u ↦ (let s = sundered (nodes_of ns) u.0 r q u.1 (spots_of ns ∙ u.2) in (s.front, s.first, s.second, s.back, s.is ∙ (λ i. s.front ++ (sym m.1 i, s.first) ∷ (is i, s.second) ∷ s.back)))
    | inr u ↦ absurd (subst InBlock (m.1 ∙ u.2) m.0)
  ]

  -- ---- the place to which a guide leads
  module _ (says : X → Bool → Type 0) (ns : List (Held X)) (root : Ptr) (w : Place) (t : IsTree root ns) (u : IsPlace says ns root w) where
    parts : spots (nodes_of ns) ≡ before u.gap.steps ++ after u.gap.steps
    parts = spots_of ns ∙ gap_order u.gap.steps (box_addresses ns) u.gap.order

    apart : AreDistinct (spots (nodes_of ns))
    apart = subst AreDistinct (sym (spots_of ns)) t.distinct

    pub put_said : (p : Ptr) (e : Element X) (d : Nodes X) → IsPutAt (nodes_of ns) (before u.gap.steps) (after u.gap.steps) p e d → IsPutWhere says (nodes_of ns) p e d
    put_said p e d k = record {
      front = k.front;
      back = k.back;
      was = k.was;
      is = k.is;
      between = leads says ns u.gap.steps u.goes apart (record { front = k.front; back = k.back; was = k.was; ahead = k.ahead; behind = k.behind });
    }

    in_ps : AreNullComparable (after u.gap.steps)
    in_ps = back (before u.gap.steps) (after u.gap.steps) (subst AreNullComparable (gap_order u.gap.steps (box_addresses ns) u.gap.order) t.comparable) where
      back : (a b : List Ptr) → AreNullComparable (a ++ b) → AreNullComparable b
      back [] b c = c
      back (x ∷ a) b c = back a b c.1

    pub place_reaches : Reaches w.next.ptr (after u.gap.steps)
    place_reaches = first_reaches (after u.gap.steps) w.next.ptr u.next in_ps

    pub bound_said : (o : Option Ptr) → IsOptional o w.next.ptr → IsBoundWhere says (nodes_of ns) o
    bound_said o m =
        let r = parted (nodes_of ns) (before u.gap.steps) (after u.gap.steps) parts in
        record { front = r.front; back = r.back; was = r.was; at = at o r.back (after u.gap.steps) r.behind in_ps u.next m; between = leads says ns u.gap.steps u.goes apart r }
      where
        at : (o : Option Ptr) (c : Nodes X) (b : List Ptr) → spots c ≡ b → AreNullComparable b → w.next.ptr ≡ first_in b → IsOptional o w.next.ptr → o ≡ first_spot c
        at None [] b e c n m = refl
        at (Some z) [] [] e c n m = absurd (subst InBlock (m.1 ∙ n) m.0)
        at (Some z) [] (x ∷ b) e c n m = absurd cc
        at o (k ∷ s) [] e c n m = absurd cc
        at None (k ∷ s) (x ∷ b) e c n m = absurd (subst InBlock (sym n ∙ m) c.0.0)
        at (Some z) (k ∷ s) (x ∷ b) e c n m = let here : k.0 ≡ x = cc in ap Some (m.1 ∙ n ∙ sym here)

  -- ---- the whole tree after a call
  spots_parts : (a : Nodes X) (p : Ptr) (e : Element X) (b : Nodes X) → spots (a ++ (p, e) ∷ b) ≡ spots a ++ p ∷ spots b
  spots_parts [] p e b = refl
  spots_parts (x ∷ a) p e b = ap (λ s. x.0 ∷ s) (spots_parts a p e b)

  spots_both : (a b : Nodes X) → spots (a ++ b) ≡ spots a ++ spots b
  spots_both [] b = refl
  spots_both (x ∷ a) b = ap (λ s. x.0 ∷ s) (spots_both a b)

  pub put_whole : (says : X → Bool → Type 0) (ns ms : List (Held X)) (root root2 : Ptr) (first at first2 : Address) (len : ℕ) (w : Place) (e : Element X) → IsWhole root first.ptr len ns → (u : IsPlace says ns root w) → IsTree root2 ms
      → IsPutAt (nodes_of ns) (before u.gap.steps) (after u.gap.steps) at.ptr e (nodes_of ms) → first2 ≡ (if w.is_first then at else first) → IsWhole root2 first2.ptr (len + 1) ms
  put_whole says ns ms root root2 first at first2 len w e whole u t k is =
      let a = before u.gap.steps in let b = after u.gap.steps in
      let was : box_addresses ns ≡ a ++ b = sym (spots_of ns) ∙ ap spots k.was ∙ spots_both k.front k.back ∙ (λ i. k.ahead i ++ k.behind i) in
      let now : box_addresses ms ≡ a ++ at.ptr ∷ b = sym (spots_of ms) ∙ ap spots k.is ∙ spots_parts k.front at.ptr e k.back ∙ (λ i. k.ahead i ++ at.ptr ∷ k.behind i) in
      record {
        tree = t;
        front = ap (λ (z : Address). z.ptr) is ∙ first_put w.is_first at first a b b u.outer (whole.front ∙ ap first_in was) ∙ sym (ap first_in now);
        long =
            let l = whole.long in let x = long_nodes ns in let y = long_nodes ms in
            let m = ap length k.was ∙ length-append k.front k.back in let n = ap length k.is ∙ length-append k.front ((at.ptr, e) ∷ k.back) in
            omega (arith, l, x, y, m, n);
      }

  pub gone_whole : (ns ms : List (Held X)) (root root2 first p r : Ptr) (len : ℕ) (one : List (Held X)) → IsWhole root first len ns → IsTree root2 ms → IsGone (nodes_of ns) p one (nodes_of ms) → ((a b : List Ptr) → box_addresses ns ≡ a ++ p ∷ b → r ≡ first_in (a ++ b))
      → IsWhole root2 r (len - 1) ms
  gone_whole ns ms root root2 first p r len one whole t k is =
      let was : box_addresses ns ≡ spots k.front ++ p ∷ spots k.back = sym (spots_of ns) ∙ ap spots k.was ∙ spots_parts k.front p (block_element k.block) k.back in
      let now : box_addresses ms ≡ spots k.front ++ spots k.back = sym (spots_of ms) ∙ ap spots k.is ∙ spots_both k.front k.back in
      record {
        tree = t;
        front = is (spots k.front) (spots k.back) was ∙ sym (ap first_in now);
        long =
            let l = whole.long in let x = long_nodes ns in let y = long_nodes ms in
            let m = ap length k.was ∙ length-append k.front ((p, block_element k.block) ∷ k.back) in let n = ap length k.is ∙ length-append k.front k.back in
            omega (arith, l, x, y, m, n);
      }

  pub swapped_whole : (ns ms : List (Held X)) (root root2 first p : Ptr) (q r : Address) (old : Address) (is_first : Bool) (len : ℕ) (one : List (Held X)) (e : Element X) → IsWhole root old.ptr len ns → IsTree root2 ms → IsSwapped (nodes_of ns) p one q.ptr e (nodes_of ms)
      → ((a b : List Ptr) → box_addresses ns ≡ a ++ p ∷ b → is_first ≡ is_none a) → r ≡ (if is_first then q else old) → IsWhole root2 r.ptr len ms
  swapped_whole ns ms root root2 first p q r old is_first len one e whole t k ahead is =
      let a = spots k.front in let b = spots k.back in
      let was : box_addresses ns ≡ a ++ p ∷ b = sym (spots_of ns) ∙ ap spots k.was ∙ spots_parts k.front p (block_element k.block) k.back in
      let now : box_addresses ms ≡ a ++ q.ptr ∷ b = sym (spots_of ms) ∙ ap spots k.is ∙ spots_parts k.front q.ptr e k.back in
      record {
        tree = t;
        front = ap (λ (z : Address). z.ptr) is ∙ first_put is_first q old a b (p ∷ b) (ahead a b was) (whole.front ∙ ap first_in was) ∙ sym (ap first_in now);
        long =
            let l = whole.long in let x = long_nodes ns in let y = long_nodes ms in
            let m = ap length k.was ∙ length-append k.front ((p, block_element k.block) ∷ k.back) in let n = ap length k.is ∙ length-append k.front ((q.ptr, e) ∷ k.back) in
            omega (arith, l, x, y, m, n);
      }

  pub swapped_replaced : (c s d : Nodes X) (p o q : Ptr) (one : List (Held X)) (e : Element X) → c ≡ s → p ≡ o → IsSwapped c p one q e d → (w : Element X) × IsReplaced s o w q e d × (nodes_of one ≡ (o, w) ∷ [])
  swapped_replaced c s d p o q one e view at k =
      (block_element k.block, (k.front, k.back, sym view ∙ k.was ∙ (λ i. k.front ++ (at i, block_element k.block) ∷ k.back), k.is), ap nodes_of k.alone ∙ (λ i. (at i, block_element k.block) ∷ []))

  -- ---- the first node leaves
  -- the nodes as their first one and the others
  pub record Headed (ns : List (Held X)) (p : Ptr) : Type 0 where
    pub element : Element X
    pub others : Nodes X
    pub is : nodes_of ns ≡ (p, element) ∷ others

  pub headed : (ns : List (Held X)) (p : Ptr) → p ≡ first_in (box_addresses ns) → 0 < length ns → Headed ns p
  headed [] p e some = absurd (omega (arith, some))
  headed (n ∷ ns) p e some = record { element = block_element (block_of n); others = nodes_of ns; is = ap (λ z. (z, block_element (block_of n)) ∷ nodes_of ns) (sym e) }

  pub headed_next : (ns : List (Held X)) (p r : Ptr) → AreDistinct (box_addresses ns) → Headed ns p → IsNeighbour true (box_addresses ns) p r → (a b : List Ptr) → box_addresses ns ≡ a ++ p ∷ b → r ≡ first_in (a ++ b)
  headed_next ns p r distinct h w a b is = first_next (box_addresses ns) p distinct a b is r (spots h.others) (sym (spots_of ns) ∙ ap spots h.is) w

  pub headed_gone : (ns : List (Held X)) (p : Ptr) (one : List (Held X)) (d : Nodes X) → AreDistinct (box_addresses ns) → Headed ns p → IsGone (nodes_of ns) p one d → (e : Element X) × (nodes_of ns ≡ (p, e) ∷ d) × (nodes_of one ≡ (p, e) ∷ [])
  headed_gone ns p one d distinct h g =
      let s = same_place [] h.others g.front g.back p h.element (block_element g.block) (subst (λ z. AreDistinct (spots z)) h.is (subst AreDistinct (sym (spots_of ns)) distinct)) (sym h.is ∙ g.was) in
      (block_element g.block, h.is ∙ (λ i. (p, s.here i) ∷ s.back i) ∙ ap (λ z. (p, block_element g.block) ∷ z) ((λ i. s.front i ++ g.back) ∙ sym g.is), ap nodes_of g.alone)
