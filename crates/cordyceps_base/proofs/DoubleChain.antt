-- What stays linked where double chains are joined and cut.
use Rattle.std.proofs.Common.{◌≡◌, ℕ, zero, suc, ◌+◌, ◌-◌, ◌<◌, List, [], ◌∷◌, ◌++◌, length, take, drop, slice_get, Some, refl, sym, ap, ◌∙◌, subst, arith, length-append}
use denote.RawPtr.{Ptr, null_ptr}
use Rattle.cordyceps_base.specs.declared.boxes.homes.Home.{Home}
use Rattle.cordyceps_base.specs.declared.boxes.Address.{Address}
use Rattle.cordyceps_base.specs.declared.node.Block.{Block}
use Rattle.cordyceps_base.specs.Boxes.{box_addresses, box_values, set_value}
use Rattle.cordyceps_base.specs.Nodes.{Nodes, spots, nodes_of, OwnedNode, block_of}
use Rattle.cordyceps_base.specs.Spots.{AreNullComparable}
use Rattle.cordyceps_base.specs.DoubleChain.{next_of, prev_of, Segment, IsLinked}
use Rattle.cordyceps_base.proofs.Nodes.{with_content, length_is, seen_at, length-take-within, length-drop-within, length-set_value, box_addresses-set}

-- the block with another `next`, and with another `prev`
abbrev pub with_next : {X : Type 0} → Block X → Address → Block X
with_next b p = record b { links = record b.links { next = p } }

abbrev pub with_prev : {X : Type 0} → Block X → Address → Block X
with_prev b p = record b { links = record b.links { prev = p } }

module _ {X : Type 0} where
  -- ---- one node
  pub first_on : (p h : Ptr) (ns : List (OwnedNode X)) (t q : Ptr) → Segment p h ns t q → 0 < length ns → slice_get (box_addresses ns) 0 ≡ Some h
  first_on p h [] t q f some = absurd (omega (arith, some))
  first_on p h (n ∷ ns) t q f some = ap Some (sym f.0.0)

  pub last_on : (p h : Ptr) (ns : List (OwnedNode X)) (t q : Ptr) (j : ℕ) → suc j ≡ length ns → Segment p h ns t q → slice_get (box_addresses ns) j ≡ Some t
  last_on p h [] t q j e f = absurd (omega (arith, e))
  last_on p h (n ∷ []) t q zero e f = ap Some (sym f.1.1)
  last_on p h (n ∷ []) t q (suc j) e f = absurd (omega (arith, e))
  last_on p h (n ∷ m ∷ ns) t q zero e f = absurd (omega (arith, e))
  last_on p h (n ∷ m ∷ ns) t q (suc j) e f = last_on n.0 (next_of (block_of n)) (m ∷ ns) t q j (omega (arith, e)) f.1

  next_on : (p h : Ptr) (ns : List (OwnedNode X)) (t q : Ptr) (k : ℕ) (b : Block X) → Segment p h ns t q → slice_get (box_values ns) k ≡ Some b → k + 1 < length ns → slice_get (box_addresses ns) (suc k) ≡ Some (next_of b)
  next_on p h [] t q k b f e l = cc
  next_on p h (n ∷ []) t q zero b f e l = absurd (omega (arith, l))
  next_on p h (n ∷ m ∷ ns) t q zero b f e l = let same : block_of n ≡ b = cc in ap Some (sym f.1.0.0 ∙ ap (λ (x : Block X). next_of x) same)
  next_on p h (n ∷ ns) t q (suc k) b f e l = next_on n.0 (next_of (block_of n)) ns t q k b f.1 e (omega (arith, l))

  prev_on : (p h : Ptr) (ns : List (OwnedNode X)) (t q : Ptr) (k : ℕ) (b : Block X) → Segment p h ns t q → slice_get (box_values ns) (suc k) ≡ Some b → slice_get (box_addresses ns) k ≡ Some (prev_of b)
  prev_on p h [] t q k b f e = cc
  prev_on p h (n ∷ []) t q k b f e = cc
  prev_on p h (n ∷ m ∷ ns) t q zero b f e = let same : block_of m ≡ b = cc in ap Some (sym f.1.0.1 ∙ ap (λ (x : Block X). prev_of x) same)
  prev_on p h (n ∷ m ∷ ns) t q (suc k) b f e = prev_on n.0 (next_of (block_of n)) (m ∷ ns) t q k b f.1 e

  next_off : (p h : Ptr) (ns : List (OwnedNode X)) (t q : Ptr) (k : ℕ) (b : Block X) → Segment p h ns t q → slice_get (box_values ns) k ≡ Some b → k + 1 ≡ length ns → next_of b ≡ q
  next_off p h [] t q k b f e l = cc
  next_off p h (n ∷ []) t q zero b f e l = let same : block_of n ≡ b = cc in ap (λ (x : Block X). next_of x) (sym same) ∙ f.1.0
  next_off p h (n ∷ m ∷ ns) t q zero b f e l = absurd (omega (arith, l))
  next_off p h (n ∷ ns) t q (suc k) b f e l = next_off n.0 (next_of (block_of n)) ns t q k b f.1 e (omega (arith, l))

  prev_off : (p h : Ptr) (ns : List (OwnedNode X)) (t q : Ptr) (b : Block X) → Segment p h ns t q → slice_get (box_values ns) 0 ≡ Some b → prev_of b ≡ p
  prev_off p h [] t q b f e = cc
  prev_off p h (n ∷ ns) t q b f e = let same : block_of n ≡ b = cc in ap (λ (x : Block X). prev_of x) (sym same) ∙ f.0.1

  module _ (h t : Ptr) (len : ℕ) (ns : List (OwnedNode X)) (v : Nodes X) (seen : nodes_of ns ≡ v) (linked : IsLinked h t len ns) where
    pub next_place : (k : ℕ) (b : Block X) → slice_get (box_values ns) k ≡ Some b → k + 1 < length v → slice_get (spots v) (k + 1) ≡ Some b.links.next.ptr
    next_place k b e p =
        let on : suc k ≡ k + 1 = omega arith in let long = length_is ns v seen in
        subst (λ j. slice_get (spots v) j ≡ Some b.links.next.ptr) on (seen_at ns v seen (suc k) b.links.next.ptr (next_on null_ptr h ns t null_ptr k b linked.segment e (omega (arith, p, long))))

    pub prev_place : (k : ℕ) (b : Block X) → slice_get (box_values ns) k ≡ Some b → 0 < k → slice_get (spots v) (k - 1) ≡ Some b.links.prev.ptr
    prev_place k b e p =
        let on : k ≡ suc (k - 1) = omega (arith, p) in
        seen_at ns v seen (k - 1) b.links.prev.ptr (prev_on null_ptr h ns t null_ptr (k - 1) b linked.segment (subst (λ j. slice_get (box_values ns) j ≡ Some b) on e))

    pub next_end : (k : ℕ) (b : Block X) → slice_get (box_values ns) k ≡ Some b → k + 1 ≡ length v → b.links.next.ptr ≡ null_ptr
    next_end k b e p = let long = length_is ns v seen in next_off null_ptr h ns t null_ptr k b linked.segment e (omega (arith, p, long))

    pub prev_end : (k : ℕ) (b : Block X) → slice_get (box_values ns) k ≡ Some b → k ≡ 0 → b.links.prev.ptr ≡ null_ptr
    prev_end k b e p = prev_off null_ptr h ns t null_ptr b linked.segment (subst (λ j. slice_get (box_values ns) j ≡ Some b) p e)

    pub head_place : 0 < length v → slice_get (spots v) 0 ≡ Some h
    head_place p = let long = length_is ns v seen in seen_at ns v seen 0 h (first_on null_ptr h ns t null_ptr linked.segment (omega (arith, p, long)))

    pub tail_place : 0 < length v → slice_get (spots v) (length v - 1) ≡ Some t
    tail_place p = let long = length_is ns v seen in seen_at ns v seen (length v - 1) t (last_on null_ptr h ns t null_ptr (length v - 1) (omega (arith, p, long)) linked.segment)

  module _ (h t : Ptr) (len : ℕ) (ns : List (OwnedNode X)) (linked : IsLinked h t len ns) (some : 0 < len) where
    pub first_here : slice_get (box_addresses ns) 0 ≡ Some h
    first_here = let long = linked.long in first_on null_ptr h ns t null_ptr linked.segment (omega (arith, some, long))

    pub last_here : slice_get (box_addresses ns) (len - 1) ≡ Some t
    last_here = let long = linked.long in last_on null_ptr h ns t null_ptr (len - 1) (omega (arith, some, long)) linked.segment

  -- the only node
  pub single : (h t : Ptr) (len : ℕ) (ns : List (OwnedNode X)) (a : Home) → IsLinked h t len ns → length (nodes_of ns) ≡ 1 → (x : Block X) × (ns ≡ (h, a, x) ∷ [])
  single h t len [] a linked e = absurd (omega (arith, e))
  single h t len (n ∷ []) a linked e = (block_of n, λ i. (sym linked.segment.0.0 i, a, block_of n) ∷ [])
  single h t len (n ∷ m ∷ ns) a linked e = absurd (omega (arith, e))

  -- a row of one node that leads to nx and back to pr
  pub linked_one : (p : Ptr) (a : Home) (v : Block X) (nx pr : Address) (b c : Block X) (one : List (OwnedNode X)) → one ≡ (p, a, v) ∷ [] → slice_get (box_values one) 0 ≡ Some b
      → slice_get (box_values (set_value one 0 (with_next b nx))) 0 ≡ Some c → set_value (set_value one 0 (with_next b nx)) 0 (with_prev c pr) ≡ (p, a, with_prev (with_next v nx) pr) ∷ []
  linked_one p a v nx pr b c one e r s =
      let r' : slice_get (box_values ((p, a, v) ∷ [])) 0 ≡ Some b = subst (λ ls. slice_get (box_values ls) 0 ≡ Some b) e r in let is_v : v ≡ b = cc in
      let s' : slice_get (box_values (set_value ((p, a, v) ∷ []) 0 (with_next b nx))) 0 ≡ Some c = subst (λ ls. slice_get (box_values (set_value ls 0 (with_next b nx))) 0 ≡ Some c) e s in let is_b : with_next b nx ≡ c = cc in
      ap (λ ls. set_value (set_value ls 0 (with_next b nx)) 0 (with_prev c pr)) e ∙ (λ i. (p, a, with_prev (sym is_b i) pr) ∷ []) ∙ (λ i. (p, a, with_prev (with_next (sym is_v i) nx) pr) ∷ [])

  -- ---- a link is written
  pub relinked_last : (p h : Ptr) (ns : List (OwnedNode X)) (t q : Ptr) (nx : Address) (b : Block X) (j : ℕ) → suc j ≡ length ns → Segment p h ns t q → slice_get (box_values ns) j ≡ Some b → Segment p h (set_value ns j (with_next b nx)) t nx.ptr
  relinked_last p h [] t q nx b j e f r = absurd (omega (arith, e))
  relinked_last p h (n ∷ []) t q nx b zero e f r = let same : block_of n ≡ b = cc in ((f.0.0, ap (λ (x : Block X). prev_of x) (sym same) ∙ f.0.1), (refl, f.1.1))
  relinked_last p h (n ∷ []) t q nx b (suc j) e f r = absurd (omega (arith, e))
  relinked_last p h (n ∷ m ∷ ns) t q nx b zero e f r = absurd (omega (arith, e))
  relinked_last p h (n ∷ m ∷ ns) t q nx b (suc j) e f r = (f.0, relinked_last n.0 (next_of (block_of n)) (m ∷ ns) t q nx b j (omega (arith, e)) f.1 r)

  pub relinked_first : (p h : Ptr) (ns : List (OwnedNode X)) (t q : Ptr) (pr : Address) (b : Block X) → Segment p h ns t q → slice_get (box_values ns) 0 ≡ Some b → Segment pr.ptr h (set_value ns 0 (with_prev b pr)) t q
  relinked_first p h [] t q pr b f r = cc
  relinked_first p h (n ∷ ns) t q pr b f r = let same : block_of n ≡ b = cc in ((f.0.0, refl), subst (λ (x : Block X). Segment n.0 (next_of x) ns t q) same f.1)

  -- ---- one row after another
  pub segment_join : (p h : Ptr) (xs : List (OwnedNode X)) (l m : Ptr) (ys : List (OwnedNode X)) (t q : Ptr) → Segment p h xs l m → Segment l m ys t q → Segment p h (xs ++ ys) t q
  segment_join p h [] l m ys t q f g = subst (λ (s : Ptr × Ptr). Segment s.0 s.1 ys t q) (λ i. (f.1 i, sym f.0 i)) g
  segment_join p h (x ∷ xs) l m ys t q f g = (f.0, segment_join x.0 (next_of (block_of x)) xs l m ys t q f.1 g)

  pub joined : (h t : Ptr) (o l : Address) (m k : ℕ) (xs ys js : List (OwnedNode X)) (b c : Block X) → IsLinked h l.ptr m xs → IsLinked o.ptr t k ys → 0 < m → slice_get (box_values xs) (m - 1) ≡ Some b → slice_get (box_values ys) 0 ≡ Some c
      → js ≡ set_value xs (m - 1) (with_next b o) ++ set_value ys 0 (with_prev c l) → AreNullComparable (box_addresses js) → IsLinked h t (m + k) js
  joined h t o l m k xs ys js b c f g some r s all a =
      let first = f.long in let second = g.long in
      let long : length js ≡ length xs + length ys =
      ap length all ∙ length-append (set_value xs (m - 1) (with_next b o)) (set_value ys 0 (with_prev c l)) ∙ (λ i. length-set_value xs (m - 1) (with_next b o) i + length-set_value ys 0 (with_prev c l) i) in
      let front = relinked_last null_ptr h xs l.ptr null_ptr o b (m - 1) (omega (arith, some, first)) f.segment r in
      let back = relinked_first null_ptr o.ptr ys t null_ptr l c g.segment s in
      record { long = omega (arith, first, second, long); comparable = a; segment = subst (λ ls. Segment null_ptr h ls t null_ptr) (sym all) (segment_join null_ptr h _ l.ptr o.ptr _ t null_ptr front back) }

  -- ---- a row is cut
  pub cut_before : (p h : Ptr) (k : ℕ) (ns : List (OwnedNode X)) (t q at : Ptr) (b : Block X) → Segment p h ns t q → slice_get (box_addresses ns) k ≡ Some at → slice_get (box_values ns) k ≡ Some b
      → Segment p h (take k ns) (prev_of b) at × Segment (prev_of b) at (drop k ns) t q
  cut_before p h k [] t q at b f s e = cc
  cut_before p h zero (n ∷ ns) t q at b f s e =
      let same : block_of n ≡ b = cc in let lies : n.0 ≡ at = cc in let to : prev_of (block_of n) ≡ prev_of b = ap (λ (x : Block X). prev_of x) same in ((f.0.0 ∙ lies, sym to ∙ f.0.1), ((sym lies, to), f.1))
  cut_before p h (suc k) (n ∷ ns) t q at b f s e = let on = cut_before n.0 (next_of (block_of n)) k ns t q at b f.1 s e in ((f.0, on.0), on.1)

  pub cut_after : (p h : Ptr) (k : ℕ) (ns : List (OwnedNode X)) (t q at : Ptr) (b : Block X) → Segment p h ns t q → slice_get (box_addresses ns) k ≡ Some at → slice_get (box_values ns) k ≡ Some b
      → Segment p h (take (suc k) ns) at (next_of b) × Segment at (next_of b) (drop (suc k) ns) t q
  cut_after p h k [] t q at b f s e = cc
  cut_after p h zero (n ∷ ns) t q at b f s e =
      let same : block_of n ≡ b = cc in let lies : n.0 ≡ at = cc in let to : next_of (block_of n) ≡ next_of b = ap (λ (x : Block X). next_of x) same in
      ((f.0, (to, sym lies)), subst (λ (s : Ptr × Ptr). Segment s.0 s.1 ns t q) (λ i. (lies i, to i)) f.1)
  cut_after p h (suc k) (n ∷ ns) t q at b f s e = let on = cut_after n.0 (next_of (block_of n)) k ns t q at b f.1 s e in ((f.0, on.0), on.1)

  -- what comes of the two parts of a row, l and r, once their inner ends lead to nothing
  module _ (k len : ℕ) (ns : List (OwnedNode X)) (h t l r : Ptr) (no no' : Address) (null : no.ptr ≡ null_ptr) (null' : no'.ptr ≡ null_ptr) (pos : 0 < k) (less : k < len) (long : len ≡ length ns) where
    pub front_end : Segment null_ptr h (take k ns) l r → slice_get (box_addresses (take k ns)) (k - 1) ≡ Some l
    front_end f = last_on null_ptr h (take k ns) l r (k - 1) (let same = length-take-within k ns (omega (arith, less, long)) in omega (arith, pos, same)) f

    pub front_cut : (b : Block X) (js : List (OwnedNode X)) → Segment null_ptr h (take k ns) l r → slice_get (box_values (take k ns)) (k - 1) ≡ Some b
        → js ≡ set_value (take k ns) (k - 1) (with_next b no) → AreNullComparable (box_addresses js) → IsLinked h l k js
    front_cut b js f e is a =
        let same = length-take-within k ns (omega (arith, less, long)) in
        let on = relinked_last null_ptr h (take k ns) l r no b (k - 1) (omega (arith, pos, same)) f e in
        record { long = same ∙ sym (ap length is ∙ length-set_value (take k ns) (k - 1) (with_next b no)); comparable = a; segment = subst (λ (s : List (OwnedNode X) × Ptr). Segment null_ptr h s.0 l s.1) (λ i. (sym is i, null i)) on }

    pub back_end : Segment l r (drop k ns) t null_ptr → slice_get (box_addresses (drop k ns)) 0 ≡ Some r
    back_end f = first_on l r (drop k ns) t null_ptr f (let same = length-drop-within k ns (omega (arith, less, long)) in omega (arith, same, less, long))

    pub back_cut : (b : Block X) (js : List (OwnedNode X)) → Segment l r (drop k ns) t null_ptr → slice_get (box_values (drop k ns)) 0 ≡ Some b
        → js ≡ set_value (drop k ns) 0 (with_prev b no') → AreNullComparable (box_addresses js) → IsLinked r t (len - k) js
    back_cut b js f e is a =
        let same = length-drop-within k ns (omega (arith, less, long)) in
        let on = relinked_first l r (drop k ns) t null_ptr no' b f e in
        record { long = ap (λ j. j - k) long ∙ same ∙ sym (ap length is ∙ length-set_value (drop k ns) 0 (with_prev b no')); comparable = a; segment = subst (λ (s : List (OwnedNode X) × Ptr). Segment s.1 r s.0 t null_ptr) (λ i. (sym is i, null' i)) on }

  -- ---- a value is written
  pub segment_keep : (p h : Ptr) (ns : List (OwnedNode X)) (t q : Ptr) (k : ℕ) (b : Block X) (w : X) → Segment p h ns t q → slice_get (box_values ns) k ≡ Some b → Segment p h (set_value ns k (with_content b w)) t q
  segment_keep p h [] t q k b w f e = f
  segment_keep p h (n ∷ ns) t q zero b w f e = let same : block_of n ≡ b = cc in ((f.0.0, ap (λ (x : Block X). prev_of x) (sym same) ∙ f.0.1), subst (λ (x : Block X). Segment n.0 (next_of x) ns t q) same f.1)
  segment_keep p h (n ∷ ns) t q (suc k) b w f e = (f.0, segment_keep n.0 (next_of (block_of n)) ns t q k b w f.1 e)

  pub linked_keep : (h t : Ptr) (len : ℕ) (ns : List (OwnedNode X)) (k : ℕ) (b : Block X) (w : X) → IsLinked h t len ns → slice_get (box_values ns) k ≡ Some b → IsLinked h t len (set_value ns k (with_content b w))
  linked_keep h t len ns k b w f e =
      record {
        long = f.long ∙ sym (length-set_value ns k (with_content b w));
        comparable = subst AreNullComparable (sym (box_addresses-set ns k (with_content b w))) f.comparable;
        segment = segment_keep null_ptr h ns t null_ptr k b w f.segment e;
      }
