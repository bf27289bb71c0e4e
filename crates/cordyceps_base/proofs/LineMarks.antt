-- The node that is marked: which line it begins, and that none before is taken for it.
use Rattle.std.proofs.Common.{◌≡◌, ℕ, zero, suc, ◌+◌, ◌<◌, ◌≤◌, Bool, true, false, List, [], ◌∷◌, ◌++◌, length, take, drop, slice_get, Some, refl, sym, ap, ◌∙◌, subst, arith, append_assoc, ◌⊎◌, inl, inr}
use Rattle.std.specs.Bool.{MatchBool}
use denote.RawPtr.{Ptr, null_ptr, Testable, InBlock}
use Rattle.cordyceps_base.specs.declared.boxes.Address.{Address}
use Rattle.cordyceps_base.specs.declared.node.Block.{Block}
use Rattle.cordyceps_base.specs.Boxes.{box_addresses, box_values}
use Rattle.cordyceps_base.specs.DoubleChain.{prev_of}
use Rattle.cordyceps_base.specs.DoubleLines.{flat, Lead, IsMarkedAt, NodeAt, HeadNode, IsHead, IsHeadMarked}
use Rattle.cordyceps_base.specs.Nodes.{OwnedNode, block_of}
use Rattle.cordyceps_base.specs.Spots.{index_of, AreDistinct, IsNullComparable, AreNullComparable}
use Rattle.cordyceps_base.proofs.LinePlaces.{cut_parts}
use Rattle.cordyceps_base.proofs.Nodes.{Row}
use Rattle.cordyceps_base.proofs.Segments.{null_Testable, comparable_back}

module _ {X : Type 0} where
  -- the first node of line i, seen in all nodes
  abbrev pub Read : List (Row X) → ℕ → ℕ → Ptr → Type 0
  Read ls k i p =
      ((p ≡ null_ptr) × (i < k))
      ⊎ ((u : NodeAt p (flat ls)) × Testable (prev_of (block_of u.node)) × (((i < k) × (prev_of (block_of u.node) ≡ null_ptr)) ⊎ ((i ≡ k) × InBlock (prev_of (block_of u.node)))))

  -- the node in a longer row
  abbrev past : {p : Ptr} {ns : Row X} (l : Row X) → NodeAt p ns → NodeAt p (l ++ ns)
  past l u = record { front = l ++ u.front; node = u.node; back = u.back; parts = ap (λ s. l ++ s) u.parts ∙ sym (append_assoc l u.front (u.node ∷ u.back)); at = u.at }

  later : (l : Row X) (ls : List (Row X)) (k i : ℕ) (p : Ptr) → Read ls k i p → Read (l ∷ ls) (suc k) (suc i) p
  later l ls k i p (inl (e, less)) = inl (e, omega (arith, less))
  later l ls k i p (inr (u, test, inl (less, none))) = inr (past l u, test, inl (omega (arith, less), none))
  later l ls k i p (inr (u, test, inr (same, some))) = inr (past l u, test, inr (ap suc same, some))

  pub marked_read : (hs : List Address) (ls : List (Row X)) (k i : ℕ) (h : Address) → IsMarkedAt hs ls k → slice_get hs i ≡ Some h → i ≤ k → Read ls k i h.ptr
  marked_read [] ls k i h m e p = absurd m
  marked_read (g ∷ hs) [] k i h m e p = absurd m
  marked_read (g ∷ hs) ([] ∷ ls) zero i h m e p = absurd m
  marked_read (g ∷ hs) ((n ∷ l) ∷ ls) zero zero h m e p =
      let same : g ≡ h = cc in inr (record { front = []; node = n; back = l ++ flat ls; parts = refl; at = sym m.0 ∙ ap (λ (x : Address). x.ptr) same }, m.1.1, inr (refl, m.1.0))
  marked_read (g ∷ hs) ((n ∷ l) ∷ ls) zero (suc i) h m e p = absurd (omega (arith, p))
  marked_read (g ∷ hs) ([] ∷ ls) (suc k) zero h m e p = let same : g ≡ h = cc in inl (ap (λ (x : Address). x.ptr) (sym same) ∙ m.0, omega arith)
  marked_read (g ∷ hs) ([] ∷ ls) (suc k) (suc i) h m e p = later [] ls k i h.ptr (marked_read hs ls k i h m.1 e (omega (arith, p)))
  marked_read (g ∷ hs) ((n ∷ l) ∷ ls) (suc k) zero h m e p =
      let same : g ≡ h = cc in
      inr (record { front = []; node = n; back = l ++ flat ls; parts = refl; at = sym m.0.0 ∙ ap (λ (x : Address). x.ptr) same }, subst Testable (sym m.0.1) null_Testable, inl (omega arith, m.0.1))
  marked_read (g ∷ hs) ((n ∷ l) ∷ ls) (suc k) (suc i) h m e p = later (n ∷ l) ls k i h.ptr (marked_read hs ls k i h m.1 e (omega (arith, p)))

  pub marked_within : (hs : List Address) (ls : List (Row X)) (k : ℕ) → IsMarkedAt hs ls k → k < length hs
  marked_within [] ls k m = absurd m
  marked_within (g ∷ hs) [] k m = absurd m
  marked_within (g ∷ hs) ([] ∷ ls) zero m = absurd m
  marked_within (g ∷ hs) ((n ∷ l) ∷ ls) zero m = omega arith
  marked_within (g ∷ hs) ([] ∷ ls) (suc k) m = let on = marked_within hs ls k m.1 in omega (arith, on)
  marked_within (g ∷ hs) ((n ∷ l) ∷ ls) (suc k) m = let on = marked_within hs ls k m.1 in omega (arith, on)

  -- the same node in an equal row
  abbrev placed : {p : Ptr} {ns ms : Row X} → ns ≡ ms → NodeAt p ms → NodeAt p ns
  placed is u = record { front = u.front; node = u.node; back = u.back; parts = is ∙ u.parts; at = u.at }

  node_in_block : {p : Ptr} {ns : Row X} (u : NodeAt p ns) → AreNullComparable (box_addresses ns) → InBlock u.node.0
  node_in_block u a = (comparable_back u.front (u.node ∷ u.back) (subst (λ s. AreNullComparable (box_addresses s)) u.parts a)).0.0

  pub read_head : (ns : Row X) (ls : List (Row X)) (k i : ℕ) (h : Address) → ns ≡ flat ls → AreNullComparable (box_addresses ns) → AreDistinct (box_addresses ns) → Read ls k i h.ptr → IsHead h ns
  read_head ns ls k i h is a d (inl (e, less)) = record { distinct = d; testable = subst Testable (sym e) null_Testable; node = inl e }
  read_head ns ls k i h is a d (inr (u, test, how)) =
      let b = (comparable_back u.front (u.node ∷ u.back) (subst (λ s. AreNullComparable (box_addresses s)) (is ∙ u.parts) a)).0 in
      record { distinct = d; testable = subst Testable u.at b.1; node = inr (record { place = placed is u; in_block = b.0; prev_testable = test }) }

  -- two nodes at one address are one
  one_node : {p : Ptr} {ns : Row X} (u v : NodeAt p ns) → AreDistinct (box_addresses ns) → u.node ≡ v.node
  one_node {p = p} {ns = ns} u v d =
      let i = index_of p (box_addresses ns) in
      let first = cut_parts ns u.front u.back (take i ns) (drop i ns) u.node p u.parts u.at d (refl, refl) in
      let second = cut_parts ns v.front v.back (take i ns) (drop i ns) v.node p v.parts v.at d (refl, refl) in
      let both : u.node ∷ u.back ≡ v.node ∷ v.back = sym first.1 ∙ second.1 in cc

  pub is_marked_one : (ns : Row X) (ls : List (Row X)) (k i : ℕ) (h : Address) → AreDistinct (box_addresses ns) → AreNullComparable (box_addresses ns) → ns ≡ flat ls → Read ls k i h.ptr → IsHeadMarked true h ns → i ≡ k
  is_marked_one ns ls k i h d a is (inl (e, less)) (v, some) = absurd (subst InBlock (v.at ∙ e) (node_in_block v a))
  is_marked_one ns ls k i h d a is (inr (u, test, inl (less, none))) (v, some) =
      let same : u.node ≡ v.node = one_node (placed is u) v d in absurd (subst InBlock (ap (λ (x : OwnedNode X). prev_of (block_of x)) (sym same) ∙ none) some)
  is_marked_one ns ls k i h d a is (inr (u, test, inr (same, there))) w = same

  pub is_marked_none : (ns : Row X) (ls : List (Row X)) (k i : ℕ) (h : Address) → AreDistinct (box_addresses ns) → AreNullComparable (box_addresses ns) → ns ≡ flat ls → i ≤ k → Read ls k i h.ptr → IsHeadMarked false h ns → i + 1 ≤ k
  is_marked_none ns ls k i h d a is p (inl (e, less)) w = omega (arith, less)
  is_marked_none ns ls k i h d a is p (inr (u, test, inl (less, none))) w = omega (arith, less)
  is_marked_none ns ls k i h d a is p (inr (u, test, inr (same, some))) (inl e) = absurd (subst InBlock (u.at ∙ e) (node_in_block (placed is u) a))
  is_marked_none ns ls k i h d a is p (inr (u, test, inr (same, some))) (inr (v, none)) =
      let eq : u.node ≡ v.node = one_node (placed is u) v d in absurd (subst InBlock (ap (λ (x : OwnedNode X). prev_of (block_of x)) eq ∙ none) some)

  -- a row with a mark at the first node of line k
  pub marks : (hs : List Address) (before after : List (Row X)) (n m : OwnedNode X) (back : Row X) → Lead hs (before ++ (n ∷ back) ∷ after) → n.0 ≡ m.0 → IsNullComparable (prev_of (block_of m))
      → IsMarkedAt hs (before ++ (m ∷ back) ∷ after) (length before)
  marks [] [] after n m back f at b = absurd f
  marks (h ∷ hs) [] after n m back f at b = (f.0.1.0.0 ∙ at, b)
  marks [] (l ∷ before) after n m back f at b = absurd f
  marks (h ∷ hs) ([] ∷ before) after n m back f at b = (f.0.1.0, marks hs before after n m back f.1 at b)
  marks (h ∷ hs) ((x ∷ l) ∷ before) after n m back f at b = (f.0.1.0, marks hs before after n m back f.1 at b)

-- ---- a head is read
module _ {X : Type 0} (h : Address) (ns : List (OwnedNode X)) (w : IsHead h ns) where
  pub head_node : InBlock h.ptr → HeadNode h ns
  head_node i = pick w.node where
    pick : (h.ptr ≡ null_ptr) ⊎ HeadNode h ns → HeadNode h ns
    pick (inl e) = absurd (subst InBlock e i)
    pick (inr n) = n

  module _ (u : NodeAt h.ptr ns) where
    pub head_cut : (bk : List (OwnedNode X)) → bk ≡ drop (index_of h.ptr (box_addresses ns)) ns → bk ≡ u.node ∷ u.back
    head_cut bk e = (cut_parts ns u.front u.back (take (index_of h.ptr (box_addresses ns)) ns) bk u.node h.ptr u.parts u.at w.distinct (refl, e)).1

    pub head_there : (bk : List (OwnedNode X)) → bk ≡ drop (index_of h.ptr (box_addresses ns)) ns → slice_get (box_addresses bk) 0 ≡ Some h.ptr
    head_there bk e = ap (λ ls. slice_get (box_addresses ls) 0) (head_cut bk e) ∙ ap Some u.at

    pub head_read : (bk : List (OwnedNode X)) (b : Block X) → bk ≡ drop (index_of h.ptr (box_addresses ns)) ns → slice_get (box_values bk) 0 ≡ Some b → block_of u.node ≡ b
    head_read bk b e r = let r' : slice_get (box_values (u.node ∷ u.back)) 0 ≡ Some b = subst (λ ls. slice_get (box_values ls) 0 ≡ Some b) (head_cut bk e) r in cc

    pub head_marked : (r : Bool) (b : Block X) → block_of u.node ≡ b → MatchBool r (InBlock b.links.prev.ptr) (b.links.prev.ptr ≡ null_ptr) → IsHeadMarked r h ns
    head_marked true b same m = (u, subst (λ (x : Block X). InBlock (prev_of x)) (sym same) m)
    head_marked false b same m = inr (u, ap (λ (x : Block X). prev_of x) same ∙ m)
