-- A table's row that is cut at a node of one of its lines, and what is left of the lines.
use Rattle.std.proofs.Common.{◌≡◌, ℕ, zero, suc, Bool, false, if◌then◌else◌, List, [], ◌∷◌, ◌++◌, length, take, drop, slice_get, Some, refl, sym, ap, ◌∙◌, subst, append_assoc, ◌⊎◌, inl, inr}
use denote.RawPtr.{Ptr}
use Rattle.cordyceps_base.specs.declared.boxes.Address.{Address}
use Rattle.cordyceps_base.specs.Boxes.{box_addresses}
use Rattle.cordyceps_base.specs.DoubleLines.{flat, Lead, NodeAt, IsTakenOut}
use Rattle.cordyceps_base.specs.Nodes.{Nodes, OwnedNode, block_of, block_element, nodes_of}
use Rattle.cordyceps_base.specs.Spots.{same_ptr, index_of, IsNew, AreDistinct}
use Rattle.cordyceps_base.proofs.DoubleLines.{other_way, flat-append, take_past, drop_past, seen, LineAt}
use Rattle.cordyceps_base.proofs.Nodes.{Row, nodes_of-append}
use Rattle.cordyceps_base.proofs.SpotsMemory.{same_ptr_refl}

-- ---- where a pointer stands in a list without doubles
new_in : (ps qs : List Ptr) (p q : Ptr) → IsNew q (ps ++ p ∷ qs) → same_ptr q p ≡ false
new_in [] qs p q d = d.0
new_in (r ∷ ps) qs p q d = new_in ps qs p q d.1

pub place_past : (ps qs : List Ptr) (p : Ptr) → AreDistinct (ps ++ p ∷ qs) → index_of p (ps ++ p ∷ qs) ≡ length ps
place_past [] qs p d = ap (λ (b : Bool). if b then zero else suc (index_of p qs)) (same_ptr_refl p)
place_past (q ∷ ps) qs p d =
    ap (λ (b : Bool). if b then zero else suc (index_of p (ps ++ p ∷ qs))) (other_way q p (new_in ps qs p q d.0)) ∙ ap suc (place_past ps qs p d.1)

pub item_past : {A : Type 0} (front back : List A) (x : A) (k : ℕ) → length front ≡ k → slice_get (front ++ x ∷ back) k ≡ Some x
item_past [] back x zero e = refl
item_past [] back x (suc k) e = absurd cc
item_past (y ∷ front) back x zero e = absurd cc
item_past (y ∷ front) back x (suc k) e = let on : length front ≡ k = cc in item_past front back x k on

module _ {X : Type 0} where
  length-addresses : (ns : Row X) → length (box_addresses ns) ≡ length ns
  length-addresses [] = refl
  length-addresses (n ∷ ns) = ap suc (length-addresses ns)

  pub addresses-append : (xs ys : Row X) → box_addresses (xs ++ ys) ≡ box_addresses xs ++ box_addresses ys
  addresses-append [] ys = refl
  addresses-append (x ∷ xs) ys = ap (λ s. x.0 ∷ s) (addresses-append xs ys)

  pub index_in_row : (xs ys : Row X) (n : OwnedNode X) → AreDistinct (box_addresses (xs ++ n ∷ ys)) → index_of n.0 (box_addresses (xs ++ n ∷ ys)) ≡ length xs
  index_in_row xs ys n d =
      let is = addresses-append xs (n ∷ ys) in
      ap (index_of n.0) is ∙ place_past (box_addresses xs) (box_addresses ys) n.0 (subst AreDistinct is d) ∙ length-addresses xs

  -- the two parts of a row that is cut at a node
  pub cut_parts : (ns xs ys front back : Row X) (n : OwnedNode X) (p : Ptr) → ns ≡ xs ++ n ∷ ys → n.0 ≡ p → AreDistinct (box_addresses ns)
      → (front ≡ take (index_of p (box_addresses ns)) ns) × (back ≡ drop (index_of p (box_addresses ns)) ns) → (front ≡ xs) × (back ≡ n ∷ ys)
  cut_parts ns xs ys front back n p is at d (f, g) =
      let k : index_of p (box_addresses ns) ≡ length xs =
      (λ i. index_of (sym at i) (box_addresses (is i))) ∙ index_in_row xs ys n (subst (λ ls. AreDistinct (box_addresses ls)) is d) in
      (f ∙ (λ i. take (k i) (is i)) ∙ take_past xs (n ∷ ys), g ∙ (λ i. drop (k i) (is i)) ∙ drop_past xs (n ∷ ys))

  -- ---- the line that a node is in
  pub record Place (ls : List (Row X)) (p : Ptr) : Type 0 where
    pub before : List (Row X)
    pub front : Row X
    pub node : OwnedNode X
    pub back : Row X
    pub after : List (Row X)
    pub lines : ls ≡ before ++ (front ++ node ∷ back) ∷ after
    pub at : node.0 ≡ p

  in_line : (l c : Row X) (p : Ptr) (j : ℕ) → slice_get (box_addresses (l ++ c)) j ≡ Some p → NodeAt p l ⊎ ((i : ℕ) × (slice_get (box_addresses c) i ≡ Some p))
  in_line [] c p j e = inr (j, e)
  in_line (n ∷ l) c p zero e = inl (record { front = []; node = n; back = l; parts = refl; at = cc })
  in_line (n ∷ l) c p (suc j) e =
      elim (in_line l c p j e) [
        | inl o ↦ inl (record { front = n ∷ o.front; node = o.node; back = o.back; parts = ap (λ s. n ∷ s) o.parts; at = o.at })
        | inr o ↦ inr o
      ]

  pub place_in : (ls : List (Row X)) (p : Ptr) (j : ℕ) → slice_get (box_addresses (flat ls)) j ≡ Some p → Place ls p
  place_in [] p j e = absurd cc
  place_in (l ∷ ls) p j e =
      elim (in_line l (flat ls) p j e) [
        | inl o ↦ record { before = []; front = o.front; node = o.node; back = o.back; after = ls; lines = ap (λ s. s ∷ ls) o.parts; at = o.at }
        | inr o ↦ let on = place_in ls p o.0 o.1 in
            record { before = l ∷ on.before; front = on.front; node = on.node; back = on.back; after = on.after; lines = ap (λ s. l ∷ s) on.lines; at = on.at }
      ]

  -- all nodes, with one of them in the middle
  pub flat_around : (before after : List (Row X)) (xs ys : Row X) (n : OwnedNode X) → flat (before ++ (xs ++ n ∷ ys) ∷ after) ≡ (flat before ++ xs) ++ n ∷ (ys ++ flat after)
  flat_around before after xs ys n =
      flat-append before ((xs ++ n ∷ ys) ∷ after) ∙ ap (λ s. flat before ++ s) (append_assoc xs (n ∷ ys) (flat after)) ∙ sym (append_assoc (flat before) xs (n ∷ (ys ++ flat after)))

  pub flat_between : (before after : List (Row X)) (l : Row X) → flat (before ++ l ∷ after) ≡ flat before ++ (l ++ flat after)
  flat_between before after l = flat-append before (l ∷ after)

  -- what leads to a line in the middle
  pub record Split (hs : List Address) (before after : List (Row X)) (l : Row X) : Type 0 where
    pub front : List Address
    pub to : Address
    pub back : List Address
    pub firsts : hs ≡ front ++ to ∷ back
    pub count : length front ≡ length before
    pub first : Lead front before
    pub here : LineAt to.ptr l
    pub last : Lead back after

  pub split_lead : (hs : List Address) (before after : List (Row X)) (l : Row X) → Lead hs (before ++ l ∷ after) → Split hs before after l
  split_lead [] [] after l f = absurd f
  split_lead (h ∷ hs) [] after l f = record { front = []; to = h; back = hs; firsts = refl; count = refl; first = tt; here = f.0; last = f.1 }
  split_lead [] (m ∷ before) after l f = absurd f
  split_lead (h ∷ hs) (m ∷ before) after l f =
      let on = split_lead hs before after l f.1 in
      record { front = h ∷ on.front; to = on.to; back = on.back; firsts = ap (λ s. h ∷ s) on.firsts; count = ap suc on.count; first = (f.0, on.first); here = on.here; last = on.last }

  -- ---- what contracts see
  pub seen_around : (before after : List (Row X)) (l : Row X) → seen (before ++ l ∷ after) ≡ seen before ++ nodes_of l ∷ seen after
  seen_around [] after l = refl
  seen_around (m ∷ before) after l = ap (λ s. nodes_of m ∷ s) (seen_around before after l)

  pub seen_taken : (before after : List (Row X)) (xs ys : Row X) (n : OwnedNode X) (c d : List (Nodes X)) (p : Ptr) → n.0 ≡ p → c ≡ seen (before ++ (xs ++ n ∷ ys) ∷ after)
      → (l : Row X) → nodes_of l ≡ nodes_of xs ++ nodes_of ys → d ≡ seen (before ++ l ∷ after) → IsTakenOut c p (block_element (block_of n)) d
  seen_taken before after xs ys n c d p at was l left is = (
    seen before,
    seen after,
    nodes_of xs,
    nodes_of ys,
    was ∙ seen_around before after (xs ++ n ∷ ys) ∙ (λ i. seen before ++ (nodes_of-append xs (n ∷ ys) i) ∷ seen after) ∙ (λ i. seen before ++ (nodes_of xs ++ (at i, block_element (block_of n)) ∷ nodes_of ys) ∷ seen after),
    is ∙ seen_around before after l ∙ ap (λ s. seen before ++ s ∷ seen after) left,
  )
