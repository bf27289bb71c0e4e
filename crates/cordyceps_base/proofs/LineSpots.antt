-- A node of a table, found by its spot: its line, its neighbours, and what is left without it.
use Rattle.std.proofs.Common.{◌≡◌, ℕ, zero, suc, ◌<◌, List, [], ◌∷◌, ◌++◌, length, take, drop, slice_get, Some, sym, ap, ◌∙◌, subst, arith, append_assoc}
use denote.RawPtr.{Ptr, null_ptr, Testable, InBlock}
use Rattle.cordyceps_base.specs.declared.boxes.Address.{Address}
use Rattle.cordyceps_base.specs.declared.node.Block.{Block}
use Rattle.cordyceps_base.specs.Boxes.{box_addresses, box_values}
use Rattle.cordyceps_base.specs.BySpot.{HasSpot}
use Rattle.cordyceps_base.specs.DoubleChain.{Segment, next_of, prev_of}
use Rattle.cordyceps_base.specs.DoubleLines.{flat, lines_in, Lead, AreLines, BeginsLine, IsTakenOut, IsFirstOut}
use Rattle.cordyceps_base.specs.Element.{Element}
use Rattle.cordyceps_base.specs.Nodes.{Nodes, spots, OwnedNode, block_of, block_element, nodes_of}
use Rattle.cordyceps_base.specs.Spots.{index_of, AreDistinct, AreNullComparable}
use Rattle.cordyceps_base.proofs.DoubleChain.{segment_join}
use Rattle.cordyceps_base.proofs.DoubleLines.{seen, seen_flat, LineAt, lead_between, table_shows}
use Rattle.cordyceps_base.proofs.LinePlaces.{cut_parts, item_past, place_in, flat_around, flat_between, Split, split_lead, seen_taken}
use Rattle.cordyceps_base.proofs.Nodes.{Row, nodes_of-append, spots-nodes_of}
use Rattle.cordyceps_base.proofs.Segments.{null_Testable, last_testable, some_last, none_ended, segment_front, segment_back, comparable_front, comparable_back}

module _ {X : Type 0} where
  -- all nodes of a table are those of its lines
  pub flat_lines : (hs : List Address) (ns : Row X) (c : List (Nodes X)) → AreLines hs ns → lines_in hs (nodes_of ns) ≡ c → nodes_of ns ≡ flat c
  flat_lines hs ns c w e = ap nodes_of w.parts ∙ seen_flat w.lines ∙ ap flat (sym (table_shows hs ns w.lines w.parts w.led w.comparable w.distinct) ∙ e)

  -- all that is known of the node at p
  pub record AtSpot (hs : List Address) (ns : Row X) (p : Ptr) : Type 0 where
    pub before : List (Row X)
    pub front : Row X
    pub node : OwnedNode X
    pub back : Row X
    pub after : List (Row X)
    pub whole : ns ≡ (flat before ++ front) ++ node ∷ (back ++ flat after)
    pub lines : ns ≡ flat (before ++ (front ++ node ∷ back) ∷ after)
    pub lead : Lead hs (before ++ (front ++ node ∷ back) ∷ after)
    pub at : node.0 ≡ p
    pub split : Split hs before after (front ++ node ∷ back)
    pub shows : lines_in hs (nodes_of ns) ≡ seen (before ++ (front ++ node ∷ back) ∷ after)
    pub comparable : AreNullComparable (box_addresses ns)
    pub distinct : AreDistinct (box_addresses ns)

  pub at_spot : (hs : List Address) (ns : Row X) (c : List (Nodes X)) (p : Ptr) → AreLines hs ns → lines_in hs (nodes_of ns) ≡ c → HasSpot (flat c) p → AtSpot hs ns p
  at_spot hs ns c p w e (j, on) =
      let there : slice_get (box_addresses (flat w.lines)) j ≡ Some p =
      subst (λ ps. slice_get ps j ≡ Some p) (ap spots (sym (flat_lines hs ns c w e)) ∙ spots-nodes_of ns ∙ ap box_addresses w.parts) on in
      let u = place_in w.lines p j there in
      let g : Lead hs (u.before ++ (u.front ++ u.node ∷ u.back) ∷ u.after) = subst (Lead hs) u.lines w.led in
      let lines : ns ≡ flat (u.before ++ (u.front ++ u.node ∷ u.back) ∷ u.after) = w.parts ∙ ap flat u.lines in
      record {
        before = u.before;
        front = u.front;
        node = u.node;
        back = u.back;
        after = u.after;
        whole = lines ∙ flat_around u.before u.after u.front u.back u.node;
        lines = lines;
        lead = g;
        at = u.at;
        split = split_lead hs u.before u.after (u.front ++ u.node ∷ u.back) g;
        shows = table_shows hs ns (u.before ++ (u.front ++ u.node ∷ u.back) ∷ u.after) lines g w.comparable w.distinct;
        comparable = w.comparable;
        distinct = w.distinct;
      }

  module _ {hs : List Address} {ns : Row X} {p : Ptr} (u : AtSpot hs ns p) where
    line : LineAt u.split.to.ptr (u.front ++ u.node ∷ u.back)
    line = u.split.here

    pub spot_cut : (fr bk : Row X) → (fr ≡ take (index_of p (box_addresses ns)) ns) × (bk ≡ drop (index_of p (box_addresses ns)) ns) → (fr ≡ flat u.before ++ u.front) × (bk ≡ u.node ∷ (u.back ++ flat u.after))
    spot_cut fr bk cut = cut_parts ns (flat u.before ++ u.front) (u.back ++ flat u.after) fr bk u.node p u.whole u.at u.distinct cut

    pub spot_there : (fr bk : Row X) → (fr ≡ take (index_of p (box_addresses ns)) ns) × (bk ≡ drop (index_of p (box_addresses ns)) ns) → slice_get (box_addresses bk) 0 ≡ Some p
    spot_there fr bk cut = ap (λ ls. slice_get (box_addresses ls) 0) (spot_cut fr bk cut).1 ∙ ap Some u.at

    pub spot_read : (fr bk : Row X) (b : Block X) → (fr ≡ take (index_of p (box_addresses ns)) ns) × (bk ≡ drop (index_of p (box_addresses ns)) ns) → slice_get (box_values bk) 0 ≡ Some b → block_of u.node ≡ b
    spot_read fr bk b cut e = let r : slice_get (box_values (u.node ∷ (u.back ++ flat u.after))) 0 ≡ Some b = subst (λ ls. slice_get (box_values ls) 0 ≡ Some b) (spot_cut fr bk cut).1 e in cc

    front_seg : Segment null_ptr u.split.to.ptr u.front (prev_of (block_of u.node)) u.node.0
    front_seg = segment_front null_ptr u.split.to.ptr u.front u.node u.back line.0 null_ptr line.1

    back_seg : Segment u.node.0 (next_of (block_of u.node)) u.back line.0 null_ptr
    back_seg = segment_back null_ptr u.split.to.ptr u.front u.node u.back line.0 null_ptr line.1

    front_comparable : AreNullComparable (box_addresses u.front)
    front_comparable =
        comparable_back (flat u.before) u.front (comparable_front (flat u.before ++ u.front) (u.node ∷ (u.back ++ flat u.after)) (subst (λ ls. AreNullComparable (box_addresses ls)) u.whole u.comparable))

    pub spot_in_block : InBlock p
    spot_in_block = subst InBlock u.at (comparable_back (flat u.before ++ u.front) (u.node ∷ (u.back ++ flat u.after)) (subst (λ ls. AreNullComparable (box_addresses ls)) u.whole u.comparable)).0.0

    module _ (b : Block X) (same : block_of u.node ≡ b) where
      pub prev_testable : Testable b.links.prev.ptr
      prev_testable = subst (λ (x : Block X). Testable (prev_of x)) same (last_testable null_ptr u.split.to.ptr u.front (prev_of (block_of u.node)) u.node.0 front_seg front_comparable null_Testable)

      pub first_there : b.links.prev.ptr ≡ null_ptr → u.front ≡ []
      first_there e = none_ended null_ptr u.split.to.ptr u.front (prev_of (block_of u.node)) u.node.0 front_seg front_comparable (ap (λ (x : Block X). prev_of x) same ∙ e)

      pub later_there : InBlock b.links.prev.ptr → 0 < length u.front
      later_there i = some_last u.split.to.ptr u.front (prev_of (block_of u.node)) u.node.0 front_seg (subst (λ (x : Block X). InBlock (prev_of x)) (sym same) i)

      pub front_led : (q : Ptr) × (h : Ptr) × (r : Ptr) × Segment q h u.front b.links.prev.ptr r
      front_led = (null_ptr, u.split.to.ptr, u.node.0, subst (λ (x : Block X). Segment null_ptr u.split.to.ptr u.front (prev_of x) u.node.0) same front_seg)

      pub front_is_led : Segment null_ptr u.split.to.ptr u.front b.links.prev.ptr u.node.0
      front_is_led = subst (λ (x : Block X). Segment null_ptr u.split.to.ptr u.front (prev_of x) u.node.0) same front_seg

      pub back_led : (q : Ptr) × (t : Ptr) × Segment q b.links.next.ptr u.back t null_ptr
      back_led = (u.node.0, line.0, subst (λ (x : Block X). Segment u.node.0 (next_of x) u.back line.0 null_ptr) same back_seg)

    -- the line without the node
    module _ (row l r : Row X) (pr nx : Ptr) (is : row ≡ (flat u.before ++ l) ++ (r ++ flat u.after)) (first : Segment null_ptr u.split.to.ptr l pr nx) (second : (t : Ptr) × Segment pr nx r t null_ptr) (a : AreNullComparable (box_addresses row)) (d : AreDistinct (box_addresses row)) where
      left_whole : row ≡ flat (u.before ++ (l ++ r) ∷ u.after)
      left_whole =
          is ∙ append_assoc (flat u.before) l (r ++ flat u.after) ∙ ap (λ s. flat u.before ++ s) (sym (append_assoc l r (flat u.after))) ∙ sym (flat_between u.before u.after (l ++ r))

      left_lead : Lead hs (u.before ++ (l ++ r) ∷ u.after)
      left_lead = let s = u.split in
          subst (λ gs. Lead gs (u.before ++ (l ++ r) ∷ u.after)) (sym s.firsts)
          (lead_between s.front s.back u.before u.after s.to (l ++ r) s.first (second.0, segment_join null_ptr s.to.ptr l pr nx r second.0 null_ptr first second.1) s.last)

      pub left_lines : AreLines hs row
      left_lines = record { comparable = a; distinct = d; lines = u.before ++ (l ++ r) ∷ u.after; parts = left_whole; led = left_lead }

      pub left_shown : (c : List (Nodes X)) → lines_in hs (nodes_of ns) ≡ c → nodes_of l ≡ nodes_of u.front → nodes_of r ≡ nodes_of u.back → IsTakenOut c p (block_element (block_of u.node)) (lines_in hs (nodes_of row))
      left_shown c view sl sr =
          seen_taken u.before u.after u.front u.back u.node c (lines_in hs (nodes_of row)) p u.at (sym view ∙ u.shows) (l ++ r) (nodes_of-append l r ∙ (λ i. sl i ++ sr i))
          (table_shows hs row (u.before ++ (l ++ r) ∷ u.after) left_whole left_lead a d)

pub within_get : {A : Type 0} (xs : List A) (k : ℕ) (x : A) → slice_get xs k ≡ Some x → k < length xs
within_get [] k x e = absurd cc
within_get (y ∷ xs) zero x e = omega arith
within_get (y ∷ xs) (suc k) x e = let on = within_get xs k x e in omega (arith, on)

-- ---- the node is the first of its line
module _ {X : Type 0} where
  pub first_is_taken : (c d : List (Nodes X)) (k : ℕ) (p : Ptr) (e : Element X) → IsFirstOut c k p e d → IsTakenOut c p e d
  first_is_taken c d k p e (before, after, back, count, was, left) = (before, after, [], back, was, left)

  pub first_at_is : (c d : List (Nodes X)) (k : ℕ) (p q : Ptr) (e o : Element X) (l : Nodes X) → IsFirstOut c k p e d → slice_get c k ≡ Some ((q, o) ∷ l) → p ≡ q
  first_at_is c d k p q e o l (before, after, back, count, was, left) there =
      let here : slice_get c k ≡ Some ((p, e) ∷ back) = ap (λ s. slice_get s k) was ∙ item_past before after ((p, e) ∷ back) k count in
      let both : Some ((p, e) ∷ back) ≡ Some ((q, o) ∷ l) = sym here ∙ there in let pair : (p, e) ≡ (q, o) = cc in ap (λ (n : Ptr × Element X). n.0) pair

  -- a row that is cut at a node, and joined again
  module _ {hs : List Address} {ns : List (OwnedNode X)} {p : Ptr} (u : AtSpot hs ns p) where
    pub spot_joined : (fr bk row : List (OwnedNode X)) → (fr ≡ take (index_of p (box_addresses ns)) ns) × (bk ≡ drop (index_of p (box_addresses ns)) ns) → row ≡ fr ++ bk → row ≡ ns
    spot_joined fr bk row cut is = let on = spot_cut u fr bk cut in is ∙ (λ i. on.0 i ++ on.1 i) ∙ sym u.whole

    pub spot_begins : (row : List (OwnedNode X)) → row ≡ ns → u.front ≡ [] → BeginsLine hs row p
    spot_begins row is none = record {
      before = u.before;
      node = u.node;
      back = u.back;
      after = u.after;
      parts = is ∙ subst (λ (f : List (OwnedNode X)). ns ≡ flat (u.before ++ (f ++ u.node ∷ u.back) ∷ u.after)) none u.lines;
      led = subst (λ (f : List (OwnedNode X)). Lead hs (u.before ++ (f ++ u.node ∷ u.back) ∷ u.after)) none u.lead;
      at = u.at;
    }
