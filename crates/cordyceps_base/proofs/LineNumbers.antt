-- A table's row whose node at p, the first of its line, gets a mark and loses it again.
use Rattle.std.proofs.Common.{◌≡◌, ℕ, List, ◌∷◌, ◌++◌, length, take, drop, slice_get, Some, refl, sym, ap, ◌∙◌, subst}
use denote.RawPtr.{Ptr, null_ptr}
use Rattle.cordyceps_base.specs.declared.boxes.Address.{Address}
use Rattle.cordyceps_base.specs.declared.node.Block.{Block}
use Rattle.cordyceps_base.specs.Boxes.{box_addresses, box_values, set_value}
use Rattle.cordyceps_base.specs.DoubleChain.{prev_of}
use Rattle.cordyceps_base.specs.DoubleLines.{flat, BeginsLine, IsMarkedAt}
use Rattle.cordyceps_base.specs.Nodes.{OwnedNode, block_of}
use Rattle.cordyceps_base.specs.Spots.{index_of, AreDistinct, IsNullComparable, AreNullComparable}
use Rattle.cordyceps_base.proofs.DoubleChain.{with_prev}
use Rattle.cordyceps_base.proofs.LineMarks.{marks}
use Rattle.cordyceps_base.proofs.LinePlaces.{addresses-append, cut_parts, flat_between, item_past, split_lead}
use Rattle.cordyceps_base.proofs.Nodes.{Row}
use Rattle.cordyceps_base.proofs.Segments.{comparable_back}

module _ {X : Type 0} where
  set_at : (bk rest : Row X) (n : OwnedNode X) (b : Block X) (a : Address) → bk ≡ n ∷ rest → slice_get (box_values bk) 0 ≡ Some b → set_value bk 0 (with_prev b a) ≡ (n.0, n.1, with_prev (block_of n) a) ∷ rest
  set_at bk rest n b a is e =
      let r : slice_get (box_values (n ∷ rest)) 0 ≡ Some b = subst (λ ls. slice_get (box_values ls) 0 ≡ Some b) is e in let same : block_of n ≡ b = cc in
      ap (λ ls. set_value ls 0 (with_prev b a)) is ∙ (λ i. (n.0, n.1, with_prev (sym same i) a) ∷ rest)

  -- the node with a mark
  abbrev pub marked_node : {hs : List Address} {ns : Row X} {p : Ptr} → BeginsLine hs ns p → Address → OwnedNode X
  marked_node u at = (u.node.0, u.node.1, with_prev (block_of u.node) at)

  module _ (hs : List Address) (ns : Row X) (p : Ptr) (u : BeginsLine hs ns p) (a : AreNullComparable (box_addresses ns)) (d : AreDistinct (box_addresses ns)) where
    whole : ns ≡ flat u.before ++ u.node ∷ (u.back ++ flat u.after)
    whole = u.parts ∙ flat_between u.before u.after (u.node ∷ u.back)

    there : IsNullComparable p
    there = subst IsNullComparable u.at (comparable_back (flat u.before) (u.node ∷ (u.back ++ flat u.after)) (subst (λ ls. AreNullComparable (box_addresses ls)) whole a)).0

    pub begun_cut : (fr bk : Row X) → (fr ≡ take (index_of p (box_addresses ns)) ns) × (bk ≡ drop (index_of p (box_addresses ns)) ns) → (fr ≡ flat u.before) × (bk ≡ u.node ∷ (u.back ++ flat u.after))
    begun_cut fr bk cut = cut_parts ns (flat u.before) (u.back ++ flat u.after) fr bk u.node p whole u.at d cut

    pub begun_there : (fr bk : Row X) → (fr ≡ take (index_of p (box_addresses ns)) ns) × (bk ≡ drop (index_of p (box_addresses ns)) ns) → slice_get (box_addresses bk) 0 ≡ Some p
    begun_there fr bk cut = ap (λ ls. slice_get (box_addresses ls) 0) (begun_cut fr bk cut).1 ∙ ap Some u.at

    -- the row with the mark
    module _ (fr bk row : Row X) (b : Block X) (at : Address) (is_p : at.ptr ≡ p) (cut : (fr ≡ take (index_of p (box_addresses ns)) ns) × (bk ≡ drop (index_of p (box_addresses ns)) ns))
        (e : slice_get (box_values bk) 0 ≡ Some b) (is : row ≡ fr ++ set_value bk 0 (with_prev b at)) where
      pub marked_row : row ≡ flat u.before ++ marked_node u at ∷ (u.back ++ flat u.after)
      marked_row = let on = begun_cut fr bk cut in is ∙ (λ i. on.0 i ++ set_at bk (u.back ++ flat u.after) u.node b at on.1 e i)

      same_addresses : box_addresses row ≡ box_addresses ns
      same_addresses =
          ap box_addresses marked_row ∙ addresses-append (flat u.before) (marked_node u at ∷ (u.back ++ flat u.after)) ∙ sym (addresses-append (flat u.before) (u.node ∷ (u.back ++ flat u.after))) ∙ ap box_addresses (sym whole)

      pub marked_comparable : AreNullComparable (box_addresses row)
      marked_comparable = subst AreNullComparable (sym same_addresses) a

      pub marked_distinct : AreDistinct (box_addresses row)
      marked_distinct = subst AreDistinct (sym same_addresses) d

      pub marked_lines : row ≡ flat (u.before ++ (marked_node u at ∷ u.back) ∷ u.after)
      marked_lines = marked_row ∙ sym (flat_between u.before u.after (marked_node u at ∷ u.back))

      pub marked_at : IsMarkedAt hs (u.before ++ (marked_node u at ∷ u.back) ∷ u.after) (length u.before)
      marked_at = marks hs u.before u.after u.node (marked_node u at) u.back u.led refl (subst IsNullComparable (sym is_p) there)

      -- and without it again
      module _ (fr' bk' row' : Row X) (cut' : (fr' ≡ take (index_of p (box_addresses row)) row) × (bk' ≡ drop (index_of p (box_addresses row)) row)) where
        again : (fr' ≡ flat u.before) × (bk' ≡ marked_node u at ∷ (u.back ++ flat u.after))
        again = cut_parts row (flat u.before) (u.back ++ flat u.after) fr' bk' (marked_node u at) p marked_row u.at marked_distinct cut'

        pub again_there : slice_get (box_addresses bk') 0 ≡ Some p
        again_there = ap (λ ls. slice_get (box_addresses ls) 0) again.1 ∙ ap Some u.at

        pub unmarked : (o : Block X) (nil : Address) → slice_get (box_values bk') 0 ≡ Some o → nil.ptr ≡ null_ptr → row' ≡ fr' ++ set_value bk' 0 (with_prev o nil) → row' ≡ ns
        unmarked o nil e' none is' =
            let prev : prev_of (block_of u.node) ≡ null_ptr = (split_lead hs u.before u.after (u.node ∷ u.back) u.led).here.1.0.1 in
            is' ∙ (λ i. again.0 i ++ set_at bk' (u.back ++ flat u.after) (marked_node u at) o nil again.1 e' i)
            ∙ (λ i. flat u.before ++ marked_node u (record { ptr = (none ∙ sym prev) i }) ∷ (u.back ++ flat u.after)) ∙ sym whole

    pub begun_number : (k : ℕ) → k ≡ length u.before → (h : Address) × (slice_get hs k ≡ Some h) × (h.ptr ≡ p)
    begun_number k e =
        let s = split_lead hs u.before u.after (u.node ∷ u.back) u.led in
        (s.to, ap (λ gs. slice_get gs k) s.firsts ∙ item_past s.front s.back s.to k (s.count ∙ sym e), s.here.1.0.0 ∙ u.at)
