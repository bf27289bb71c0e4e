-- What a contract sees of nodes that come, go and are written.
use Rattle.std.proofs.Common.{◌≡◌, ℕ, zero, suc, Bool, if◌then◌else◌, [], ◌∷◌, ◌++◌, Some, refl, sym, ap, ◌∙◌, slice_get}
use denote.RawPtr.{Ptr}
use Rattle.cordyceps_base.specs.BySpot.{HasSpot, HoldsAt, IsTaken}
use Rattle.cordyceps_base.specs.Element.{Element}
use Rattle.cordyceps_base.specs.Nodes.{Nodes, spots, with_item}
use Rattle.cordyceps_base.specs.Spots.{same_ptr, index_of}
use Rattle.cordyceps_many.specs.Entries.{value_at}
use Rattle.cordyceps_many.specs.MultiList.{HasNumber}
use Rattle.cordyceps_many.proofs.Threads.{split}
use Rattle.cordyceps_map.specs.declared.entry.Entry.{Entry}
use Rattle.cordyceps_map.specs.Shown.{pair_of, shown_element, shown}
use Rattle.cordyceps_many.proofs.ValueAt.{value_here, value_there}

module _ {K V : Type 0} where
  pub spots_shown : (c : Nodes (Entry K V)) → spots (shown c) ≡ spots c
  spots_shown [] = refl
  spots_shown (n ∷ c) = ap (λ s. n.0 ∷ s) (spots_shown c)

  pub shown_has : (c : Nodes (Entry K V)) (p : Ptr) → HasSpot c p → HasSpot (shown c) p
  shown_has c p h = (h.0, ap (λ s. slice_get s h.0) (spots_shown c) ∙ h.1)

  pub has_shown : (c : Nodes (Entry K V)) (p : Ptr) → HasSpot (shown c) p → HasSpot c p
  has_shown c p h = (h.0, ap (λ s. slice_get s h.0) (sym (spots_shown c)) ∙ h.1)

  pub shown_joined : (c d : Nodes (Entry K V)) → shown (c ++ d) ≡ shown c ++ shown d
  shown_joined [] d = refl
  shown_joined (n ∷ c) d = ap (λ z. (n.0, shown_element n.1) ∷ z) (shown_joined c d)

  pub shown_taken : (c : Nodes (Entry K V)) (p : Ptr) (e : Element (Entry K V)) (d : Nodes (Entry K V)) → IsTaken c p e d → IsTaken (shown c) p (shown_element e) (shown d)
  shown_taken c p e d (b, a, was, left) = (shown b, shown a, ap shown was ∙ shown_joined b ((p, e) ∷ a), ap shown left ∙ shown_joined b a)

  pub shown_held : (c : Nodes (Entry K V)) (p : Ptr) (e : Entry K V) → HoldsAt c p e → HoldsAt (shown c) p (pair_of e)
  shown_held c p e (b, id, a, was) = (shown b, id, shown a, ap shown was ∙ shown_joined b ((p, record { id = id; value = e }) ∷ a))

  pub shown_number : (c : Nodes (Entry K V)) (p : Ptr) (id : ℕ) → HasNumber c p id → HasNumber (shown c) p id
  shown_number c p id n = record {
    before = shown n.before;
    value = pair_of n.value;
    after = shown n.after;
    whole = ap shown n.whole ∙ shown_joined n.before ((p, record { id = id; value = n.value }) ∷ n.after);
  }

  pub value_shown : (c : Nodes (Entry K V)) (p : Ptr) (e : Entry K V) → value_at c p ≡ Some e → value_at (shown c) p ≡ Some (pair_of e)
  value_shown [] p e v = absurd cc
  value_shown (n ∷ c) p e v = split (same_ptr p n.0)
      (λ same. let is : n.1.value ≡ e = let t = sym (value_here n c p same) ∙ v in cc in value_here (n.0, shown_element n.1) (shown c) p same ∙ ap (λ z. Some (pair_of z)) is)
      (λ other. value_there (n.0, shown_element n.1) (shown c) p other ∙ value_shown c p e (sym (value_there n c p other) ∙ v))

  pub shown_value : (c : Nodes (Entry K V)) (p : Ptr) (x : K × V) → value_at (shown c) p ≡ Some x → (e : Entry K V) × ((value_at c p ≡ Some e) × (pair_of e ≡ x))
  shown_value [] p x v = absurd cc
  shown_value (n ∷ c) p x v = split (same_ptr p n.0)
      (λ same. (n.1.value, (value_here n c p same, let t = sym (value_here (n.0, shown_element n.1) (shown c) p same) ∙ v in cc)))
      (λ other. let r = shown_value c p x (sym (value_there (n.0, shown_element n.1) (shown c) p other) ∙ v) in (r.0, (value_there n c p other ∙ r.1.0, r.1.1)))

  -- where a node is written, and its key and value stay
  pub shown_written : (c : Nodes (Entry K V)) (p : Ptr) (e w : Entry K V) → value_at c p ≡ Some e → pair_of w ≡ pair_of e → shown (with_item c (index_of p (spots c)) w) ≡ shown c
  shown_written [] p e w v same = refl
  shown_written (n ∷ c) p e w v same = split (same_ptr p n.0)
      (λ here. let is : n.1.value ≡ e = let t = sym (value_here n c p here) ∙ v in cc in
      ap (λ (b : Bool). shown (with_item (n ∷ c) (if b then zero else suc (index_of p (spots c))) w)) here ∙ (λ i. (n.0, record { id = n.1.id; value = (same ∙ sym (ap pair_of is)) i }) ∷ shown c))
      (λ other. ap (λ (b : Bool). shown (with_item (n ∷ c) (if b then zero else suc (index_of p (spots c))) w)) other ∙ ap (λ z. (n.0, shown_element n.1) ∷ z) (shown_written c p e w (sym (value_there n c p other) ∙ v) same))
