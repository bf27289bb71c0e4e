-- A node's value is written, and its key and the way to the next node stay.
use Rattle.std.proofs.Common.{◌≡◌, ℕ, zero, suc, Bool, true, if◌then◌else◌, List, [], ◌∷◌, length, Option, Some, refl, sym, ap, ◌∙◌, subst, slice_get}
use denote.RawPtr.{Ptr}
use Rattle.cordyceps_base.specs.BySpot.{HasSpot, HoldsAt}
use Rattle.cordyceps_base.specs.Nodes.{Nodes, spots, with_item}
use Rattle.cordyceps_base.specs.Spots.{same_ptr, index_of}
use Rattle.cordyceps_base.proofs.SpotsMemory.{same_ptr_eq}
use Rattle.cordyceps_many.specs.Entries.{value_at}
use Rattle.cordyceps_many.specs.Threads.{is_in}
use Rattle.cordyceps_many.proofs.Threads.{split}
use Rattle.cordyceps_map.specs.declared.entry.Entry.{Entry}
use Rattle.cordyceps_map.specs.Shown.{pair_of, shown_element, shown}
use Rattle.cordyceps_map.specs.Chains.{bucket_in, head_in, IsChain, IsMap}
use Rattle.cordyceps_map.specs.MapLends.{with_second, with_value_at}
use Rattle.cordyceps_map.specs.StableMap.{Mapped}
use Rattle.cordyceps_map.proofs.ShownNodes.{spots_shown, value_shown, shown_value, shown_held}
use Rattle.cordyceps_many.proofs.ValueAt.{value_here, value_there, value_in, value_held, value_written, value_kept}

pub spots_written : {X : Type 0} (c : Nodes X) (k : ℕ) (w : X) → spots (with_item c k w) ≡ spots c
spots_written [] k w = refl
spots_written (n ∷ c) zero w = refl
spots_written (n ∷ c) (suc k) w = ap (λ s. n.0 ∷ s) (spots_written c k w)

module _ {K V : Type 0} where
  pub spots_second : (c : Nodes (K × V)) (k : ℕ) (w : V) → spots (with_second c k w) ≡ spots c
  spots_second [] k w = refl
  spots_second (n ∷ c) zero w = refl
  spots_second (n ∷ c) (suc k) w = ap (λ s. n.0 ∷ s) (spots_second c k w)

  -- an entry at q with this key and this way on
  record Alike (f : Ptr → Option (Entry K V)) (q : Ptr) (o : Entry K V) : Type 0 where
    entry : Entry K V
    says : f q ≡ Some entry
    key : entry.key ≡ o.key
    next : entry.next ≡ o.next

  shown_second : (c : Nodes (Entry K V)) (p : Ptr) (e : Entry K V) (w : V) → value_at c p ≡ Some e → shown (with_item c (index_of p (spots c)) (record e { value = w })) ≡ with_second (shown c) (index_of p (spots c)) w
  shown_second [] p e w v = refl
  shown_second (n ∷ c) p e w v = split (same_ptr p n.0)
      (λ here. let is : n.1.value ≡ e = let t = sym (value_here n c p here) ∙ v in cc in
      ap (λ (b : Bool). shown (with_item (n ∷ c) (if b then zero else suc (index_of p (spots c))) (record e { value = w }))) here
      ∙ (λ i. (n.0, record { id = n.1.id; value = ((sym is i).key, w) }) ∷ shown c)
      ∙ sym (ap (λ (b : Bool). with_second (shown (n ∷ c)) (if b then zero else suc (index_of p (spots c))) w) here))
      (λ other. ap (λ (b : Bool). shown (with_item (n ∷ c) (if b then zero else suc (index_of p (spots c))) (record e { value = w }))) other
      ∙ ap (λ z. (n.0, shown_element n.1) ∷ z) (shown_second c p e w (sym (value_there n c p other) ∙ v))
      ∙ sym (ap (λ (b : Bool). with_second (shown (n ∷ c)) (if b then zero else suc (index_of p (spots c))) w) other))

  module _ (c : Nodes (Entry K V)) (p : Ptr) (e : Entry K V) (says : value_at c p ≡ Some e) (w : V) where
    abbrev d : Nodes (Entry K V)
    d = with_item c (index_of p (spots c)) (record e { value = w })

    forth : (q : Ptr) (o : Entry K V) → value_at c q ≡ Some o → Alike (value_at d) q o
    forth q o v = split (same_ptr q p)
        (λ same. let at = same_ptr_eq q p same in let is : e ≡ o = let t = sym says ∙ ap (value_at c) (sym at) ∙ v in cc in
        record { entry = record e { value = w }; says = ap (value_at d) at ∙ value_written c p (record e { value = w }) (value_in c p e says); key = ap (λ (z : Entry K V). z.key) is; next = ap (λ (z : Entry K V). z.next) is })
        (λ other. record { entry = o; says = value_kept c p (record e { value = w }) q other ∙ v; key = refl; next = refl })

    back : (q : Ptr) (o : Entry K V) → value_at d q ≡ Some o → Alike (value_at c) q o
    back q o v = split (same_ptr q p)
        (λ same. let at = same_ptr_eq q p same in let is : record e { value = w } ≡ o = let t = sym (value_written c p (record e { value = w }) (value_in c p e says)) ∙ ap (value_at d) (sym at) ∙ v in cc in
        record { entry = e; says = ap (value_at c) at ∙ says; key = ap (λ (z : Entry K V). z.key) is; next = ap (λ (z : Entry K V). z.next) is })
        (λ other. record { entry = o; says = sym (value_kept c p (record e { value = w }) q other) ∙ v; key = refl; next = refl })

    chain : (h : Option Ptr) (s : List Ptr) → IsChain (value_at c) h s → IsChain (value_at d) h s
    chain h [] m = m
    chain h (q ∷ s) (at, l) = let r = forth q l.entry l.says in (at, record { entry = r.entry; says = r.says; on = subst (λ n. IsChain (value_at d) n s) (sym r.next) (chain l.entry.next s l.on) })

    same_spots : spots d ≡ spots c
    same_spots = spots_written c (index_of p (spots c)) (record e { value = w })

    pub revalued : (eq : K → K → Bool) (hash : K → ℕ) (hs : List (Option Ptr)) → IsMap eq hash c hs → IsMap eq hash d hs
    revalued eq hash hs m = record {
      power = m.power;
      chained = record {
        chains = m.chained.chains;
        heads = λ j. chain (head_in hs j) (m.chained.chains j) (m.chained.heads j);
        once = m.chained.once;
        own = λ j q i. let o = m.chained.own j q i in let r = forth q o.entry o.says in record { entry = r.entry; says = r.says; bucket = ap (λ z. bucket_in (length hs) (hash z)) r.key ∙ o.bucket };
        only = λ j q i. ap (is_in q) same_spots ∙ m.chained.only j q i;
        reach = λ q y i v. let r = back q y v in ap (λ z. is_in q (m.chained.chains (bucket_in (length hs) (hash z)))) (sym r.key) ∙ m.chained.reach q r.entry (sym (ap (is_in q) same_spots) ∙ i) r.says;
      };
      apart = λ q z x y v u same.
          let a = shown_value d q x v in let b = shown_value d z y u in let ra = back q a.0 a.1.0 in let rb = back z b.0 b.1.0 in
          let keys : eq ra.entry.key rb.entry.key ≡ true = (λ i. eq (ra.key i) (rb.key i)) ∙ ap (λ (t : K × V). eq t.0 b.0.key) a.1.1 ∙ ap (λ (t : K × V). eq x.0 t.0) b.1.1 ∙ same in
          m.apart q z (pair_of ra.entry) (pair_of rb.entry) (value_shown c q ra.entry ra.says) (value_shown c z rb.entry rb.says) keys;
    }

    module _ (ls : List (List Ptr)) {size : ℕ} (v : Mapped (K × V)) (seen : record { nodes = shown c; lists = ls; buckets = size } ≡ v) where
      pub seen_written : record { nodes = shown d; lists = ls; buckets = size } ≡ with_value_at v p w
      seen_written =
          (λ i. record { nodes = (shown_second c p e w says ∙ ap (λ s. with_second (shown c) (index_of p s) w) (sym (spots_shown c))) i; lists = ls; buckets = size })
          ∙ ap (λ (z : Mapped (K × V)). with_value_at z p w) seen

  pub seen_held : (c : Nodes (Entry K V)) (p : Ptr) (e : Entry K V) → value_at c p ≡ Some e → (ls : List (List Ptr)) {size : ℕ} (v : Mapped (K × V)) → record { nodes = shown c; lists = ls; buckets = size } ≡ v → HoldsAt v.nodes p (pair_of e)
  seen_held c p e says ls v seen = subst (λ (z : Mapped (K × V)). HoldsAt z.nodes p (pair_of e)) seen (shown_held c p e (value_held c p e says))

  pub seen_kept : (v : Mapped (K × V)) (p : Ptr) (w : V) (q : Ptr) → HasSpot v.nodes q → HasSpot (with_value_at v p w).nodes q
  seen_kept v p w q h = (h.0, ap (λ s. slice_get s h.0) (spots_second v.nodes (index_of p (spots v.nodes)) w) ∙ h.1)
