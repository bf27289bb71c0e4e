-- A node comes into the map.
use Rattle.std.proofs.Common.{◌≡◌, ℕ, Bool, true, false, List, [], ◌∷◌, ◌++◌, length, Option, Some, None, sym, ap, ◌∙◌}
use Rattle.std.specs.Cmp.{IsEquivalence}
use Rattle.std.specs.Int.{IsPowerOfTwo}
use Rattle.std.specs.Map.{lookup_entry}
use denote.RawPtr.{Ptr}
use Rattle.cordyceps_base.specs.BySpot.{HasSpot}
use Rattle.cordyceps_base.specs.Element.{Element}
use Rattle.cordyceps_base.specs.Nodes.{Nodes, spots}
use Rattle.cordyceps_base.specs.Spots.{same_ptr}
use Rattle.cordyceps_base.proofs.SpotsMemory.{same_ptr_eq}
use Rattle.cordyceps_many.specs.Entries.{value_at}
use Rattle.cordyceps_many.specs.Threads.{is_in}
use Rattle.cordyceps_many.proofs.Members.{spots_joined, in_has}
use Rattle.cordyceps_many.proofs.Threads.{split, differ}
use Rattle.cordyceps_map.specs.declared.entry.Entry.{Entry}
use Rattle.cordyceps_map.specs.Shown.{pair_of, shown_element, shown}
use Rattle.cordyceps_map.specs.StableMap.{pairs}
use Rattle.cordyceps_map.specs.Chains.{bucket_in, AreChained, IsMap, IsEntered}
use Rattle.cordyceps_map.proofs.Entering.{joined_members, renamed, carried, entered}
use Rattle.cordyceps_map.proofs.Looking.{none_found}
use Rattle.cordyceps_map.proofs.ShownNodes.{spots_shown, shown_joined}
use Rattle.cordyceps_many.proofs.ValueAt.{value_joined, value_came}

module _ {K V : Type 0} (eq : K → K → Bool) (laws : IsEquivalence eq) (hash : K → ℕ) (c : Nodes (Entry K V)) (hs : List (Option Ptr)) (m : IsMap eq hash c hs) (p : Ptr) (n : Element (Entry K V)) (fresh : HasSpot c p → ⊥) (none : lookup_entry (eq n.value.key) (pairs (shown c)) ≡ None) (j : Nodes (Entry K V)) (joined : j ≡ c ++ (p, n) ∷ []) (d : Nodes (Entry K V)) (ms : List (Option Ptr)) (b : ℕ) (r : IsEntered j hs b p d ms) (number : b ≡ bucket_in (length hs) (hash n.value.key)) where
  out : is_in p (spots c) ≡ false
  out = split (is_in p (spots c)) (λ yes. absurd (fresh (in_has c p yes))) (λ no. no)

  spots_now : spots d ≡ spots c ++ p ∷ []
  spots_now = sym (spots_shown d) ∙ ap spots r.nodes.shows ∙ spots_shown j ∙ ap spots joined ∙ spots_joined c ((p, n) ∷ [])

  same_members : (q : Ptr) → is_in q (spots d) ≡ is_in q (p ∷ spots c)
  same_members q = ap (is_in q) spots_now ∙ joined_members q p (spots c)

  before : AreChained hash (value_at j) hs (spots c)
  before = carried hash (value_at c) (value_at j) hs (spots c) (λ q i. ap (λ z. value_at z q) joined ∙ value_joined c p n q (differ q p (spots c) i out)) m.chained

  seen : (q : Ptr) → value_at (shown d) q ≡ value_at (shown c ++ (p, shown_element n) ∷ []) q
  seen q = ap (λ z. value_at z q) (r.nodes.shows ∙ ap shown joined ∙ shown_joined c ((p, n) ∷ []))

  seen_out : is_in p (spots (shown c)) ≡ false
  seen_out = ap (is_in p) (spots_shown c) ∙ out

  seen_old : (q : Ptr) (x : K × V) → same_ptr q p ≡ false → value_at (shown d) q ≡ Some x → value_at (shown c) q ≡ Some x
  seen_old q x other v = sym (value_joined (shown c) p (shown_element n) q other) ∙ sym (seen q) ∙ v

  seen_new : (q : Ptr) (x : K × V) → same_ptr q p ≡ true → value_at (shown d) q ≡ Some x → pair_of n.value ≡ x
  seen_new q x same v = let t = sym (value_came (shown c) p (shown_element n) seen_out) ∙ sym (seen p) ∙ ap (value_at (shown d)) (sym (same_ptr_eq q p same)) ∙ v in cc

  unlike : (q : Ptr) (x : K × V) → value_at (shown c) q ≡ Some x → eq n.value.key x.0 ≡ false
  unlike q x v = none_found eq n.value.key (shown c) none q x v

  pub inserted : IsPowerOfTwo (length ms) → IsMap eq hash d ms
  inserted power = record {
    power = power;
    chained = renamed hash (value_at d) ms (p ∷ spots c) (spots d) same_members (entered hash j hs p d ms (spots c) out b r n.value (ap (λ z. value_at z p) joined ∙ value_came c p n out) number before);
    apart = λ q z x y v w same. split (same_ptr q p)
        (λ here. split (same_ptr z p)
        (λ there. same_ptr_eq q p here ∙ sym (same_ptr_eq z p there))
        (λ other. let no = unlike z y (seen_old z y other w) in let is = seen_new q x here v in let yes : eq n.value.key y.0 ≡ true = ap (λ (a : K × V). eq a.0 y.0) is ∙ same in absurd cc))
        (λ apart. split (same_ptr z p)
        (λ there. let no = unlike q x (seen_old q x apart v) in let is = seen_new z y there w in let yes : eq n.value.key x.0 ≡ true = ap (λ (a : K × V). eq a.0 x.0) is ∙ laws.symm y.0 x.0 ∙ same in absurd cc)
        (λ other. m.apart q z x y (seen_old q x apart v) (seen_old z y other w) same));
  }
