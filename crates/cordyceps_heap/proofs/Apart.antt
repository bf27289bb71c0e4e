-- No two nodes are at one spot, in whichever order they are listed.
use Rattle.std.proofs.Common.{◌≡◌, false, List, [], ◌∷◌, sym, ◌∙◌}
use Rattle.std.proofs.lemmas.List.Sorted.{IsPermutation-map}
use Rattle.std.proofs.lemmas.Map.Keys.{IsDistinct-IsPermutation}
use Rattle.std.specs.List.{AllByRecursion, IsDistinct}
use Rattle.std.specs.List.Sorted.{IsPermutation}
use denote.RawPtr.{Ptr}
use Rattle.cordyceps_base.specs.Element.{Element}
use Rattle.cordyceps_base.specs.Nodes.{Nodes, spots}
use Rattle.cordyceps_base.specs.Spots.{same_ptr, IsNew, AreDistinct}
use Rattle.cordyceps_base.proofs.DoubleLines.{other_way}
use Rattle.cordyceps_single.proofs.Preorder.{by_test}

all_new : (p : Ptr) (qs : List Ptr) → IsNew p qs → AllByRecursion (λ q. same_ptr p q ≡ false) qs
all_new p [] h = tt
all_new p (q ∷ qs) h = (h.0, all_new p qs h.1)

new_all : (p : Ptr) (qs : List Ptr) → AllByRecursion (λ q. same_ptr p q ≡ false) qs → IsNew p qs
new_all p [] h = tt
new_all p (q ∷ qs) h = (h.0, new_all p qs h.1)

all_distinct : (ps : List Ptr) → AreDistinct ps → IsDistinct same_ptr ps
unfolding IsDistinct
all_distinct [] h = tt
all_distinct (p ∷ ps) h = (all_new p ps h.0, all_distinct ps h.1)

distinct_all : (ps : List Ptr) → IsDistinct same_ptr ps → AreDistinct ps
unfolding IsDistinct
distinct_all [] h = tt
distinct_all (p ∷ ps) h = (new_all p ps h.0, distinct_all ps h.1)

same_ptr_turned : (p q : Ptr) → same_ptr p q ≡ same_ptr q p
same_ptr_turned p q = by_test (same_ptr p q)
    (λ t. by_test (same_ptr q p) (λ u. t ∙ sym u) (λ f. let e = other_way q p f in absurd cc))
    (λ f. f ∙ sym (other_way p q f))

module _ {X : Type 0} where
  pub permuted_distinct : (c d : Nodes X) → IsPermutation c d → AreDistinct (spots c) → AreDistinct (spots d)
  permuted_distinct c d p h =
      distinct_all (spots d) (IsDistinct-IsPermutation same_ptr same_ptr_turned (spots c) (spots d) (IsPermutation-map (λ (n : Ptr × Element X). n.0) c d p) (all_distinct (spots c) h))
