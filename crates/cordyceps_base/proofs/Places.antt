-- Places and elements of nodes, where others come after them and where a value is written.
use Rattle.std.proofs.Common.{◌≡◌, ℕ, zero, suc, ◌+◌, ◌-◌, ◌<◌, ◌≤◌, List, [], ◌∷◌, ◌++◌, length, take, drop, slice_get, Some, refl, ap, sym, ◌∙◌, subst, append_assoc, add-zero, add-suc, add-one, arith}
use Rattle.std.proofs.lemmas.List.{map-append}
use Rattle.std.specs.List.{take-map, drop-map}
use denote.RawPtr.{Ptr}
use Rattle.cordyceps_base.specs.Element.{Element, with_value}
use Rattle.cordyceps_base.specs.Nodes.{Nodes, spots, elements, with_item}

module _ {X : Type 0} where
  -- a node stays where it is while those from a later place on change
  pub spot_before : (c more : Nodes X) (k i : ℕ) (p : Ptr) → i < k → slice_get (spots c) i ≡ Some p → slice_get (spots (take k c ++ more)) i ≡ Some p
  spot_before [] more k i p before at = cc
  spot_before (n ∷ c) more zero i p before at = absurd (omega arith)
  spot_before (n ∷ c) more (suc k) zero p before at = at
  spot_before (n ∷ c) more (suc k) (suc i) p before at = spot_before c more k i p (omega arith) at

  spot_after : (c more : Nodes X) (i : ℕ) (p : Ptr) → slice_get (spots c) i ≡ Some p → slice_get (spots (more ++ c)) (i + length more) ≡ Some p
  spot_after c [] i p at = rw add-zero at
  spot_after c (m ∷ more) i p at = rw add-suc (spot_after c more i p at)

  -- a node is that many places further on where others were put in before it
  pub spot_pushed : (c more : Nodes X) (k i : ℕ) (p : Ptr) → k ≤ i → slice_get (spots c) i ≡ Some p → slice_get (spots (take k c ++ (more ++ drop k c))) (i + length more) ≡ Some p
  spot_pushed c more zero i p later at = spot_after c more i p at
  spot_pushed [] more (suc k) i p later at = cc
  spot_pushed (n ∷ c) more (suc k) zero p later at = absurd (omega arith)
  spot_pushed (n ∷ c) more (suc k) (suc i) p later at =
      let on : suc (i + length more) ≡ suc i + length more = omega arith in
      subst (λ j. slice_get (spots (take (suc k) (n ∷ c) ++ (more ++ drop k c))) j ≡ Some p) on (spot_pushed c more k i p (omega arith) at)

  -- a node is one place nearer to the front where one before it was taken out
  spot_on : (c : Nodes X) (k i : ℕ) (p : Ptr) → k ≤ i → slice_get (spots c) (suc i) ≡ Some p → slice_get (spots (take k c ++ drop (suc k) c)) i ≡ Some p
  spot_on [] k i p later at = cc
  spot_on (n ∷ c) zero i p later at = at
  spot_on (n ∷ c) (suc k) zero p later at = absurd (omega arith)
  spot_on (n ∷ c) (suc k) (suc i) p later at = spot_on c k i p (omega arith) at

  pub spot_pulled : (c : Nodes X) (k i : ℕ) (p : Ptr) → k < i → slice_get (spots c) i ≡ Some p → slice_get (spots (take k c ++ drop (k + 1) c)) (i - 1) ≡ Some p
  spot_pulled c k i p later at =
      let next : i ≡ suc (i - 1) = omega arith in
      rw add-one (spot_on c k (i - 1) p (omega arith) (subst (λ j. slice_get (spots c) j ≡ Some p) next at))

  -- a written value moves no node
  pub spots-with_item : (c : Nodes X) (k : ℕ) (w : X) → spots (with_item c k w) ≡ spots c
  spots-with_item [] k w = refl
  spots-with_item (n ∷ c) zero w = refl
  spots-with_item (n ∷ c) (suc k) w = ap (λ ps. n.0 ∷ ps) (spots-with_item c k w)

  pub elements-with_item : (c : Nodes X) (k : ℕ) (w : X) → elements (with_item c k w) ≡ with_value (elements c) k w
  elements-with_item [] k w = refl
  elements-with_item (n ∷ c) zero w = refl
  elements-with_item (n ∷ c) (suc k) w = ap (λ s. n.1 ∷ s) (elements-with_item c k w)

  -- the elements where nodes come in or go
  pub elements-unlinked : (c : Nodes X) (k : ℕ) → elements (take k c ++ drop (k + 1) c) ≡ take k (elements c) ++ drop (k + 1) (elements c)
  elements-unlinked c k = map-append (λ n. n.1) (take k c) (drop (k + 1) c) ∙ (λ i. sym (take-map (λ n. n.1) k c) i ++ sym (drop-map (λ n. n.1) (k + 1) c) i)

  pub elements-spliced : (c more : Nodes X) (k : ℕ) → elements (take k c ++ (more ++ drop k c)) ≡ (take k (elements c) ++ elements more) ++ drop k (elements c)
  elements-spliced c more k =
      map-append (λ n. n.1) (take k c) (more ++ drop k c) ∙ (λ i. sym (take-map (λ n. n.1) k c) i ++ map-append (λ n. n.1) more (drop k c) i) ∙ (λ i. take k (elements c) ++ (elements more ++ sym (drop-map (λ n. n.1) k c) i)) ∙ sym (append_assoc (take k (elements c)) (elements more) (drop k (elements c)))

  pub elements-linked : (c : Nodes X) (k : ℕ) (p : Ptr) (e : Element X) → elements (take k c ++ (p, e) ∷ drop k c) ≡ take k (elements c) ++ e ∷ drop k (elements c)
  elements-linked c k p e = map-append (λ n. n.1) (take k c) ((p, e) ∷ drop k c) ∙ (λ i. sym (take-map (λ n. n.1) k c) i ++ e ∷ sym (drop-map (λ n. n.1) k c) i)

  pub element-at : (c : Nodes X) (k : ℕ) (p : Ptr) (e : Element X) → slice_get c k ≡ Some (p, e) → slice_get (elements c) k ≡ Some e
  element-at [] zero p e h = absurd cc
  element-at [] (suc k) p e h = absurd cc
  element-at (n ∷ c) zero p e h = let same : n ≡ (p, e) = cc in ap (λ (m : Ptr × Element X). Some m.1) same
  element-at (n ∷ c) (suc k) p e h = element-at c k p e h

  pub length-with_item : (c : Nodes X) (k : ℕ) (w : X) → length (with_item c k w) ≡ length c
  length-with_item [] k w = refl
  length-with_item (n ∷ c) zero w = refl
  length-with_item (n ∷ c) (suc k) w = ap suc (length-with_item c k w)

-- a sequence at an item, by what follows
pub record Seam {X : Type 0} (s : List X) (k : ℕ) (x : X) (rest : List X) : Type 0 where
  pub here : slice_get s k ≡ Some x
  pub after : rest ≡ drop (k + 1) s
  pub around : s ≡ take k s ++ x ∷ drop (k + 1) s

pub seam : {X : Type 0} (s : List X) (k : ℕ) (x : X) (rest : List X) → drop k s ≡ x ∷ rest → Seam s k x rest
seam [] zero x rest h = absurd cc
seam [] (suc k) x rest h = absurd cc
seam (y ∷ s) zero x rest h = let e : y ≡ x = cc in record { here = ap Some e; after = cc; around = ap (λ z. z ∷ s) e }
seam (y ∷ s) (suc k) x rest h =
    let more = seam s k x rest h in
    record { here = more.here; after = simp add-one (simp add-one at more.after); around = simp add-one (ap (λ t. y ∷ t) (simp add-one at more.around)) }

pub length_with_value : {X : Type 0} (s : List (Element X)) (k : ℕ) (w : X) → length (with_value s k w) ≡ length s
length_with_value [] k w = refl
length_with_value (e ∷ s) zero w = refl
length_with_value (e ∷ s) (suc k) w = ap suc (length_with_value s k w)
