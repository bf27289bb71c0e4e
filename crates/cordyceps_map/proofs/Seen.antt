-- What a contract sees of a map, and its nodes.
use Rattle.std.proofs.Common.{◌≡◌, ℕ, List, Option, Some, None, sym, subst}
use Rattle.std.specs.Prelude.{IfSome}
use denote.RawPtr.{Ptr}
use Rattle.cordyceps_base.specs.BySpot.{HasSpot}
use Rattle.cordyceps_base.specs.Nodes.{Nodes}
use Rattle.cordyceps_map.specs.declared.entry.Entry.{Entry}
use Rattle.cordyceps_map.specs.Shown.{shown}
use Rattle.cordyceps_map.specs.StableMap.{Mapped}
use Rattle.cordyceps_map.proofs.ShownNodes.{shown_has, has_shown}

module _ {K V : Type 0} where
  pub some_shown : (c : Nodes (Entry K V)) (o : Option Ptr) → IfSome o (λ p. HasSpot c p) → IfSome o (λ p. HasSpot (shown c) p)
  some_shown c None t = tt
  some_shown c (Some p) h = shown_has c p h

  module _ (c : Nodes (Entry K V)) (ls : List (List Ptr)) {size : ℕ} (v : Mapped (K × V)) (seen : record { nodes = shown c; lists = ls; buckets = size } ≡ v) where
    pub inner_has : (p : Ptr) → HasSpot v.nodes p → HasSpot c p
    inner_has p h = has_shown c p (subst (λ (w : Mapped (K × V)). HasSpot w.nodes p) (sym seen) h)

    pub some_outer : (o : Option Ptr) → IfSome o (λ p. HasSpot c p) → IfSome o (λ p. HasSpot v.nodes p)
    some_outer o h = subst (λ (w : Mapped (K × V)). IfSome o (λ p. HasSpot w.nodes p)) seen (some_shown c o h)
