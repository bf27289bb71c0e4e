-- How long no timer fires: what the bound of a queue says of the order in which timers fire.
use Rattle.std.proofs.Common.{◌≡◌, ℕ, ◌≤◌, ◌<◌, max, [], ◌∷◌, ◌++◌, length, Option, Some, None, MatchOption, IsPermutation, refl, ap, sym, ◌∙◌, subst, ◌⊎◌, inl, inr, arith}
use Rattle.std.specs.Prelude.{IfSome}
use Rattle.std.proofs.lemmas.List.Elements.{All-from_recursion, recursion_from_All}
use Rattle.std.proofs.lemmas.List.Sorted.{All-permutation, IsPermutation-sym}
use Rattle.std.specs.List.{AllByRecursion}
use denote.RawPtr.{Ptr}
use Rattle.cordyceps.specs.Elements.Element.{Element}
use Rattle.cordyceps.specs.Elements.Nodes.{Nodes}
use Rattle.cordyceps.specs.Spots.Agreeing.{HasElementAt}
use Rattle.cordyceps.specs.Spots.Clock.{rounded}
use Rattle.cordyceps.proofs.Spots.Classes.{all_back}
use Rattle.cordyceps.proofs.Spots.Valid.{permuted_is_at}
use Rattle.cordyceps_shared_uses.specs.declared.timers.Timer.{Timer}
use Rattle.cordyceps_shared_uses.specs.Timers.{InOrder, arranged, first_rounded, first_time, time_of}
use Rattle.cordyceps_shared_uses.proofs.Arranging.{in_order, kept}

module _ {P : Type 0} (clock : ℕ) where
  -- no timer fires earlier than e
  abbrev IsLeast : Element (Timer P) → Nodes (Timer P) → Type 0
  IsLeast e c = AllByRecursion (λ n. time_of clock e ≤ time_of clock n.1) c

  in_any_order : (t : ℕ) (c s : Nodes (Timer P)) → IsPermutation c s → AllByRecursion (λ n. t ≤ time_of clock n.1) c
      → AllByRecursion (λ n. t ≤ time_of clock n.1) s
  in_any_order t c s moved h =
      let later : Ptr × Element (Timer P) → Type 0 = λ n. t ≤ time_of clock n.1 in
      recursion_from_All later s (All-permutation later c s moved (All-from_recursion later c h))

  -- the first in order fires when the least does
  first_is : (s : Nodes (Timer P)) (p : Ptr) (e : Element (Timer P)) → InOrder clock s → HasElementAt s p e → IsLeast e s
      → (first_time clock s ≡ Some (time_of clock e)) × (first_rounded clock s ≡ Some (rounded clock (time_of clock e)))
  first_is [] p e order ([], a, is) low = cc
  first_is [] p e order (y ∷ b, a, is) low = cc
  first_is (x ∷ s) p e order (b, a, is) low =
      let first : Ptr × Element (Timer P) → Type 0 = λ y. time_of clock x.1 ≤ time_of clock y.1 in
      let all : AllByRecursion first (x ∷ s) = (omega arith, order.0) in
      let from = (all_back first b ((p, e) ∷ a) (subst (AllByRecursion first) is all)).0 in
      let same : time_of clock x.1 ≡ time_of clock e = omega (arith, from, low.0) in
      (ap Some same, ap (λ t. Some (rounded clock t)) same)

  -- what a queue says of a time, for a function that computes the times
  abbrev pub Bounds : (of : Timer P → ℕ) → Nodes (Timer P) → ℕ → Type 0
  Bounds of c t =
      (p : Ptr) × (e : Element (Timer P)) × HasElementAt c p e × AllByRecursion (λ n. of e.value ≤ of n.1.value) c
      × (t ≡ rounded clock (of e.value)) × ((clock < t) ⊎ (of e.value ≡ t))

  -- and what that says of the order in which timers fire
  pub record IsBound (o : Option ℕ) (s : Nodes (Timer P)) : Type 0 where
    pub near : o ≡ first_rounded clock s
    pub none_before : IfSome o (λ t. AllByRecursion (λ n. t ≤ time_of clock n.1) s)
    pub later : IfSome o (λ t. (clock < t) ⊎ (first_time clock s ≡ Some t))

  pub bounds : (K : (Timer P → ℕ) → Type 0) (c : Nodes (Timer P)) (o : Option ℕ) → K (λ t. max t.deadline clock)
      → MatchOption o (c ≡ []) (λ t. (of : Timer P → ℕ) → K of → AllByRecursion (λ n. t ≤ of n.1.value) c)
      → IfSome o (λ t. (of : Timer P → ℕ) → K of → Bounds of c t) → IsBound o (arranged clock c)
  bounds K c None by none told = record {
    near = sym (ap (λ l. first_rounded clock (arranged clock l)) none);
    none_before = tt;
    later = tt;
  }
  bounds K c (Some t) by all told =
      let time : Timer P → ℕ = λ v. max v.deadline clock in
      let (p, e, lies, low, is, later) = told time by in
      let s = arranged clock c in let moved = IsPermutation-sym s c (kept clock c) in
      let (first, near) =
      first_is s p e (in_order clock c) (permuted_is_at c s p e moved lies) (in_any_order (time_of clock e) c s moved low) in
      record {
        near = ap Some is ∙ sym near;
        none_before = in_any_order t c s moved (all time by);
        later = elim later [
          | inl after ↦ inl after
          | inr at ↦ inr (first ∙ ap Some at)
        ];
      }
