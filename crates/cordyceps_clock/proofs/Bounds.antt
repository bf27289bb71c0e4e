-- The least time of the lowest bucket, before which no element is due.
use Rattle.std.proofs.Common.{◌≡◌, ◌≢◌, ℕ, zero, suc, ◌+◌, ◌-◌, ◌*◌, ◌/◌, ◌^◌, ◌<◌, ◌≤◌, List, [], ◌∷◌}
use Rattle.std.proofs.Common.{Option, refl, sym, ap, ◌∙◌, subst, ◌⊎◌, inl, inr, arith, pow_pos, div-mul-le_self}
use Rattle.std.proofs.Math.Nat.{mul-le-mul_right}
use Rattle.std.proofs.lemmas.Bool.{cases_lt}
use Rattle.std.proofs.lemmas.Nat.{mod_below, shr-shr, shr_split}
use Rattle.std.specs.List.{AllByRecursion}
use denote.RawPtr.{Ptr}
use Rattle.cordyceps_base.specs.Element.{Element}
use Rattle.cordyceps_base.specs.Nodes.{Nodes}
use Rattle.cordyceps_single.specs.ByKey.{AscendsBy}
use Rattle.cordyceps_stable.proofs.Classes.{all_back, all_weaker}
use Rattle.cordyceps_stable.specs.Agreeing.{HasElementAt}
use Rattle.cordyceps_clock.specs.Buckets.{bucket_of, number_at, AreDue, IsTimed}
use Rattle.cordyceps_clock.specs.Clock.{rounded}
use Rattle.cordyceps_clock.proofs.Numbers.{agree, bucket-le, earlier, is_clock, shr-le, within}

rounded_by : (j clock time : ℕ) → bucket_of clock time - 1 ≡ j → rounded clock time ≡ time / 2 ^ j * 2 ^ j
rounded_by j clock time is = ap (λ k. time / 2 ^ k * 2 ^ k) is

rounded_before : (clock time : ℕ) → rounded clock time ≤ time
rounded_before clock time = div-mul-le_self time (2 ^ (bucket_of clock time - 1))

-- a time of a bucket above the lowest differs from the clock in the bucket's bit
differs : (j clock time : ℕ) → clock < 2 ^ 64 → time < 2 ^ 64 → bucket_of clock time ≡ suc j
    → (clock / 2 ^ j / 2 ≡ time / 2 ^ j / 2) × (clock / 2 ^ j ≢ time / 2 ^ j)
differs j clock time small fits is = (
  shr-shr clock j 1 ∙ agree (j + 1) clock time small fits (omega (arith, is)) ∙ sym (shr-shr time j 1),
  λ same. omega (arith, is, within j clock time small fits same),
)

-- so all times of a bucket are rounded to one
rounded_same : (clock s t : ℕ) → clock < 2 ^ 64 → s < 2 ^ 64 → t < 2 ^ 64 → bucket_of clock s ≡ bucket_of clock t
    → rounded clock s ≡ rounded clock t
rounded_same clock s t small less fits same = go (bucket_of clock t) same refl where
  go : (k : ℕ) → bucket_of clock s ≡ k → bucket_of clock t ≡ k → rounded clock s ≡ rounded clock t
  go zero first second = ap (rounded clock) (sym (is_clock clock s small less first) ∙ is_clock clock t small fits second)
  go (suc j) first second =
      let (half_s, other_s) = differs j clock s small less first in
      let (half_t, other_t) = differs j clock t small fits second in
      let one : s / 2 ^ j ≡ t / 2 ^ j = omega (arith, half_s, half_t, other_s, other_t) in
      rounded_by j clock s (omega (arith, first)) ∙ ap (λ q. q * 2 ^ j) one ∙ sym (rounded_by j clock t (omega (arith, second)))

-- and it is the clock only where that is the time itself
rounded_after : (clock time : ℕ) → clock < 2 ^ 64 → time < 2 ^ 64 → clock ≤ time
    → (clock < rounded clock time) ⊎ (time ≡ rounded clock time)
rounded_after clock time small fits from = go (bucket_of clock time) refl where
  go : (k : ℕ) → bucket_of clock time ≡ k → (clock < rounded clock time) ⊎ (time ≡ rounded clock time)
  go zero is = inr (sym (rounded_by 0 clock time (omega (arith, is)) ∙ omega arith))
  go (suc j) is =
      let (_, other) = differs j clock time small fits is in
      let above : clock / 2 ^ j + 1 ≤ time / 2 ^ j = omega (arith, other, shr-le j clock time from) in
      let over = mul-le-mul_right (2 ^ j) above in let rest = mod_below clock (2 ^ j) (pow_pos j) in
      inl (omega (arith, rounded_by j clock time (omega (arith, is)), over, shr_split clock j, rest))

module _ {X : Type 0} (of : X → ℕ) where
  -- some node of the least time
  abbrev pub HasLeast : Nodes X → Ptr → Element X → Type 0
  HasLeast c p e = HasElementAt c p e × AllByRecursion (λ n. of e.value ≤ of n.1.value) c

  has_least : (c : Nodes X) (n : Ptr × Element X) → (p : Ptr) × (e : Element X) × HasLeast (n ∷ c) p e
  has_least [] n = (n.0, n.1, (([], [], refl), (omega arith, tt)))
  has_least (m ∷ c) n =
      let (p, e, ((b, a, is), low)) = has_least c m in
      elim (cases_lt (of n.1.value) (of e.value)) [
        | inl less ↦ (
          n.0,
          n.1,
          (
            ([], m ∷ c, refl),
            (omega arith, all_weaker (λ y. of e.value ≤ of y.1.value) (λ y. of n.1.value ≤ of y.1.value) (λ y h. omega (arith, less, h)) (m ∷ c) low),
          ),
        )
        | inr more ↦ (p, e, ((n ∷ b, a, ap (λ s. n ∷ s) is), (more, low)))
      ]

  module _ (clock : ℕ) (small : clock < 2 ^ 64) where
    -- none of the nodes after the first is due before the least time of its bucket
    bound : (x : Element X) (p : Ptr) (c : Nodes X) → of x.value < 2 ^ 64
        → AllByRecursion (λ y. number_at of clock (p, x) ≤ number_at of clock y) c → AreDue of clock c
        → AllByRecursion (λ n. rounded clock (of x.value) ≤ of n.1.value) c
    bound x p [] fits numbers due = tt
    bound x p (n ∷ c) fits numbers due =
        let s = of x.value in let t = of n.1.value in (
          elim (cases_lt (bucket_of clock s) (bucket_of clock t)) [
            | inl above ↦ omega (arith, rounded_before clock s, earlier clock s t small fits due.0.1 due.0.0 above)
            | inr one ↦
                let same : bucket_of clock s ≡ bucket_of clock t = omega (arith, one, numbers.0) in
                omega (arith, rounded_same clock s t small fits due.0.1 same, rounded_before clock t)
          ],
          bound x p c fits numbers.1 due.1,
        )

    module _ (ends : List (Option Ptr)) (c after : Nodes X) (p : Ptr) (x : Element X) (timed : IsTimed of clock ends c)
        (first : c ≡ (p, x) ∷ after) where
      pub none_earlier : AllByRecursion (λ n. rounded clock (of x.value) ≤ of n.1.value) c
      none_earlier =
          let due = subst (AreDue of clock) first timed.times in
          let numbers = subst (AscendsBy (number_at of clock)) first timed.kept.ascends in
          subst (AllByRecursion (λ n. rounded clock (of x.value) ≤ of n.1.value)) (sym first)
          (rounded_before clock (of x.value), bound x p after due.0.1 numbers.0 due.1)

      -- it is the rounded time of the first to be due
      pub least_is_near : (q : Ptr) × (e : Element X) × HasLeast c q e × (rounded clock (of x.value) ≡ rounded clock (of e.value)) × ((clock < rounded clock (of x.value)) ⊎ (of e.value ≡ rounded clock (of x.value)))
      least_is_near =
          let (q, e, ((b, a, is), low)) = has_least after (p, x) in
          let due = subst (AreDue of clock) first timed.times in
          let own = (all_back (λ n. (clock ≤ of n.1.value) × (of n.1.value < 2 ^ 64)) b ((q, e) ∷ a) (subst (AreDue of clock) is due)).0 in
          let numbers = subst (AscendsBy (number_at of clock)) first timed.kept.ascends in
          let all : AllByRecursion (λ y. number_at of clock (p, x) ≤ number_at of clock y) ((p, x) ∷ after) = (omega arith, numbers.0) in
          let above = (all_back (λ y. number_at of clock (p, x) ≤ number_at of clock y) b ((q, e) ∷ a) (subst (AllByRecursion (λ y. number_at of clock (p, x) ≤ number_at of clock y)) is all)).0 in
          let below = bucket-le clock (of e.value) (of x.value) small own.1 due.0.1 own.0 low.0 in
          let same = rounded_same clock (of x.value) (of e.value) small due.0.1 own.1 (omega (arith, above, below)) in (
            q,
            e,
            subst (λ l. HasLeast l q e) (sym first) ((b, a, is), low),
            same,
            subst (λ t. (clock < t) ⊎ (of e.value ≡ t)) (sym same) (rounded_after clock (of e.value) small own.1 own.0),
          )
