-- Which bucket a time is in: how times and buckets are ordered, and what becomes of a bucket when the clock has changed.
use Rattle.std.proofs.Common.{◌≡◌, ◌≢◌, ℕ, suc, ◌+◌, ◌-◌, ◌*◌, ◌/◌, ◌%◌, ◌^◌, ◌<◌, ◌≤◌, bit_xor, refl, sym, ap, ◌∙◌, inl, inr, arith, pow_pos, pow_mono, le_trans, div-mul-le_self}
use Rattle.std.specs.Int.Bits.{xor_self}
use Rattle.std.proofs.lemmas.Bool.{cases_lt}
use Rattle.std.proofs.lemmas.Grind.{pow_more}
use Rattle.std.proofs.lemmas.Nat.{shr-shr, shr_split, mod_below, xor_shr, xor_lt, leading_length, le-div, div_below}
use Rattle.std.proofs.lemmas.Nat.Bits.{same_from_bits, bit_at_xor, bit_at-zero, bit_at-lt}
use Rattle.cordyceps_clock.specs.Buckets.{bucket_of}

same_from_xor : (a b : ℕ) → bit_xor a b ≡ 0 → a ≡ b
same_from_xor a b none =
    same_from_bits a b (λ i. omega (arith, sym (bit_at_xor a b i) ∙ ap (λ n. n / 2 ^ i % 2) none ∙ bit_at-zero i, bit_at-lt a i, bit_at-lt b i))

pub shr-le : (k a b : ℕ) → a ≤ b → a / 2 ^ k ≤ b / 2 ^ k
shr-le k a b below = le-div _ b _ (pow_pos k) (le_trans (div-mul-le_self a _) below)

-- times that agree from bit k on are in the buckets up to k, and no others
pub within : (k clock time : ℕ) → clock < 2 ^ 64 → time < 2 ^ 64 → clock / 2 ^ k ≡ time / 2 ^ k → bucket_of clock time ≤ k
within k clock time small fits same =
    let x = bit_xor clock time in
    let (m, sum, below, high) = leading_length 64 x (xor_lt 64 clock time small fits) in
    let none : x / 2 ^ k ≡ 0 = xor_shr clock time k ∙ ap (λ n. bit_xor n (time / 2 ^ k)) same ∙ xor_self (time / 2 ^ k) in
    let whole : x / 2 ^ k * 2 ^ k + x % 2 ^ k ≡ x = shr_split x k in
    let part : x / 2 ^ k * 2 ^ k ≡ 0 * 2 ^ k = ap (λ n. n * 2 ^ k) none in
    let rest : x % 2 ^ k < 2 ^ k = mod_below x (2 ^ k) (pow_pos k) in
    elim (cases_lt k m) [
      | inl above ↦ let up : 2 ^ (k + 1) ≤ 2 ^ m = pow_mono (omega (arith, above)) in absurd (omega (arith, up, pow_more 2 k, high, whole, part, rest))
      | inr low ↦ omega (arith, low, sum)
    ]

pub agree : (k clock time : ℕ) → clock < 2 ^ 64 → time < 2 ^ 64 → bucket_of clock time ≤ k → clock / 2 ^ k ≡ time / 2 ^ k
agree k clock time small fits low =
    let x = bit_xor clock time in
    let (m, sum, below, high) = leading_length 64 x (xor_lt 64 clock time small fits) in
    let up : 2 ^ m ≤ 2 ^ k = pow_mono (omega (arith, low, sum)) in
    let none : x / 2 ^ k ≡ 0 = omega (arith, div_below x (2 ^ k) 1 (pow_pos k) (omega (arith, below, up))) in
    same_from_xor (clock / 2 ^ k) (time / 2 ^ k) (sym (xor_shr clock time k) ∙ none)

-- the clock alone is in the bucket 0
pub clock_itself : (clock : ℕ) → clock < 2 ^ 64 → bucket_of clock clock ≡ 0
clock_itself clock small = omega (arith, within 0 clock clock small small refl)

pub is_clock : (clock time : ℕ) → clock < 2 ^ 64 → time < 2 ^ 64 → bucket_of clock time ≡ 0 → clock ≡ time
is_clock clock time small fits none = omega (arith, agree 0 clock time small fits (omega (arith, none)))

-- a later time is in no lower bucket
pub bucket-le : (clock s t : ℕ) → clock < 2 ^ 64 → s < 2 ^ 64 → t < 2 ^ 64 → clock ≤ s → s ≤ t → bucket_of clock s ≤ bucket_of clock t
bucket-le clock s t small less fits first second =
    let k = bucket_of clock t in
    let same = agree k clock t small fits (omega arith) in
    within k clock s small less (omega (arith, same, shr-le k clock s first, shr-le k s t second))

pub earlier : (clock s t : ℕ) → clock < 2 ^ 64 → s < 2 ^ 64 → t < 2 ^ 64 → clock ≤ t → bucket_of clock s < bucket_of clock t → s < t
earlier clock s t small less fits after below =
    elim (cases_lt s t) [
      | inl before ↦ before
      | inr later ↦ absurd (omega (arith, below, bucket-le clock t s small fits less after later))
    ]

-- once a later time is the clock, a time in a bucket above it stays in its bucket
pub stays : (clock next time : ℕ) → clock < 2 ^ 64 → next < 2 ^ 64 → time < 2 ^ 64 → bucket_of clock next < bucket_of clock time → bucket_of next time ≡ bucket_of clock time
stays clock next time small less fits above =
    let c = bucket_of clock time in
    let low : bucket_of next time ≤ c = within c next time less fits (sym (agree c clock next small less (omega (arith, above))) ∙ agree c clock time small fits (omega arith)) in
    elim (cases_lt (bucket_of next time) c) [
      | inl below ↦
          let same = agree (c - 1) clock next small less (omega (arith, above)) ∙ agree (c - 1) next time less fits (omega (arith, below)) in
          absurd (omega (arith, above, within (c - 1) clock time small fits same))
      | inr high ↦ omega (arith, low, high)
    ]

-- and those of its own bucket fall below that
pub falls : (j clock next time : ℕ) → clock < 2 ^ 64 → next < 2 ^ 64 → time < 2 ^ 64 → clock ≤ next → next ≤ time → bucket_of clock next ≡ suc j → bucket_of clock time ≡ suc j → bucket_of next time ≤ j
falls j clock next time small less fits first second is too =
    let q = clock / 2 ^ j in let m = next / 2 ^ j in let t = time / 2 ^ j in
    let half_m : q / 2 ≡ m / 2 = shr-shr clock j 1 ∙ agree (j + 1) clock next small less (omega (arith, is)) ∙ sym (shr-shr next j 1) in
    let half_t : q / 2 ≡ t / 2 = shr-shr clock j 1 ∙ agree (j + 1) clock time small fits (omega (arith, too)) ∙ sym (shr-shr time j 1) in
    let other : q ≢ m = λ same. omega (arith, is, within j clock next small less same) in
    within j next time less fits (omega (arith, half_m, half_t, other, shr-le j clock next first, shr-le j next time second))
