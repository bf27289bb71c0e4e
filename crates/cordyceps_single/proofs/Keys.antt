-- Items in the order of a number of each: the first has the least number, and each at most that of the next.
use Rattle.std.proofs.Common.{◌≡◌, ℕ, ◌≤◌, ◌<◌, false, List, [], ◌∷◌, nat_lt, refl, ap, sym, ◌∙◌, subst, arith}
use Rattle.std.proofs.lemmas.Bool.{le-ltb, lt-ltb, ltb-false}
use Rattle.std.proofs.lemmas.Cmp.{by_ranked}
use Rattle.std.specs.Cmp.{nat_cmp_total, ranked}
use Rattle.std.specs.List.{AllByRecursion}
use Rattle.std.specs.List.Sorted.{IsSortedByKey}
use Rattle.std.specs.Ordering.{is_lt, nat_cmp}
use Rattle.std.specs.declared.cmp.Ordering.{Ordering}
use Rattle.std.proofs.lemmas.List.Sorted.{ranks_by}
use Rattle.cordyceps_single.specs.Arrangement.{IsArrangementOf}
use Rattle.cordyceps_single.specs.ByKey.{AscendsBy, by_key}
use Rattle.cordyceps_single.proofs.Arrangement.{After, Ascends, ascends_from_sorted, sorted_from_ascends}

-- what two keys compare as, two values with these keys do
pub keys_tell : {X K : Type 0} (cmp_keys : K → K → Ordering) (key : X → K) (cmp : X → X → Ordering) (x y : X) (first second : K) (r : Ordering)
    → first ≡ key x → second ≡ key y → r ≡ cmp_keys first second → cmp ≡ by_key cmp_keys key → r ≡ cmp x y
keys_tell {X = X} cmp_keys key cmp x y first second r is other says compares =
    says ∙ (λ i. cmp_keys (is i) (other i)) ∙ ap (λ (f : X → X → Ordering). f x y) (sym compares)

-- what the order of numbers says
pub lt_is : (a b : ℕ) → is_lt (nat_cmp a b) ≡ nat_lt a b
lt_is a b =
    by_ranked (a < b) (a ≡ b) (b < a) (nat_cmp a b) (ranked a b (nat_cmp a b) refl)
    (λ e h. ap is_lt e ∙ sym (lt-ltb a b h)) (λ e h. ap is_lt e ∙ sym (le-ltb a b (omega arith))) (λ e h. ap is_lt e ∙ sym (le-ltb a b (omega arith)))

pub not_less : (a b : ℕ) → b ≤ a → is_lt (nat_cmp a b) ≡ false
not_less a b h = lt_is a b ∙ le-ltb a b h

pub at_most : (a b : ℕ) → is_lt (nat_cmp a b) ≡ false → b ≤ a
at_most a b f = ltb-false a b (sym (lt_is a b) ∙ f)

module _ {A : Type 0} (number : A → ℕ) where
  before_all : (x : A) (s : List A) → After (λ a b. is_lt (nat_cmp (number a) (number b))) x s → AllByRecursion (λ y. number x ≤ number y) s
  before_all x [] h = tt
  before_all x (y ∷ s) h = (at_most (number y) (number x) h.0, before_all x s h.1)

  none_less : (x : A) (s : List A) → AllByRecursion (λ y. number x ≤ number y) s → After (λ a b. is_lt (nat_cmp (number a) (number b))) x s
  none_less x [] h = tt
  none_less x (y ∷ s) h = (not_less (number y) (number x) h.0, none_less x s h.1)

  numbers_ascend : (s : List A) → Ascends (λ a b. is_lt (nat_cmp (number a) (number b))) s → AscendsBy number s
  numbers_ascend [] h = tt
  numbers_ascend (x ∷ s) h = (before_all x s h.0, numbers_ascend s h.1)

  none_falls : (s : List A) → AscendsBy number s → Ascends (λ a b. is_lt (nat_cmp (number a) (number b))) s
  none_falls [] h = tt
  none_falls (x ∷ s) h = (none_less x s h.0, none_falls s h.1)

  -- what is sorted ascends, and what ascends is sorted
  pub ascends_by : (s : List A) → IsSortedByKey number nat_cmp s → AscendsBy number s
  ascends_by s h = numbers_ascend s (ascends_from_sorted (λ a b. is_lt (nat_cmp (number a) (number b))) (ranks_by nat_cmp_total number) s h)

  pub sorted_by : (s : List A) → AscendsBy number s → IsSortedByKey number nat_cmp s
  sorted_by s h = sorted_from_ascends (λ a b. is_lt (nat_cmp (number a) (number b))) s (none_falls s h)

  -- what an order by a number arranged ascends, and what ascends stands for itself
  pub arranged_ascends : (s a : List A) → IsArrangementOf (λ x y. is_lt (nat_cmp (number x) (number y))) s a → AscendsBy number s
  arranged_ascends s a h = ascends_by s h.in_order

  pub ascends_arranged : (s : List A) → AscendsBy number s → IsArrangementOf (λ x y. is_lt (nat_cmp (number x) (number y))) s s
  ascends_arranged s h = record { in_order = sorted_by s h; stable = λ x. refl }

  -- the first of what ascends has the least number, and the others ascend
  pub first_least : (x : A) (s t : List A) → s ≡ x ∷ t → AscendsBy number s → AllByRecursion (λ y. number x ≤ number y) t × AscendsBy number t
  first_least x s t is h = subst (AscendsBy number) is h

  -- what is at most the first number is at most each
  pub below_all : (k : ℕ) (x : A) (s : List A) → k ≤ number x → AscendsBy number (x ∷ s) → AllByRecursion (λ y. k ≤ number y) (x ∷ s)
  below_all k x s low h = (low, go s h.0) where
    go : (t : List A) → AllByRecursion (λ y. number x ≤ number y) t → AllByRecursion (λ y. k ≤ number y) t
    go [] h = tt
    go (y ∷ t) h = (omega (arith, low, h.0), go t h.1)
