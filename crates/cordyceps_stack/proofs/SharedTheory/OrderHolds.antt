-- The order of a new stack's free rooms has each room once.
use Rattle.std.proofs.Common.{◌≡◌, ℕ, zero, suc, ◌+◌, ◌*◌, ◌/◌, ◌≤◌, ◌<◌, ◌-◌, Bool, nat_le, true, false, List, [], ◌∷◌, ◌++◌, map, length, eqb, refl, sym, ap, ◌∙◌, subst, arith, length-append}
use Rattle.std.proofs.lemmas.Bool.{leb-true}
use mathlib.Core.Logic.{dite}
use mathlib.Core.Option.{some}
use lib.ListN.{get_elem?}
use Rattle.atomic_table.proofs.Lists.{at_map, at_last, at_longer}
use native.Mathlib.Decide.{ℕ_discrete}
use Rattle.cordyceps_shared.specs.Counts.{one_if, times, below}
use Rattle.cordyceps_shared.specs.FreeChains.{Tracks, leads}
use Rattle.cordyceps_shared.specs.Places.{ItemAt}
use Rattle.cordyceps_shared.proofs.Choices.{first_or, rest_from}
use Rattle.cordyceps_shared.proofs.Counting.{one_here, one_else, at_most_one, below_once}
use Rattle.cordyceps_stack.specs.declared.shared.slot.Slot.{Slot}
use Rattle.cordyceps_stack.specs.Shared.Slots.{vacant, all_vacant, AtHome}
use Rattle.cordyceps_stack.specs.Shared.Order.{has_block, across, turned, crosswise, in_order, leads_before}

-- ---- a turn keeps a room in its block, and a second turn brings it back
twice_32 : (r : ℕ) → across 32 (across 32 r) ≡ r
twice_32 r = omega arith

twice_16 : (r : ℕ) → across 16 (across 16 r) ≡ r
twice_16 r = omega arith

twice_8 : (r : ℕ) → across 8 (across 8 r) ≡ r
twice_8 r = omega arith

block_32 : (rooms r : ℕ) → has_block rooms 32 (across 32 r) ≡ has_block rooms 32 r
block_32 rooms r = let same : across 32 r / 1024 ≡ r / 1024 = omega arith in ap (λ q. nat_le (q * 1024 + 1024) rooms) same

block_16 : (rooms r : ℕ) → (has_block rooms 32 (across 16 r) ≡ has_block rooms 32 r) × (has_block rooms 16 (across 16 r) ≡ has_block rooms 16 r)
block_16 rooms r =
    let large : across 16 r / 1024 ≡ r / 1024 = omega arith in let same : across 16 r / 256 ≡ r / 256 = omega arith in
    (ap (λ q. nat_le (q * 1024 + 1024) rooms) large, ap (λ q. nat_le (q * 256 + 256) rooms) same)

record IsKept (rooms r : ℕ) (q : ℕ) : Type 0 where
  large : has_block rooms 32 q ≡ has_block rooms 32 r
  middle : has_block rooms 16 q ≡ has_block rooms 16 r
  small : has_block rooms 8 q ≡ has_block rooms 8 r

block_8 : (rooms r : ℕ) → IsKept rooms r (across 8 r)
block_8 rooms r =
    let large : across 8 r / 1024 ≡ r / 1024 = omega arith in let middle : across 8 r / 256 ≡ r / 256 = omega arith in let same : across 8 r / 64 ≡ r / 64 = omega arith in
    record { large = ap (λ q. nat_le (q * 1024 + 1024) rooms) large; middle = ap (λ q. nat_le (q * 256 + 256) rooms) middle; small = ap (λ q. nat_le (q * 64 + 64) rooms) same }

turned_back : (rooms r : ℕ) (few large middle small : Bool) → nat_le rooms 262144 ≡ few → has_block rooms 32 r ≡ large → has_block rooms 16 r ≡ middle → has_block rooms 8 r ≡ small
    → crosswise rooms (turned few large middle small r) ≡ r
turned_back rooms r false large middle small f l m s = ap (λ b. turned b (has_block rooms 32 r) (has_block rooms 16 r) (has_block rooms 8 r) r) f
turned_back rooms r true true middle small f l m s =
    let q = across 32 r in
    ap (λ b. turned b (has_block rooms 32 q) (has_block rooms 16 q) (has_block rooms 8 q) q) f ∙ ap (λ b. turned true b (has_block rooms 16 q) (has_block rooms 8 q) q) (block_32 rooms r ∙ l) ∙ twice_32 r
turned_back rooms r true false true small f l m s =
    let q = across 16 r in let kept = block_16 rooms r in
    ap (λ b. turned b (has_block rooms 32 q) (has_block rooms 16 q) (has_block rooms 8 q) q) f ∙ ap (λ b. turned true b (has_block rooms 16 q) (has_block rooms 8 q) q) (kept.0 ∙ l)
    ∙ ap (λ b. turned true false b (has_block rooms 8 q) q) (kept.1 ∙ m) ∙ twice_16 r
turned_back rooms r true false false true f l m s =
    let q = across 8 r in let kept = block_8 rooms r in
    ap (λ b. turned b (has_block rooms 32 q) (has_block rooms 16 q) (has_block rooms 8 q) q) f ∙ ap (λ b. turned true b (has_block rooms 16 q) (has_block rooms 8 q) q) (kept.large ∙ l)
    ∙ ap (λ b. turned true false b (has_block rooms 8 q) q) (kept.middle ∙ m) ∙ ap (λ b. turned true false false b q) (kept.small ∙ s) ∙ twice_8 r
turned_back rooms r true false false false f l m s =
    ap (λ b. turned b (has_block rooms 32 r) (has_block rooms 16 r) (has_block rooms 8 r) r) f ∙ ap (λ b. turned true b (has_block rooms 16 r) (has_block rooms 8 r) r) l
    ∙ ap (λ b. turned true false b (has_block rooms 8 r) r) m ∙ ap (λ b. turned true false false b r) s

pub crosswise_twice : (rooms r : ℕ) → crosswise rooms (crosswise rooms r) ≡ r
crosswise_twice rooms r = turned_back rooms r (nat_le rooms 262144) (has_block rooms 32 r) (has_block rooms 16 r) (has_block rooms 8 r) refl refl refl refl

turned_inside : (rooms r : ℕ) (few large middle small : Bool) → has_block rooms 32 r ≡ large → has_block rooms 16 r ≡ middle → has_block rooms 8 r ≡ small → r < rooms
    → turned few large middle small r < rooms
turned_inside rooms r false large middle small l m s low = low
turned_inside rooms r true true middle small l m s low = let whole = leb-true (r / 1024 * 1024 + 1024) rooms l in omega arith
turned_inside rooms r true false true small l m s low = let whole = leb-true (r / 256 * 256 + 256) rooms m in omega arith
turned_inside rooms r true false false true l m s low = let whole = leb-true (r / 64 * 64 + 64) rooms s in omega arith
turned_inside rooms r true false false false l m s low = low

pub crosswise_inside : (rooms r : ℕ) → r < rooms → crosswise rooms r < rooms
crosswise_inside rooms r low = turned_inside rooms r (nat_le rooms 262144) (has_block rooms 32 r) (has_block rooms 16 r) (has_block rooms 8 r) refl refl refl low

-- the first place and the last have the first room and the last
crosswise_first : (rooms : ℕ) → crosswise rooms 0 ≡ 0
crosswise_first rooms = first_turned (nat_le rooms 262144) (has_block rooms 32 0) (has_block rooms 16 0) (has_block rooms 8 0) where
  first_turned : (few large middle small : Bool) → turned few large middle small 0 ≡ 0
  first_turned false large middle small = refl
  first_turned true true middle small = refl
  first_turned true false true small = refl
  first_turned true false false true = refl
  first_turned true false false false = refl

last_turned : (n : ℕ) (few large middle small : Bool) → has_block (suc n) 32 n ≡ large → has_block (suc n) 16 n ≡ middle → has_block (suc n) 8 n ≡ small → turned few large middle small n ≡ n
last_turned n false large middle small l m s = refl
last_turned n true true middle small l m s = let whole = leb-true (n / 1024 * 1024 + 1024) (suc n) l in omega arith
last_turned n true false true small l m s = let whole = leb-true (n / 256 * 256 + 256) (suc n) m in omega arith
last_turned n true false false true l m s = let whole = leb-true (n / 64 * 64 + 64) (suc n) s in omega arith
last_turned n true false false false l m s = refl

crosswise_last : (n : ℕ) → crosswise (suc n) n ≡ n
crosswise_last n = last_turned n (nat_le (suc n) 262144) (has_block (suc n) 32 n) (has_block (suc n) 16 n) (has_block (suc n) 8 n) refl refl refl

-- ---- the list of the rooms
pub order_length : (f : ℕ → ℕ) (n : ℕ) → length (map f (below n)) ≡ n
order_length f zero = refl
order_length f (suc n) = ap suc (order_length f n)

pub order_at : (rooms k i r : ℕ) → k ≤ rooms → ItemAt (map (crosswise rooms) (below k)) i r → r < rooms
order_at rooms zero i r few a = absurd a
order_at rooms (suc k) zero r few a = let low = crosswise_inside rooms k (omega arith) in omega arith
order_at rooms (suc k) (suc i) r few a = order_at rooms k i r (omega arith) a

one_turns : (rooms k r : ℕ) → one_if (eqb (crosswise rooms k) r) ≤ one_if (eqb k (crosswise rooms r))
one_turns rooms k r = dite (ℕ_discrete (crosswise rooms k) r)
    (λ e. subst (λ z. one_if (eqb (crosswise rooms k) r) ≤ one_if (eqb k z)) (sym (crosswise_twice rooms k) ∙ ap (crosswise rooms) e) (let here = one_here k in omega (arith, at_most_one (eqb (crosswise rooms k) r))))
    (λ c. omega (arith, one_else (crosswise rooms k) r c))

order_times : (rooms k r : ℕ) → times r (map (crosswise rooms) (below k)) ≤ times (crosswise rooms r) (below k)
order_times rooms zero r = omega arith
order_times rooms (suc k) r = omega (arith, one_turns rooms k r, order_times rooms k r)

pub order_once : (rooms r : ℕ) → times r (in_order rooms) ≤ 1
order_once rooms r = omega (arith, order_times rooms rooms r, below_once rooms (crosswise rooms r))

pub leads_one_before : (rooms place : ℕ) → 0 < place → crosswise rooms (place - 1) + 1 ≡ leads_before rooms place
leads_one_before rooms zero positive = absurd (omega arith)
leads_one_before rooms (suc k) positive = let here : suc k - 1 ≡ k = omega arith in ap (λ p. crosswise rooms p + 1) here ∙ omega arith

before_leads : (rooms k : ℕ) → leads_before rooms k ≡ leads (map (crosswise rooms) (below k)) 0
before_leads rooms zero = refl
before_leads rooms (suc k) = refl

-- a list whose items are those of f, with one more
pub one_more : {A : Type 0} (xs : List A) (f : ℕ → A) (n : ℕ) (x : A) → length xs ≡ n → ((r : ℕ) → r < n → get_elem? xs r ≡ some (f r)) → x ≡ f n
    → (length (xs ++ x ∷ []) ≡ n + 1) × ((r : ℕ) → r < n + 1 → get_elem? (xs ++ x ∷ []) r ≡ some (f r))
one_more xs f n x long items is = (
  length-append xs (x ∷ []) ∙ ap (λ k. k + 1) long,
  λ r low. dite (ℕ_discrete r n)
      (λ e. subst (λ k. get_elem? (xs ++ x ∷ []) k ≡ some (f k)) (sym e) (at_last xs x n long ∙ ap some is))
      (λ other. at_longer xs (x ∷ []) r (f r) (items r (omega arith))),
)

-- the slots of a new stack lead through all rooms in order
pub order_home : {E : Type 0} (slots : List (Slot E)) (rooms k : ℕ) → k ≤ rooms → ((r : ℕ) → r < rooms → get_elem? slots r ≡ some (vacant (leads_before rooms (crosswise rooms r)))) → AtHome (map some slots) (all_vacant (map (crosswise rooms) (below k)) 0)
order_home slots rooms zero few new = tt
order_home slots rooms (suc k) few new = (
  at_map some slots (crosswise rooms k) (vacant (leads (map (crosswise rooms) (below k)) 0))
      (new (crosswise rooms k) (crosswise_inside rooms k (omega arith)) ∙ ap (λ n. some (vacant n)) (ap (leads_before rooms) (crosswise_twice rooms k) ∙ before_leads rooms k)),
  order_home slots rooms k (omega arith) new,
)

order_first : (n r : ℕ) (rs : List ℕ) → in_order n ≡ r ∷ rs → n ≡ suc r
order_first zero r rs e = absurd (cc)
order_first (suc n) r rs e = ap suc (sym (crosswise_last n) ∙ ap (first_or 0) e)

order_last : (f : ℕ → ℕ) (n : ℕ) (before : List ℕ) (r : ℕ) → f 0 ≡ 0 → map f (below n) ≡ before ++ r ∷ [] → 0 ≡ r
order_last f zero [] r z e = absurd (cc)
order_last f zero (b ∷ before) r z e = absurd (cc)
order_last f (suc zero) [] r z e = sym z ∙ ap (first_or 0) e
order_last f (suc (suc n)) [] r z e = absurd (cc)
order_last f (suc n) (b ∷ before) r z e = order_last f n before r z (ap rest_from e)

pub tracks_new : (n : ℕ) → Tracks record { first = n; last = 0; count = n } record { rooms = in_order n; end = 0 }
tracks_new n = record {
  count = sym (order_length (crosswise n) n);
  first = order_first n;
  last = λ before r e. order_last (crosswise n) n before r (crosswise_first n) e;
}
