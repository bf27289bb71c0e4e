-- Lists by place, functions changed at one number, and what histories say of places.
use Rattle.std.proofs.Common.{◌≡◌, ℕ, zero, suc, ◌<◌, ◌≤◌, ◌≢◌, ◌⊎◌, cond, List, [], ◌∷◌, ◌++◌, map, drop, length, Option, Some, None, refl, sym, ap, ◌∙◌, subst, inl, inr, arith, length-append, ne_eqb, eq-eqb, eqb}
use mathlib.Core.Path.{fun_ext}
use native.Mathlib.Decide.{ℕ_discrete}
use Rattle.cordyceps_shared.specs.Counts.{times, one_if}
use Rattle.cordyceps_shared.proofs.Counting.{one_here, one_else}
use Rattle.cordyceps_queue.specs.History.{Event, Swap, Link, Take, Busy, Look, Out, Empty, Free, Ring, Clear}
use Rattle.cordyceps_queue.specs.Past.{held_reversed, IsSettled, IsOpen, IsPendingAt}
use Rattle.cordyceps_queue.specs.Cores.Abstract.{update}
use Rattle.cordyceps_shared.specs.Places.{ItemAt}
use Rattle.cordyceps_queue.specs.Cores.Meets.{real, rank, Owner, Ready, Spare, OwnsRooms, HasReady, HasOpen}

pub some_inj : {A : Type 0} {a b : A} → Some a ≡ Some b → a ≡ b
some_inj {A} {a} {b} e = ap (λ (o : Option A). elim o as (λ _. A) [ Some x ↦ x | None ↦ a ]) e

abbrev IsThere : {A : Type 0} → Option A → Type 0
IsThere None = ⊥
IsThere (Some a) = Unit {0}

pub some_none : {A : Type 0} {a : A} → Some a ≡ None → ⊥
some_none e = subst IsThere e tt

pub none_some : {A : Type 0} {a : A} → None ≡ Some a → ⊥
none_some e = subst IsThere (sym e) tt

abbrev IsSuc : ℕ → Type 0
IsSuc zero = ⊥
IsSuc (suc n) = Unit {0}

pub suc_zero : {n : ℕ} → suc n ≡ 0 → ⊥
suc_zero e = subst IsSuc e tt

pub zero_suc : {n : ℕ} → 0 ≡ suc n → ⊥
zero_suc e = subst IsSuc (sym e) tt

pub suc_inj : {m n : ℕ} → suc m ≡ suc n → m ≡ n
suc_inj e = omega arith

-- functions changed at one number
pub put_same : {A : Type 0} (f : ℕ → A) (k : ℕ) (v : A) → update f k v k ≡ v
put_same f k v = ap (λ b. cond b v (f k)) (eq-eqb k k refl)

pub put_other : {A : Type 0} (f : ℕ → A) (k : ℕ) (v : A) (j : ℕ) → j ≢ k → update f k v j ≡ f j
put_other f k v j ne = ap (λ b. cond b v (f j)) (ne_eqb j k ne)

pub put_again : {A : Type 0} (f : ℕ → Option A) (k : ℕ) (v : A) → f k ≡ Some v → update f k (Some v) ≡ f
put_again f k v e = fun_ext (λ j. elim (ℕ_discrete j k) [
  | yes same ↦ subst (λ i. update f k (Some v) i ≡ f i) (sym same) (put_same f k (Some v) ∙ sym e)
  | no ne ↦ put_other f k (Some v) j ne
])

-- what holds of each value stays so when one is changed
pub put_all : {A : Type 0} (F : ℕ → A → Type 0) (f : ℕ → Option A) (k : ℕ) (v : A) → ((j : ℕ) (a : A) → j ≢ k → f j ≡ Some a → F j a) → F k v → (j : ℕ) (a : A) → update f k (Some v) j ≡ Some a → F j a
put_all {A} F f k v others mine j a e = elim (ℕ_discrete j k) [
  | yes same ↦ let at : Some v ≡ Some a = sym (put_same f k (Some v)) ∙ subst (λ i. update f k (Some v) i ≡ Some a) same e in
      subst (λ i. F i a) (sym same) (subst (F k) (some_inj at) mine)
  | no ne ↦ others j a ne (sym (put_other f k (Some v) j ne) ∙ e)
]

-- a value that is None stays so
pub put_none : {A : Type 0} (f : ℕ → Option A) (k j : ℕ) → f j ≡ None → update f k None j ≡ None
put_none f k j e = elim (ℕ_discrete j k) [
  | yes same ↦ subst (λ i. update f k None i ≡ None) (sym same) (put_same f k None)
  | no ne ↦ put_other f k None j ne ∙ e
]

-- lists by place
pub at_one : {A : Type 0} (xs : List A) (i : ℕ) (a b : A) → ItemAt xs i a → ItemAt xs i b → a ≡ b
at_one [] i a b p q = absurd p
at_one (x ∷ xs) zero a b p q = p ∙ sym q
at_one (x ∷ xs) (suc i) a b p q = at_one xs i a b p q

pub at_only : {A : Type 0} (x : A) (i : ℕ) (a : A) → ItemAt (x ∷ []) i a → (i ≡ 0) × (a ≡ x)
at_only x zero a p = (refl, p)
at_only x (suc i) a p = absurd p

pub at_within : {A : Type 0} (xs : List A) (i : ℕ) (a : A) → ItemAt xs i a → i < length xs
at_within [] i a p = absurd p
at_within (x ∷ xs) zero a p = omega arith
at_within (x ∷ xs) (suc i) a p = let h = at_within xs i a p in omega arith

pub at_more : {A : Type 0} (xs ys : List A) (i : ℕ) (a : A) → ItemAt xs i a → ItemAt (xs ++ ys) i a
at_more [] ys i a p = absurd p
at_more (x ∷ xs) ys zero a p = p
at_more (x ∷ xs) ys (suc i) a p = at_more xs ys i a p

pub at_split : {A : Type 0} (xs : List A) (x : A) (i : ℕ) (a : A) → ItemAt (xs ++ x ∷ []) i a → ItemAt xs i a ⊎ ((i ≡ length xs) × (a ≡ x))
at_split [] x zero a p = inr (refl, p)
at_split [] x (suc i) a p = absurd p
at_split (y ∷ ys) x zero a p = inl p
at_split (y ∷ ys) x (suc i) a p = elim (at_split ys x i a p) [ inl q ↦ inl q | inr q ↦ inr (ap suc q.0, q.1) ]

pub rank_more : (xs ys : List ℕ) (i : ℕ) → i ≤ length xs → rank (xs ++ ys) i ≡ rank xs i
rank_more xs ys zero le = refl
rank_more [] ys (suc i) le = absurd (omega arith)
rank_more (zero ∷ xs) ys (suc i) le = rank_more xs ys i (omega arith)
rank_more (suc x ∷ xs) ys (suc i) le = ap suc (rank_more xs ys i (omega arith))

pub rank_all : (xs : List ℕ) → rank xs (length xs) ≡ length (real xs)
rank_all [] = refl
rank_all (zero ∷ xs) = rank_all xs
rank_all (suc x ∷ xs) = ap suc (rank_all xs)

pub real_more : (xs ys : List ℕ) → real (xs ++ ys) ≡ real xs ++ real ys
real_more [] ys = refl
real_more (zero ∷ xs) ys = real_more xs ys
real_more (suc x ∷ xs) ys = ap (λ l. suc x ∷ l) (real_more xs ys)

-- a change at a room that is not among these
pub map_put : {A : Type 0} (f : ℕ → A) (r : ℕ) (v : A) (xs : List ℕ) → ((i : ℕ) → ItemAt xs i r → ⊥) → map (update f r v) (real xs) ≡ map f (real xs)
map_put f r v [] away = refl
map_put f r v (zero ∷ xs) away = map_put f r v xs (λ i. away (suc i))
map_put {A} f r v (suc x ∷ xs) away =
    let here : update f r v (suc x) ≡ f (suc x) = put_other f r v (suc x) (λ e. away 0 (sym e)) in
    ap (λ (a : A). a ∷ map (update f r v) (real xs)) here ∙ ap (λ (l : List A). f (suc x) ∷ l) (map_put f r v xs (λ i. away (suc i)))

drop_less : {E : Type 0} (xs : List E) → length xs ≤ suc (length (drop 1 xs))
drop_less [] = omega arith
drop_less (x ∷ xs) = omega arith

module _ {P E : Type 0} where
  -- a pending party's element is held
  pending_within : (h : List (Event P E)) (q : P) (n : ℕ) → IsPendingAt q n h → n < length (held_reversed h)
  pending_within [] q n w = absurd w
  pending_within (Swap p e ∷ h) q n (inl w) = omega (arith, length-append (held_reversed h) (e ∷ []), w.1)
  pending_within (Swap p e ∷ h) q n (inr w) = let l = pending_within h q n w.1 in omega (arith, length-append (held_reversed h) (e ∷ []))
  pending_within (Link p ∷ h) q n w = pending_within h q n w.1
  pending_within (Take p ∷ h) q n w = pending_within h q n w
  pending_within (Busy p ∷ h) q n w = pending_within h q n w
  pending_within (Look p ∷ h) q n w = pending_within h q n w
  pending_within (Out p e ∷ h) q n w = let l = pending_within h q (suc n) w in omega (arith, drop_less (held_reversed h))
  pending_within (Empty p ∷ h) q n w = pending_within h q n w
  pending_within (Free p ∷ h) q n w = pending_within h q n w
  pending_within (Ring p ∷ h) q n w = pending_within h q n w
  pending_within (Clear p ∷ h) q n w = pending_within h q n w

  -- each place came by one party
  pub pending_one : (h : List (Event P E)) (q r : P) (n : ℕ) → IsPendingAt q n h → IsPendingAt r n h → q ≡ r
  pending_one [] q r n v w = absurd v
  pending_one (Swap p e ∷ h) q r n (inl v) (inl w) = v.0 ∙ sym w.0
  pending_one (Swap p e ∷ h) q r n (inl v) (inr w) = let l = pending_within h r n w.1 in absurd (omega (arith, v.1))
  pending_one (Swap p e ∷ h) q r n (inr v) (inl w) = let l = pending_within h q n v.1 in absurd (omega (arith, w.1))
  pending_one (Swap p e ∷ h) q r n (inr v) (inr w) = pending_one h q r n v.1 w.1
  pending_one (Link p ∷ h) q r n v w = pending_one h q r n v.1 w.1
  pending_one (Take p ∷ h) q r n v w = pending_one h q r n v w
  pending_one (Busy p ∷ h) q r n v w = pending_one h q r n v w
  pending_one (Look p ∷ h) q r n v w = pending_one h q r n v w
  pending_one (Out p e ∷ h) q r n v w = pending_one h q r (suc n) v w
  pending_one (Empty p ∷ h) q r n v w = pending_one h q r n v w
  pending_one (Free p ∷ h) q r n v w = pending_one h q r n v w
  pending_one (Ring p ∷ h) q r n v w = pending_one h q r n v w
  pending_one (Clear p ∷ h) q r n v w = pending_one h q r n v w

  -- whose element is held and not linked has an open swap
  pub open_from : (h : List (Event P E)) (q : P) (n : ℕ) → IsPendingAt q n h → IsOpen q h
  open_from [] q n w = w
  open_from (Swap p e ∷ h) q n (inl w) = inl w.0
  open_from (Swap p e ∷ h) q n (inr w) = inr (w.0, open_from h q n w.1)
  open_from (Link p ∷ h) q n w = (w.0, open_from h q n w.1)
  open_from (Take p ∷ h) q n w = open_from h q n w
  open_from (Busy p ∷ h) q n w = open_from h q n w
  open_from (Look p ∷ h) q n w = open_from h q n w
  open_from (Out p e ∷ h) q n w = open_from h q (suc n) w
  open_from (Empty p ∷ h) q n w = open_from h q n w
  open_from (Free p ∷ h) q n w = open_from h q n w
  open_from (Ring p ∷ h) q n w = open_from h q n w
  open_from (Clear p ∷ h) q n w = open_from h q n w

-- how often a number is in a list, by place
pub times_none : (r : ℕ) (xs : List ℕ) → ((i : ℕ) → ItemAt xs i r → ⊥) → times r xs ≡ 0
times_none r [] away = refl
times_none r (x ∷ xs) away = omega (arith, one_else x r (λ e. away 0 (sym e)), times_none r xs (λ i. away (suc i)))

pub times_once : (r : ℕ) (xs : List ℕ) → ((i j : ℕ) → ItemAt xs i r → ItemAt xs j r → i ≡ j) → times r xs ≤ 1
times_once r [] once = omega arith
times_once r (x ∷ xs) once = elim (ℕ_discrete x r) [
  | yes e ↦ omega (arith, ap (λ z. one_if (eqb z r)) e, one_here r, times_none r xs (λ i a. zero_suc (once 0 (suc i) (sym e) a)))
  | no ne ↦ omega (arith, one_else x r ne, times_once r xs (λ i j a b. suc_inj (once (suc i) (suc j) a b)))
]

-- ---- one room has another owner
pub owner_else : (owner : ℕ → Owner) (r : ℕ) (to : Owner) {x : ℕ} {o : Owner} → owner x ≡ o → (owner r ≡ o → ⊥) → update owner r to x ≡ o
owner_else owner r to {x} is not = put_other owner r to x (λ s. not (ap owner (sym s) ∙ is)) ∙ is

pub owns_else : (owner : ℕ → Owner) (r : ℕ) (to : Owner) (j : ℕ) (free : List ℕ) → OwnsRooms owner j free → (owner r ≡ Spare j → ⊥) → OwnsRooms (update owner r to) j free
owns_else owner r to j free R not = record { own = λ i x a. owner_else owner r to (R.own i x a) not; once = R.once }

-- ---- a party at its stage, by other words, or after another history
pub ready_with : {P E : Type 0} {next next' : ℕ → Option ℕ} {cell cell' : ℕ → Option E} {owner owner' : ℕ → Owner}
    {h h' : List (Event P E)} {k : ℕ} {name : P} {r : ℕ} (f : HasReady next cell owner h k name r)
    → IsSettled name h' → owner' r ≡ Ready k → next' r ≡ None → cell' r ≡ Some f.element
    → HasReady next' cell' owner' h' k name r
ready_with f settled ready null full =
    record { settled = settled; ready = ready; is_real = f.is_real; null = null; element = f.element; full = full }

pub open_with : {P E : Type 0} {next next' : ℕ → Option ℕ} {rooms : List ℕ} {h h' : List (Event P E)} {name : P}
    {r old : ℕ} (f : HasOpen next rooms h name r old) → next' old ≡ None
    → IsPendingAt name (rank rooms (suc f.at)) h' → HasOpen next' rooms h' name r old
open_with f null pending = record {
  at = f.at;
  old_at = f.old_at;
  room_at = f.room_at;
  is_real = f.is_real;
  null = null;
  pending = pending;
}
