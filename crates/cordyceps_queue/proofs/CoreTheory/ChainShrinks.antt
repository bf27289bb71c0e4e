-- The tail goes on by one room.
use Rattle.std.proofs.Common.{◌≡◌, ℕ, zero, suc, ◌≢◌, ◌⊎◌, Bool, true, false, cond, ltb, List, [], ◌∷◌, map, drop, length, Option, Some, refl, sym, ap, ◌∙◌, subst, inl, inr, arith}
use Rattle.cordyceps_queue.specs.History.{Event}
use Rattle.cordyceps_queue.specs.Past.{held_reversed, IsSettled, IsPendingAt}
use Rattle.cordyceps_queue.specs.Cores.Abstract.{insert_room, update, AbstractMachine}
use Rattle.cordyceps_shared.specs.Places.{ItemAt}
use Rattle.cordyceps_queue.specs.Cores.Meets.{EndsAt, real, rank, Owner, Ready, Spare, OwnsRooms, HasOpen, Chain, Joined, Meets}
use Rattle.cordyceps_queue.proofs.CoreTheory.Basics.{owner_else, put_same, ready_with, some_inj, some_none, zero_suc, suc_inj, at_one}
use Rattle.cordyceps_queue.proofs.CoreTheory.OtherParties.{Goes}
use Rattle.cordyceps_queue.proofs.CoreTheory.HolderSteps.{at_some}

pub at_down : {A : Type 0} (xs : List A) (i : ℕ) (a : A) → ItemAt (drop 1 xs) i a → ItemAt xs (suc i) a
at_down [] i a p = absurd p
at_down (x ∷ xs) i a p = p

pub at_up : {A : Type 0} (xs : List A) (i : ℕ) (a : A) → ItemAt xs (suc i) a → ItemAt (drop 1 xs) i a
at_up [] i a p = absurd p
at_up (x ∷ xs) i a p = p

length_drop : {A : Type 0} (xs : List A) (i : ℕ) → length xs ≡ suc (suc i) → length (drop 1 xs) ≡ suc i
length_drop [] i e = absurd (zero_suc e)
length_drop (x ∷ xs) i e = suc_inj e

pub real_stub : (xs : List ℕ) → ItemAt xs 0 0 → real xs ≡ real (drop 1 xs)
real_stub [] a = absurd a
real_stub (zero ∷ xs) a = refl
real_stub (suc x ∷ xs) a = absurd (zero_suc a)

pub real_first : (xs : List ℕ) (t : ℕ) → t ≢ 0 → ItemAt xs 0 t → real xs ≡ t ∷ real (drop 1 xs)
real_first [] t ne a = absurd a
real_first (zero ∷ xs) t ne a = absurd (ne a)
real_first (suc x ∷ xs) t ne a = ap (λ y. y ∷ real xs) (sym a)

pub rank_stub : (xs : List ℕ) (i : ℕ) → ItemAt xs 0 0 → rank xs (suc i) ≡ rank (drop 1 xs) i
rank_stub [] i a = absurd a
rank_stub (zero ∷ xs) i a = refl
rank_stub (suc x ∷ xs) i a = absurd (zero_suc a)

pub rank_first : (xs : List ℕ) (t i : ℕ) → t ≢ 0 → ItemAt xs 0 t → rank xs (suc i) ≡ suc (rank (drop 1 xs) i)
rank_first [] t i ne a = absurd a
rank_first (zero ∷ xs) t i ne a = absurd (ne a)
rank_first (suc x ∷ xs) t i ne a = refl

abbrev IsCons : {A : Type 0} → List A → Type 0
IsCons [] = ⊥
IsCons (x ∷ xs) = Unit {0}

not_cons : {A : Type 0} {y : A} {ys : List A} → y ∷ ys ≡ [] → ⊥
not_cons e = subst IsCons e tt

first_of_cons : {A : Type 0} {x y : A} {xs ys : List A} → x ∷ xs ≡ y ∷ ys → x ≡ y
first_of_cons {A} {x} e = ap (λ (l : List A). elim l as (λ _. A) [ a ∷ rest ↦ a | [] ↦ x ]) e

-- a list is not empty: y is the cell of its first element, and ys are the cells of the others
pub record Splits {E : Type 0} (xs : List E) (y : Option E) (ys : List (Option E)) : Type 0 where
  pub first : E
  pub rest : List E
  pub is : xs ≡ first ∷ rest
  pub cell : y ≡ Some first
  pub cells : ys ≡ map Some rest

map_split : {E : Type 0} (xs : List E) (y : Option E) (ys : List (Option E)) → y ∷ ys ≡ map Some xs → Splits xs y ys
map_split [] y ys e = absurd (not_cons e)
map_split (x ∷ xs) y ys e = record { first = x; rest = xs; is = refl; cell = first_of_cons e; cells = ap (drop 1) e }

abbrev Once : List ℕ → Type 0
Once xs = (i j r : ℕ) → ItemAt xs i r → ItemAt xs j r → i ≡ j

-- a room comes to the free ones
once_cons : (x : ℕ) (xs : List ℕ) → ((i : ℕ) → ItemAt xs i x → ⊥) → Once xs → Once (x ∷ xs)
once_cons x xs away once zero zero r a b = refl
once_cons x xs away once zero (suc j) r a b = absurd (away j (subst (ItemAt xs j) a b))
once_cons x xs away once (suc i) zero r a b = absurd (away i (subst (ItemAt xs i) b a))
once_cons x xs away once (suc i) (suc j) r a b = ap suc (once i j r a b)

abbrev Came : ℕ → List ℕ → ℕ → Type 0
Came r xs x = (x ≡ r) ⊎ ((j : ℕ) × ItemAt xs j x)

came_cons : (r y : ℕ) (ys : List ℕ) (x : ℕ) → Came r ys x → Came r (y ∷ ys) x
came_cons r y ys x (inl e) = inl e
came_cons r y ys x (inr w) = inr (suc w.0, w.1)

room_by : (r y : ℕ) (ys zs : List ℕ) (x : ℕ) → ((i : ℕ) → ItemAt zs i x → Came r ys x) → (b : Bool) (i : ℕ) → ItemAt (cond b (r ∷ y ∷ ys) (y ∷ zs)) i x → Came r (y ∷ ys) x
room_by r y ys zs x rec true zero a = inl a
room_by r y ys zs x rec true (suc i) a = inr (i, a)
room_by r y ys zs x rec false zero a = inr (0, a)
room_by r y ys zs x rec false (suc i) a = came_cons r y ys x (rec i a)

pub room_was : (r : ℕ) (xs : List ℕ) (x i : ℕ) → ItemAt (insert_room r xs) i x → Came r xs x
room_was r [] x zero a = inl a
room_was r [] x (suc i) a = absurd a
room_was r (y ∷ ys) x i a = room_by r y ys (insert_room r ys) x (λ i a. room_was r ys x i a) (ltb r y) i a

once_by : (r y : ℕ) (ys zs : List ℕ) → Once (r ∷ y ∷ ys) → Once (y ∷ zs) → (b : Bool) → Once (cond b (r ∷ y ∷ ys) (y ∷ zs))
once_by r y ys zs f g true = f
once_by r y ys zs f g false = g

pub room_once : (r : ℕ) (xs : List ℕ) → ((i : ℕ) → ItemAt xs i r → ⊥) → Once xs → Once (insert_room r xs)
room_once r [] away once = once_cons r [] (λ i a. a) once
room_once r (y ∷ ys) away once =
    once_by r y ys (insert_room r ys) (once_cons r (y ∷ ys) away once)
    (once_cons y (insert_room r ys)
    (λ i a. elim (room_was r ys y i a) [ inl e ↦ away 0 (sym e) | inr w ↦ absurd (zero_suc (once 0 (suc w.0) y refl w.1)) ])
    (room_once r ys (λ i a. away (suc i) a) (λ i j x a b. suc_inj (once (suc i) (suc j) x a b))))
    (ltb r y)

-- a room more for a party
pub owns_insert : (owner : ℕ → Owner) (k r : ℕ) (free : List ℕ) → OwnsRooms owner k free → (owner r ≡ Spare k → ⊥) → OwnsRooms (update owner r (Spare k)) k (insert_room r free)
owns_insert owner k r free R not = record {
  own = λ i x a. elim (room_was r free x i a) [
    | inl s ↦ ap (update owner r (Spare k)) s ∙ put_same owner r (Spare k)
    | inr w ↦ owner_else owner r (Spare k) (R.own w.0 x w.1) not
  ];
  once = room_once r free (λ i a. not (R.own i r a)) R.once;
}

module _ {P E : Type 0} (m : AbstractMachine P E) (c : Chain) (h : List (Event P E)) (M : Meets m c h) (t r : ℕ) (first : ItemAt c.rooms 0 t) (linked : m.next t ≡ Some r) where
  -- head is another room than the tail
  goes_on : (i : ℕ) × (M.last.at ≡ suc i)
  goes_on = from M.last.at refl
    where
      from : (n : ℕ) → M.last.at ≡ n → (i : ℕ) × (M.last.at ≡ suc i)
      from zero e =
          let same : m.head ≡ t = at_one c.rooms 0 m.head t (subst (λ n. ItemAt c.rooms n m.head) e M.last.head_at)
          first in
          absurd (some_none (sym linked ∙ ap m.next (sym same) ∙ M.ends))
      from (suc n) e = (n, e)

  pub second : ItemAt c.rooms 1 r
  second = from (at_some c.rooms 1 (omega (arith, M.last.long, goes_on.1)))
    where
      by : (b : ℕ) → Joined m.next m.party t b → b ≡ r
      by b (inl l) = some_inj (sym l ∙ linked)
      by b (inr o) = absurd (some_none (sym linked ∙ o.0))

      from : (b : ℕ) × ItemAt c.rooms 1 b → ItemAt c.rooms 1 r
      from s = subst (ItemAt c.rooms 1) (by s.0 (M.joined 0 t s.0 first s.1)) s.1

  pub last_less : EndsAt (drop 1 c.rooms) m.head
  last_less = record {
    at = goes_on.0;
    long = length_drop c.rooms goes_on.0 (M.last.long ∙ ap suc goes_on.1);
    head_at = at_up c.rooms goes_on.0 m.head (subst (λ n. ItemAt c.rooms n m.head) goes_on.1 M.last.head_at);
  }

  pub once_less : Once (drop 1 c.rooms)
  once_less i j x a b = suc_inj (M.once (suc i) (suc j) x (at_down c.rooms i x a) (at_down c.rooms j x b))

  -- the old tail is not among the rooms that are left
  pub tail_away : (i : ℕ) → ItemAt (drop 1 c.rooms) i t → ⊥
  tail_away i a = zero_suc (M.once 0 (suc i) t first (at_down c.rooms i t a))

  -- a party that is yet to link its room, where the tail goes on
  opened_drops : (h' : List (Event P E)) (q : P) (x old : ℕ) → ((i : ℕ) → IsPendingAt q (rank c.rooms (suc i)) h → IsPendingAt q (rank (drop 1 c.rooms) i) h') → HasOpen m.next c.rooms h q x old → HasOpen m.next (drop 1 c.rooms) h' q x old
  opened_drops h' q x old pending f = from f.at f.old_at f.room_at f.pending
    where
      from : (i : ℕ) → ItemAt c.rooms i old → ItemAt c.rooms (suc i) x → IsPendingAt q (rank c.rooms (suc i)) h → HasOpen m.next (drop 1 c.rooms) h' q x old
      from zero a b w = absurd (some_none (sym linked ∙ ap m.next (at_one c.rooms 0 t old first a) ∙ f.null))
      from (suc i) a b w = record {
        at = i;
        old_at = at_up c.rooms i old a;
        room_at = at_up c.rooms (suc i) x b;
        is_real = f.is_real;
        null = f.null;
        pending = pending (suc i) w;
      }

  -- a party without the right
  pub goes_drops : (cell' : ℕ → Option E) (owner' : ℕ → Owner) (h' : List (Event P E)) (j : ℕ) (q : P) →
      ((x : ℕ) (e : E) → c.owner x ≡ Ready j → m.cell x ≡ Some e → cell' x ≡ Some e) → ((x : ℕ) → c.owner x ≡ Ready j → owner' x ≡ Ready j) → (IsSettled q h → IsSettled q h') → ((i : ℕ) → IsPendingAt q (rank c.rooms (suc i)) h → IsPendingAt q (rank (drop 1 c.rooms) i) h') →
      (c.keeper ≡ Some j → ⊥) → Goes m.head m.head m.next m.next m.cell cell' c.owner owner' c.keeper c.keeper c.rooms (drop 1 c.rooms) h h' j q
  goes_drops cell' owner' h' j q stays ready settled pending not = record {
    settled = settled;
    ready = λ x f. ready_with f (settled f.settled) (ready x f.ready) f.null (stays x f.element f.ready f.full);
    opened = λ x old f. opened_drops h' q x old pending f;
    right = λ is. absurd (not is);
  }

-- the tail's element is the oldest that is held
pub tail_full : {P E : Type 0} (m : AbstractMachine P E) (c : Chain) (h : List (Event P E)) (M : Meets m c h) (t : ℕ) → t ≢ 0 → ItemAt c.rooms 0 t → Splits (held_reversed h) (m.cell t) (map m.cell (real (drop 1 c.rooms)))
tail_full m c h M t ne first = map_split (held_reversed h) (m.cell t) (map m.cell (real (drop 1 c.rooms))) (ap (map m.cell) (sym (real_first c.rooms t ne first)) ∙ M.holds)
