-- What a party has of its free rooms: their first, their last and their number.
use Rattle.std.proofs.Common.{◌≡◌, ℕ, zero, suc, ◌+◌, ◌-◌, ◌<◌, ◌≤◌, List, [], ◌∷◌, ◌++◌, length, reverse, take, drop, refl, sym, ap, ◌∙◌, subst, arith, append-nil, append_assoc, take-append-drop, length-append, length-drop}
use Rattle.std.proofs.lemmas.List.{reverse-append, length-take-le, nil_from_length}
use Rattle.cordyceps_shared.specs.FreeChains.{FreeChain, with_last, first_rooms, rest_rooms, joined, Tracks}
use Rattle.cordyceps_shared.specs.Places.{ItemAt}
use Rattle.cordyceps_shared.specs.Slots.{Near}
use Rattle.cordyceps_shared.proofs.Choices.{first_or}
use Rattle.cordyceps_shared.proofs.Places.{at_end}
use Rattle.cordyceps_shared.specs.declared.free.FreeRooms.{FreeRooms}

pub last_same : (xs ys : List ℕ) (x y : ℕ) → xs ++ x ∷ [] ≡ ys ++ y ∷ [] → x ≡ y
last_same xs ys x y e = ap (first_or 0) (sym (reverse-append xs (x ∷ [])) ∙ (ap (λ z. reverse z) e ∙ reverse-append ys (y ∷ [])))

pub with_its_last : (xs : List ℕ) → 0 < length xs → (before : List ℕ) × (r : ℕ) × (xs ≡ before ++ r ∷ [])
with_its_last [] some_of = absurd (omega arith)
with_its_last (x ∷ []) some_of = ([], x, refl)
with_its_last (x ∷ y ∷ ys) some_of = let t = with_its_last (y ∷ ys) (omega arith) in (x ∷ t.0, t.1, ap (λ z. x ∷ z) t.2)

-- the last of some free rooms
pub last_room : (slots : ℕ) (free : FreeRooms) (chain : FreeChain) → Tracks free chain → 0 < free.count → Near slots chain.rooms → (before : List ℕ) × (chain.rooms ≡ before ++ free.last ∷ []) × (free.last < slots)
last_room slots free chain t some_of near =
    let c = t.count in
    let d = with_its_last chain.rooms (omega arith) in
    let same = t.last d.0 d.1 d.2 in (
      d.0,
      d.2 ∙ ap (λ z. d.0 ++ z ∷ []) (sym same),
      subst (λ z. z < slots) (sym same) (near (length d.0) d.1 (subst (λ z. ItemAt z (length d.0) d.1) (sym d.2) (at_end d.0 d.1))),
    )

-- the room at a place, and those before and after it
pub room_at : (rooms : List ℕ) (n : ℕ) → n < length rooms → (r : ℕ) × (rs : List ℕ) × (drop n rooms ≡ r ∷ rs) × (drop (suc n) rooms ≡ rs) × (take (suc n) rooms ≡ take n rooms ++ r ∷ []) × (rooms ≡ take n rooms ++ r ∷ rs)
room_at [] n low = absurd (omega arith)
room_at (x ∷ xs) zero low = (x, xs, refl, refl, refl, refl)
room_at (x ∷ xs) (suc n) low = let t = room_at xs n (omega arith) in (t.0, t.1, t.2, t.3, ap (λ z. x ∷ z) t.4, ap (λ z. x ∷ z) t.5)

-- ---- one more room
more_first : (first r : ℕ) (rooms : List ℕ) (s : ℕ) (rs : List ℕ) → ((r : ℕ) (rs : List ℕ) → rooms ≡ r ∷ rs → first ≡ suc r) → (rooms ≡ [] → first ≡ suc r) → rooms ++ r ∷ [] ≡ s ∷ rs → first ≡ suc s
more_first first r [] s rs mine none e = none refl ∙ ap (λ z. suc (first_or 0 z)) e
more_first first r (x ∷ rooms) s rs mine none e = mine x rooms refl ∙ ap (λ z. suc (first_or 0 z)) e

pub tracks_more : (free : FreeRooms) (chain : FreeChain) (r to : ℕ) → Tracks free chain → (chain.rooms ≡ [] → free.first ≡ suc r) → Tracks record { first = free.first; last = r; count = free.count + 1 } (with_last r to chain)
tracks_more free chain r to t none = record {
  count = let c = t.count in let long = length-append chain.rooms (r ∷ []) in omega arith;
  first = λ s rs e. more_first free.first r chain.rooms s rs t.first none e;
  last = λ before s e. last_same chain.rooms before r s e;
}

pub more_than_none : (rooms : List ℕ) (r : ℕ) → rooms ++ r ∷ [] ≡ [] → ⊥
more_than_none rooms r e = let long = length-append rooms (r ∷ []) in let none = ap (λ (l : List ℕ). length l) e in omega arith

-- ---- split
pub tracks_keeping : (free : FreeRooms) (chain : FreeChain) (n at : ℕ) → Tracks free chain → ((r : ℕ) (rs : List ℕ) → drop n chain.rooms ≡ r ∷ rs → at ≡ suc r)
    → Tracks record { first = at; last = free.last; count = free.count - n } (rest_rooms n chain)
tracks_keeping free chain n at t first = record {
  count = ap (λ z. z - n) t.count ∙ sym (length-drop n chain.rooms);
  first = first;
  last = λ before r e. t.last (take n chain.rooms ++ before) r (sym (take-append-drop n chain.rooms) ∙ (ap (λ z. take n chain.rooms ++ z) e ∙ sym (append_assoc (take n chain.rooms) before (r ∷ []))));
}

pub tracks_giving : (free : FreeRooms) (chain : FreeChain) (n last : ℕ) → Tracks free chain → n ≤ free.count → ((before : List ℕ) (r : ℕ) → take n chain.rooms ≡ before ++ r ∷ [] → last ≡ r)
    → Tracks record { first = free.first; last = last; count = n } (first_rooms n chain)
tracks_giving free chain n last t low is = record {
  count = let c = t.count in sym (length-take-le n chain.rooms (omega arith));
  first = λ r rs e. t.first r (rs ++ drop n chain.rooms) (sym (take-append-drop n chain.rooms) ∙ ap (λ z. z ++ drop n chain.rooms) e);
  last = is;
}

-- ---- joined
joined_first : (free other : FreeRooms) (rooms others : List ℕ) (r : ℕ) (rs : List ℕ) → ((r : ℕ) (rs : List ℕ) → rooms ≡ r ∷ rs → free.first ≡ suc r) → ((r : ℕ) (rs : List ℕ) → others ≡ r ∷ rs → other.first ≡ suc r) → (rooms ≡ [] → free.first ≡ other.first)
    → rooms ++ others ≡ r ∷ rs → free.first ≡ suc r
joined_first free other [] others r rs mine theirs first e = first refl ∙ theirs r rs e
joined_first free other (x ∷ rooms) others r rs mine theirs first e = mine x rooms refl ∙ ap (λ z. suc (first_or 0 z)) e

pub tracks_joined : (free other : FreeRooms) (chain after : FreeChain) → Tracks free chain → Tracks other after → 0 < other.count → (chain.rooms ≡ [] → free.first ≡ other.first)
    → Tracks record { first = free.first; last = other.last; count = free.count + other.count } (joined chain after)
tracks_joined free other chain after t u some_of first = record {
  count = let a = t.count in let b = u.count in let long = length-append chain.rooms after.rooms in omega arith;
  first = λ r rs e. joined_first free other chain.rooms after.rooms r rs t.first u.first first e;
  last = λ before r e.
      let b = u.count in
      let d = with_its_last after.rooms (omega arith) in
      u.last d.0 d.1 d.2 ∙ last_same (chain.rooms ++ d.0) before d.1 r (append_assoc chain.rooms d.0 (d.1 ∷ []) ∙ (ap (λ z. chain.rooms ++ z) (sym d.2) ∙ e));
}

pub no_rooms : (other : FreeRooms) (after : FreeChain) → Tracks other after → other.count ≡ 0 → after.rooms ≡ []
no_rooms other after u none = nil_from_length after.rooms (sym u.count ∙ none)

pub tracks_alone : (free other : FreeRooms) (chain after : FreeChain) → Tracks free chain → Tracks other after → other.count ≡ 0
    → Tracks record { first = free.first; last = free.last; count = free.count + other.count } (joined chain after)
tracks_alone free other chain after t u none =
    let same : chain.rooms ++ after.rooms ≡ chain.rooms = ap (λ z. chain.rooms ++ z) (no_rooms other after u none) ∙ append-nil chain.rooms in record {
      count = let a = t.count in let long = ap (λ (l : List ℕ). length l) same in omega arith;
      first = λ r rs e. t.first r rs (sym same ∙ e);
      last = λ before r e. t.last before r (sym same ∙ e);
    }

-- the first of some free rooms
first_from : (free : FreeRooms) (chain : FreeChain) (rooms : List ℕ) → chain.rooms ≡ rooms → Tracks free chain → 0 < free.count → (rs : List ℕ) × (chain.rooms ≡ (free.first - 1) ∷ rs) × (1 ≤ free.first)
first_from free chain [] is t some_of = let none = ap (λ (l : List ℕ). length l) is in let c = t.count in absurd (omega arith)
first_from free chain (r ∷ rs) is t some_of =
    let first = t.first r rs is in
    let same : r ≡ free.first - 1 = omega arith in (rs, is ∙ ap (λ z. z ∷ rs) same, omega arith)

pub first_room : (free : FreeRooms) (chain : FreeChain) → Tracks free chain → 0 < free.count → (rs : List ℕ) × (chain.rooms ≡ (free.first - 1) ∷ rs) × (1 ≤ free.first)
first_room free chain t some_of = first_from free chain chain.rooms refl t some_of
