-- What a party that unpacks the word of a pool has of its rooms.
use Rattle.std.proofs.Common.{◌≡◌, ◌≢◌, ◌<◌, ◌≤◌, ℕ, suc, ◌+◌, ◌-◌, ◌*◌, List, [], ◌∷◌, ◌++◌, length, take, drop, refl, sym, ◌∙◌, subst, ⊎_elim, arith}
use Rattle.cordyceps_base.specs.declared.shared.TheConstants.{MAX_ROOMS}
use Rattle.cordyceps_shared.specs.FreeChains.{FreeChain, Tracks, first_rooms, rest_rooms}
use Rattle.cordyceps_shared.specs.Places.{ItemAt}
use Rattle.cordyceps_shared.specs.Pools.{packed, Fits, Packs, LeadsTo}
use Rattle.cordyceps_shared.specs.Slots.{Near}
use Rattle.cordyceps_shared.specs.declared.free.FreeRooms.{FreeRooms}
use Rattle.cordyceps_shared.proofs.Places.{near_take, near_drop}
use Rattle.cordyceps_shared.proofs.TrackRooms.{first_room, last_room, tracks_giving, tracks_keeping}

-- a word packs one first room, one last one, and one number
parts_same : (a b c x y z : ℕ) → a < 2097152 → b < 2097152 → x < 2097152 → y < 2097152 → a + 2097152 * b + 4398046511104 * c ≡ x + 2097152 * y + 4398046511104 * z → (a ≡ x) × (b ≡ y) × (c ≡ z)
parts_same a b c x y z fa fb fx fy e = (omega arith, omega arith, omega arith)

pub unpacked : (word : ℕ) (chain : FreeChain) (rooms : FreeRooms) → Packs word chain → packed rooms ≡ word → Fits rooms → Tracks rooms chain × (0 < rooms.count)
unpacked word chain rooms p is fits =
    let f = p.fits in
    let t = parts_same rooms.first rooms.last rooms.count p.rooms.first p.rooms.last p.rooms.count fits.first fits.last f.first f.last (is ∙ p.is) in
    let c = p.some_of in
    let same = t.2 in (
      subst (λ (q : FreeRooms). Tracks q chain) (λ i. record { first = sym t.0 i; last = sym t.1 i; count = sym t.2 i }) p.tracks,
      omega arith,
    )

pub not_null : (word : ℕ) (chain : FreeChain) → Packs word chain → word ≢ 0
not_null word chain p none = let c = p.some_of in let e = p.is in omega arith

-- a word of 0 leads to no room, and another to some
pub none_in_pool : (word : ℕ) (chain : FreeChain) → LeadsTo word chain → word ≡ 0 → chain.rooms ≡ []
none_in_pool word chain leads none = ⊎_elim (λ t. t.1) (λ p. absurd (not_null word chain p none)) leads

pub some_in_pool : (word : ℕ) (chain : FreeChain) → LeadsTo word chain → word ≢ 0 → Packs word chain
some_in_pool word chain leads some_of = ⊎_elim (λ t. absurd (some_of t.0)) (λ p. p) leads

-- ---- the word of the first n rooms of a party
-- it leads to rooms of the table
pub fits_given : (slots n last : ℕ) (free : FreeRooms) (chain : FreeChain) → Near slots chain.rooms → slots ≤ suc MAX_ROOMS → length chain.rooms ≤ slots → Tracks free chain → n ≤ free.count → n ≢ 0
    → ((before : List ℕ) (r : ℕ) → take n chain.rooms ≡ before ++ r ∷ [] → last ≡ r) → Fits record { first = free.first; last = last; count = n }
fits_given slots n last free chain near_all many few t low some_of is =
    let given = tracks_giving free chain n last t low is in
    let near = near_take slots n chain.rooms near_all in
    let rooms : FreeRooms = record { first = free.first; last = last; count = n } in
    let end = last_room slots rooms (first_rooms n chain) given (omega arith) near in
    let start = first_room rooms (first_rooms n chain) given (omega arith) in
    let inside = near 0 (free.first - 1) (subst (λ l. ItemAt l 0 (free.first - 1)) (sym start.1) refl) in
    let count = t.count in
    record { first = (let s = start.2 in omega arith); last = (let e = end.2 in omega arith); count = omega arith }

pub packs_given : (n last word : ℕ) (free : FreeRooms) (chain : FreeChain) → word ≡ packed record { first = free.first; last = last; count = n } → Fits record { first = free.first; last = last; count = n } → Tracks free chain → n ≤ free.count → n ≢ 0
    → ((before : List ℕ) (r : ℕ) → take n chain.rooms ≡ before ++ r ∷ [] → last ≡ r) → Packs word (first_rooms n chain)
packs_given n last word free chain is fits t low some_of last_is = record {
  rooms = record { first = free.first; last = last; count = n };
  is = is;
  fits = fits;
  tracks = tracks_giving free chain n last t low last_is;
  some_of = omega arith;
}

-- ---- the word of the rooms after the first n
-- it leads to rooms of the table
pub fits_left : (slots n first : ℕ) (free : FreeRooms) (chain : FreeChain) → Near slots chain.rooms → slots ≤ suc MAX_ROOMS → length chain.rooms ≤ slots → Tracks free chain → n < free.count
    → ((r : ℕ) (rs : List ℕ) → drop n chain.rooms ≡ r ∷ rs → first ≡ suc r) → Fits record { first = first; last = free.last; count = free.count - n }
fits_left slots n first free chain near_all many few t low is =
    let rooms : FreeRooms = record { first = first; last = free.last; count = free.count - n } in
    let left = tracks_keeping free chain n first t is in
    let near = near_drop slots n chain.rooms near_all in
    let end = last_room slots rooms (rest_rooms n chain) left (omega arith) near in
    let start = first_room rooms (rest_rooms n chain) left (omega arith) in
    let inside = near 0 (first - 1) (subst (λ l. ItemAt l 0 (first - 1)) (sym start.1) refl) in
    let count = t.count in
    record { first = (let s = start.2 in omega arith); last = (let e = end.2 in omega arith); count = omega arith }

pub packs_left : (n first word : ℕ) (free : FreeRooms) (chain : FreeChain) → word ≡ packed record { first = first; last = free.last; count = free.count - n } → Fits record { first = first; last = free.last; count = free.count - n }
    → Tracks free chain → n < free.count → ((r : ℕ) (rs : List ℕ) → drop n chain.rooms ≡ r ∷ rs → first ≡ suc r) → Packs word (rest_rooms n chain)
packs_left n first word free chain is fits t low first_is = record {
  rooms = record { first = first; last = free.last; count = free.count - n };
  is = is;
  fits = fits;
  tracks = tracks_keeping free chain n first t first_is;
  some_of = omega arith;
}
