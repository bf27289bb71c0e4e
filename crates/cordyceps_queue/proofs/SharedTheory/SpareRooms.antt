-- What a party has of its free rooms, and the last one's link.
use Rattle.std.proofs.Common.{◌≡◌, ◌≢◌, ℕ, zero, suc, ◌+◌, ◌-◌, ◌<◌, ◌≤◌, List, [], ◌∷◌, ◌++◌, length, take, drop, refl, sym, ap, ◌∙◌, arith}
use Rattle.cordyceps_shared.specs.FreeChains.{FreeChain, Tracks, leads, first_rooms, rest_rooms, joined, end_after}
use Rattle.cordyceps_shared.specs.declared.free.FreeRooms.{FreeRooms}
use Rattle.cordyceps_shared.proofs.TrackRooms as rooms
use Rattle.cordyceps_queue.specs.declared.shared.spare.Spare.{Spare}
use Rattle.cordyceps_queue.specs.Shared.Parts.{TracksEnd}

no_cons : (r : ℕ) (rs : List ℕ) → r ∷ rs ≡ [] → ⊥
no_cons r rs e = cc

-- with the first of them in use
pub tracks_after : (spare : Spare) (before after : FreeChain) (room next : ℕ) → before.rooms ≡ room ∷ after.rooms → before.end ≡ after.end → next ≡ leads after.rooms after.end → TracksEnd spare before
    → TracksEnd record { rooms = record { first = next; last = spare.rooms.last; count = spare.rooms.count - 1 }; end = spare.end } after
tracks_after spare before after room next rooms end is t = record {
  tracks = record {
    count = let long = ap (λ (l : List ℕ). length l) rooms in let c = t.tracks.count in omega arith;
    first = λ r rs e. is ∙ ap (λ l. leads l after.end) e;
    last = λ xs r e. t.tracks.last (room ∷ xs) r (rooms ∙ ap (λ l. room ∷ l) e);
  };
  end = λ _. t.end (λ e. no_cons room after.rooms (sym rooms ∙ e)) ∙ end;
}

-- ---- split
some_dropped : (xs : List ℕ) (n : ℕ) → drop n xs ≢ [] → xs ≢ []
some_dropped [] zero some_of e = some_of e
some_dropped [] (suc n) some_of e = some_of refl
some_dropped (x ∷ xs) n some_of e = no_cons x xs e

pub tracks_keeping : (spare : Spare) (chain : FreeChain) (n at : ℕ) → TracksEnd spare chain → ((r : ℕ) (rs : List ℕ) → drop n chain.rooms ≡ r ∷ rs → at ≡ suc r)
    → TracksEnd record { rooms = record { first = at; last = spare.rooms.last; count = spare.rooms.count - n }; end = spare.end } (rest_rooms n chain)
tracks_keeping spare chain n at t first = record {
  tracks = rooms.tracks_keeping spare.rooms chain n at t.tracks first;
  end = λ some_of. t.end (some_dropped chain.rooms n some_of);
}

some_taken : (xs : List ℕ) (n : ℕ) → take n xs ≢ [] → 0 < n
some_taken xs zero some_of = absurd (some_of refl)
some_taken xs (suc n) some_of = omega arith

pub tracks_giving : (spare : Spare) (chain : FreeChain) (n last after : ℕ) → TracksEnd spare chain → n ≤ spare.rooms.count → ((before : List ℕ) (r : ℕ) → take n chain.rooms ≡ before ++ r ∷ [] → last ≡ r) → (0 < n → after ≡ leads (drop n chain.rooms) chain.end)
    → TracksEnd record { rooms = record { first = spare.rooms.first; last = last; count = n }; end = after } (first_rooms n chain)
tracks_giving spare chain n last after t low is end = record {
  tracks = rooms.tracks_giving spare.rooms chain n last t.tracks low is;
  end = λ some_of. end (some_taken chain.rooms n some_of);
}

-- ---- joined
end_of : (rooms : List ℕ) (end other : ℕ) → rooms ≢ [] → other ≡ end_after end rooms other
end_of [] end other some_of = absurd (some_of refl)
end_of (r ∷ rs) end other some_of = refl

none_counted : (xs : List ℕ) → 0 < length xs → xs ≢ []
none_counted [] low e = absurd (omega arith)
none_counted (x ∷ xs) low e = no_cons x xs e

pub tracks_joined : (free : FreeRooms) (other : Spare) (chain after : FreeChain) → Tracks free chain → TracksEnd other after → 0 < other.rooms.count → (chain.rooms ≡ [] → free.first ≡ other.rooms.first)
    → TracksEnd record { rooms = record { first = free.first; last = other.rooms.last; count = free.count + other.rooms.count }; end = other.end } (joined chain after)
tracks_joined free other chain after t u some_of first =
    let c = u.tracks.count in
    let there = none_counted after.rooms (omega arith) in record {
      tracks = rooms.tracks_joined free other.rooms chain after t u.tracks some_of first;
      end = λ _. u.end there ∙ end_of after.rooms chain.end after.end there;
    }
