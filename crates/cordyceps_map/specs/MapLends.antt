-- What a map ends as, once a loan of a value has ended.
use Rattle.std.specs.Prelude.{◌≡◌, ℕ, zero, suc, Bool, [], ◌∷◌, Option}
use Rattle.std.specs.Borrow.{Fml, RattleType, MutBor, Lends, LendsSo}
use Rattle.std.specs.HashMap.Lent.{HashMembers}
use Rattle.core.specs.declared.hash.Hasher as hasher
use Rattle.core.specs.declared.hash.build.BuildHasher as builder
use denote.RawPtr.{Ptr}
use Rattle.cordyceps_base.specs.Nodes.{Nodes, spots}
use Rattle.cordyceps_base.specs.Spots.{index_of}
use Rattle.cordyceps_many.specs.declared.hooks.Rows as rows
use Rattle.cordyceps_map.specs.StableMap.{Mapped, IsFound}
use Rattle.cordyceps_map.specs.contracts.stable_map.StableMap.{the_row}

-- the same nodes with w as the value of the k-th
abbrev pub with_second : {K V : Type 0} → Nodes (K × V) → ℕ → V → Nodes (K × V)
with_second [] k w = []
with_second (n ∷ c) zero w = (n.0, record { id = n.1.id; value = (n.1.value.0, w) }) ∷ c
with_second (n ∷ c) (suc k) w = n ∷ with_second c k w

-- the value at the spot p is w, and nothing else changes
abbrev pub with_value_at : {K V : Type 0} → Mapped (K × V) → Ptr → V → Mapped (K × V)
with_value_at v p w = record v { nodes = with_second v.nodes (index_of p (spots v.nodes)) w }

-- the value at the spot p is the last one written through r, and nothing else changes
abbrev pub LendsValueAt : (K V H S A E B : RattleType) (key : HashMembers K.Denot) (g : rows.Ghosts H.Denot A.Denot E.Denot)
    (b : builder.Ghosts S.Denot B.Denot) (h : hasher.Ghosts B.Denot) → MutBor (Mapped (K.Denot × V.Denot)) → Ptr →
    MutBor V.Denot → Fml
LendsValueAt K V H S A E B key g b h l p r =
    Lends (the_row K V H S A E B (record { eq = key.eq }) (record { hash_input = key.hash_input }) g b h) V l r
    (with_value_at l.now p)

-- the map w is v with x as the value of the key k, if v has a node of it
abbrev pub IsWritten : {K V : Type 0} → (K → K → Bool) → Mapped (K × V) → K → V → Mapped (K × V) → Type 0
IsWritten eq v k x w = (p : Ptr) → IsFound eq v.nodes k p → w ≡ with_value_at v p x

-- the value of the key k is the last one written through r, and nothing else changes; where none was lent, nothing does
abbrev pub LendsValueOf : (K V H S A E B : RattleType) (key : HashMembers K.Denot) (g : rows.Ghosts H.Denot A.Denot E.Denot)
    (b : builder.Ghosts S.Denot B.Denot) (h : hasher.Ghosts B.Denot) → MutBor (Mapped (K.Denot × V.Denot)) → K.Denot →
    Option (MutBor V.Denot) → Fml
LendsValueOf K V H S A E B key g b h l k r =
    LendsSo (the_row K V H S A E B (record { eq = key.eq }) (record { hash_input = key.hash_input }) g b h) V l r
    (λ w x. IsWritten key.eq l.now k x w) (λ w. w ≡ l.now)
