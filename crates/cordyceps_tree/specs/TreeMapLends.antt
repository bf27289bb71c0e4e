-- What a map ends as, once a `&mut` to one of its values has ended.
use Rattle.std.specs.Prelude.{Bool, Option}
use Rattle.std.specs.Borrow.{Fml, RattleType, MutBor, Lends, LendsIf}
use Rattle.std.specs.declared.cmp.Ordering.{Ordering}
use Rattle.cordyceps_base.specs.Nodes.{Nodes}
use Rattle.cordyceps_tree.specs.TreeMaps.{is_key, with_value_of}
use Rattle.cordyceps_tree.specs.contracts.tree_map.TreeMap.{the_row}

-- what a clause has as K.Ord
abbrev pub OrdMembers : Type 0 → Type 0
OrdMembers K = record { partial_cmp : K → K → Option Ordering; eq : K → K → Bool; cmp : K → K → Ordering }

-- the value of the key k is the last one written through r, and nothing else changes
abbrev pub LendsValueAt : (K V : RattleType) (g : OrdMembers K.Denot) → MutBor (Nodes (K.Denot × V.Denot)) → K.Denot →
    MutBor V.Denot → Fml
LendsValueAt K V g m k r =
    Lends (the_row K V (record { cmp = g.cmp }) (record { eq = g.eq }) (record { partial_cmp = g.partial_cmp })) V m r
    (with_value_of (is_key g.cmp k) m.now)

-- the same where r may be `None`; then nothing changes
abbrev pub LendsValueOf : (K V : RattleType) (g : OrdMembers K.Denot) → MutBor (Nodes (K.Denot × V.Denot)) → K.Denot →
    Option (MutBor V.Denot) → Fml
LendsValueOf K V g m k r =
    LendsIf (the_row K V (record { cmp = g.cmp }) (record { eq = g.eq }) (record { partial_cmp = g.partial_cmp })) V m r
    (with_value_of (is_key g.cmp k) m.now) m.now
