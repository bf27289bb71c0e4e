-- Tables of sessions after a session came, left or was used.
use Rattle.std.proofs.Common.{◌≡◌, ◌<◌, ℕ, nat_eq, Option, Some, None, MatchOption, refl, sym, ap, subst, arith}
use Rattle.std.specs.Ordering.{nat_cmp}
use denote.RawPtr.{Ptr}
use Rattle.cordyceps.specs.Elements.Element.{Element}
use Rattle.cordyceps.specs.Elements.Nodes.{spots}
use Rattle.cordyceps.specs.Orders.ByKey.{by_key}
use Rattle.cordyceps.specs.Orders.Preorder.{by_number_lawful}
use Rattle.cordyceps.specs.Spots.BySpot.{HoldsAt, IsTaken}
use Rattle.cordyceps.specs.Spots.InOrder.{IsPutInOrder}
use Rattle.cordyceps.specs.Spots.MapLends.{with_second, with_value_at}
use Rattle.cordyceps.specs.Spots.MultiList.{list_at, SameBut}
use Rattle.cordyceps.specs.Spots.Spots.{index_of}
use Rattle.cordyceps.specs.Spots.StableMap.{valued, AreSound, IsIndexButAt, IsRemoved}
use Rattle.cordyceps.specs.Spots.Threads.{without}
use Rattle.cordyceps.proofs.Spots.ValueIndexes.{index_but_of_same, index_of_linked, index_of_removed, index_of_same}
use Rattle.cordyceps_uses.specs.declared.sessions.Session.{Session}
use Rattle.cordyceps_uses.specs.Sessions.{Table, IsTable}

-- a session leaves
pub left : (v w : Table) (p : Ptr) (n : Element (ℕ × Session)) → AreSound nat_eq v → IsTaken v.nodes p n w.nodes → ((j : ℕ) → j < 3 → list_at j w.lists ≡ without p (list_at j v.lists)) → IsTable v → IsTable w
left v w p n a taken lists t = record {
  by_use = index_of_removed (by_number_lawful (λ s. s.seen)) 1 v p n w a taken (lists 1 (omega arith)) t.by_use;
  by_deadline = index_of_removed (by_number_lawful (λ s. s.deadline)) 2 v p n w a taken (lists 2 (omega arith)) t.by_deadline;
}

-- or none does
pub perhaps_left : (A : Type 0) (v w : Table) (k : ℕ) (o : Option (Element (ℕ × Session))) → MatchOption o (A × (w ≡ v)) (λ n. IsRemoved nat_eq 3 v k n w) → AreSound nat_eq v → IsTable v → IsTable w
perhaps_left A v w k None m a t = subst IsTable (sym m.1) t
perhaps_left A v w k (Some n) m a t = left v w m.spot n a m.taken m.lists t

-- a session that is in neither list is linked into both
pub entered : (u v w : Table) (p : Ptr) → IsIndexButAt (by_key nat_cmp (λ s. s.seen)) 1 p u → IsIndexButAt (by_key nat_cmp (λ s. s.deadline)) 2 p u
    → v.nodes ≡ u.nodes → IsPutInOrder (λ cmp. cmp ≡ by_key nat_cmp (λ s. s.seen)) (valued u.nodes) p (list_at 1 u.lists) (list_at 1 v.lists) → SameBut 1 u.lists v.lists
    → w.nodes ≡ v.nodes → IsPutInOrder (λ cmp. cmp ≡ by_key nat_cmp (λ s. s.deadline)) (valued v.nodes) p (list_at 2 v.lists) (list_at 2 w.lists) → SameBut 2 v.lists w.lists → IsTable w
entered u v w p first second vn vp vo wn wp wo = record {
  by_use = index_of_same 1 v w wn (wo 1 (λ e. absurd cc)) (index_of_linked 1 u (by_number_lawful (λ s. s.seen)) (λ cmp. cmp ≡ by_key nat_cmp (λ s. s.seen)) p v refl vn vp first);
  by_deadline = index_of_linked 2 v (by_number_lawful (λ s. s.deadline)) (λ cmp. cmp ≡ by_key nat_cmp (λ s. s.deadline)) p w refl wn wp (index_but_of_same 2 u v p vn (vo 2 (λ e. absurd cc)) second);
}

-- the session that was taken out was held
pub held_out : (v w : Table) (p : Ptr) (n : Element (ℕ × Session)) → IsTaken v.nodes p n w.nodes → HoldsAt v.nodes p n.value
held_out v w p n (b, a, was, is) = (b, n.id, a, was)

-- the same value is written to the same nodes
pub same_value : (u v : Table) (p : Ptr) (s : Session) → u.nodes ≡ v.nodes → (with_value_at u p s).nodes ≡ (with_value_at v p s).nodes
same_value u v p s same = ap (λ z. with_second z (index_of p (spots z)) s) same
