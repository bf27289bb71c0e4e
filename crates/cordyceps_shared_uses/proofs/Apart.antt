-- A party that gave up rooms, and the one that has them.
use Rattle.std.proofs.Common.{◌≡◌, ◌-◌, ℕ, Bool, true, false, sym, ap, ◌∙◌, subst}
use Rattle.cordyceps.specs.Parties.Seated.{TableId}
use Rattle.cordyceps.specs.Parties.Sending.{Splits}
use Rattle.cordyceps.specs.Parties.Shares.{IsShare}
use Rattle.cordyceps.specs.Parties.Standings.{Standing, new_party, GivesBack}
use Rattle.cordyceps.proofs.Parties.Ordering.{keeps_share, gives_share}

-- both are of its collection, and have shares
pub record AreApart {X : Type 0} (u kept given : Standing X) : Type 0 where
  pub kept_table : kept.table ≡ u.table
  pub given_table : given.table ≡ u.table
  pub kept_share : IsShare kept.share
  pub given_share : IsShare given.share

pub apart : {X : Type 0} (n : ℕ) (u kept given : Standing X) → IsShare u.share → Splits n u kept given → AreApart u kept given
apart {X} n u kept given share s = record {
  kept_table = ap (λ (z : Standing X). z.table) s.0;
  given_table = ap (λ (z : Standing X). z.table) s.1;
  kept_share = subst (λ (z : Standing X). IsShare z.share) (sym s.0) (keeps_share u.share share);
  given_share = subst (λ (z : Standing X). IsShare z.share) (sym s.1) (gives_share u.share share);
}

-- the party of a new collection, after it gave rooms back, is that of one with some number of rooms
pub gave_new : {X : Type 0} (id : TableId) (k n : ℕ) (gave : Bool) (u w : Standing X) → u ≡ new_party id k → GivesBack n gave u w → (left : ℕ) × (w ≡ new_party id left)
gave_new {X} id k n true u w new g = (k - n, g ∙ ap (λ (z : Standing X). record z { rooms = z.rooms - n }) new)
gave_new id k n false u w new g = (k, g ∙ new)
