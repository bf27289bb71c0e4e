-- What a party knows after each of its calls.
use Rattle.std.proofs.Common.{ℕ, List, sym, subst}
use Rattle.cordyceps_shared.specs.Shares.{Name, IsShare}
use Rattle.cordyceps_shared.specs.Standings.{Standing, keeping, giving, Adds, Knows, Absorbs}
use Rattle.cordyceps_shared.proofs.Adding.{keeps_not_whole, not_whole, plain_unmarked}
use Rattle.cordyceps_shared.proofs.Ordering.{keeps_share, gives_share, joined_share}

module _ {X : Type 0} (actor : X → Name) (Legal : List X → Type 0) where
  pub adds_knows : (u w : Standing X) (es : List X) → Knows Legal u → Adds actor Legal u es w → Knows Legal w
  adds_knows u w es k a = record { legal = a.0.legal; alone = a.0.alone; share = subst (λ z. IsShare z) (sym a.0.share) k.share }

module _ {X : Type 0} (Legal : List X → Type 0) where
  -- a party that gave up rooms, and the one that has them
  pub keeps_knows : (n : ℕ) (u : Standing X) → Knows Legal u → Knows Legal (keeping n u)
  keeps_knows n u k = record { legal = k.legal; alone = λ e. absurd (keeps_not_whole u.share e); share = keeps_share u.share k.share }

  pub gives_knows : (n : ℕ) (u : Standing X) → Knows Legal u → Knows Legal (giving n u)
  gives_knows n u k = record { legal = subst Legal (sym (plain_unmarked u.seen)) k.legal; alone = λ e. absurd (not_whole u.share e); share = gives_share u.share k.share }

  pub absorbs_knows : (u o w : Standing X) → Knows Legal u → Knows Legal o → Absorbs Legal u o w → Knows Legal w
  absorbs_knows u o w k l a = record {
    legal = a.legal;
    alone = a.alone;
    share = subst (λ z. IsShare z) (sym a.share) (joined_share u.share o.share a.names k.share l.share);
  }
