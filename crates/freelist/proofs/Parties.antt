-- What the parties of a free list's users do, know and are called.
use Rattle.std.proofs.Common.{◌≡◌, ℕ, ◌+◌, List, [], ◌∷◌, Option, Some, None, ap, arith}
use Rattle.cordyceps_shared.specs.Counts.{tally}
use Rattle.cordyceps_shared.specs.Histories.{own}
use Rattle.cordyceps_shared.specs.Shares.{Name}
use Rattle.cordyceps_shared.specs.Standings.{Knows, Absorbs}
use Rattle.cordyceps_shared.proofs.Counting.{tally_append}
use Rattle.cordyceps_shared.proofs.Interleaving.{tally_interleaved}
use Rattle.cordyceps_shared.proofs.Owning.{own_adds, own_absorbed}
use Rattle.cordyceps_stack.specs.History.{Event, Legal, actor}
use Rattle.cordyceps_stack.specs.Shared.Calls.{PartyOf, Adds}
use Rattle.freelist.specs.Whereabouts.{prepend_option}
use Rattle.freelist.specs.Users.{AllKnow}

module _ {H : Type 0} where
  pub adds_own : (u w : PartyOf H) (es : List (Event Name H)) → Adds u es w → (g : Event Name H → ℕ) → tally g (own w.seen) ≡ tally g (own u.seen) + tally g es
  adds_own u w es a g =
      omega (arith, ap (tally g) (own_adds (λ h. Legal h) actor u w es a), tally_append g (own u.seen) es)

  pub absorbs_own : (u o w : PartyOf H) → Absorbs (λ h. Legal h) u o w → (g : Event Name H → ℕ) → tally g (own w.seen) ≡ tally g (own u.seen) + tally g (own o.seen)
  absorbs_own u o w a g = tally_interleaved g (own u.seen) (own o.seen) (own w.seen) (own_absorbed (λ h. Legal h) u o w a)

  -- ---- what parties know
  pub knows_last : (p q : PartyOf H) (o : Option (PartyOf H)) → (Knows (λ h. Legal h) p → Knows (λ h. Legal h) q) → AllKnow (prepend_option o (p ∷ [])) → AllKnow (prepend_option o (q ∷ []))
  knows_last p q None k a = (k a.0, tt)
  knows_last p q (Some o) k a = (a.0, (k a.1.0, tt))
