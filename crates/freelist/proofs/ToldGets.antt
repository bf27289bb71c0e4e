-- What an owner finds that was told of blocks.
use Rattle.std.proofs.Common.{◌≡◌, List, [], ◌∷◌, map, Option, Some, None, inr, subst}
use Rattle.cordyceps_base.specs.Element.{Element}
use Rattle.cordyceps_shared.specs.Shares.{Name}
use Rattle.cordyceps_stack.specs.History.{Event}
use Rattle.cordyceps_stack.specs.Shared.Calls.{PartyOf, Takes}
use Rattle.cordyceps_stack.specs.Shared.Receipts.{Learns, TellsOfMore, AllTaken, OthersTook}
use Rattle.cordyceps_stack.proofs.SharedTheory.ToldFinds.{none_mapped, gone_at_taking, told_gone, told_finds}
use Rattle.freelist.specs.Blocks.{LocalOf, GivesFirst, GetsFrom, GetsTold}

module _ {T H : Type 0} (element : H → Element T) where
  -- some blocks are left, so one comes out
  never_none : (b : Element T) (bs left : List (Element T)) (r : Option H) → GivesFirst element (b ∷ bs) r left → r ≡ None → ⊥
  never_none b bs left None d e = cc
  never_none b bs left (Some h) d e = cc

  gone_from : (blocks : List (Element T)) (h : List (Event Name H)) (u v : PartyOf H) (r : Option H) (after : LocalOf T H) → Learns h u v → GetsFrom element blocks v r after → r ≡ None → AllTaken h after.party
  gone_from [] h u v r after l d e = let (batch, took, first) = d in told_gone h u v after.party l (gone_at_taking batch v after.party took)
  gone_from (b ∷ bs) h u v r after l d e = absurd (never_none b bs after.blocks r d.1 e)

  others_from : (blocks : List (Element T)) (h : List (Event Name H)) (u v : PartyOf H) (r : Option H) (after : LocalOf T H) → Learns h u v → GetsFrom element blocks v r after → r ≡ None → TellsOfMore h u → OthersTook u after.party
  others_from [] h u v r after l d e more =
      let (batch, took, first) = d in
      let none = none_mapped element batch (subst (λ z. GivesFirst element (map element batch) z after.blocks) e first).0 in
      told_finds h u v after.party more l (inr (subst (λ z. Takes z v after.party) none took))
  others_from (b ∷ bs) h u v r after l d e more = absurd (never_none b bs after.blocks r d.1 e)

  -- a get that found nothing after a receipt was learned
  pub gets_gone : (h : List (Event Name H)) (before after : LocalOf T H) (r : Option H) → GetsTold element h before r after → r ≡ None → AllTaken h after.party
  gets_gone h before after r d e = let (v, l, g) = d in gone_from before.blocks h before.party v r after l g e

  pub gets_others : (h : List (Event Name H)) (before after : LocalOf T H) (r : Option H) → GetsTold element h before r after → r ≡ None → TellsOfMore h before.party → OthersTook before.party after.party
  gets_others h before after r d e more = let (v, l, g) = d in others_from before.blocks h before.party v r after l g e more

  -- it learned, and then got
  pub gets_told : (h : List (Event Name H)) (before mid after : LocalOf T H) (r : Option H) → mid.blocks ≡ before.blocks → Learns h before.party mid.party → GetsFrom element mid.blocks mid.party r after → GetsTold element h before r after
  gets_told h before mid after r same l g = (mid.party, l, subst (λ bs. GetsFrom element bs mid.party r after) same g)
