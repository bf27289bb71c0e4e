-- An inbox: what a party took and has not handed out yet, and the party.
use Rattle.std.specs.Prelude.{◌≡◌, List, [], ◌∷◌, map, reverse, Option, MatchOption}
use Rattle.cordyceps_base.specs.Element.{Element}
use Rattle.cordyceps_stack.specs.Shared.Calls.{PartyOf, Takes}

-- what a contract sees of an inbox: the elements that were taken, the oldest first, and the party
pub record InboxOf (T H : Type 0) : Type 0 where
  pub taken : List (Element T)
  pub party : PartyOf H

module _ {T H : Type 0} (element : H → Element T) where
  -- the first of these came out, and the others are left
  abbrev pub IsFirstOut : List (Element T) → Option H → List (Element T) → Type 0
  IsFirstOut waiting result left = MatchOption result ((waiting ≡ []) × (left ≡ [])) (λ h. waiting ≡ element h ∷ left)

  -- the first that was taken came out; where none was left the party took all that was shared at once, and the one that
  -- was pushed first came out
  abbrev pub ReceivesFrom : List (Element T) → PartyOf H → Option H → InboxOf T H → Type 0
  ReceivesFrom [] party result after =
      (batch : List H) × Takes batch party after.party × IsFirstOut (reverse (map element batch)) result after.taken
  ReceivesFrom (x ∷ xs) party result after = (after.party ≡ party) × IsFirstOut (x ∷ xs) result after.taken
