-- A prefix that contains a look is blocked, where one that contains the last look of its name is.
use Rattle.std.proofs.Common.{◌≡◌, List, [], ◌∷◌, ◌++◌, refl, ap, inl, inr}
use Rattle.cordyceps_queue.specs.History.{Event, Look}
use Rattle.cordyceps_queue.specs.Past.{IsBlockedReversed, WasBlockedReversed}

module _ {P E : Type 0} (q : P) (h : List (Event P E)) where
  -- the events after the look, the newest first, cut where the prefix ends
  pub record Cut (xs : List (Event P E)) : Type 0 where
    pub later : List (Event P E)
    pub now : List (Event P E)
    pub is : xs ≡ later ++ now
    pub blocked : IsBlockedReversed (now ++ Look q ∷ h)

  here : (xs : List (Event P E)) → IsBlockedReversed (xs ++ Look q ∷ h) → Cut xs
  here xs b = record { later = []; now = xs; is = refl; blocked = b }

  further : (x : Event P E) (xs : List (Event P E)) → Cut xs → Cut (x ∷ xs)
  further x xs c = record { later = x ∷ c.later; now = c.now; is = ap (λ l. x ∷ l) c.is; blocked = c.blocked }

  pub since_look : (xs : List (Event P E)) → WasBlockedReversed q (xs ++ Look q ∷ h) → Cut xs
  since_look [] (inl b) = here [] b.1
  since_look [] (inr b) = absurd (b.0 refl)
  since_look (x ∷ xs) (inl b) = here (x ∷ xs) b.1
  since_look (x ∷ xs) (inr b) = further x xs (since_look xs b.1)
