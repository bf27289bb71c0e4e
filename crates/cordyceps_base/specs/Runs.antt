-- Runs: steps that are taken one after the other, each with a reply.
use Rattle.std.specs.Prelude.{◌≡◌, List, [], ◌∷◌, ◌++◌}

module _ {M S R : Type 0} (step : M → S → M × R) where
  -- what the steps lead to
  abbrev pub after : M → List S → M
  after m [] = m
  after m (s ∷ ss) = after (step m s).0 ss

  -- the replies to the steps
  abbrev pub replies_to : M → List S → List R
  replies_to m [] = []
  replies_to m (s ∷ ss) = (step m s).1 ∷ replies_to (step m s).0 ss

  -- some of the steps were taken, in order, with these replies, and led on; the others are the rest
  pub record Ran (all : List S) (old new : M) (replies : List R) (rest : List S) : Type 0 where
    pub ran : List S
    pub split : ran ++ rest ≡ all
    pub state : new ≡ after old ran
    pub told : replies ≡ replies_to old ran

  module _ {V : Type 0} (events : List V → M → S → R → List V) where
    -- a history, and after it the events of the steps
    abbrev pub history_after : List V → M → List S → List V
    history_after h m [] = h
    history_after h m (s ∷ ss) = history_after (h ++ events h m s (step m s).1) (step m s).0 ss

    -- each reply says this of the history before its step
    abbrev pub AllSay : (List V → S → R → Type 0) → List V → M → List S → Type 0
    AllSay Says h m [] = Unit {0}
    AllSay Says h m (s ∷ ss) = Says h s (step m s).1 × AllSay Says (h ++ events h m s (step m s).1) (step m s).0 ss
