-- What a consumer promises that takes several elements out in one call: of the party u before, and of the party w
-- after.
use Rattle.std.specs.Prelude.{◌≡◌, ◌≢◌, ◌⊎◌, ℕ, ◌+◌, ◌<◌, List, [], ◌∷◌, ◌++◌, length}
use Rattle.cordyceps_shared.specs.Standings.{name_of}
use Rattle.cordyceps_queue.specs.History.{outs, Look, Empty}
use Rattle.cordyceps_queue.specs.Shared.Calls.{PartyOf, Adds, BlockedAfter}

module _ {E : Type 0} where
  -- the tries gave these elements: as many as were asked for, or fewer, and then a try found that nothing was held, or
  -- one was blocked
  abbrev pub StopsAt : ℕ → List E → PartyOf E → PartyOf E → Type 0
  StopsAt max es u w =
      ((length es ≡ max) × Adds u (outs (name_of u) es) w)
      ⊎ (((length es < max) × Adds u (outs (name_of u) es ++ Look (name_of u) ∷ Empty (name_of u) ∷ []) w)
      ⊎ ((length es < max)
      × Adds u (outs (name_of u) es ++ Look (name_of u) ∷ []) w
      × BlockedAfter u (outs (name_of u) es ++ Look (name_of u) ∷ []) w))

  -- these elements came out, oldest first, and their rooms
  pub record TakesLinked (max : ℕ) (es : List E) (u w : PartyOf E) : Type 0 where
    pub some : es ≢ []
    pub stops : StopsAt max es u w
    pub rooms : w.rooms ≡ u.rooms + length es
