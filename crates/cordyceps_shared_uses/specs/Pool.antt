-- What threads that use a pool of blocks do.
use Rattle.std.specs.Prelude.{◌≡◌, ℕ, List, ◌++◌}
use Rattle.cordyceps.specs.Parties.Seated.{TableId}
use Rattle.cordyceps.specs.Elements.Element.{Element}
use Rattle.cordyceps.specs.Transfers.Calls.{PartyOf}
use Rattle.freelist.specs.Users.{CarriesOut, BothRun, alone, closing, firsts, seconds}
use Rattle.freelist.specs.declared.laws.Command.{Command}
use Rattle.freelist.specs.declared.laws.Turn.{Turn}
use Rattle.cordyceps_shared_uses.specs.declared.pool.Block.{Block}

-- it had the blocks mine, carried out the commands, and has the blocks left
abbrev pub Uses : TableId → List Command → List (Element Block) → PartyOf (Element Block) → List (Element Block) →
    PartyOf (Element Block) → Type 0
Uses pool commands mine before left after =
    CarriesOut (λ (h : Element Block). h) (commands ++ closing) (alone pool mine before) (alone pool left after)

-- each of two users carried out its commands, and what they and the pool then have is what is left where they take
-- turns
abbrev pub BothUse : List Command → List Command → ℕ → List (Element Block) → List (Element Block) →
    List (Element Block) → List (Element Block) → List (Element Block) → Type 0
BothUse first second rooms mine yours left right shared =
    (ts : List Turn) × (firsts ts ≡ first) × (seconds ts ≡ second)
    × BothRun (λ (h : Element Block). h) ts rooms mine yours left right shared
