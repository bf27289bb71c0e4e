-- Turns of two users, one behind the other.
use Rattle.std.proofs.Common.{◌≡◌, List, [], ◌∷◌, ◌++◌, map, refl, ap}
use Rattle.freelist.specs.Users.{firsts, seconds}
use Rattle.freelist.specs.declared.laws.Command.{Command}
use Rattle.freelist.specs.declared.laws.Turn.{Turn}
use Rattle.freelist.specs.declared.laws.Turn.TheVariants.{First, Second}

-- the first carries out all of its commands, and then the second does
abbrev pub in_turn : List Command → List Command → List Turn
in_turn first second = map (λ k. First k) first ++ map (λ k. Second k) second

none_first : (second : List Command) → firsts (map (λ k. Second k) second) ≡ []
none_first [] = refl
none_first (k ∷ ks) = none_first ks

all_second : (second : List Command) → seconds (map (λ k. Second k) second) ≡ second
all_second [] = refl
all_second (k ∷ ks) = ap (λ ts. k ∷ ts) (all_second ks)

pub firsts-in_turn : (first second : List Command) → firsts (in_turn first second) ≡ first
firsts-in_turn [] second = none_first second
firsts-in_turn (k ∷ ks) second = ap (λ ts. k ∷ ts) (firsts-in_turn ks second)

pub seconds-in_turn : (first second : List Command) → seconds (in_turn first second) ≡ second
seconds-in_turn [] second = all_second second
seconds-in_turn (k ∷ ks) second = seconds-in_turn ks second
