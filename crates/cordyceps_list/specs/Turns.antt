-- Sequences that are taken from both ends in turn.
use Rattle.std.specs.Prelude.{◌-◌, Bool, true, false, List, [], ◌∷◌, ◌++◌, length, take, drop}

-- what came from the front of a sequence, what is left of it, and what came from its back, each in the sequence's order
pub record Parts (A : Type 0) : Type 0 where
  pub firsts : List A
  pub left : List A
  pub lasts : List A

module _ {A : Type 0} where
  -- the first of what is left comes, if there is one
  abbrev pub first_out : Parts A → Parts A
  first_out p = record { firsts = p.firsts ++ take 1 p.left; left = drop 1 p.left; lasts = p.lasts }

  -- and the last
  abbrev pub last_out : Parts A → Parts A
  last_out p =
      record {
        firsts = p.firsts;
        left = take (length p.left - 1) p.left;
        lasts = drop (length p.left - 1) p.left ++ p.lasts;
      }

  -- the turns in order: `true` asks for the first of what is left, and `false` for the last
  abbrev pub parts_from : List Bool → Parts A → Parts A
  parts_from [] p = p
  parts_from (true ∷ turns) p = parts_from turns (first_out p)
  parts_from (false ∷ turns) p = parts_from turns (last_out p)

  -- the same, from a whole sequence on
  abbrev pub parts_by : List Bool → List A → Parts A
  parts_by turns s = parts_from turns (record { firsts = []; left = s; lasts = [] })
