-- The order in which a batch has what was taken.
use Rattle.std.specs.Prelude.{Bool, true, false, List, [], ◌∷◌, ◌++◌, reverse}

module _ {A : Type 0} where
  -- what was taken, which comes the last pushed first, or turned round
  abbrev pub in_order : Bool → List A → List A
  in_order true xs = reverse xs
  in_order false xs = xs

  -- a batch with the next of what was taken
  abbrev pub with_next : Bool → List A → A → List A
  with_next true b x = x ∷ b
  with_next false b x = b ++ x ∷ []
