-- The facts of the contract of a seat's step, by name. It says before them that the seat is of the table that it was of.

-- what the step tells
abbrev pub told : {Table Place Tells : Type 0} → Table × Place × Tells → Tells
told e = let (_, _, tells) = e in tells

-- of an exchange with the slot in hand: what was in it, and the seat after it
abbrev pub was_in_hand : {Table Place Was Seat : Type 0} → Table × Place × Was × Seat → Was
was_in_hand e = let (_, _, was, _) = e in was

abbrev pub seat_after : {Table Place Was Seat : Type 0} → Table × Place × Was × Seat → Seat
seat_after e = let (_, _, _, seat) = e in seat
