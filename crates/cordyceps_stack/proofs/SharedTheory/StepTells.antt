-- What the contract of a seat's step says, after that the seat is of the table, and in the place, that it was of.

-- what the step tells
abbrev pub told : {Table Place Tells : Type 0} → Table × Place × Tells → Tells
told e = let (table, place, tells) = e in tells
