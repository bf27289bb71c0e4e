-- Readers and writers that are only asked.
use Rattle.std.specs.Prelude.{ℕ, List, [], ◌∷◌, Bool, true, false, Result, Ok, Err, nat_eq}
use Rattle.replay_driver.specs.declared.asked.AskedReader.{AskedReader}
use Rattle.replay_driver.specs.declared.asked.AskedWriter.{AskedWriter}

module _ {R : Type 0} where
  abbrev pub reader_in : AskedReader R → R
  reader_in asked = asked.reader

  -- an answer of the reader was `Err`
  abbrev pub reader_failed : AskedReader R → Bool
  reader_failed asked = asked.failed

module _ {W : Type 0} where
  abbrev pub writer_in : AskedWriter W → W
  writer_in asked = asked.writer

  -- an answer of the writer was `Err`, or that it took none of some bytes
  abbrev pub writer_failed : AskedWriter W → Bool
  writer_failed asked = asked.failed

-- the answer to a write of these bytes is `Err`, or that none of them was taken
abbrev pub is_refused : {E : Type 0} → List ℕ → Result ℕ E → Bool
is_refused bytes (Err error) = true
is_refused [] (Ok count) = false
is_refused (byte ∷ bytes) (Ok count) = nat_eq count 0
