-- The reader of a source, the bytes of one, and the writer of a sink.
use Rattle.std.specs.Prelude.{◌≡◌, ℕ, List, IsTrue, ◌⊎◌}
use Rattle.replay_driver.specs.Asked.{reader_in, reader_failed, writer_in, writer_failed}
use Rattle.replay_driver.specs.declared.source.FromRead.{FromRead}
use Rattle.replay_driver.specs.declared.memory.FromSlice.{FromSlice}
use Rattle.replay_driver.specs.declared.sink.ToWrite.{ToWrite}

-- the reader of a source
abbrev pub reader_of : {R : Type 0} {bound : _} → FromRead R bound → R
reader_of source = reader_in source.reader

-- A read failed: the reader answered one with an error of its own, or a byte was wanted after 2^63 bytes.
abbrev pub HasFailedToRead : {R : Type 0} {bound : _} → FromRead R bound → Type 0
HasFailedToRead source = IsTrue (reader_failed source.reader) ⊎ (IsTrue source.asked_for_more × (source.left ≡ 0))

-- the bytes of a source that are still to come
abbrev pub bytes_of : FromSlice → List ℕ
bytes_of source = source.rest.now

-- the writer of a sink
abbrev pub writer_of : {W : Type 0} → ToWrite W → W
writer_of sink = writer_in sink.writer

-- A write failed: the writer answered one with an error of its own, or took none of some bytes.
abbrev pub HasFailedToWrite : {W : Type 0} → ToWrite W → Type 0
HasFailedToWrite sink = IsTrue (writer_failed sink.writer)
