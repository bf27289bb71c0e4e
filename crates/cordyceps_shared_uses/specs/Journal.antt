-- Records that threads note by handles, and one writes to a sink.
use Rattle.std.specs.Prelude.{◌≡◌, ℕ, suc, ◌+◌, ◌-◌, ◌^◌, min, List, [], ◌∷◌, ◌++◌, length, map, Bool, true, false}
use Rattle.cordyceps.specs.Channels.Channels.{Sends, SendsNothing, Receives, IsOver}
use Rattle.cordyceps.specs.Elements.Element.{Element}
use Rattle.cordyceps.specs.Parties.Interleaving.{Interleaves}
use Rattle.cordyceps.specs.Queues.Calls.{PartyOf}
use Rattle.cordyceps_shared_uses.specs.Logger.{record_of}
use Rattle.cordyceps_shared_uses.specs.declared.journal.Report.{Report}
use Rattle.cordyceps_shared_uses.specs.declared.logger.Record.{Record}

-- what a contract sees of a handle: its party of the channel, and how many records it dropped
pub record Noting : Type 0 where
  pub party : PartyOf (Element Record)
  pub dropped : ℕ

-- a counter of 64 bits after n more, which stops at the greatest number that it can show
abbrev pub counted : ℕ → ℕ → ℕ
counted counter n = min (counter + n) (2 ^ 64 - 1)

-- from u to w the handle sent an element of this record, and nothing else
abbrev pub Notes : Record → Noting → Noting → Type 0
Notes r u w = ((e : Element Record) × (record_of e ≡ r) × Sends e u.party w.party) × (w.dropped ≡ u.dropped)

-- from u to w the handle sent nothing, and counted one record more that it dropped
abbrev pub Drops : Noting → Noting → Type 0
Drops u w = SendsNothing u.party w.party × (w.dropped ≡ counted u.dropped 1)

-- Of these records the sink wrote some and refused the others, each in this order. The report counts both, besides
-- those before.
pub record Writes (records before after : List Record) (u w : Report) : Type 0 where
  pub kept : List Record
  pub refused : List Record
  pub order : Interleaves kept refused records
  pub written : after ≡ before ++ kept
  pub counts_written : w.written ≡ counted u.written (length kept)
  pub counts_dropped : w.dropped ≡ counted u.dropped (length refused)

-- what a sink was asked, and whether it did it
pub data Asked : Type 0 where
  Write : Record → Bool → Asked
  Flush : Bool → Asked

-- the records that it was asked to write, and how many of these it refused
abbrev pub to_write : List Asked → List Record
to_write [] = []
to_write (Write r is_done ∷ more) = r ∷ to_write more
to_write (Flush is_done ∷ more) = to_write more

abbrev pub refusals : List Asked → ℕ
refusals [] = 0
refusals (Write r true ∷ more) = refusals more
refusals (Write r false ∷ more) = suc (refusals more)
refusals (Flush is_done ∷ more) = refusals more

-- what being asked makes of a sink in memory, which has these records before and those after
abbrev pub InMemory : Asked → List Record → List Record → Type 0
InMemory (Write r true) before after = after ≡ before ++ r ∷ []
InMemory (Write r false) before after = after ≡ before
InMemory (Flush is_done) before after = (after ≡ before) × (is_done ≡ true)

-- answers: what being asked makes of a sink
module _ {S : Type 0} (answers : Asked → S → S → Type 0) where
  -- from s to t the sink was asked these, one after the other, and nothing else
  abbrev pub IsAsked : List Asked → S → S → Type 0
  IsAsked [] s t = t ≡ s
  IsAsked (a ∷ more) s t = (m : S) × answers a s m × IsAsked more m t

  -- From s to t the sink was asked to write each of these records, once and in this order. The report counts those that
  -- it refused, besides those before.
  pub record Asks (records : List Record) (s t : S) (u w : Report) : Type 0 where
    pub asked : List Asked
    pub answered : IsAsked asked s t
    pub all : to_write asked ≡ records
    pub counts_refused : w.dropped ≡ counted u.dropped (refusals asked)

-- a report before the first record
abbrev pub empty_report : Report
empty_report = record { written = 0; dropped = 0; is_flushed = false }

-- From u to w the writer received elements until all handles had ended, and so each that was ever sent. It had their
-- records written, and at last asked the sink to flush. Between s and t the sink was asked that and nothing else, and
-- the report says whether the last flush succeeded.
pub record Runs {S : Type 0} (written : S → List Record) (answers : Asked → S → S → Type 0) (s t : S) (report : Report)
    (u w : PartyOf (Element Record)) : Type 0 where
  pub elements : List (Element Record)
  pub receives : Receives elements u w
  pub over : IsOver w
  pub writes : Writes (map record_of elements) (written s) (written t) empty_report report
  pub last : S
  pub asks : Asks answers (map record_of elements) s last empty_report report
  pub flushes : answers (Flush report.is_flushed) last t
