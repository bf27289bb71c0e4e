-- The block that a session of mode list holds.
use Rattle.std.specs.Prelude.{◌≡◌, ℕ, ◌<◌, List, [], ◌∷◌, ◌++◌, Option, None, Some}
use Rattle.cordyceps_commands.specs.declared.list_command.CursorCommand.{CursorCommand}
use Rattle.cordyceps_commands.specs.declared.list_command.CursorCommand.TheVariants as lines
use Rattle.cordyceps_tables.specs.Blocks.{OtherFits, BlockFits}
use Rattle.cordyceps_tables.specs.Tables.{Table}
use Rattle.replay_sessions.specs.declared.block.Block.{Block}
use Rattle.replay_sessions.specs.ListMachine.{Open, run_block}
use Rattle.replay_lines.specs.ReplyText.{text_of}

abbrev pub open_as : Block → Open
open_as block = record { list = block.list; end = block.end; lines = block.lines.items }

abbrev pub open_of : Option Block → Option Open
open_of None = None
open_of (Some block) = Some (open_as block)

abbrev pub IsNoEnd : CursorCommand → Type 0
IsNoEnd lines.End = ⊥
IsNoEnd line = Unit {0}

-- lines that name lists among sixteen, and of which none is an end
abbrev pub AreOpen : List CursorCommand → Type 0
AreOpen [] = Unit {0}
AreOpen (line ∷ rest) = OtherFits line × IsNoEnd line × AreOpen rest

-- a further line may come
abbrev pub IsOpen : Option Block → Type 0
IsOpen None = Unit {0}
IsOpen (Some block) = (block.list < 16) × AreOpen block.lines.items

-- it may be run
abbrev pub CanRun : Option Block → Type 0
CanRun None = Unit {0}
CanRun (Some block) = (block.list < 16) × BlockFits block.lines.items

-- a block was run, and its replies were added to the text
abbrev pub Closes : Table → Open → Table → List ℕ → List ℕ → Type 0
Closes table held new before after =
    (new ≡ (run_block table held).0) × (after ≡ before ++ text_of (run_block table held).1)

-- where memory was refused, a block came back, and the lists stayed as they were, or it was run
abbrev pub CameBackOrRan : Table → Block → Option Block → Table → Type 0
CameBackOrRan table block (Some back) new = (back ≡ block) × (new ≡ table)
CameBackOrRan table block None new = new ≡ (run_block table (open_as block)).0
