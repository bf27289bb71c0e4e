-- What the lines of mode list do to a session's state.
use Rattle.std.proofs.Common.{◌≡◌, ℕ, List, [], ◌∷◌, ◌++◌, Option, Some, None, true, Ok, Err, length, take, refl, sym, ◌∙◌, ap, arith, inl, inr}
use Rattle.std.specs.Prelude.{is_some}
use Rattle.std.specs.List.{concat}
use Rattle.std.specs.declared.alloc.Global.{Global}
use Rattle.std.specs.declared.vec.Vec.{Vec}
use Rattle.std.proofs.lemmas.List.{append-nil, take_at}
use Rattle.cordyceps_commands.specs.declared.list_command.CursorCommand.{CursorCommand}
use Rattle.cordyceps_commands.specs.declared.list_command.CursorCommand.TheVariants as lines
use Rattle.cordyceps_commands.specs.declared.list_command.ListEnd.{ListEnd}
use Rattle.cordyceps_commands.specs.declared.list_command.ListCommand.{ListCommand}
use Rattle.cordyceps_commands.specs.declared.list_command.ListCommand.TheVariants as commands
use Rattle.cordyceps_commands.specs.Replies.{Line}
use Rattle.cordyceps_tables.specs.Tables.{Table}
use Rattle.cordyceps_tables.specs.Blocks.{OtherFits, EndsBlock, BlockFits}
use Rattle.cordyceps_tables.specs.Lists.{step}
use Rattle.replay_sessions.specs.declared.block.Block.{Block}
use Rattle.replay_lines.specs.ReplyText.{text_of}
use Rattle.replay_lines.specs.ListScript.{Meaning, meaning_of_command, meaning_of}
use Rattle.replay_lines.specs.CursorScript.{cursor_command_of}
use Rattle.replay_driver.specs.Script.{RanOrNot}
use Rattle.replay_driver.specs.Steps.{TakesLine, Ends}
use Rattle.replay_sessions.specs.ListMachine.{list_machine, Open, State, run_block, longer, outside_with_text, take_outside, take_inside, take_line}
use Rattle.replay_sessions.specs.OpenBlocks.{open_as, open_of, IsNoEnd, AreOpen, IsOpen, CanRun, Closes, CameBackOrRan}

pub some_meaning : (meaning : Option Meaning) → is_some meaning ≡ true → (m : Meaning) × (Some m ≡ meaning)
some_meaning (Some m) is = (m, refl)
some_meaning None is = cc

-- it opens no block
abbrev pub IsNoBlock : ListCommand → Type 0
IsNoBlock command = (list : ℕ) (end : ListEnd) (lines : Vec CursorCommand Global) → command ≡ commands.Cursor list end lines → ⊥

-- a command that is no block does what its line asks for
stepped : (table : Table) (command : ListCommand) → IsNoBlock command → take_outside table (meaning_of_command command) ≡ outside_with_text (step table command)
stepped table (commands.Walk list turns) single = refl
stepped table (commands.Into list turns) single = refl
stepped table (commands.Cursor list end lines) single = absurd (single list end lines refl)
stepped table command single = refl

pub outside : (table : Table) (line : List ℕ) (meaning : Meaning) → Some meaning ≡ meaning_of line → take_line (table, None) line ≡ Some (take_outside table meaning)
outside table line meaning is = rw (← is) refl

pub entered : (table : Table) (line : List ℕ) (command : ListCommand) → Some (meaning_of_command command) ≡ meaning_of line → IsNoBlock command →
    take_line (table, None) line ≡ Some (outside_with_text (step table command))
entered table line command is single = outside table line (meaning_of_command command) is ∙ ap Some (stepped table command single)

pub entered_as : (table new : Table) (line : List ℕ) (command : ListCommand) (replies : List Line) → Some (meaning_of_command command) ≡ meaning_of line → IsNoBlock command →
    (new, replies) ≡ step table command → take_line (table, None) line ≡ Some ((new, None), text_of replies ∷ [])
entered_as table new line command replies is single done = entered table line command is single ∙ ap (λ (r : Table × List Line). Some (outside_with_text r)) (sym done)

pub inside : (table : Table) (held : Open) (line : List ℕ) (command : CursorCommand) → Some command ≡ cursor_command_of line → take_line (table, Some held) line ≡ Some (take_inside table held command)
inside table held line command is = rw (← is) refl

pub no_end : (command : CursorCommand) → (command ≡ lines.End → ⊥) → IsNoEnd command
no_end lines.End differs = differs refl
no_end command differs = tt

waits : (table : Table) (held : Open) (command : CursorCommand) → IsNoEnd command → take_inside table held command ≡ ((table, Some (longer held command)), [])
waits table held lines.End goes_on = absurd goes_on
waits table held command goes_on = refl

-- a line that is no end is kept
pub kept : (table : Table) (held : Open) (line : List ℕ) (command : CursorCommand) (more : List CursorCommand) → Some command ≡ cursor_command_of line → IsNoEnd command → more ≡ held.lines ++ command ∷ [] →
    take_line (table, Some held) line ≡ Some ((table, Some (record held { lines = more })), [])
kept table held line command more is goes_on same = rw same (inside table held line command is ∙ ap Some (waits table held command goes_on))

-- an end runs the block
pub closed : (table new : Table) (held : Open) (line : List ℕ) (command : CursorCommand) (all : List CursorCommand) (before after : List ℕ) → Some command ≡ cursor_command_of line → command ≡ lines.End →
    all ≡ held.lines ++ command ∷ [] → Closes table (record held { lines = all }) new before after →
    (texts : List (List ℕ)) × (take_line (table, Some held) line ≡ Some ((new, None), texts)) × (after ≡ before ++ concat texts)
closed table new held line command all before after is end more (now, added) = (
  text_of (run_block table (record held { lines = all })).1 ∷ [],
  rw (← is, now, more, end) refl,
  added ∙ ap (λ (t : List ℕ). before ++ t) (sym (append-nil (text_of (run_block table (record held { lines = all })).1))),
)

-- where memory for that was refused, the block is open as it was, or was run
pub refused : {E : Type 0} (error : E) (table : Table) (held : Open) (line : List ℕ) (command : CursorCommand) (all : List CursorCommand) (new : State) (before after : List ℕ) → Some command ≡ cursor_command_of line → command ≡ lines.End →
    all ≡ held.lines ++ command ∷ [] → RanOrNot (table, Some held) ((run_block table (record held { lines = all })).0, None) new → after ≡ before → TakesLine list_machine (table, Some held) line new before after (Err error)
refused error table held line command all new before after is end more (inl stays) same =
    (_, _, [], inside table held line command is, (0, inl refl, refl), same ∙ sym (append-nil before), inl stays)
refused error table held line command all new before after is end more (inr ran) same =
    (_, _, [], inside table held line command is, (0, inl refl, refl), same ∙ sym (append-nil before), inr (ran ∙ rw (more, end) refl))

-- the block without its end, which came back
pub reopened : (table new : Table) (block full back : Block) (command : CursorCommand) (cut : List CursorCommand) (held : ℕ) → CameBackOrRan table full (Some back) new → full.list ≡ block.list → full.end ≡ block.end →
    full.lines.items ≡ block.lines.items ++ command ∷ [] → held ≡ length block.lines.items → cut ≡ take held back.lines.items → ◌≡◌ {A = State} (new, Some (record { list = back.list; end = back.end; lines = cut })) (table, Some (open_as block))
reopened table new block full back command cut held (same, stays) list end more size is =
    let front : cut ≡ block.lines.items = is ∙ ap (λ (b : Block). take held b.lines.items) same ∙ ap (take held) more ∙ take_at block.lines.items (command ∷ []) held (sym size) in
    rw (front, stays, same, list, end) refl

no_end_after : (line : CursorCommand) (rest : List CursorCommand) → IsNoEnd line → EndsBlock line rest
no_end_after lines.End rest goes_on = absurd goes_on
no_end_after line rest goes_on = tt

-- a block whose end has not come may be run
pub can_run : (lines : List CursorCommand) → AreOpen lines → BlockFits lines
can_run [] held = tt
can_run (line ∷ rest) (fits, goes_on, held) = (fits, no_end_after line rest goes_on, can_run rest held)

pub may_run : (block : Option Block) → IsOpen block → CanRun block
may_run None ready = tt
may_run (Some block) ready = (ready.0, can_run block.lines.items ready.1)

ends_last : (line : CursorCommand) → EndsBlock line []
ends_last lines.End = refl
ends_last line = tt

-- with one more line, which may be its end
pub can_run_to : (lines : List CursorCommand) (line : CursorCommand) → AreOpen lines → OtherFits line → BlockFits (lines ++ line ∷ [])
can_run_to [] line held fits = (fits, ends_last line, tt)
can_run_to (first ∷ rest) line (first_fits, goes_on, held) fits = (first_fits, no_end_after first (rest ++ line ∷ []) goes_on, can_run_to rest line held fits)

-- and it stays open where that is not its end
pub stays_open : (lines : List CursorCommand) (line : CursorCommand) → AreOpen lines → OtherFits line → IsNoEnd line → AreOpen (lines ++ line ∷ [])
stays_open [] line held fits goes_on = (fits, goes_on, tt)
stays_open (first ∷ rest) line (first_fits, first_goes_on, held) fits goes_on = (first_fits, first_goes_on, stays_open rest line held fits goes_on)

-- a block that came back, or was run
pub came_back : (table new : Table) (block : Block) (back : Option Block) → CameBackOrRan table block back new → RanOrNot {S = State} (table, Some (open_as block)) ((run_block table (open_as block)).0, None) (new, open_of back)
came_back table new block (Some back) (same, stays) = inl (rw (same, stays) refl)
came_back table new block None is = inr (rw is refl)

-- what the end completes: the open block
pub ended : (E : Type 0) (table new : Table) (block : Block) (before after : List ℕ) → Closes table (open_as block) new before after → Ends {E = E} list_machine (table, Some (open_as block)) (new, None) before after (Ok tt)
ended E table new block before after (is, added) = (rw is refl, added ∙ ap (λ (t : List ℕ). before ++ t) (sym (append-nil _)))

-- unless memory for it was refused
pub not_ended : {E : Type 0} (error : E) (table new : Table) (block : Block) (back : Option Block) (before after : List ℕ) → CameBackOrRan table block back new → after ≡ before → Ends list_machine (table, Some (open_as block)) (new, open_of back) before after (Err error)
not_ended error table new block back before after moved same = ([], omega arith, (0, inl refl, refl), same ∙ sym (append-nil before), came_back table new block back moved)

-- the state after a command that was run
pub ran_outside : (table new : Table) (left : Option Block) (next : Table × List Line) (replies : List Line) → left ≡ None → (new, replies) ≡ next → (new, open_of left) ≡ (outside_with_text next).0
ran_outside table new left next replies none is = rw (none, ← is) refl
