-- Commands that are run one after the other.
use Rattle.std.specs.Prelude.{◌≡◌, List, ◌++◌, map, length}
pub use Rattle.cordyceps_base.specs.Runs.{Ran, after, replies_to}
use Rattle.cordyceps_commands.specs.declared.reply.Reply.{Reply}
use Rattle.cordyceps_commands.specs.Replies.{Line, lines_of}

-- Some of the commands were run, in order: these are the replies to them and what they led to. The others are the rest.
abbrev pub Plays : {M C : Type 0} → (M → C → M × List Line) → M → List C → List Reply → List C → M → Type 0
Plays step old commands replies rest new = Ran step commands old new (map lines_of replies) rest

-- Some of the commands, in order, have a reply each. The others are the rest.
abbrev pub AnswersSome : {C : Type 0} → List C → List Reply → List C → Type 0
AnswersSome {C = C} commands replies rest = (ran : List C) × (ran ++ rest ≡ commands) × (length replies ≡ length ran)
