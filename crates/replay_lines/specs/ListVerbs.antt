-- The command words of mode list, outside of blocks.
use Rattle.std.specs.Prelude.{ℕ, List, Option, None, Some, if◌then◌else◌, codes}
use Rattle.std.specs.Str.{bytes_eq}
use Rattle.replay_lines.specs.declared.list_command.Verb.{Verb}
use Rattle.replay_lines.specs.declared.list_command.Verb.TheVariants as verbs

abbrev pub end_verb_of : List ℕ → Option Verb
end_verb_of word =
    if bytes_eq word (codes "pushf") then Some verbs.PushFront
    else if bytes_eq word (codes "pushb") then Some verbs.PushBack
    else if bytes_eq word (codes "popf") then Some verbs.PopFront
    else if bytes_eq word (codes "popb") then Some verbs.PopBack
    else if bytes_eq word (codes "front") then Some verbs.Front
    else if bytes_eq word (codes "back") then Some verbs.Back
    else if bytes_eq word (codes "setf") then Some verbs.SetFront
    else if bytes_eq word (codes "setb") then Some verbs.SetBack
    else None

abbrev pub verb_of : List ℕ → Option Verb
verb_of word =
    if bytes_eq word (codes "len") then Some verbs.Len
    else if bytes_eq word (codes "append") then Some verbs.Append
    else if bytes_eq word (codes "split") then Some verbs.Split
    else if bytes_eq word (codes "remove") then Some verbs.Remove
    else if bytes_eq word (codes "bump") then Some verbs.Bump
    else if bytes_eq word (codes "walk") then Some verbs.Walk
    else if bytes_eq word (codes "into") then Some verbs.Into
    else if bytes_eq word (codes "drain") then Some verbs.Drain
    else if bytes_eq word (codes "show") then Some verbs.Show
    else if bytes_eq word (codes "cursor") then Some verbs.Cursor
    else end_verb_of word
