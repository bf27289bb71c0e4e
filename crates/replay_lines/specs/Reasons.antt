-- Why a line is bad.
use Rattle.std.specs.Prelude.{ℕ, Bool, true, false, ◌&&◌, ◌||◌, not, List, [], ◌∷◌, Option, None, Some}
use Rattle.std.specs.Prelude.{if◌then◌else◌, nat_lt, nat_eq, is_some, codes}
use Rattle.std.specs.Option.{option_map, unwrap_or}
use Rattle.std.specs.Char.{is_ascii_digit}
use Rattle.replay_lines.specs.declared.reason.Reason.{Reason}
use Rattle.replay_lines.specs.declared.reason.Reason.TheVariants as reasons
use Rattle.replay_lines.specs.declared.reason.Structures.{Structures}
use Rattle.replay_lines.specs.declared.reason.Structures.TheVariants as structures
use Rattle.replay_lines.specs.declared.reason.Vocabulary.{Vocabulary}
use Rattle.replay_lines.specs.declared.reason.Vocabulary.TheVariants as vocabularies
use Rattle.replay_lines.specs.declared.list_command.Verb.{Verb}
use Rattle.replay_lines.specs.declared.list_command.Verb.TheVariants as lists
use Rattle.replay_lines.specs.declared.cursor_command.CursorVerb.{CursorVerb}
use Rattle.replay_lines.specs.declared.cursor_command.CursorVerb.TheVariants as cursors
use Rattle.replay_lines.specs.declared.stack_command.Verb as stacks
use Rattle.replay_lines.specs.declared.stack_command.Verb.TheVariants as stack
use Rattle.replay_lines.specs.Words.{words, number_of}
use Rattle.replay_lines.specs.ListVerbs as list_verbs
use Rattle.replay_lines.specs.CursorScript as cursor_script
use Rattle.replay_lines.specs.StackScript as stack_script
use Rattle.replay_lines.specs.SortedScript as sorted_script
use Rattle.replay_lines.specs.TransferScript as transfer_script
use Rattle.replay_lines.specs.QueueScript as queue_script

-- the text of a reason
abbrev pub reason_text : Reason → List ℕ
reason_text reasons.TooLong = codes "too long"
reason_text reasons.Empty = codes "empty line"
reason_text reasons.CarriageReturn = codes "carriage return"
reason_text reasons.StraySpace = codes "stray space"
reason_text reasons.NoSuchWord = codes "no such word"
reason_text reasons.LeadingZero = codes "leading zero"
reason_text reasons.TooGreat = codes "number too great"
reason_text reasons.NoSuchStructure = codes "no such structure"
reason_text reasons.OtherWords = codes "wrong words"

-- a word has digits alone
abbrev pub digits_only : List ℕ → Bool
digits_only [] = true
digits_only (byte ∷ bytes) = is_ascii_digit byte && digits_only bytes

-- a line has a carriage return
abbrev pub has_carriage_return : List ℕ → Bool
has_carriage_return [] = false
has_carriage_return (byte ∷ bytes) = nat_eq byte 13 || has_carriage_return bytes

-- What is wrong with a word whatever its place is: it is empty, as beside a stray space, or it has digits alone and
-- spells no number.
abbrev pub fault_of : List ℕ → Option Reason
fault_of [] = Some reasons.StraySpace
fault_of (digit ∷ digits) =
    if digits_only (digit ∷ digits) && not (is_some (number_of (digit ∷ digits))) then
    Some (if nat_eq digit 48 then reasons.LeadingZero else reasons.TooGreat) else None

-- what is wrong with the first word of these of which something is
abbrev pub first_fault_of : List (List ℕ) → Option Reason
first_fault_of [] = None
first_fault_of (word ∷ words) = unwrap_or (option_map (λ reason. Some reason) (fault_of word)) (first_fault_of words)

-- a number that is none of a structure
abbrev pub is_great : List ℕ → Bool
is_great word = unwrap_or (option_map (λ n. nat_lt 15 n) (number_of word)) false

-- the first of these words is one; the second; the third
abbrev pub first_is_great : List (List ℕ) → Bool
first_is_great [] = false
first_is_great (word ∷ words) = is_great word

abbrev pub second_is_great : List (List ℕ) → Bool
second_is_great [] = false
second_is_great (word ∷ words) = first_is_great words

abbrev pub third_is_great : List (List ℕ) → Bool
third_is_great [] = false
third_is_great (word ∷ words) = second_is_great words

-- one of the words that are to be structures is one
abbrev pub has_great : Structures → List (List ℕ) → Bool
has_great structures.Nowhere words = false
has_great structures.First words = first_is_great words
has_great structures.FirstAndSecond words = first_is_great words || second_is_great words
has_great structures.FirstAndThird words = first_is_great words || third_is_great words

-- which words after a command word of mode list are structures, outside of blocks; in them
abbrev pub list_structures_with : Verb → Structures
list_structures_with lists.Append = structures.FirstAndSecond
list_structures_with lists.Split = structures.FirstAndThird
list_structures_with verb = structures.First

abbrev pub cursor_structures_with : CursorVerb → Structures
cursor_structures_with cursors.SplitAfter = structures.First
cursor_structures_with cursors.SplitBefore = structures.First
cursor_structures_with cursors.SpliceAfter = structures.First
cursor_structures_with cursors.SpliceBefore = structures.First
cursor_structures_with verb = structures.Nowhere

abbrev pub list_structures : List ℕ → Option Structures
list_structures word =
    unwrap_or (option_map (λ verb. Some (list_structures_with verb)) (list_verbs.verb_of word))
    (option_map cursor_structures_with (cursor_script.verb_of word))

abbrev pub stack_structures_with : stacks.Verb → Structures
stack_structures_with stack.Take = structures.FirstAndSecond
stack_structures_with verb = structures.First

-- the same of each mode; None where the word is no command word of the mode
abbrev pub structures_of : Vocabulary → List ℕ → Option Structures
structures_of vocabularies.List word = list_structures word
structures_of vocabularies.Stack word = option_map stack_structures_with (stack_script.verb_of word)
structures_of vocabularies.Sorted word = option_map (λ verb. structures.First) (sorted_script.verb_of word)
structures_of vocabularies.Transfer word = option_map (λ verb. structures.Nowhere) (transfer_script.verb_of word)
structures_of vocabularies.Queue word = option_map (λ verb. structures.Nowhere) (queue_script.verb_of word)

-- why words after a command word are not those that it takes
abbrev pub reason_after : Structures → List (List ℕ) → Reason
reason_after structures words =
    unwrap_or (first_fault_of words)
    (if has_great structures words then reasons.NoSuchStructure else reasons.OtherWords)

abbrev pub reason_of_words : Vocabulary → List (List ℕ) → Reason
reason_of_words vocabulary [] = reasons.OtherWords
reason_of_words vocabulary ([] ∷ words) = reasons.StraySpace
reason_of_words vocabulary ((byte ∷ bytes) ∷ words) =
    unwrap_or (option_map (λ structures. reason_after structures words) (structures_of vocabulary (byte ∷ bytes)))
    reasons.NoSuchWord

-- why a line that is no command of a mode is bad
abbrev pub reason_of : Vocabulary → List ℕ → Reason
reason_of vocabulary [] = reasons.Empty
reason_of vocabulary (byte ∷ bytes) =
    if has_carriage_return (byte ∷ bytes) then reasons.CarriageReturn
    else reason_of_words vocabulary (words (byte ∷ bytes))
