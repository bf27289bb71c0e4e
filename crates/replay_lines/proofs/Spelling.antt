-- A line outside of blocks is a command's exactly if it is spelled so.
use Rattle.std.proofs.Common.{◌≡◌, ℕ, ◌<◌, true, List, [], ◌∷◌, Option, Some, None, IfSome, Result, Ok, Err, IfOk, refl, sym, ◌∙◌, ap, subst, codes, decimal}
use Rattle.std.specs.Option.{option_map, option_and_then}
use Rattle.std.specs.List.{join_with_byte}
use Rattle.std.specs.declared.alloc.AllocError.{AllocError}
use Rattle.cordyceps_commands.specs.declared.list_command.ListCommand.{ListCommand}
use Rattle.cordyceps_commands.specs.declared.list_command.ListCommand.TheVariants as commands
use Rattle.cordyceps_commands.specs.ListCommands.{Fits}
use Rattle.replay_lines.specs.declared.list_command.Verb.{Verb}
use Rattle.replay_lines.specs.declared.list_command.Verb.TheVariants as verbs
use Rattle.replay_lines.specs.Words.{words, structure_number_of}
use Rattle.replay_lines.specs.ListVerbs.{end_verb_of, verb_of}
use Rattle.replay_lines.specs.ListWords.{end_word, turns_word}
use Rattle.replay_lines.specs.ListScript.{Meaning, plain, walk, into, cursor, meaning_of_command, meaning_with, on_structure, meaning_of_words, meaning_of, IsOneLine, LineFits}
use Rattle.replay_lines.specs.Spelling.{words_of, spelling_of, HasNumbers}
use Rattle.replay_lines.proofs.Forms.{mapped, chained, look, in_none, structure_kind, nothing_form, structure_form, value_form, item_form, IsForm, before_form, has_no_space, one_word, split_joined, spelled_line}
use Rattle.replay_lines.proofs.ListForms.{turns_form, split_words_form, drain_words_form, end_form}

abbrev word_of : Verb → List ℕ
word_of verbs.PushFront = codes "pushf"
word_of verbs.PushBack = codes "pushb"
word_of verbs.PopFront = codes "popf"
word_of verbs.PopBack = codes "popb"
word_of verbs.Front = codes "front"
word_of verbs.Back = codes "back"
word_of verbs.SetFront = codes "setf"
word_of verbs.SetBack = codes "setb"
word_of verbs.Len = codes "len"
word_of verbs.Append = codes "append"
word_of verbs.Split = codes "split"
word_of verbs.Remove = codes "remove"
word_of verbs.Bump = codes "bump"
word_of verbs.Walk = codes "walk"
word_of verbs.Into = codes "into"
word_of verbs.Drain = codes "drain"
word_of verbs.Show = codes "show"
word_of verbs.Cursor = codes "cursor"

end_verb : (word : List ℕ) (v : Verb) → end_verb_of word ≡ Some v → word ≡ word_of v
end_verb word v is =
    let P : Verb → Type 0 = λ w. word ≡ word_of w in
    look P word (codes "pushf") verbs.PushFront _ v (λ e. e) (look P word (codes "pushb") verbs.PushBack _ v (λ e. e) (look P word (codes "popf") verbs.PopFront _ v (λ e. e)
    (look P word (codes "popb") verbs.PopBack _ v (λ e. e) (look P word (codes "front") verbs.Front _ v (λ e. e) (look P word (codes "back") verbs.Back _ v (λ e. e)
    (look P word (codes "setf") verbs.SetFront _ v (λ e. e) (look P word (codes "setb") verbs.SetBack _ v (λ e. e) (in_none P v)))))))) is

first_word : (word : List ℕ) (v : Verb) → verb_of word ≡ Some v → word ≡ word_of v
first_word word v is =
    let P : Verb → Type 0 = λ w. word ≡ word_of w in
    look P word (codes "len") verbs.Len _ v (λ e. e) (look P word (codes "append") verbs.Append _ v (λ e. e) (look P word (codes "split") verbs.Split _ v (λ e. e)
    (look P word (codes "remove") verbs.Remove _ v (λ e. e) (look P word (codes "bump") verbs.Bump _ v (λ e. e) (look P word (codes "walk") verbs.Walk _ v (λ e. e)
    (look P word (codes "into") verbs.Into _ v (λ e. e) (look P word (codes "drain") verbs.Drain _ v (λ e. e) (look P word (codes "show") verbs.Show _ v (λ e. e)
    (look P word (codes "cursor") verbs.Cursor _ v (λ e. e) (end_verb word v)))))))))) is

-- as `words_of`
abbrev meaning_words_of : Meaning → List (List ℕ)
meaning_words_of (plain command) = words_of command
meaning_words_of (walk list turns) = codes "walk" ∷ decimal list ∷ turns_word turns ∷ []
meaning_words_of (into list turns) = codes "into" ∷ decimal list ∷ turns_word turns ∷ []
meaning_words_of (cursor list end lines) = codes "cursor" ∷ decimal list ∷ end_word end ∷ []

same_words : (command : ListCommand) → meaning_words_of (meaning_of_command command) ≡ words_of command
same_words (commands.Walk list turns) = refl
same_words (commands.Into list turns) = refl
same_words (commands.Cursor list end lines) = refl
same_words command = refl

-- as `LineFits`
abbrev MeaningFits : Meaning → Type 0
MeaningFits (plain command) = LineFits command
MeaningFits (walk list turns) = list < 16
MeaningFits (into list turns) = list < 16
MeaningFits (cursor list end lines) = (list < 16) × (lines ≡ [])

numbered : (list : ℕ) (word verb : List ℕ) (ws others : List (List ℕ)) → word ≡ verb → ws ≡ others → word ∷ decimal list ∷ ws ≡ verb ∷ decimal list ∷ others
numbered list word verb ws others same rest = rw (same, rest) refl

-- as `made` of `Forms`, with the number of a list after the command word
made_on : {A : Type 0} {read : List (List ℕ) → Option A} {spell : A → List (List ℕ)} {Can : A → Type 0} (list : ℕ) → IsForm read spell Can → (verb : List ℕ) (build : A → Meaning) →
    ((a : A) → verb ∷ decimal list ∷ spell a ≡ meaning_words_of (build a)) → ((a : A) → Can a → MeaningFits (build a)) →
    (word : List ℕ) (ws : List (List ℕ)) (m : Meaning) → word ≡ verb → option_map build (read ws) ≡ Some m → (word ∷ decimal list ∷ ws ≡ meaning_words_of m) × MeaningFits m
made_on {A} {read} {spell} list form verb build spelled fits word ws m same_word is =
    let (a, found, same) = mapped build (read ws) m is in
    let (words_are, can) = form.sound ws a found in
    let P : Meaning → Type 0 = λ n. (word ∷ decimal list ∷ ws ≡ meaning_words_of n) × MeaningFits n in
    subst P same (numbered list word verb ws (spell a) same_word words_are ∙ spelled a, fits a can)

meaning_words : (v : Verb) (list : ℕ) → list < 16 → (word : List ℕ) (ws : List (List ℕ)) (m : Meaning) → word ≡ word_of v → meaning_with v list ws ≡ Some m → (word ∷ decimal list ∷ ws ≡ meaning_words_of m) × MeaningFits m
meaning_words verbs.PushFront list small = made_on list item_form (codes "pushf") (λ i. plain (commands.PushFront list i)) (λ x. refl) (λ x can. (record { first = small; others = tt }, tt))
meaning_words verbs.PushBack list small = made_on list item_form (codes "pushb") (λ i. plain (commands.PushBack list i)) (λ x. refl) (λ x can. (record { first = small; others = tt }, tt))
meaning_words verbs.PopFront list small = made_on list nothing_form (codes "popf") (λ none. plain (commands.PopFront list)) (λ x. refl) (λ x can. (record { first = small; others = tt }, tt))
meaning_words verbs.PopBack list small = made_on list nothing_form (codes "popb") (λ none. plain (commands.PopBack list)) (λ x. refl) (λ x can. (record { first = small; others = tt }, tt))
meaning_words verbs.Front list small = made_on list nothing_form (codes "front") (λ none. plain (commands.Front list)) (λ x. refl) (λ x can. (record { first = small; others = tt }, tt))
meaning_words verbs.Back list small = made_on list nothing_form (codes "back") (λ none. plain (commands.Back list)) (λ x. refl) (λ x can. (record { first = small; others = tt }, tt))
meaning_words verbs.SetFront list small = made_on list value_form (codes "setf") (λ v. plain (commands.SetFront list v)) (λ x. refl) (λ x can. (record { first = small; others = tt }, tt))
meaning_words verbs.SetBack list small = made_on list value_form (codes "setb") (λ v. plain (commands.SetBack list v)) (λ x. refl) (λ x can. (record { first = small; others = tt }, tt))
meaning_words verbs.Len list small = made_on list nothing_form (codes "len") (λ none. plain (commands.Len list)) (λ x. refl) (λ x can. (record { first = small; others = tt }, tt))
meaning_words verbs.Append list small = made_on list structure_form (codes "append") (λ m. plain (commands.Append list m)) (λ x. refl) (λ x can. (record { first = small; others = can }, tt))
meaning_words verbs.Split list small = made_on list split_words_form (codes "split") (λ x. plain (commands.Split list x.0 x.1)) (λ x. refl) (λ x can. (record { first = small; others = can.1 }, tt))
meaning_words verbs.Remove list small = made_on list value_form (codes "remove") (λ v. plain (commands.Remove list v)) (λ x. refl) (λ x can. (record { first = small; others = tt }, tt))
meaning_words verbs.Bump list small = made_on list value_form (codes "bump") (λ v. plain (commands.Bump list v)) (λ x. refl) (λ x can. (record { first = small; others = tt }, tt))
meaning_words verbs.Walk list small = made_on list turns_form (codes "walk") (λ t. walk list t) (λ x. refl) (λ x can. small)
meaning_words verbs.Into list small = made_on list turns_form (codes "into") (λ t. into list t) (λ x. refl) (λ x can. small)
meaning_words verbs.Drain list small = made_on list drain_words_form (codes "drain") (λ x. plain (commands.Drain list x.0 x.1)) (λ x. refl) (λ x can. (record { first = small; others = tt }, tt))
meaning_words verbs.Show list small = made_on list nothing_form (codes "show") (λ none. plain (commands.Show list)) (λ x. refl) (λ x can. (record { first = small; others = tt }, tt))
meaning_words verbs.Cursor list small = made_on list end_form (codes "cursor") (λ e. cursor list e []) (λ x. refl) (λ x can. (small, refl))

all_words : (ws : List (List ℕ)) (m : Meaning) → meaning_of_words ws ≡ Some m → (ws ≡ meaning_words_of m) × MeaningFits m
all_words [] m is = cc
all_words (word ∷ ws) m is = let (v, read, rest) = chained (λ v. on_structure (λ list rest. meaning_with v list rest) ws) (verb_of word) m is in rest_words word ws v m (first_word word v read) rest where
  rest_words : (word : List ℕ) (ws : List (List ℕ)) (v : Verb) (m : Meaning) → word ≡ word_of v → on_structure (λ list rest. meaning_with v list rest) ws ≡ Some m → (word ∷ ws ≡ meaning_words_of m) × MeaningFits m
  rest_words word [] v m same is = cc
  rest_words word (number ∷ ws) v m same is =
      let (list, first, others) = chained (λ list. meaning_with v list ws) (structure_number_of number) m is in
      let (numeral, small) = structure_kind.sound number list first in
      let P : List ℕ → Type 0 = λ n. (word ∷ n ∷ ws ≡ meaning_words_of m) × MeaningFits m in
      subst P (sym numeral) (meaning_words v list small word ws m same others)

meaning_fits : (command : ListCommand) → MeaningFits (meaning_of_command command) → LineFits command
meaning_fits (commands.Walk list turns) fits = (record { first = fits; others = tt }, tt)
meaning_fits (commands.Into list turns) fits = (record { first = fits; others = tt }, tt)
meaning_fits (commands.Cursor list end lines) fits = (record { first = fits.0; others = rw fits.1 tt }, fits.1)
meaning_fits command fits = fits

pub is_spelled : (line : List ℕ) (read : Option ListCommand) → option_map meaning_of_command read ≡ meaning_of line → IfSome read (λ command. line ≡ spelling_of command)
is_spelled line None is = tt
is_spelled line (Some command) is = spelled_line line (words_of command) ((all_words (words line) (meaning_of_command command) (sym is)).0 ∙ same_words command)

pub line_fits : (line : List ℕ) (read : Option ListCommand) → option_map meaning_of_command read ≡ meaning_of line → IfSome read LineFits
line_fits line None is = tt
line_fits line (Some command) is = meaning_fits command (all_words (words line) (meaning_of_command command) (sym is)).1

-- the spelling of a command is read
read_back : {A : Type 0} {read : List (List ℕ) → Option A} {spell : A → List (List ℕ)} {Can : A → Type 0} → IsForm read spell Can → (v : Verb) (build : A → Meaning) (l : ℕ) (a : A) → has_no_space (word_of v) ≡ true →
    verb_of (word_of v) ≡ Some v → meaning_with v l (spell a) ≡ option_map build (read (spell a)) → l < 16 → Can a → meaning_of (join_with_byte 32 (word_of v ∷ decimal l ∷ spell a)) ≡ Some (build a)
read_back {A} {read} {spell} form v build l a clean verb is small can =
    ap meaning_of_words (split_joined (word_of v) (decimal l ∷ spell a) (one_word (word_of v) clean) ((before_form structure_kind form).ones (l, a) (small, can)))
    ∙ ap (λ (o : Option Verb). option_and_then (λ w. on_structure (λ list rest. meaning_with w list rest) (decimal l ∷ spell a)) o) verb
    ∙ rw (structure_kind.complete l small, is, form.complete a can) refl

spelled : (command : ListCommand) → LineFits command → HasNumbers command → meaning_of (spelling_of command) ≡ Some (meaning_of_command command)
spelled (commands.PushFront l item) fits numbers = read_back item_form verbs.PushFront (λ i. plain (commands.PushFront l i)) l item refl refl refl fits.0.first numbers
spelled (commands.PushBack l item) fits numbers = read_back item_form verbs.PushBack (λ i. plain (commands.PushBack l i)) l item refl refl refl fits.0.first numbers
spelled (commands.PopFront l) fits numbers = read_back nothing_form verbs.PopFront (λ none. plain (commands.PopFront l)) l tt refl refl refl fits.0.first tt
spelled (commands.PopBack l) fits numbers = read_back nothing_form verbs.PopBack (λ none. plain (commands.PopBack l)) l tt refl refl refl fits.0.first tt
spelled (commands.Front l) fits numbers = read_back nothing_form verbs.Front (λ none. plain (commands.Front l)) l tt refl refl refl fits.0.first tt
spelled (commands.Back l) fits numbers = read_back nothing_form verbs.Back (λ none. plain (commands.Back l)) l tt refl refl refl fits.0.first tt
spelled (commands.SetFront l value) fits numbers = read_back value_form verbs.SetFront (λ v. plain (commands.SetFront l v)) l value refl refl refl fits.0.first numbers
spelled (commands.SetBack l value) fits numbers = read_back value_form verbs.SetBack (λ v. plain (commands.SetBack l v)) l value refl refl refl fits.0.first numbers
spelled (commands.Len l) fits numbers = read_back nothing_form verbs.Len (λ none. plain (commands.Len l)) l tt refl refl refl fits.0.first tt
spelled (commands.Append l other) fits numbers = read_back structure_form verbs.Append (λ m. plain (commands.Append l m)) l other refl refl refl fits.0.first fits.0.others
spelled (commands.Split l at other) fits numbers = read_back split_words_form verbs.Split (λ x. plain (commands.Split l x.0 x.1)) l (at, other) refl refl refl fits.0.first (numbers, fits.0.others)
spelled (commands.Remove l id) fits numbers = read_back value_form verbs.Remove (λ v. plain (commands.Remove l v)) l id refl refl refl fits.0.first numbers
spelled (commands.Bump l by) fits numbers = read_back value_form verbs.Bump (λ v. plain (commands.Bump l v)) l by refl refl refl fits.0.first numbers
spelled (commands.Walk l turns) fits numbers = read_back turns_form verbs.Walk (λ t. walk l t) l turns.items refl refl refl fits.0.first numbers
spelled (commands.Into l turns) fits numbers = read_back turns_form verbs.Into (λ t. into l t) l turns.items refl refl refl fits.0.first numbers
spelled (commands.Drain l filter most) fits numbers = read_back drain_words_form verbs.Drain (λ x. plain (commands.Drain l x.0 x.1)) l (filter, most) refl refl refl fits.0.first (tt, numbers)
spelled (commands.Show l) fits numbers = read_back nothing_form verbs.Show (λ none. plain (commands.Show l)) l tt refl refl refl fits.0.first tt
spelled (commands.Cursor l end lines) fits numbers = rw fits.1 (read_back end_form verbs.Cursor (λ e. cursor l e []) l end refl refl refl fits.0.first tt)

pub read_spelled : (line : List ℕ) (command : ListCommand) → LineFits command → HasNumbers command → spelling_of command ≡ line → meaning_of line ≡ Some (meaning_of_command command)
read_spelled line command fits numbers is = sym (ap meaning_of is) ∙ spelled command fits numbers

-- what a line was read as, unless memory was refused
abbrev IsRead : List ℕ → Result (Option ListCommand) AllocError → Type 0
IsRead line result = IfOk result (λ read. option_map meaning_of_command read ≡ meaning_of line)

pub fits_read : (line : List ℕ) (result : Result (Option ListCommand) AllocError) → IsRead line result → IfOk result (λ read. IfSome read LineFits)
fits_read line (Ok read) is = line_fits line read is
fits_read line (Err e) is = tt

pub spelled_read : (line : List ℕ) (result : Result (Option ListCommand) AllocError) → IsRead line result → IfOk result (λ read. IfSome read (λ command. line ≡ spelling_of command))
spelled_read line (Ok read) is = is_spelled line read is
spelled_read line (Err e) is = tt

pub every_read : (line : List ℕ) (result : Result (Option ListCommand) AllocError) → IsRead line result →
    IfOk result (λ read. (command : ListCommand) → LineFits command → HasNumbers command → spelling_of command ≡ line → option_map meaning_of_command read ≡ Some (meaning_of_command command))
every_read line (Ok read) is = λ command fits numbers same. is ∙ read_spelled line command fits numbers same
every_read line (Err e) is = tt
