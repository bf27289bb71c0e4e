-- A line of a block is a command's exactly if it is that command's spelling.
use Rattle.std.proofs.Common.{◌≡◌, ℕ, List, [], ◌∷◌, Option, Some, None, IfSome, refl, sym, ◌∙◌, ap, subst, codes}
use Rattle.std.specs.Option.{option_map}
use Rattle.cordyceps_commands.specs.declared.list_command.CursorCommand.{CursorCommand}
use Rattle.cordyceps_commands.specs.declared.list_command.CursorCommand.TheVariants as lines
use Rattle.cordyceps_commands.specs.ListCommands.{OtherFits}
use Rattle.replay_lines.specs.declared.cursor_command.CursorVerb.{CursorVerb}
use Rattle.replay_lines.specs.declared.cursor_command.CursorVerb.TheVariants as verbs
use Rattle.replay_lines.specs.Words.{words}
use Rattle.replay_lines.specs.CursorScript.{bare_of, verb_of, command_with, cursor_command_of_words, cursor_command_of}
use Rattle.replay_lines.specs.CursorSpelling.{words_of, spelling_of, HasNumbers}
use Rattle.replay_lines.proofs.Forms.{mapped, chained, look, in_none, only_form, nothing_form, structure_form, value_form, item_form, made, read_back, spelled_line}
use Rattle.replay_lines.proofs.ListForms.{filter_kind}

-- it is the command's one word
abbrev IsBare : List ℕ → CursorCommand → Type 0
IsBare word c = (word ∷ [] ≡ words_of c) × OtherFits c

-- it is a word for this
abbrev IsWord : List ℕ → CursorVerb → Type 0
IsWord word (verbs.Bare c) = IsBare word c
IsWord word verbs.Set = word ≡ codes "set"
IsWord word verbs.SetNext = word ≡ codes "setn"
IsWord word verbs.SetPrev = word ≡ codes "setp"
IsWord word verbs.RemoveFirst = word ≡ codes "first"
IsWord word verbs.InsertAfter = word ≡ codes "insa"
IsWord word verbs.InsertBefore = word ≡ codes "insb"
IsWord word verbs.SplitAfter = word ≡ codes "splita"
IsWord word verbs.SplitBefore = word ≡ codes "splitb"
IsWord word verbs.SpliceAfter = word ≡ codes "splicea"
IsWord word verbs.SpliceBefore = word ≡ codes "spliceb"

alone : (word other : List ℕ) → word ≡ other → (word ∷ [] ≡ other ∷ []) × Unit {0}
alone word other same = (ap (λ (w : List ℕ). w ∷ []) same, tt)

bare_word : (word : List ℕ) (c : CursorCommand) → bare_of word ≡ Some c → IsBare word c
bare_word word c is =
    let P = IsBare word in
    look P word (codes "next") lines.MoveNext _ c (alone word _) (look P word (codes "prev") lines.MovePrev _ c (alone word _) (look P word (codes "cur") lines.Current _ c (alone word _)
    (look P word (codes "pnext") lines.PeekNext _ c (alone word _) (look P word (codes "pprev") lines.PeekPrev _ c (alone word _) (look P word (codes "index") lines.Index _ c (alone word _)
    (look P word (codes "len") lines.Len _ c (alone word _) (look P word (codes "step") lines.Next _ c (alone word _) (look P word (codes "remove") lines.RemoveCurrent _ c (alone word _)
    (look P word (codes "end") lines.End _ c (alone word _) (in_none P c)))))))))) is

some_bare : (word : List ℕ) (v : CursorVerb) → option_map (λ c. verbs.Bare c) (bare_of word) ≡ Some v → IsWord word v
some_bare word v is =
    let (c, found, same) = mapped (λ c. verbs.Bare c) (bare_of word) v is in subst (λ (w : CursorVerb). IsWord word w) same (bare_word word c found)

verb_word : (word : List ℕ) (v : CursorVerb) → verb_of word ≡ Some v → IsWord word v
verb_word word v is =
    let P = IsWord word in
    look P word (codes "set") verbs.Set _ v (λ e. e) (look P word (codes "setn") verbs.SetNext _ v (λ e. e) (look P word (codes "setp") verbs.SetPrev _ v (λ e. e)
    (look P word (codes "first") verbs.RemoveFirst _ v (λ e. e) (look P word (codes "insa") verbs.InsertAfter _ v (λ e. e) (look P word (codes "insb") verbs.InsertBefore _ v (λ e. e)
    (look P word (codes "splita") verbs.SplitAfter _ v (λ e. e) (look P word (codes "splitb") verbs.SplitBefore _ v (λ e. e) (look P word (codes "splicea") verbs.SpliceAfter _ v (λ e. e)
    (look P word (codes "spliceb") verbs.SpliceBefore _ v (λ e. e) (some_bare word v)))))))))) is

command_words : (v : CursorVerb) (word : List ℕ) (ws : List (List ℕ)) (c : CursorCommand) → IsWord word v → command_with v ws ≡ Some c → (word ∷ ws ≡ words_of c) × OtherFits c
command_words (verbs.Bare command) = λ word ws c same is. made words_of OtherFits nothing_form word (λ none. command) (λ none. same.0) (λ none can. same.1) word ws c refl is
command_words verbs.Set = made words_of OtherFits value_form (codes "set") (λ v. lines.Set v) (λ v. refl) (λ v can. tt)
command_words verbs.SetNext = made words_of OtherFits value_form (codes "setn") (λ v. lines.SetNext v) (λ v. refl) (λ v can. tt)
command_words verbs.SetPrev = made words_of OtherFits value_form (codes "setp") (λ v. lines.SetPrev v) (λ v. refl) (λ v can. tt)
command_words verbs.RemoveFirst = made words_of OtherFits (only_form filter_kind) (codes "first") (λ f. lines.RemoveFirst f) (λ f. refl) (λ f can. tt)
command_words verbs.InsertAfter = made words_of OtherFits item_form (codes "insa") (λ i. lines.InsertAfter i) (λ i. refl) (λ i can. tt)
command_words verbs.InsertBefore = made words_of OtherFits item_form (codes "insb") (λ i. lines.InsertBefore i) (λ i. refl) (λ i can. tt)
command_words verbs.SplitAfter = made words_of OtherFits structure_form (codes "splita") (λ l. lines.SplitAfter l) (λ l. refl) (λ l can. can)
command_words verbs.SplitBefore = made words_of OtherFits structure_form (codes "splitb") (λ l. lines.SplitBefore l) (λ l. refl) (λ l can. can)
command_words verbs.SpliceAfter = made words_of OtherFits structure_form (codes "splicea") (λ l. lines.SpliceAfter l) (λ l. refl) (λ l can. can)
command_words verbs.SpliceBefore = made words_of OtherFits structure_form (codes "spliceb") (λ l. lines.SpliceBefore l) (λ l. refl) (λ l can. can)

all_words : (ws : List (List ℕ)) (c : CursorCommand) → cursor_command_of_words ws ≡ Some c → (ws ≡ words_of c) × OtherFits c
all_words [] c is = cc
all_words (word ∷ ws) c is = let (v, read, rest) = chained (λ v. command_with v ws) (verb_of word) c is in command_words v word ws c (verb_word word v read) rest

pub is_spelled : (line : List ℕ) (command : Option CursorCommand) → command ≡ cursor_command_of line → IfSome command (λ c. line ≡ spelling_of c)
is_spelled line None is = tt
is_spelled line (Some c) is = spelled_line line (words_of c) (all_words (words line) c (sym is)).0

pub line_fits : (line : List ℕ) (command : Option CursorCommand) → command ≡ cursor_command_of line → IfSome command OtherFits
line_fits line None is = tt
line_fits line (Some c) is = (all_words (words line) c (sym is)).1

spelled : (c : CursorCommand) → OtherFits c → HasNumbers c → cursor_command_of (spelling_of c) ≡ Some c
spelled lines.MoveNext fits numbers = read_back cursor_command_of_words nothing_form (codes "next") (λ none. lines.MoveNext) tt refl refl tt
spelled lines.MovePrev fits numbers = read_back cursor_command_of_words nothing_form (codes "prev") (λ none. lines.MovePrev) tt refl refl tt
spelled lines.Current fits numbers = read_back cursor_command_of_words nothing_form (codes "cur") (λ none. lines.Current) tt refl refl tt
spelled lines.PeekNext fits numbers = read_back cursor_command_of_words nothing_form (codes "pnext") (λ none. lines.PeekNext) tt refl refl tt
spelled lines.PeekPrev fits numbers = read_back cursor_command_of_words nothing_form (codes "pprev") (λ none. lines.PeekPrev) tt refl refl tt
spelled lines.Index fits numbers = read_back cursor_command_of_words nothing_form (codes "index") (λ none. lines.Index) tt refl refl tt
spelled lines.Len fits numbers = read_back cursor_command_of_words nothing_form (codes "len") (λ none. lines.Len) tt refl refl tt
spelled (lines.Set value) fits numbers = read_back cursor_command_of_words value_form (codes "set") (λ v. lines.Set v) value refl refl numbers
spelled (lines.SetNext value) fits numbers = read_back cursor_command_of_words value_form (codes "setn") (λ v. lines.SetNext v) value refl refl numbers
spelled (lines.SetPrev value) fits numbers = read_back cursor_command_of_words value_form (codes "setp") (λ v. lines.SetPrev v) value refl refl numbers
spelled lines.Next fits numbers = read_back cursor_command_of_words nothing_form (codes "step") (λ none. lines.Next) tt refl refl tt
spelled lines.RemoveCurrent fits numbers = read_back cursor_command_of_words nothing_form (codes "remove") (λ none. lines.RemoveCurrent) tt refl refl tt
spelled (lines.RemoveFirst filter) fits numbers = read_back cursor_command_of_words (only_form filter_kind) (codes "first") (λ f. lines.RemoveFirst f) filter refl refl tt
spelled (lines.InsertAfter item) fits numbers = read_back cursor_command_of_words item_form (codes "insa") (λ i. lines.InsertAfter i) item refl refl numbers
spelled (lines.InsertBefore item) fits numbers = read_back cursor_command_of_words item_form (codes "insb") (λ i. lines.InsertBefore i) item refl refl numbers
spelled (lines.SplitAfter list) fits numbers = read_back cursor_command_of_words structure_form (codes "splita") (λ l. lines.SplitAfter l) list refl refl fits
spelled (lines.SplitBefore list) fits numbers = read_back cursor_command_of_words structure_form (codes "splitb") (λ l. lines.SplitBefore l) list refl refl fits
spelled (lines.SpliceAfter list) fits numbers = read_back cursor_command_of_words structure_form (codes "splicea") (λ l. lines.SpliceAfter l) list refl refl fits
spelled (lines.SpliceBefore list) fits numbers = read_back cursor_command_of_words structure_form (codes "spliceb") (λ l. lines.SpliceBefore l) list refl refl fits
spelled lines.End fits numbers = read_back cursor_command_of_words nothing_form (codes "end") (λ none. lines.End) tt refl refl tt

pub read_spelled : (line : List ℕ) (command : CursorCommand) → OtherFits command → HasNumbers command → spelling_of command ≡ line → cursor_command_of line ≡ Some command
read_spelled line command fits numbers is = sym (ap cursor_command_of is) ∙ spelled command fits numbers
