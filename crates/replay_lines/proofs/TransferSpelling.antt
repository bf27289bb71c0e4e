-- A line of mode transfer is a command's exactly if it is that command's spelling.
use Rattle.std.proofs.Common.{◌≡◌, ℕ, List, [], ◌∷◌, Option, Some, None, IfSome, refl, sym, ◌∙◌, ap, codes}
use Rattle.replay_lines.specs.declared.transfer_command.TransferCommand.{TransferCommand}
use Rattle.replay_lines.specs.declared.transfer_command.TransferCommand.TheVariants as commands
use Rattle.replay_lines.specs.declared.transfer_command.Verb.{Verb}
use Rattle.replay_lines.specs.declared.transfer_command.Verb.TheVariants as verbs
use Rattle.replay_lines.specs.Words.{words}
use Rattle.replay_lines.specs.TransferScript.{verb_of, command_with, command_of_words, command_of}
use Rattle.replay_lines.specs.TransferSpelling.{words_of, spelling_of, HasNumbers}
use Rattle.replay_lines.proofs.Forms.{chained, look, in_none, nothing_form, value_form, party_and_item_form, made, read_back, spelled_line}

abbrev word_of : Verb → List ℕ
word_of verbs.Party = codes "party"
word_of verbs.Room = codes "room"
word_of verbs.Load = codes "load"
word_of verbs.SetNext = codes "setnext"
word_of verbs.Exchange = codes "exch"
word_of verbs.Take = codes "take"
word_of verbs.Walk = codes "walk"
word_of verbs.Push = codes "push"
word_of verbs.TakeAll = codes "takeall"

verb_word : (word : List ℕ) (v : Verb) → verb_of word ≡ Some v → word ≡ word_of v
verb_word word v is =
    let P : Verb → Type 0 = λ w. word ≡ word_of w in
    look P word (codes "party") verbs.Party _ v (λ e. e) (look P word (codes "room") verbs.Room _ v (λ e. e) (look P word (codes "load") verbs.Load _ v (λ e. e)
    (look P word (codes "setnext") verbs.SetNext _ v (λ e. e) (look P word (codes "exch") verbs.Exchange _ v (λ e. e) (look P word (codes "take") verbs.Take _ v (λ e. e)
    (look P word (codes "walk") verbs.Walk _ v (λ e. e) (look P word (codes "push") verbs.Push _ v (λ e. e) (look P word (codes "takeall") verbs.TakeAll _ v (λ e. e) (in_none P v))))))))) is

command_words : (v : Verb) (word : List ℕ) (ws : List (List ℕ)) (c : TransferCommand) → word ≡ word_of v → command_with v ws ≡ Some c → (word ∷ ws ≡ words_of c) × HasNumbers c
command_words verbs.Party = made words_of HasNumbers nothing_form (codes "party") (λ none. commands.Party) (λ none. refl) (λ none can. tt)
command_words verbs.Room = made words_of HasNumbers value_form (codes "room") (λ p. commands.Room p) (λ p. refl) (λ p can. can)
command_words verbs.Load = made words_of HasNumbers party_and_item_form (codes "load") (λ x. commands.Load x.0 x.1) (λ x. refl) (λ x can. can)
command_words verbs.SetNext = made words_of HasNumbers value_form (codes "setnext") (λ p. commands.SetNext p) (λ p. refl) (λ p can. can)
command_words verbs.Exchange = made words_of HasNumbers value_form (codes "exch") (λ p. commands.Exchange p) (λ p. refl) (λ p can. can)
command_words verbs.Take = made words_of HasNumbers value_form (codes "take") (λ p. commands.Take p) (λ p. refl) (λ p can. can)
command_words verbs.Walk = made words_of HasNumbers value_form (codes "walk") (λ p. commands.Walk p) (λ p. refl) (λ p can. can)
command_words verbs.Push = made words_of HasNumbers party_and_item_form (codes "push") (λ x. commands.Push x.0 x.1) (λ x. refl) (λ x can. can)
command_words verbs.TakeAll = made words_of HasNumbers value_form (codes "takeall") (λ p. commands.TakeAll p) (λ p. refl) (λ p can. can)

all_words : (ws : List (List ℕ)) (c : TransferCommand) → command_of_words ws ≡ Some c → (ws ≡ words_of c) × HasNumbers c
all_words [] c is = cc
all_words (word ∷ ws) c is = let (v, read, rest) = chained (λ v. command_with v ws) (verb_of word) c is in command_words v word ws c (verb_word word v read) rest

pub is_spelled : (line : List ℕ) (command : Option TransferCommand) → command ≡ command_of line → IfSome command (λ c. line ≡ spelling_of c)
is_spelled line None is = tt
is_spelled line (Some c) is = spelled_line line (words_of c) (all_words (words line) c (sym is)).0

spelled : (c : TransferCommand) → HasNumbers c → command_of (spelling_of c) ≡ Some c
spelled commands.Party numbers = read_back command_of_words nothing_form (codes "party") (λ none. commands.Party) tt refl refl tt
spelled (commands.Room p) numbers = read_back command_of_words value_form (codes "room") (λ p. commands.Room p) p refl refl numbers
spelled (commands.Load p item) numbers = read_back command_of_words party_and_item_form (codes "load") (λ x. commands.Load x.0 x.1) (p, item) refl refl numbers
spelled (commands.SetNext p) numbers = read_back command_of_words value_form (codes "setnext") (λ p. commands.SetNext p) p refl refl numbers
spelled (commands.Exchange p) numbers = read_back command_of_words value_form (codes "exch") (λ p. commands.Exchange p) p refl refl numbers
spelled (commands.Take p) numbers = read_back command_of_words value_form (codes "take") (λ p. commands.Take p) p refl refl numbers
spelled (commands.Walk p) numbers = read_back command_of_words value_form (codes "walk") (λ p. commands.Walk p) p refl refl numbers
spelled (commands.Push p item) numbers = read_back command_of_words party_and_item_form (codes "push") (λ x. commands.Push x.0 x.1) (p, item) refl refl numbers
spelled (commands.TakeAll p) numbers = read_back command_of_words value_form (codes "takeall") (λ p. commands.TakeAll p) p refl refl numbers

pub read_spelled : (line : List ℕ) (command : TransferCommand) → HasNumbers command → spelling_of command ≡ line → command_of line ≡ Some command
read_spelled line command numbers is = sym (ap command_of is) ∙ spelled command numbers
