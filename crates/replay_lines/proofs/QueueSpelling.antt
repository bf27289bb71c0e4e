-- A line of mode queue is a command's exactly if it is that command's spelling.
use Rattle.std.proofs.Common.{◌≡◌, ℕ, List, [], ◌∷◌, Option, Some, None, IfSome, refl, sym, ◌∙◌, ap, codes}
use Rattle.replay_lines.specs.declared.queue_command.QueueCommand.{QueueCommand}
use Rattle.replay_lines.specs.declared.queue_command.QueueCommand.TheVariants as commands
use Rattle.replay_lines.specs.declared.queue_command.Verb.{Verb}
use Rattle.replay_lines.specs.declared.queue_command.Verb.TheVariants as verbs
use Rattle.replay_lines.specs.Words.{words}
use Rattle.replay_lines.specs.QueueScript.{call_of, verb_of, command_with, command_of_words, command_of}
use Rattle.replay_lines.specs.QueueSpelling.{words_of, spelling_of, HasNumbers}
use Rattle.replay_lines.proofs.Forms.{chained, look, in_none, nothing_form, value_form, party_and_number_form, party_and_item_form, party_and_perhaps_item_form, made, read_back, spelled_line}

abbrev word_of : Verb → List ℕ
word_of verbs.Party = codes "party"
word_of verbs.Room = codes "room"
word_of verbs.Clear = codes "clear"
word_of verbs.Swap = codes "swap"
word_of verbs.Link = codes "link"
word_of verbs.Take = codes "take"
word_of verbs.ReadNext = codes "next"
word_of verbs.ReadHead = codes "head"
word_of verbs.Give = codes "give"
word_of verbs.Enqueue = codes "enq"
word_of verbs.Dequeue = codes "deq"
word_of verbs.Batch = codes "batch"

call_word : (word : List ℕ) (v : Verb) → call_of word ≡ Some v → word ≡ word_of v
call_word word v is =
    let P : Verb → Type 0 = λ w. word ≡ word_of w in
    look P word (codes "party") verbs.Party _ v (λ e. e) (look P word (codes "room") verbs.Room _ v (λ e. e) (look P word (codes "enq") verbs.Enqueue _ v (λ e. e)
    (look P word (codes "deq") verbs.Dequeue _ v (λ e. e) (look P word (codes "batch") verbs.Batch _ v (λ e. e) (in_none P v))))) is

verb_word : (word : List ℕ) (v : Verb) → verb_of word ≡ Some v → word ≡ word_of v
verb_word word v is =
    let P : Verb → Type 0 = λ w. word ≡ word_of w in
    look P word (codes "clear") verbs.Clear _ v (λ e. e) (look P word (codes "swap") verbs.Swap _ v (λ e. e) (look P word (codes "link") verbs.Link _ v (λ e. e)
    (look P word (codes "take") verbs.Take _ v (λ e. e) (look P word (codes "next") verbs.ReadNext _ v (λ e. e) (look P word (codes "head") verbs.ReadHead _ v (λ e. e)
    (look P word (codes "give") verbs.Give _ v (λ e. e) (call_word word v))))))) is

command_words : (v : Verb) (word : List ℕ) (ws : List (List ℕ)) (c : QueueCommand) → word ≡ word_of v → command_with v ws ≡ Some c → (word ∷ ws ≡ words_of c) × HasNumbers c
command_words verbs.Party = made words_of HasNumbers nothing_form (codes "party") (λ none. commands.Party) (λ none. refl) (λ none can. tt)
command_words verbs.Room = made words_of HasNumbers value_form (codes "room") (λ p. commands.Room p) (λ p. refl) (λ p can. can)
command_words verbs.Clear = made words_of HasNumbers party_and_perhaps_item_form (codes "clear") (λ x. commands.Clear x.0 x.1) (λ x. refl) (λ x can. can)
command_words verbs.Swap = made words_of HasNumbers value_form (codes "swap") (λ p. commands.Swap p) (λ p. refl) (λ p can. can)
command_words verbs.Link = made words_of HasNumbers value_form (codes "link") (λ p. commands.Link p) (λ p. refl) (λ p can. can)
command_words verbs.Take = made words_of HasNumbers value_form (codes "take") (λ p. commands.Take p) (λ p. refl) (λ p can. can)
command_words verbs.ReadNext = made words_of HasNumbers value_form (codes "next") (λ p. commands.ReadNext p) (λ p. refl) (λ p can. can)
command_words verbs.ReadHead = made words_of HasNumbers value_form (codes "head") (λ p. commands.ReadHead p) (λ p. refl) (λ p can. can)
command_words verbs.Give = made words_of HasNumbers value_form (codes "give") (λ p. commands.Give p) (λ p. refl) (λ p can. can)
command_words verbs.Enqueue = made words_of HasNumbers party_and_item_form (codes "enq") (λ x. commands.Enqueue x.0 x.1) (λ x. refl) (λ x can. can)
command_words verbs.Dequeue = made words_of HasNumbers value_form (codes "deq") (λ p. commands.Dequeue p) (λ p. refl) (λ p can. can)
command_words verbs.Batch = made words_of HasNumbers party_and_number_form (codes "batch") (λ x. commands.Batch x.0 x.1) (λ x. refl) (λ x can. can)

all_words : (ws : List (List ℕ)) (c : QueueCommand) → command_of_words ws ≡ Some c → (ws ≡ words_of c) × HasNumbers c
all_words [] c is = cc
all_words (word ∷ ws) c is = let (v, read, rest) = chained (λ v. command_with v ws) (verb_of word) c is in command_words v word ws c (verb_word word v read) rest

pub is_spelled : (line : List ℕ) (command : Option QueueCommand) → command ≡ command_of line → IfSome command (λ c. line ≡ spelling_of c)
is_spelled line None is = tt
is_spelled line (Some c) is = spelled_line line (words_of c) (all_words (words line) c (sym is)).0

spelled : (c : QueueCommand) → HasNumbers c → command_of (spelling_of c) ≡ Some c
spelled commands.Party numbers = read_back command_of_words nothing_form (codes "party") (λ none. commands.Party) tt refl refl tt
spelled (commands.Room p) numbers = read_back command_of_words value_form (codes "room") (λ p. commands.Room p) p refl refl numbers
spelled (commands.Clear p item) numbers = read_back command_of_words party_and_perhaps_item_form (codes "clear") (λ x. commands.Clear x.0 x.1) (p, item) refl refl numbers
spelled (commands.Swap p) numbers = read_back command_of_words value_form (codes "swap") (λ p. commands.Swap p) p refl refl numbers
spelled (commands.Link p) numbers = read_back command_of_words value_form (codes "link") (λ p. commands.Link p) p refl refl numbers
spelled (commands.Take p) numbers = read_back command_of_words value_form (codes "take") (λ p. commands.Take p) p refl refl numbers
spelled (commands.ReadNext p) numbers = read_back command_of_words value_form (codes "next") (λ p. commands.ReadNext p) p refl refl numbers
spelled (commands.ReadHead p) numbers = read_back command_of_words value_form (codes "head") (λ p. commands.ReadHead p) p refl refl numbers
spelled (commands.Give p) numbers = read_back command_of_words value_form (codes "give") (λ p. commands.Give p) p refl refl numbers
spelled (commands.Enqueue p item) numbers = read_back command_of_words party_and_item_form (codes "enq") (λ x. commands.Enqueue x.0 x.1) (p, item) refl refl numbers
spelled (commands.Dequeue p) numbers = read_back command_of_words value_form (codes "deq") (λ p. commands.Dequeue p) p refl refl numbers
spelled (commands.Batch p n) numbers = read_back command_of_words party_and_number_form (codes "batch") (λ x. commands.Batch x.0 x.1) (p, n) refl refl numbers

pub read_spelled : (line : List ℕ) (command : QueueCommand) → HasNumbers command → spelling_of command ≡ line → command_of line ≡ Some command
read_spelled line command numbers is = sym (ap command_of is) ∙ spelled command numbers
