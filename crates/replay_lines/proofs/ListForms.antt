-- The words of mode list and their spellings.
use Rattle.std.proofs.Common.{◌≡◌, ℕ, suc, ◌^◌, ◌<◌, ◌≤◌, Bool, true, false, ◌||◌, if◌then◌else◌, nat_eq, nat_lt, List, [], ◌∷◌, length, Option, Some, None, refl, ◌∙◌, ap, subst, arith, codes}
use Rattle.std.specs.Option.{option_map}
use Rattle.std.specs.Fmt.{decimal}
use Rattle.std.proofs.lemmas.Bool.{le-ltb, ltb-false, eqb-true, eqb-false, ne_eqb}
use Rattle.cordyceps_commands.specs.declared.list_command.ListEnd.{ListEnd}
use Rattle.cordyceps_commands.specs.declared.list_command.ListEnd.TheVariants as ends
use Rattle.cordyceps_commands.specs.declared.list_command.Turn.{Turn}
use Rattle.cordyceps_commands.specs.declared.list_command.Turn.TheVariants as turn_letters
use Rattle.cordyceps_commands.specs.declared.list_command.Filter.{Filter}
use Rattle.cordyceps_commands.specs.declared.list_command.Filter.TheVariants as filters
use Rattle.replay_lines.specs.ListWords.{end_of, end_word, filter_of, filter_word, turn_of, letter_of, letters_of, turns_of, turns_word, turns_word_of, split_words_of, drain_words_of, end_word_of}
use Rattle.replay_lines.proofs.Forms.{IsKind, IsForm, IsOneWord, one_word, look, in_none, chained, mapped, number_kind, structure_form, value_form, only_form, before_form}

end_kind : IsKind end_of end_word (λ end. Unit {0})
end_kind = record { sound = is_word; complete = λ end can. back end; one = λ end can. clean end } where
  is_word : (word : List ℕ) (end : ListEnd) → end_of word ≡ Some end → (word ≡ end_word end) × Unit {0}
  is_word word end is =
      let P : ListEnd → Type 0 = λ e. (word ≡ end_word e) × Unit {0} in
      look P word (codes "front") ends.Front _ end (λ same. (same, tt)) (look P word (codes "back") ends.Back _ end (λ same. (same, tt)) (in_none P end)) is

  back : (end : ListEnd) → end_of (end_word end) ≡ Some end
  back ends.Front = refl
  back ends.Back = refl

  clean : (end : ListEnd) → IsOneWord (end_word end)
  clean ends.Front = one_word (codes "front") refl
  clean ends.Back = one_word (codes "back") refl

pub filter_kind : IsKind filter_of filter_word (λ filter. Unit {0})
filter_kind = record { sound = is_word; complete = λ filter can. back filter; one = λ filter can. clean filter } where
  is_word : (word : List ℕ) (filter : Filter) → filter_of word ≡ Some filter → (word ≡ filter_word filter) × Unit {0}
  is_word word filter is =
      let P : Filter → Type 0 = λ f. (word ≡ filter_word f) × Unit {0} in
      look P word (codes "even") filters.Even _ filter (λ same. (same, tt))
      (look P word (codes "alt") filters.Alternate _ filter (λ same. (same, tt)) (look P word (codes "all") filters.All _ filter (λ same. (same, tt)) (in_none P filter))) is

  back : (filter : Filter) → filter_of (filter_word filter) ≡ Some filter
  back filters.Even = refl
  back filters.Alternate = refl
  back filters.All = refl

  clean : (filter : Filter) → IsOneWord (filter_word filter)
  clean filters.Even = one_word (codes "even") refl
  clean filters.Alternate = one_word (codes "alt") refl
  clean filters.All = one_word (codes "all") refl

look_letter : (letter other : ℕ) (x : Turn) (others : Option Turn) (turn : Turn) → other ≡ letter_of x → (others ≡ Some turn → letter ≡ letter_of turn) → (b : Bool) → (b ≡ true → letter ≡ other) →
    (if b then Some x else others) ≡ Some turn → letter ≡ letter_of turn
look_letter letter other x others turn spelled later true same is = let e : x ≡ turn = cc in same refl ∙ spelled ∙ ap letter_of e
look_letter letter other x others turn spelled later false same is = later is

no_turn : (letter : ℕ) (turn : Turn) → None ≡ Some turn → letter ≡ letter_of turn
no_turn letter turn is = cc

is_letter : (letter : ℕ) (turn : Turn) → turn_of letter ≡ Some turn → letter ≡ letter_of turn
is_letter letter turn is =
    look_letter letter 110 turn_letters.Next _ turn refl
    (look_letter letter 98 turn_letters.NextBack _ turn refl (no_turn letter turn) (nat_eq letter 98) (eqb-true letter 98))
    (nat_eq letter 110) (eqb-true letter 110) is

both_same : (letter other : ℕ) (letters others : List ℕ) → letter ≡ other → letters ≡ others → letter ∷ letters ≡ other ∷ others
both_same letter other letters others first rest = rw (first, rest) refl

are_letters : (word : List ℕ) (turns : List Turn) → letters_of word ≡ Some turns → word ≡ turns_word turns
are_letters [] turns is = let none : [] ≡ turns = cc in ap turns_word none
are_letters (letter ∷ letters) turns is =
    let (turn, first, others) = chained (λ turn. option_map (λ turns. turn ∷ turns) (letters_of letters)) (turn_of letter) turns is in
    let (rest, read, made) = mapped (λ rest. turn ∷ rest) (letters_of letters) turns others in
    subst (λ (ts : List Turn). letter ∷ letters ≡ turns_word ts) made (both_same letter (letter_of turn) letters (turns_word rest) (is_letter letter turn first) (are_letters letters rest read))

turn_back : (turn : Turn) → turn_of (letter_of turn) ≡ Some turn
turn_back turn_letters.Next = refl
turn_back turn_letters.NextBack = refl

turns_back : (turns : List Turn) → letters_of (turns_word turns) ≡ Some turns
turns_back [] = refl
turns_back (turn ∷ turns) = rw (turn_back turn, turns_back turns) refl

turns_length : (turns : List Turn) → length (turns_word turns) ≡ length turns
turns_length [] = refl
turns_length (turn ∷ turns) = ap suc (turns_length turns)

letter_clean : (turn : Turn) → nat_eq (letter_of turn) 32 ≡ false
letter_clean turn_letters.Next = refl
letter_clean turn_letters.NextBack = refl

turns_clean : (turns : List Turn) → IsOneWord (turns_word turns)
turns_clean [] = tt
turns_clean (turn ∷ turns) = (letter_clean turn, turns_clean turns)

-- 1 to 64 turns
abbrev pub AreFew : List Turn → Type 0
AreFew turns = (0 < length turns) × (length turns ≤ 64)

few : (none many : Bool) (read : Option (List Turn)) (turns : List Turn) → (if none || many then None else read) ≡ Some turns → (none ≡ false) × (many ≡ false) × (read ≡ Some turns)
few true many read turns is = cc
few false true read turns is = cc
few false false read turns is = (refl, refl, is)

turns_kind : IsKind turns_of turns_word AreFew
turns_kind = record { sound = is_word; complete = back; one = λ turns can. turns_clean turns } where
  is_word : (word : List ℕ) (turns : List Turn) → turns_of word ≡ Some turns → (word ≡ turns_word turns) × AreFew turns
  is_word word turns is =
      let (some, most, read) = few (nat_eq (length word) 0) (nat_lt 64 (length word)) (letters_of word) turns is in
      let same : word ≡ turns_word turns = are_letters word turns read in
      let long : length word ≡ length turns = ap length same ∙ turns_length turns in
      let not_none : ¬ (length word ≡ 0) = eqb-false (length word) 0 some in
      let not_many : length word ≤ 64 = ltb-false 64 (length word) most in
      (same, (omega (arith, long, not_none), omega (arith, long)))

  back : (turns : List Turn) → AreFew turns → turns_of (turns_word turns) ≡ Some turns
  back turns can =
      let long = turns_length turns in
      let some : nat_eq (length (turns_word turns)) 0 ≡ false = ne_eqb (length (turns_word turns)) 0 (λ none. omega (arith, long, can.0)) in
      let most : nat_lt 64 (length (turns_word turns)) ≡ false = le-ltb 64 (length (turns_word turns)) (omega (arith, long, can.1)) in
      rw (some, most) (turns_back turns)

pub turns_form : IsForm turns_word_of (λ turns. turns_word turns ∷ []) AreFew
turns_form = only_form turns_kind

pub split_words_form : IsForm split_words_of (λ x. decimal x.0 ∷ decimal x.1 ∷ []) (λ x. (x.0 < 2 ^ 64) × (x.1 < 16))
split_words_form = before_form number_kind structure_form

pub drain_words_form : IsForm drain_words_of (λ x. filter_word x.0 ∷ decimal x.1 ∷ []) (λ x. Unit {0} × (x.1 < 2 ^ 64))
drain_words_form = before_form filter_kind value_form

pub end_form : IsForm end_word_of (λ end. end_word end ∷ []) (λ end. Unit {0})
end_form = only_form end_kind
