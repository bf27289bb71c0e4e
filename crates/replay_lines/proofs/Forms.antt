-- Words of a kind and the one spelling of each, and the same of the words to the end of a line.
use Rattle.std.proofs.Common.{◌≡◌, ℕ, ◌^◌, ◌<◌, Bool, true, false, ◌&&◌, not, if◌then◌else◌, nat_eq, nat_lt, List, [], ◌∷◌, Option, Some, None, refl, sym, ◌∙◌, ap, subst, arith}
use Rattle.std.specs.Option.{option_map, option_and_then}
use Rattle.std.specs.List.{AllByRecursion, join_with_byte}
use Rattle.std.specs.Char.{is_ascii_digit}
use Rattle.std.specs.Str.{bytes_eq, all_ascii_digits}
use Rattle.std.specs.Fmt.{decimal}
use Rattle.std.proofs.lemmas.Bool.{lt-ltb, ltb-true, ne_eqb}
use Rattle.std.proofs.lemmas.List.Elements.{All-from_recursion}
use Rattle.std.proofs.lemmas.List.Splits.{slice_split_at, slice_split_none, join_with_byte-slice_split}
use Rattle.std.proofs.lemmas.Slice.Eq.{bytes_eq-Decides}
use Rattle.cordyceps_commands.specs.declared.item.Item.{Item}
use Rattle.replay_lines.specs.Words.{words, number_of, structure_number_of}
use Rattle.replay_lines.specs.LineWords.{only_word_of, only, before, no_word_of, structure_of, value_of, item_of, party_and_number_of, party_and_item_of, perhaps_item_of, party_and_perhaps_item_of, item_words, perhaps_item_words, HasItemNumbers, HasPerhapsItemNumbers}
use Rattle.replay_lines.proofs.Numbers.{is_numeral, numeral_read, numeral_digits, both, from_if}

pub mapped : {A B : Type 0} (f : A → B) (o : Option A) (b : B) → option_map f o ≡ Some b → (a : A) × (o ≡ Some a) × (f a ≡ b)
mapped f None b is = cc
mapped f (Some a) b is = (a, refl, cc)

pub chained : {A B : Type 0} (f : A → Option B) (o : Option A) (b : B) → option_and_then f o ≡ Some b → (a : A) × (o ≡ Some a) × (f a ≡ Some b)
chained f None b is = cc
chained f (Some a) b is = (a, refl, is)

-- no space is in these bytes
abbrev pub has_no_space : List ℕ → Bool
has_no_space [] = true
has_no_space (b ∷ bs) = not (nat_eq b 32) && has_no_space bs

abbrev pub IsOneWord : List ℕ → Type 0
IsOneWord bytes = AllByRecursion (λ b. nat_eq b 32 ≡ false) bytes

is_false : (b : Bool) → not b ≡ true → b ≡ false
is_false true is = cc
is_false false is = refl

pub one_word : (bytes : List ℕ) → has_no_space bytes ≡ true → IsOneWord bytes
one_word [] is = tt
one_word (b ∷ bytes) is = let k = both (not (nat_eq b 32)) (has_no_space bytes) is in (is_false (nat_eq b 32) k.0, one_word bytes k.1)

no_space : (digit : ℕ) → is_ascii_digit digit ≡ true → nat_eq digit 32 ≡ false
no_space digit is = ne_eqb digit 32 (λ same. let space : is_ascii_digit 32 ≡ true = rw same at is in cc)

digits_word : (bytes : List ℕ) → all_ascii_digits bytes ≡ true → IsOneWord bytes
digits_word [] is = tt
digits_word (b ∷ bytes) is = let k = both (is_ascii_digit b) (all_ascii_digits bytes) is in (no_space b k.0, digits_word bytes k.1)

pub split_joined : (word : List ℕ) (ws : List (List ℕ)) → IsOneWord word → AllByRecursion IsOneWord ws → words (join_with_byte 32 (word ∷ ws)) ≡ word ∷ ws
split_joined word [] one rest = slice_split_none (λ b. nat_eq b 32) word (All-from_recursion (λ b. nat_eq b 32 ≡ false) word one)
split_joined word (next ∷ ws) one rest =
    slice_split_at (λ b. nat_eq b 32) word 32 (join_with_byte 32 (next ∷ ws)) (All-from_recursion (λ b. nat_eq b 32 ≡ false) word one) refl
    ∙ ap (λ (t : List (List ℕ)). word ∷ t) (split_joined next ws rest.0 rest.1)

-- Words of a kind: what they are read as, the one spelling of that, and what can be spelled.
pub record IsKind {A : Type 0} (read : List ℕ → Option A) (spell : A → List ℕ) (Can : A → Type 0) : Type 0 where
  pub sound : (word : List ℕ) (a : A) → read word ≡ Some a → (word ≡ spell a) × Can a
  pub complete : (a : A) → Can a → read (spell a) ≡ Some a
  pub one : (a : A) → Can a → IsOneWord (spell a)

-- the same for words to the end of a line
pub record IsForm {A : Type 0} (read : List (List ℕ) → Option A) (spell : A → List (List ℕ)) (Can : A → Type 0) : Type 0 where
  pub sound : (ws : List (List ℕ)) (a : A) → read ws ≡ Some a → (ws ≡ spell a) × Can a
  pub complete : (a : A) → Can a → read (spell a) ≡ Some a
  pub ones : (a : A) → Can a → AllByRecursion IsOneWord (spell a)

abbrev pub IsSmall : ℕ → Type 0
IsSmall n = n < 2 ^ 64

abbrev pub IsStructure : ℕ → Type 0
IsStructure n = n < 16

pub number_kind : IsKind number_of decimal IsSmall
number_kind = record {
  sound = λ word n is. let k = is_numeral word n is in (k.1, k.0);
  complete = λ n small. numeral_read (decimal n) n small refl;
  one = λ n small. digits_word (decimal n) (numeral_digits n small);
}

if_small : (number : Option ℕ) (n : ℕ) → option_and_then (λ m. if nat_lt m 16 then Some m else None) number ≡ Some n → (number ≡ Some n) × (n < 16)
if_small None n is = cc
if_small (Some m) n is =
    let k = from_if (nat_lt m 16) (Some m) n is in let same : m ≡ n = cc in let few : m < 16 = ltb-true m 16 k.0 in (k.1, omega (arith, same, few))

pub structure_kind : IsKind structure_number_of decimal IsStructure
structure_kind = record {
  sound = λ word n is. let (read, few) = if_small (number_of word) n is in ((is_numeral word n read).1, few);
  complete = λ n few. let small : n < 2 ^ 64 = omega arith in rw (numeral_read (decimal n) n small refl, lt-ltb n 16 few) refl;
  one = λ n few. let small : n < 2 ^ 64 = omega arith in digits_word (decimal n) (numeral_digits n small);
}

pub nothing_form : IsForm no_word_of (λ (none : Unit {0}). []) (λ none. Unit {0})
nothing_form = record { sound = no_words; complete = λ none can. refl; ones = λ none can. tt } where
  no_words : (ws : List (List ℕ)) (none : Unit {0}) → no_word_of ws ≡ Some none → (ws ≡ []) × Unit {0}
  no_words [] none is = (refl, tt)
  no_words (word ∷ ws) none is = cc

the_word : (ws : List (List ℕ)) (word : List ℕ) → only_word_of ws ≡ Some word → ws ≡ word ∷ []
the_word [] word is = cc
the_word (w ∷ []) word is = let same : w ≡ word = cc in ap (λ (x : List ℕ). x ∷ []) same
the_word (w ∷ next ∷ ws) word is = cc

cons : (word next : List ℕ) (ws others : List (List ℕ)) → word ≡ next → ws ≡ others → word ∷ ws ≡ next ∷ others
cons word next ws others first rest = rw (first, rest) refl

module _ {A : Type 0} {read : List ℕ → Option A} {spell : A → List ℕ} {Can : A → Type 0} (kind : IsKind read spell Can) where
  pub only_form : IsForm (only read) (λ a. spell a ∷ []) Can
  only_form = record {
    sound = λ ws a is. let (word, last, found) = chained read (only_word_of ws) a is in
        let (same, can) = kind.sound word a found in (the_word ws word last ∙ ap (λ (w : List ℕ). w ∷ []) same, can);
    complete = λ a can. kind.complete a can;
    ones = λ a can. (kind.one a can, tt);
  }

  pub before_form : {B : Type 0} {rest : List (List ℕ) → Option B} {spell_rest : B → List (List ℕ)} {CanRest : B → Type 0} → IsForm rest spell_rest CanRest →
      IsForm (before read rest) (λ x. spell x.0 ∷ spell_rest x.1) (λ x. Can x.0 × CanRest x.1)
  before_form {B} {rest} {spell_rest} {CanRest} form = record {
    sound = both_words;
    complete = λ x can. rw (kind.complete x.0 can.0, form.complete x.1 can.1) refl;
    ones = λ x can. (kind.one x.0 can.0, form.ones x.1 can.1);
  } where
    both_words : (ws : List (List ℕ)) (x : A × B) → before read rest ws ≡ Some x → (ws ≡ spell x.0 ∷ spell_rest x.1) × (Can x.0 × CanRest x.1)
    both_words [] x is = cc
    both_words (word ∷ ws) x is =
        let (a, first, others) = chained (λ a. option_map (λ b. (a, b)) (rest ws)) (read word) x is in
        let (b, last, made) = mapped (λ b. (a, b)) (rest ws) x others in
        let (same, can) = kind.sound word a first in
        let (same_rest, can_rest) = form.sound ws b last in
        let P : A × B → Type 0 = λ y. (word ∷ ws ≡ spell y.0 ∷ spell_rest y.1) × (Can y.0 × CanRest y.1) in
        subst P made (cons word (spell a) ws (spell_rest b) same same_rest, (can, can_rest))

pub structure_form : IsForm structure_of (λ s. decimal s ∷ []) IsStructure
structure_form = only_form structure_kind

pub value_form : IsForm value_of (λ n. decimal n ∷ []) IsSmall
value_form = only_form number_kind

two_numbers_form : IsForm (before number_of value_of) (λ x. decimal x.0 ∷ decimal x.1 ∷ []) (λ x. (x.0 < 2 ^ 64) × (x.1 < 2 ^ 64))
two_numbers_form = before_form number_kind value_form

pub party_and_number_form : IsForm party_and_number_of (λ x. decimal x.0 ∷ decimal x.1 ∷ []) (λ x. (x.0 < 2 ^ 64) × (x.1 < 2 ^ 64))
party_and_number_form = two_numbers_form

pub item_form : IsForm item_of item_words HasItemNumbers
item_form = record {
  sound = words_item;
  complete = λ item can. ap (λ (o : Option (ℕ × ℕ)). option_map (λ x. record { value = x.1; id = x.0 }) o) (two_numbers_form.complete (item.id, item.value) can);
  ones = λ item can. two_numbers_form.ones (item.id, item.value) can;
} where
  words_item : (ws : List (List ℕ)) (item : Item) → item_of ws ≡ Some item → (ws ≡ item_words item) × HasItemNumbers item
  words_item ws item is =
      let make : ℕ × ℕ → Item = λ x. record { value = x.1; id = x.0 } in
      let (x, found, made) = mapped make (before number_of value_of ws) item is in
      let P : Item → Type 0 = λ i. (ws ≡ item_words i) × HasItemNumbers i in
      subst P made (two_numbers_form.sound ws x found)

pub party_and_item_form : IsForm party_and_item_of (λ x. decimal x.0 ∷ item_words x.1) (λ x. (x.0 < 2 ^ 64) × HasItemNumbers x.1)
party_and_item_form = before_form number_kind item_form

perhaps_item_form : IsForm perhaps_item_of perhaps_item_words HasPerhapsItemNumbers
perhaps_item_form = record { sound = perhaps_words; complete = back; ones = clean } where
  perhaps_words : (ws : List (List ℕ)) (item : Option Item) → perhaps_item_of ws ≡ Some item → (ws ≡ perhaps_item_words item) × HasPerhapsItemNumbers item
  perhaps_words [] item is =
      let same : None ≡ item = cc in
      let P : Option Item → Type 0 = λ o. ([] ≡ perhaps_item_words o) × HasPerhapsItemNumbers o in
      subst P same (refl, tt)
  perhaps_words (word ∷ ws) item is =
      let (i, found, made) = mapped (λ i. Some i) (item_of (word ∷ ws)) item is in
      let P : Option Item → Type 0 = λ o. (word ∷ ws ≡ perhaps_item_words o) × HasPerhapsItemNumbers o in
      subst P made (item_form.sound (word ∷ ws) i found)

  back : (item : Option Item) → HasPerhapsItemNumbers item → perhaps_item_of (perhaps_item_words item) ≡ Some item
  back None can = refl
  back (Some item) can = ap (λ (o : Option Item). option_map (λ i. Some i) o) (item_form.complete item can)

  clean : (item : Option Item) → HasPerhapsItemNumbers item → AllByRecursion IsOneWord (perhaps_item_words item)
  clean None can = tt
  clean (Some item) can = item_form.ones item can

pub party_and_perhaps_item_form : IsForm party_and_perhaps_item_of (λ x. decimal x.0 ∷ perhaps_item_words x.1) (λ x. (x.0 < 2 ^ 64) × HasPerhapsItemNumbers x.1)
party_and_perhaps_item_form = before_form number_kind perhaps_item_form

-- a word that is looked for in a chain of words
pub look : {V : Type 0} (P : V → Type 0) (word other : List ℕ) (x : V) (others : Option V) (v : V) → (word ≡ other → P x) → (others ≡ Some v → P v) →
    (if bytes_eq word other then Some x else others) ≡ Some v → P v
look {V} P word other x others v here later is = cases (bytes_eq word other) (bytes_eq-Decides word other).0 is where
  cases : (b : Bool) → (b ≡ true → word ≡ other) → (if b then Some x else others) ≡ Some v → P v
  cases true same is = let e : x ≡ v = cc in subst P e (here (same refl))
  cases false same is = later is

pub in_none : {V : Type 0} (P : V → Type 0) (v : V) → None ≡ Some v → P v
in_none P v is = cc

-- What was made of words of a form is spelled by them. M is what the lines of a mode mean.
pub made : {A M : Type 0} {read : List (List ℕ) → Option A} {spell : A → List (List ℕ)} {Can : A → Type 0} (words_of : M → List (List ℕ)) (Fits : M → Type 0) → IsForm read spell Can →
    (verb : List ℕ) (build : A → M) → ((a : A) → verb ∷ spell a ≡ words_of (build a)) → ((a : A) → Can a → Fits (build a)) →
    (word : List ℕ) (ws : List (List ℕ)) (m : M) → word ≡ verb → option_map build (read ws) ≡ Some m → (word ∷ ws ≡ words_of m) × Fits m
made {A} {M} {read} {spell} words_of Fits form verb build spelled fits word ws m same_word is =
    let (a, found, same) = mapped build (read ws) m is in
    let (words_are, can) = form.sound ws a found in
    let P : M → Type 0 = λ n. (word ∷ ws ≡ words_of n) × Fits n in
    subst P same (cons word verb ws (spell a) same_word words_are ∙ spelled a, fits a can)

-- the spelling of what can be spelled is read
pub read_back : {A M : Type 0} {read : List (List ℕ) → Option A} {spell : A → List (List ℕ)} {Can : A → Type 0} (read_words : List (List ℕ) → Option M) → IsForm read spell Can →
    (word : List ℕ) (build : A → M) (a : A) → has_no_space word ≡ true → read_words (word ∷ spell a) ≡ option_map build (read (spell a)) → Can a → read_words (words (join_with_byte 32 (word ∷ spell a))) ≡ Some (build a)
read_back {A} {M} {read} {spell} read_words form word build a clean is can =
    ap read_words (split_joined word (spell a) (one_word word clean) (form.ones a can)) ∙ is ∙ ap (λ (o : Option A). option_map build o) (form.complete a can)

-- a line is its words, separated by one space
pub spelled_line : (line : List ℕ) (ws : List (List ℕ)) → words line ≡ ws → line ≡ join_with_byte 32 ws
spelled_line line ws is = sym (join_with_byte-slice_split 32 line) ∙ ap (join_with_byte 32) is
