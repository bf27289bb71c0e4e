-- Words that are pairs of numbers, separated by a colon.
use Rattle.std.proofs.Common.{◌≡◌, ℕ, ◌+◌, ◌-◌, List, [], ◌∷◌, ◌++◌, length, take, drop, Some, None, Option, Bool, true, false, refl, sym, ◌∙◌, ap, nat_eq}
use Rattle.std.proofs.lemmas.List.Elements.{All-from_recursion}
use Rattle.std.proofs.lemmas.List.Splits.{slice_split_none, join_with_byte-slice_split}
use Rattle.std.proofs.lemmas.Bool.{ne_eqb}
use Rattle.std.specs.Char.{is_ascii_digit}
use Rattle.std.specs.Fmt.{decimal}
use Rattle.std.specs.Str.{all_ascii_digits}
use Rattle.std.specs.List.{AllByRecursion, slice_split, join_with_byte}
use Rattle.std.specs.Option.{option_map, option_and_then}
use Rattle.memchr.specs.Find.{IsFirstByte, is_byte}
use Rattle.cordyceps_commands.specs.declared.item.Item.{Item}
use Rattle.replay_lines.specs.Words.{number_of}
use Rattle.replay_lines.specs.LineWords.{item_of}
use Rattle.replay_lines.specs.SortedScript.{pair_of, pairs_of}
use Rattle.replay_lines.proofs.Numbers.{is_numeral, numeral_digits, both}
use Rattle.replay_lines.proofs.Splitting.{first_part, only_part}

abbrev colon : ℕ → Bool
colon b = nat_eq b 58

no_colon : (digit : ℕ) → is_ascii_digit digit ≡ true → colon digit ≡ false
no_colon digit is = ne_eqb digit 58 (λ same. let it : is_ascii_digit 58 ≡ true = rw same at is in cc)

clean : (bytes : List ℕ) → all_ascii_digits bytes ≡ true → AllByRecursion (λ b. colon b ≡ false) bytes
clean [] is = tt
clean (b ∷ bytes) is = let k = both (is_ascii_digit b) (all_ascii_digits bytes) is in (no_colon b k.0, clean bytes k.1)

-- a number has no colon
whole : (word : List ℕ) (n : ℕ) → number_of word ≡ Some n → slice_split colon word ≡ word ∷ []
whole word n is =
    let (small, same) = is_numeral word n is in
    slice_split_none colon word (All-from_recursion (λ b. colon b ≡ false) word (rw same (clean (decimal n) (numeral_digits n small))))

abbrev made : Option ℕ → Option ℕ → Option Item
made id value = option_map (λ (x : ℕ × ℕ). record { value = x.1; id = x.0 }) (option_and_then (λ i. option_map (λ v. (i, v)) value) id)

no_value : (id : Option ℕ) → made id None ≡ None
no_value None = refl
no_value (Some i) = refl

cut_parts : (first rest : List ℕ) (parts : List (List ℕ)) (value : Option ℕ) → number_of rest ≡ value → ((n : ℕ) → value ≡ Some n → parts ≡ rest ∷ []) → ((v : List ℕ) → parts ≡ v ∷ [] → v ≡ rest) →
    item_of (first ∷ parts) ≡ item_of (first ∷ rest ∷ [])
cut_parts first rest parts (Some n) is single only = rw (single n refl) refl
cut_parts first rest [] None is single only = sym (ap (made (number_of first)) is)
cut_parts first rest (v ∷ []) None is single only = rw (only v refl) refl
cut_parts first rest (v ∷ w ∷ parts) None is single only = sym (ap (made (number_of first)) is)

cut : (first rest : List ℕ) → item_of (first ∷ slice_split colon rest) ≡ item_of (first ∷ rest ∷ [])
cut first rest =
    cut_parts first rest (slice_split colon rest) (number_of rest) refl (λ n is. whole rest n is)
    (λ v is. ap (join_with_byte 58) (sym is) ∙ join_with_byte-slice_split 58 rest)

-- a word is read as what is before and after its first colon
pub read_pair : (word : List ℕ) (k : ℕ) → IsFirstByte (is_byte 58) word (Some k) → item_of (take k word ∷ take (length word - (k + 1)) (drop (k + 1) word) ∷ []) ≡ pair_of word
read_pair word k h = sym (ap item_of (first_part 58 word k h) ∙ cut (take k word) (take (length word - (k + 1)) (drop (k + 1) word)))

-- without a colon it is no pair
pub no_pair : (word : List ℕ) → IsFirstByte (is_byte 58) word None → None ≡ pair_of word
no_pair word h = rw (only_part 58 word h) (sym (no_value (number_of word)))

-- the pairs so far, and those of the words that are left, are all
abbrev pub MorePairs : List Item → List (List ℕ) → List (List ℕ) → Type 0
MorePairs items words all = option_map (λ more. items ++ more) (pairs_of words) ≡ pairs_of all
