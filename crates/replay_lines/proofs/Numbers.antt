-- A word is a number exactly if it is the decimal numeral of one below 2 ^ 64.
use Rattle.std.proofs.Common.{◌≡◌, ℕ, zero, suc, ◌+◌, ◌-◌, ◌*◌, ◌^◌, ◌<◌, ◌≤◌, Bool, true, false, ◌&&◌, if◌then◌else◌, nat_eq, nat_lt, List, [], ◌∷◌, length, get_or, Option, Some, None, IfSome, refl, sym, ◌∙◌, ap, arith}
use Rattle.std.specs.Char.{is_ascii_digit}
use Rattle.std.specs.Fmt.{decimal}
use Rattle.std.specs.Str.{all_ascii_digits}
use Rattle.std.proofs.lemmas.Bool.{lt-ltb, ltb-true, ne_eqb, eqb-false}
use Rattle.std.proofs.lemmas.Fmt.{decimal-digits_value, digits_decimal, digits_value-decimal, decimal_nonempty, decimal_digit, first_decimal}
use Rattle.std.proofs.lemmas.Str.Parse.{IsNumeralModel, FoldsDigits, numerals_by_fold, tells_all_ascii_digits}
use Rattle.replay_lines.specs.Words.{number_from, number_of}

abbrev AreDigits : List ℕ → Type 0
AreDigits digits = all_ascii_digits digits ≡ true

pub both : (x y : Bool) → (x && y) ≡ true → (x ≡ true) × (y ≡ true)
both true y is = (refl, is)
both false y is = cc

-- the number whose first digits are value, and whose others follow
abbrev value_after : ℕ → List ℕ → ℕ
value_after value [] = value
value_after value (digit ∷ digits) = value_after (value * 10 + (digit - 48)) digits

folds : FoldsDigits value_after
folds = record { empty = λ n. refl; more = λ n c cs k. refl }

model : IsNumeralModel AreDigits (value_after 0)
model = numerals_by_fold AreDigits tells_all_ascii_digits value_after folds

grows : (value : ℕ) (digits : List ℕ) → value ≤ value_after value digits
grows value [] = omega arith
grows value (digit ∷ digits) = let more = grows (value * 10 + (digit - 48)) digits in omega arith

pub from_if : {A : Type 0} (b : Bool) (x : Option A) (y : A) → (if b then x else None) ≡ Some y → (b ≡ true) × (x ≡ Some y)
from_if true x y is = (refl, is)
from_if false x y is = cc

from_not : {A : Type 0} (b : Bool) (x : Option A) (y : A) → (if b then None else x) ≡ Some y → (b ≡ false) × (x ≡ Some y)
from_not true x y is = cc
from_not false x y is = (refl, is)

read_from : (value : ℕ) (digits : List ℕ) → AreDigits digits → value_after value digits < 2 ^ 64 → number_from value digits ≡ Some (value_after value digits)
read_from value [] all small = refl
read_from value (digit ∷ digits) all small =
    let k = both (is_ascii_digit digit) (all_ascii_digits digits) all in
    let more = grows (value * 10 + (digit - 48)) digits in
    rw (k.0, lt-ltb (value * 10 + (digit - 48)) 18446744073709551616 (omega arith)) (read_from (value * 10 + (digit - 48)) digits k.1 small)

was_from : (value : ℕ) (digits : List ℕ) (n : ℕ) → value < 2 ^ 64 → number_from value digits ≡ Some n → AreDigits digits × (n ≡ value_after value digits) × (n < 2 ^ 64)
was_from value [] n small is = let same : value ≡ n = cc in (refl, sym same, omega (arith, same))
was_from value (digit ∷ digits) n small is =
    let next = value * 10 + (digit - 48) in
    let k = from_if (is_ascii_digit digit && nat_lt next 18446744073709551616) (number_from next digits) n is in
    let tests = both (is_ascii_digit digit) (nat_lt next 18446744073709551616) k.0 in
    let (all, same, below) = was_from next digits n (ltb-true next 18446744073709551616 tests.1) k.1 in
    (rw tests.0 all, same, below)

numeral : (word : List ℕ) (n : ℕ) → 0 < length word → (get_or word 0 0 ≡ 48 → length word ≡ 1) → number_from 0 word ≡ Some n → (n < 2 ^ 64) × (word ≡ decimal n)
numeral word n some lead is =
    let (all, same, below) = was_from 0 word n (omega arith) is in
    (below, sym (ap decimal same ∙ decimal-digits_value model word all some lead (omega (arith, same))))

pub is_numeral : (word : List ℕ) (n : ℕ) → number_of word ≡ Some n → (n < 2 ^ 64) × (word ≡ decimal n)
is_numeral [] n is = cc
is_numeral (digit ∷ []) n is = numeral (digit ∷ []) n (omega arith) (λ _. refl) is
is_numeral (digit ∷ next ∷ digits) n is =
    let k = from_not (nat_eq digit 48) (number_from 0 (digit ∷ next ∷ digits)) n is in
    numeral (digit ∷ next ∷ digits) n (omega arith) (λ zero. absurd (eqb-false digit 48 k.0 zero)) k.1

read_numeral : (word : List ℕ) (n : ℕ) → n < 2 ^ 64 → decimal n ≡ word → number_from 0 word ≡ Some n
read_numeral word n small is =
    let all : AreDigits word = rw is at (digits_decimal model n small) in
    let value : value_after 0 word ≡ n = rw is at (digits_value-decimal model n small) in
    read_from 0 word all (omega (arith, value)) ∙ ap Some value

not_zero : (digit next : ℕ) (digits : List ℕ) (n : ℕ) → n < 2 ^ 64 → decimal n ≡ digit ∷ next ∷ digits → nat_eq digit 48 ≡ false
not_zero digit next digits zero small is = let one = ap length (sym (decimal_digit 0 (omega arith)) ∙ is) in absurd (omega arith)
not_zero digit next digits (suc n) small is =
    let first = rw is at (first_decimal (suc n) (omega arith) small) in ne_eqb digit 48 (λ same. omega (arith, same))

pub numeral_read : (word : List ℕ) (n : ℕ) → n < 2 ^ 64 → decimal n ≡ word → number_of word ≡ Some n
numeral_read [] n small is = let some = rw is at (decimal_nonempty n small) in absurd (omega arith)
numeral_read (digit ∷ []) n small is = read_numeral (digit ∷ []) n small is
numeral_read (digit ∷ next ∷ digits) n small is = rw (not_zero digit next digits n small is) (read_numeral (digit ∷ next ∷ digits) n small is)

pub is_numeral_of : (word : List ℕ) (number : Option ℕ) → number ≡ number_of word → IfSome number (λ n. word ≡ decimal n)
is_numeral_of word None is = tt
is_numeral_of word (Some n) is = (is_numeral word n (sym is)).1

pub numeral_digits : (n : ℕ) → n < 2 ^ 64 → all_ascii_digits (decimal n) ≡ true
numeral_digits n small = digits_decimal model n small
