-- The first part of a text that is split at a byte, as the first word of a line.
use Rattle.std.proofs.Common.{◌≡◌, ℕ, ◌+◌, ◌-◌, ◌<◌, List, [], ◌∷◌, ◌++◌, length, take, drop, Some, None, Bool, false, refl, sym, ◌∙◌, ap, arith, length-take, length-drop, add-one, nat_eq, eq-eqb}
use Rattle.std.proofs.lemmas.List.{take_all, get_or-take, get_or_default, take-append-drop}
use Rattle.std.proofs.lemmas.List.Splits.{slice_split_at, slice_split_none}
use Rattle.std.proofs.lemmas.Bool.{eqb-true, false_from_ne_true}
use Rattle.std.proofs.Math.Seq.{drop-cons}
use Rattle.std.specs.List.{All, slice_split}
use Rattle.memchr.specs.Find.{IsFirstByte, is_byte}
use Rattle.replay_lines.specs.Words.{words}

-- a text that is split at each of one byte
abbrev pub is_at : ℕ → ℕ → Bool
is_at byte b = nat_eq b byte

module _ (byte : ℕ) where
  -- its first part is before the first such byte, and the others are those of what is after it
  pub first_part : (text : List ℕ) (k : ℕ) → IsFirstByte (is_byte byte) text (Some k) → slice_split (is_at byte) text ≡ take k text ∷ slice_split (is_at byte) (take (length text - (k + 1)) (drop (k + 1) text))
  first_part text k h =
      let clean : All (λ b. nat_eq b byte ≡ false) (take k text) = λ j d lt.
      let le : j < k = omega (arith, length-take k text) in
      let within : j < length text = omega (arith, length-take k text) in
      rw (get_or-take k text j d le, get_or_default text j d 0 within) (false_from_ne_true _ (h.0.before j (omega arith) le)) in
      let cut : text ≡ take k text ++ byte ∷ drop (k + 1) text = sym (take-append-drop k text) ∙ ap (λ (xs : List ℕ). take k text ++ xs) (rw (drop-cons text k 0 h.0.high, add-one, eqb-true _ _ h.1) refl) in
      let all : take (length text - (k + 1)) (drop (k + 1) text) ≡ drop (k + 1) text = take_all (length text - (k + 1)) (drop (k + 1) text) (omega (arith, length-drop (k + 1) text)) in
      rw all (ap (slice_split (is_at byte)) cut ∙ slice_split_at (is_at byte) (take k text) byte (drop (k + 1) text) clean (eq-eqb byte byte refl))

  -- without such a byte it is its one part
  pub only_part : (text : List ℕ) → IsFirstByte (is_byte byte) text None → slice_split (is_at byte) text ≡ text ∷ []
  only_part text h = slice_split_none (is_at byte) text (λ j d lt. rw (get_or_default text j d 0 lt) (false_from_ne_true _ (h j (omega arith) lt)))

pub first_word : (rest : List ℕ) (k : ℕ) → IsFirstByte (is_byte 32) rest (Some k) → words rest ≡ take k rest ∷ words (take (length rest - (k + 1)) (drop (k + 1) rest))
first_word rest k h = first_part 32 rest k h

pub only_word : (rest : List ℕ) → IsFirstByte (is_byte 32) rest None → words rest ≡ rest ∷ []
only_word rest h = only_part 32 rest h
