-- What a history says, read from either end.
use Rattle.std.proofs.Common.{◌≡◌, ◌≢◌, ℕ, ◌+◌, List, [], ◌∷◌, ◌++◌, reverse, drop, Option, None, Bool, true, false, refl, sym, ap, ◌∙◌, append_assoc, append-nil, arith}
use Rattle.std.proofs.lemmas.List.{reverse-append}
use Rattle.std.proofs.lemmas.List.Concat.{flat_map-append}
use Rattle.cordyceps_queue.specs.History as told
use Rattle.cordyceps_queue.specs.History.{Event, Swap, Link, Take, Busy, Look, Out, Empty, Free, Ring, Clear, holder_after, holder_from, actor, more_if, count_of}
use Rattle.cordyceps_queue.specs.Past as past

-- what came out of a legal history, followed by what it holds, is what came in
pub in_order : (P E : Type 0) (h : List (Event P E)) → past.IsLegalReversed h → past.went_reversed h ++ past.held_reversed h ≡ past.came_reversed h
in_order P E [] legal = refl
in_order P E (Event.Swap p e ∷ h) legal = sym (append_assoc (past.went_reversed h) (past.held_reversed h) (e ∷ [])) ∙ ap (λ l. l ++ e ∷ []) (in_order P E h legal.1)
in_order P E (Event.Out p e ∷ h) legal =
    let (_, _, front) = legal.0 in
    append_assoc (past.went_reversed h) (e ∷ []) (drop 1 (past.held_reversed h)) ∙ ap (λ l. past.went_reversed h ++ e ∷ drop 1 l) front ∙ ap (λ l. past.went_reversed h ++ l) (sym front) ∙ in_order P E h legal.1
in_order P E (Event.Link p ∷ h) legal = in_order P E h legal.1
in_order P E (Event.Take p ∷ h) legal = in_order P E h legal.1
in_order P E (Event.Busy p ∷ h) legal = in_order P E h legal.1
in_order P E (Event.Look p ∷ h) legal = in_order P E h legal.1
in_order P E (Event.Empty p ∷ h) legal = in_order P E h legal.1
in_order P E (Event.Free p ∷ h) legal = in_order P E h legal.1
in_order P E (Event.Ring p ∷ h) legal = in_order P E h legal.1
in_order P E (Event.Clear p ∷ h) legal = in_order P E h legal.1

pub reverse-cons : {A : Type 0} (x : A) (xs : List A) → reverse (x ∷ xs) ≡ reverse xs ++ x ∷ []
reverse-cons x xs = reverse-append (x ∷ []) xs

module _ {P E : Type 0} where
  pub holder_from-append : (o : Option P) (h t : List (Event P E)) → holder_from o (h ++ t) ≡ holder_from (holder_from o h) t
  holder_from-append o [] t = refl
  holder_from-append o (x ∷ h) t = holder_from-append (holder_after o x) h t

  -- one event before all others, read from the newest event back
  came_last : (x : Event P E) (g : List (Event P E)) → past.came_reversed g ++ told.came (x ∷ []) ≡ past.came_reversed (x ∷ g)
  came_last (Swap p e) g = refl
  came_last (Link p) g = append-nil (past.came_reversed g)
  came_last (Take p) g = append-nil (past.came_reversed g)
  came_last (Busy p) g = append-nil (past.came_reversed g)
  came_last (Look p) g = append-nil (past.came_reversed g)
  came_last (Out p e) g = append-nil (past.came_reversed g)
  came_last (Empty p) g = append-nil (past.came_reversed g)
  came_last (Free p) g = append-nil (past.came_reversed g)
  came_last (Ring p) g = append-nil (past.came_reversed g)
  came_last (Clear p) g = append-nil (past.came_reversed g)

  went_last : (x : Event P E) (g : List (Event P E)) → past.went_reversed g ++ told.went (x ∷ []) ≡ past.went_reversed (x ∷ g)
  went_last (Out p e) g = refl
  went_last (Link p) g = append-nil (past.went_reversed g)
  went_last (Take p) g = append-nil (past.went_reversed g)
  went_last (Busy p) g = append-nil (past.went_reversed g)
  went_last (Look p) g = append-nil (past.went_reversed g)
  went_last (Swap p e) g = append-nil (past.went_reversed g)
  went_last (Empty p) g = append-nil (past.went_reversed g)
  went_last (Free p) g = append-nil (past.went_reversed g)
  went_last (Ring p) g = append-nil (past.went_reversed g)
  went_last (Clear p) g = append-nil (past.went_reversed g)

  pub came-reverse : (g : List (Event P E)) → told.came (reverse g) ≡ past.came_reversed g
  came-reverse [] = refl
  came-reverse (x ∷ g) = ap told.came (reverse-cons x g) ∙ flat_map-append told.comes (reverse g) (x ∷ []) ∙ ap (λ l. l ++ told.came (x ∷ [])) (came-reverse g) ∙ came_last x g

  pub went-reverse : (g : List (Event P E)) → told.went (reverse g) ≡ past.went_reversed g
  went-reverse [] = refl
  went-reverse (x ∷ g) = ap told.went (reverse-cons x g) ∙ flat_map-append told.goes (reverse g) (x ∷ []) ∙ ap (λ l. l ++ told.went (x ∷ [])) (went-reverse g) ∙ went_last x g

  pub holder-reverse : (g : List (Event P E)) → told.holder (reverse g) ≡ past.holder_reversed g
  holder-reverse [] = refl
  holder-reverse (x ∷ g) = ap told.holder (reverse-cons x g) ∙ holder_from-append None (reverse g) (x ∷ []) ∙ ap (λ o. holder_after o x) (holder-reverse g)

more_other : {A : Type 0} (b : Bool) (d : Dec A) (n : ℕ) → (A → ⊥) → more_if b d n ≡ n
more_other false d n not = refl
more_other true (yes a) n not = absurd (not a)
more_other true (no m) n not = omega arith

more_apart : {A : Type 0} (b : Bool) (d : Dec A) (m n k : ℕ) → k ≡ m + n → more_if b d k ≡ more_if b d m + n
more_apart false d m n k e = e
more_apart true d m n k e = omega arith

-- how many events of a kind are the party's: of two parts of a history, from either end, and of another's event
module _ {P E : Type 0} (same : Discrete P) (kind : Event P E → Bool) (q : P) where
  pub count-append : (h t : List (Event P E)) → count_of same kind q (h ++ t) ≡ count_of same kind q h + count_of same kind q t
  count-append [] t = omega arith
  count-append (x ∷ h) t = more_apart (kind x) (same q (actor x)) (count_of same kind q h) (count_of same kind q t) (count_of same kind q (h ++ t)) (count-append h t)

  pub count-reverse : (g : List (Event P E)) → count_of same kind q (reverse g) ≡ count_of same kind q g
  count-reverse [] = refl
  count-reverse (x ∷ g) = ap (count_of same kind q) (reverse-cons x g) ∙ (let r = count-reverse g in omega (arith, count-append (reverse g) (x ∷ []), count-append (x ∷ []) g))

  pub count_of_other : (x : Event P E) → actor x ≢ q → count_of same kind q (x ∷ []) ≡ 0
  count_of_other x not = more_other (kind x) (same q (actor x)) 0 (λ e. not (sym e))
