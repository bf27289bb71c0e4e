-- Bytes that leave a reader or come to a writer, one piece after the other.
use Rattle.std.specs.Prelude.{◌≡◌, ℕ, List, [], ◌++◌, Option, None, Some, refl}
use Rattle.std.specs.Option.{ForSome}
use Rattle.std.specs.Io.KnownBytes.{Consumes, Appends}
use Rattle.std.proofs.Common.{sym, ◌∙◌, ap, append_assoc}
use Rattle.std.proofs.lemmas.List.{append-nil}

pub Consumes-nothing : (s : Option (List ℕ)) → Consumes s s []
Consumes-nothing None = tt
Consumes-nothing (Some xs) = refl

pub Consumes-more : (s t u : Option (List ℕ)) (xs ys : List ℕ) → Consumes s t xs → Consumes t u ys →
    Consumes s u (xs ++ ys)
Consumes-more None t u xs ys p q = tt
Consumes-more (Some a) None u xs ys p q = absurd p
Consumes-more (Some a) (Some b) None xs ys p q = absurd q
Consumes-more (Some a) (Some b) (Some c) xs ys p q = p ∙ ap (λ (zs : List ℕ). xs ++ zs) q ∙ sym (append_assoc xs ys c)

pub Appends-nothing : (s : Option (List ℕ)) → Appends s s []
Appends-nothing None = tt
Appends-nothing (Some xs) = sym (append-nil xs)

pub Appends-more : (s t u : Option (List ℕ)) (xs ys : List ℕ) → Appends s t xs → Appends t u ys → Appends s u (xs ++ ys)
Appends-more None t u xs ys p q = tt
Appends-more (Some a) None u xs ys p q = absurd p
Appends-more (Some a) (Some b) None xs ys p q = absurd q
Appends-more (Some a) (Some b) (Some c) xs ys p q = q ∙ ap (λ (zs : List ℕ). zs ++ ys) p ∙ append_assoc a xs ys

-- no known byte is left
abbrev pub IsReadOut : Option (List ℕ) → Type 0
IsReadOut left = ForSome left (λ xs. xs ≡ [])

-- A source that gave these bytes: its reader did, where what it has left is known. From its end on it gave none, and
-- stayed there.
abbrev pub Gives : (left left' : Option (List ℕ)) (ended ended' : Type 0) (bytes : List ℕ) → Type 0
Gives left left' ended ended' bytes = Consumes left left' bytes × (ended → (bytes ≡ []) × ended')

pub gives-nothing : (s : Option (List ℕ)) (ended : Type 0) → Gives s s ended ended []
gives-nothing s ended = (Consumes-nothing s, λ at_end. (refl, at_end))

pub gives-more : (s t u : Option (List ℕ)) (es et eu : Type 0) (xs ys : List ℕ) → Gives s t es et xs →
    Gives t u et eu ys → Gives s u es eu (xs ++ ys)
gives-more s t u es et eu xs ys (p, stays) (q, stays') = (
  Consumes-more s t u xs ys p q,
  λ at_end.
      let first = stays at_end in
      let second = stays' first.1 in
      (ap (λ (zs : List ℕ). zs ++ ys) first.0 ∙ second.0, second.1),
)
