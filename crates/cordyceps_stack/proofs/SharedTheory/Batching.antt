-- A batch that grows, in either order.
use Rattle.std.proofs.Common.{◌≡◌, Bool, true, false, List, [], ◌∷◌, ◌++◌, refl, sym, ap, ◌∙◌, append-nil, append_assoc}
use Rattle.std.proofs.lemmas.List.{reverse-append}
use Rattle.std.specs.Prelude.{reverse}
use Rattle.cordyceps_stack.specs.Shared.Batches.{in_order, with_next}

module _ {A : Type 0} where
  -- a batch, once what is left has come to it
  abbrev pub filled_up : Bool → List A → List A → List A
  filled_up true b left = reverse left ++ b
  filled_up false b left = b ++ left

  pub fills_none : (o : Bool) (left : List A) → filled_up o [] left ≡ in_order o left
  fills_none true left = append-nil (reverse left)
  fills_none false left = refl

  pub fills_next : (o : Bool) (b : List A) (x : A) (left : List A) → filled_up o (with_next o b x) left ≡ filled_up o b (x ∷ left)
  fills_next true b x left = sym (ap (λ l. l ++ b) (reverse-append (x ∷ []) left) ∙ append_assoc (reverse left) (x ∷ []) b)
  fills_next false b x left = append_assoc b (x ∷ []) left

  pub fills_all : (o : Bool) (b : List A) → filled_up o b [] ≡ b
  fills_all true b = refl
  fills_all false b = append-nil b
