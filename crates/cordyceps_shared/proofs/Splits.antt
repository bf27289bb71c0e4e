-- A seat may be split in two.
use Rattle.std.proofs.Common.{◌≡◌, ◌≢◌, ℕ, ◌≤◌, List, [], ◌∷◌, ◌++◌, length, set, refl, sym, ap, ◌∙◌, subst, arith, ne_eqb, length-set, length-append}
use mathlib.Core.Option.{some}
use lib.ListN.{get_elem?}
use Rattle.cordyceps_shared.specs.Shares.{Name, covers, keeps_half, gives_half}
use Rattle.cordyceps_shared.specs.Histories.{events, with_marks, NoneOf}
use Rattle.cordyceps_shared.specs.Knowing.{Known, Agrees, Below, SharesDisjoint, AllAgree, without_marks, known_keeping, known_giving}
use Rattle.cordyceps_shared.proofs.ChangedItems.{set_more}
use Rattle.cordyceps_shared.proofs.Counting.{tally_set, tally_snoc}
use Rattle.cordyceps_shared.proofs.PartyNames.{split_covers, keeps_some, gives_some}
use Rattle.cordyceps_shared.proofs.Ordering.{keeps_clear, gives_clear}
use Rattle.cordyceps_shared.proofs.StepEvents.{below_without, foreign_to}

module _ {X : Type 0} where
  -- a party that has no event marks none
  pub marked_new : (n j : ℕ) (h : List (ℕ × X)) → Below n h → with_marks n h ≡ without_marks (with_marks j h)
  marked_new n j [] b = refl
  marked_new n j (x ∷ xs) b = let low = b.0 in λ i. (ne_eqb x.0 n (λ e. omega arith) i, x.1) ∷ marked_new n j xs b.1 i

  pub below_front : (n : ℕ) (xs ys : List (ℕ × X)) → Below n (xs ++ ys) → Below n xs × Below n ys
  below_front n [] ys b = (tt, b)
  below_front n (x ∷ xs) ys b = let t = below_front n xs ys b.1 in ((b.0, t.0), t.1)

  pub below_less : (n m : ℕ) (h : List (ℕ × X)) → n ≤ m → Below n h → Below m h
  below_less n m [] l b = tt
  below_less n m (x ∷ xs) l b = let low = b.0 in (omega arith, below_less n m xs l b.1)

module _ {X V : Type 0} (knows : V → Known X) where
  pub owned_cut : (views : List V) (h : List (ℕ × X)) (j : ℕ) (v left right : V) → get_elem? views j ≡ some v → knows left ≡ known_keeping (knows v) → knows right ≡ known_giving (knows v) → (knows v).share ≢ [] → SharesDisjoint knows views h
      → SharesDisjoint knows (set views j left ++ right ∷ []) h
  owned_cut views h j v left right at is_left is_right named o =
      let l = ap (λ (k : Known X). k.share) is_left in
      let r = ap (λ (k : Known X). k.share) is_right in record {
        below = below_less (length views) (length (set views j left ++ right ∷ [])) h (omega (arith, length-append (set views j left) (right ∷ []), length-set views j left)) o.below;
        quiet = set_more (λ i u. (knows u).share ≡ [] → NoneOf i h) views j left right
            (λ none_of. absurd (keeps_some (knows v).share named (sym l ∙ none_of)))
            (λ none_of. absurd (gives_some (knows v).share named (sym r ∙ none_of)))
            (λ i u _ there none_of. o.quiet i u there none_of);
        long = o.long;
        apart = λ x long.
            let f : V → ℕ = λ u. covers x (knows u).share in
            let a = ap (covers x) l in let b = ap (covers x) r in
            omega (arith, o.apart x long, tally_snoc f (set views j left) right, tally_set f views j v left at, split_covers x (knows v).share);
      }

module _ {X V : Type 0} (actor : X → Name) (knows : V → Known X) where
  pub fits_cut : (views : List V) (h : List (ℕ × X)) (j : ℕ) (v left right : V) → get_elem? views j ≡ some v → knows left ≡ known_keeping (knows v) → knows right ≡ known_giving (knows v) → SharesDisjoint knows views h → AllAgree actor knows views h
      → AllAgree actor knows (set views j left ++ right ∷ []) h
  fits_cut views h j v left right at is_left is_right o fits =
      let n = length views in
      let f = fits j v at in
      let low = below_front n f.before f.later (subst (λ z. Below n z) f.is o.below) in
      let share = (knows v).share in
      let left_fits : Agrees actor h j (known_keeping (knows v)) = record { before = f.before; later = f.later; is = f.is; seen = f.seen; none = f.none; foreign = foreign_to actor share (keeps_half share) (λ x. keeps_clear x share) (events f.later) f.foreign; told = f.told; apart = f.apart } in
      let right_fits : Agrees actor h n (known_giving (knows v)) = record {
        before = f.before;
        later = f.later;
        is = f.is;
        seen = ap without_marks f.seen ∙ sym (marked_new n j f.before low.0);
        none = below_without n f.later n (omega arith) low.1;
        foreign = foreign_to actor share (gives_half share) (λ x. gives_clear x share) (events f.later) f.foreign;
        told = (events h, refl);
        apart = tt;
      } in
      set_more (λ i u. Agrees actor h i (knows u)) views j left right (subst (Agrees actor h j) (sym is_left) left_fits)
      (subst (λ (z : ℕ × Known X). Agrees actor h z.0 z.1) (λ c. (sym (length-set views j left) c, sym is_right c)) right_fits) (λ i u _ there. fits i u there)
