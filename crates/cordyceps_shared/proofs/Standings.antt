-- What a party knows at the start, what it knows of the history so far, and what a party knows that has the whole share.
use Rattle.std.proofs.Common.{◌≡◌, ℕ, zero, suc, ◌≤◌, List, [], ◌∷◌, ◌++◌, length, Bool, refl, sym, ap, ◌∙◌, subst, arith}
use mathlib.Core.Option.{some, some-injective, some-ne-none}
use lib.ListN.{get_elem?}
use Rattle.cordyceps_shared.specs.Shares.{Name, covers}
use Rattle.cordyceps_shared.specs.Histories.{events, with_marks, plain, AllOwn}
use Rattle.cordyceps_shared.specs.Knowing.{Known, Agrees, SharesDisjoint, AllAgree, IsPrefixOf, IsKnown, newcomer, merge_marks}
use Rattle.cordyceps_shared.proofs.Counting.{tally_one}
use Rattle.cordyceps_shared.proofs.EventOwners.{same_first, events_append}
use Rattle.cordyceps_shared.proofs.HistoryMarks.{marked_append, plain_marked}
use Rattle.cordyceps_shared.proofs.StepEvents.{all_own, whole_without}

-- the only item of a list
pub only : {A : Type 0} (a b : A) (j : ℕ) → get_elem? (a ∷ []) j ≡ some b → (j ≡ 0) × (a ≡ b)
only a b zero e = (refl, some-injective a b e)
only a b (suc j) e = absurd (some-ne-none b (sym e))

module _ {X : Type 0} where
  own_front : (xs ys : List (Bool × X)) → AllOwn (xs ++ ys) → AllOwn xs
  own_front [] ys a = tt
  own_front (x ∷ xs) ys a = (a.0, own_front xs ys a.1)

  -- of two prefixes of one list the shorter is a prefix of the longer
  shorter_is_prefix : (xs ys us vs : List X) → xs ++ us ≡ ys ++ vs → length xs ≤ length ys → IsPrefixOf xs ys
  shorter_is_prefix [] ys us vs e l = (ys, refl)
  shorter_is_prefix (x ∷ xs) [] us vs e l = absurd (omega arith)
  shorter_is_prefix (x ∷ xs) (y ∷ ys) us vs e l =
      let t = shorter_is_prefix xs ys us vs (cc) (omega arith) in
      (t.0, (λ k. same_first y x (ys ++ vs) (xs ++ us) (sym e) k ∷ t.1 k))

  length_plain : (xs : List (Bool × X)) → length (plain xs) ≡ length xs
  length_plain [] = refl
  length_plain (x ∷ xs) = ap suc (length_plain xs)

  -- the history is what the party has seen, and more
  pub seen_front : (actor : X → Name) (h : List (ℕ × X)) (j : ℕ) (k : Known X) (f : Agrees actor h j k) → events h ≡ plain k.seen ++ events f.later
  seen_front actor h j k f = ap events f.is ∙ (events_append f.before f.later ∙ ap (λ z. z ++ events f.later) (sym (ap plain f.seen ∙ plain_marked j f.before)))

  -- what a party was told that took another in is no longer than what it has seen
  pub told_short : (xs ys : List (Bool × X)) → length ys ≤ length (merge_marks xs ys)
  told_short [] ys = omega arith
  told_short (x ∷ xs) [] = omega arith
  told_short (x ∷ xs) (y ∷ ys) = let t = told_short xs ys in omega arith

  fits_new : (actor : X → Name) → Agrees actor [] 0 (newcomer {X = X})
  fits_new actor = record { before = []; later = []; is = refl; seen = refl; none = tt; foreign = tt; told = ([], refl); apart = tt }

module _ {X V : Type 0} (actor : X → Name) (knows : V → Known X) where
  pub is_known : (Legal : List X → Type 0) (front : (xs ys : List X) → Legal (xs ++ ys) → Legal xs) (views : List V) (h : List (ℕ × X)) (j : ℕ) (v : V) → SharesDisjoint knows views h → AllAgree actor knows views h → get_elem? views j ≡ some v → Legal (events h)
      → length (knows v).told ≤ length (knows v).seen → IsKnown Legal (knows v)
  is_known Legal front views h j v o fits at legal short =
      let k = knows v in
      let f = fits j v at in
      let all = seen_front actor h j k f in record {
        legal = front (plain k.seen) (events f.later) (subst Legal all legal);
        told = shorter_is_prefix (plain k.told) (plain k.seen) f.told.0 (events f.later) (sym f.told.1 ∙ all) (omega (arith, length_plain k.told, length_plain k.seen, short));
        apart = f.apart;
        alone = λ is. subst AllOwn (sym f.seen) (own_front (with_marks j f.before) (with_marks j f.later)
            (subst AllOwn (ap (with_marks j) f.is ∙ marked_append j f.before f.later) (all_own j h (λ i n. whole_without knows views h j i v o at is n))));
        long = o.long;
        once = λ x l. omega (arith, o.apart x l, tally_one (λ (u : V). covers x (knows u).share) views j v at);
      }

  pub opens : (v : V) → knows v ≡ newcomer → SharesDisjoint knows (v ∷ []) [] × AllAgree actor knows (v ∷ []) []
  opens v is = (
    record { below = tt; quiet = λ _ _ _ _. tt; long = 0; apart = λ x l. let c = ap (λ (k : Known X). covers x k.share) is in omega arith },
    λ j u e. let t = only v u j e in subst (λ (z : ℕ × Known X). Agrees actor [] z.0 z.1) (λ c. (sym t.0 c, (sym is ∙ ap knows t.1) c)) (fits_new actor),
  )
