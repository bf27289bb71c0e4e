-- A seat without a share may be split off, which tells what a party has seen, and a party may take such a seat in.
use Rattle.std.proofs.Common.{◌≡◌, ◌≢◌, ℕ, List, [], ◌++◌, ◌∷◌, length, set, refl, sym, ap, ◌∙◌, subst, arith, length-set, length-append}
use mathlib.Core.Option.{some}
use lib.ListN.{get_elem?}
use Rattle.cordyceps_shared.specs.Shares.{Name, covers}
use Rattle.cordyceps_shared.specs.Histories.{events, NoneOf}
use Rattle.cordyceps_shared.specs.Knowing.{Known, Agrees, Below, SharesDisjoint, AllAgree, without_marks, known_absorbed, known_telling, known_hearing}
use Rattle.cordyceps_shared.proofs.ChangedItems.{new_last, two_set, was_there}
use Rattle.cordyceps_shared.proofs.Counting.{tally_set, tally_snoc}
use Rattle.cordyceps_shared.proofs.Splits.{marked_new, below_front, below_less}
use Rattle.cordyceps_shared.proofs.Standings.{seen_front}
use Rattle.cordyceps_shared.proofs.StepEvents.{below_without, foreign_none}

module _ {X : Type 0} where
  -- what is left of a seat that was taken in
  fits_spent : (actor : X → Name) (h : List (ℕ × X)) (b : ℕ) (y : Known X) → y ≡ known_absorbed → NoneOf b h → Agrees actor h b y
  fits_spent actor h b y is none = subst (Agrees actor h b) (sym is) record { before = []; later = h; is = refl; seen = refl; none = none; foreign = foreign_none actor (events h); told = (events h, refl); apart = tt }

  -- what a seat knows that took it in
  fits_told : (actor : X → Name) (h : List (ℕ × X)) (a b : ℕ) (k l : Known X) → Agrees actor h a k → Agrees actor h b l → Agrees actor h a (known_hearing k l)
  fits_told actor h a b k l fk fl = record {
    before = fk.before;
    later = fk.later;
    is = fk.is;
    seen = fk.seen;
    none = fk.none;
    foreign = fk.foreign;
    told = (events fl.later, seen_front actor h b l fl);
    apart = tt;
  }

module _ {X V : Type 0} (knows : V → Known X) where
  -- a seat without a share is split off
  pub owned_more_seat : (views : List V) (h : List (ℕ × X)) (right : V) → (knows right).share ≡ [] → SharesDisjoint knows views h → SharesDisjoint knows (views ++ right ∷ []) h
  owned_more_seat views h right none o = record {
    below = below_less (length views) (length (views ++ right ∷ [])) h (omega (arith, length-append views (right ∷ []))) o.below;
    quiet = new_last (λ i u. (knows u).share ≡ [] → NoneOf i h) views right o.quiet (λ _. below_without (length views) h (length views) (omega arith) o.below);
    long = o.long;
    apart = λ x long.
        let f : V → ℕ = λ u. covers x (knows u).share in
        let b = ap (covers x) none in
        omega (arith, o.apart x long, tally_snoc f views right);
  }

  -- a seat takes in one without a share
  pub owned_heard : (views : List V) (h : List (ℕ × X)) (a b : ℕ) (v w x y : V) → get_elem? views a ≡ some v → b ≢ a → get_elem? (set views a x) b ≡ some w → (knows x).share ≡ (knows v).share → (knows w).share ≡ [] → (knows y).share ≡ [] → (knows v).share ≢ []
      → SharesDisjoint knows views h → SharesDisjoint knows (set (set views a x) b y) h
  owned_heard views h a b v w x y at apart there kept bare spent named o =
      let one = set views a x in
      let long = length-set one b y ∙ length-set views a x in record {
        below = subst (λ n. Below n h) (sym long) o.below;
        quiet = two_set (λ i u. (knows u).share ≡ [] → NoneOf i h) views a b x y
            (λ none_of. absurd (named (sym kept ∙ none_of)))
            (λ _. o.quiet b w (was_there views a b x w apart there) bare)
            (λ i u ne _ e none_of. o.quiet i u e none_of);
        long = o.long;
        apart = λ n l.
            let f : V → ℕ = λ u. covers n (knows u).share in
            let p = ap (covers n) kept in let q = ap (covers n) bare in let r = ap (covers n) spent in
            omega (arith, o.apart n l, tally_set f views a v x at, tally_set f one b w y there);
      }

module _ {X V : Type 0} (actor : X → Name) (knows : V → Known X) where
  pub fits_more_seat : (views : List V) (h : List (ℕ × X)) (j : ℕ) (v right : V) → get_elem? views j ≡ some v → knows right ≡ known_telling (knows v) → SharesDisjoint knows views h → AllAgree actor knows views h → AllAgree actor knows (views ++ right ∷ []) h
  fits_more_seat views h j v right at is o fits =
      let n = length views in
      let f = fits j v at in
      let low = below_front n f.before f.later (subst (λ z. Below n z) f.is o.below) in
      let right_fits : Agrees actor h n (known_telling (knows v)) = record {
        before = f.before;
        later = f.later;
        is = f.is;
        seen = ap without_marks f.seen ∙ sym (marked_new n j f.before low.0);
        none = below_without n f.later n (omega arith) low.1;
        foreign = foreign_none actor (events f.later);
        told = (events h, refl);
        apart = tt;
      } in
      new_last (λ i u. Agrees actor h i (knows u)) views right fits (subst (Agrees actor h n) (sym is) right_fits)

  pub fits_heard : (views : List V) (h : List (ℕ × X)) (a b : ℕ) (v w x y : V) → get_elem? views a ≡ some v → b ≢ a → get_elem? (set views a x) b ≡ some w → knows x ≡ known_hearing (knows v) (knows w) → knows y ≡ known_absorbed → (knows w).share ≡ []
      → SharesDisjoint knows views h → AllAgree actor knows views h → AllAgree actor knows (set (set views a x) b y) h
  fits_heard views h a b v w x y at apart there is_both is_spent bare o fits =
      let first = was_there views a b x w apart there in
      two_set (λ i u. Agrees actor h i (knows u)) views a b x y
      (subst (Agrees actor h a) (sym is_both) (fits_told actor h a b (knows v) (knows w) (fits a v at) (fits b w first)))
      (fits_spent actor h b (knows y) is_spent (o.quiet b w first bare))
      (λ i u ne other e. fits i u e)
