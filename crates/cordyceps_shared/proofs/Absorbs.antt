-- Two seats may be made one, and it then learns that one had seen a prefix of what the other had.
use Rattle.std.proofs.Common.{◌≡◌, ◌≢◌, ℕ, ◌+◌, List, [], ◌++◌, ◌∷◌, length, set, Bool, true, false, ◌&&◌, eqb, ne_eqb, refl, sym, ap, ◌∙◌, subst, arith, length-set}
use mathlib.Core.Logic.{dite}
use mathlib.Core.Option.{some}
use native.Mathlib.Decide.{ℕ_discrete}
use lib.ListN.{get_elem?}
use Rattle.cordyceps_shared.specs.Shares.{Name, covers, join_shares}
use Rattle.cordyceps_shared.specs.Histories.{events, with_marks, plain, NoneOf, AreDisjoint}
use Rattle.cordyceps_shared.specs.Knowing.{Known, Foreign, Agrees, Below, SharesDisjoint, AllAgree, merge_marks, known_absorbing, known_absorbed}
use Rattle.cordyceps_shared.proofs.ChangedItems.{two_set, was_there}
use Rattle.cordyceps_shared.proofs.Counting.{tally_set}
use Rattle.cordyceps_shared.proofs.PartyNames.{join_covers, joined_some, letters}
use Rattle.cordyceps_shared.proofs.EventOwners.{same_first, relabel, events_relabel, relabel_append, marked_relabel, without_relabel, without_gone, below_relabel, merge, events_append}
use Rattle.cordyceps_shared.proofs.HistoryMarks.{plain_marked}
use Rattle.cordyceps_shared.proofs.StepEvents.{at_length, foreign_end, foreign_none, foreign_both}
use Rattle.cordyceps_shared.proofs.Ordering.{joined_clear}

and_false : (c : Bool) → (c && false) ≡ false
and_false true = refl
and_false false = refl

module _ {X : Type 0} where
  fits_gone : (actor : X → Name) (h : List (ℕ × X)) (a b : ℕ) → b ≢ a → Agrees actor (relabel a b h) b known_absorbed
  fits_gone actor h a b apart = record { before = []; later = relabel a b h; is = refl; seen = refl; none = without_gone a b h apart; foreign = foreign_none actor (events (relabel a b h)); told = (events (relabel a b h), refl); apart = tt }

  -- no event of one history is marked by two seats
  marked_disjoint : (a b : ℕ) (xs us ys vs : List (ℕ × X)) → b ≢ a → xs ++ us ≡ ys ++ vs → AreDisjoint (with_marks a xs) (with_marks b ys)
  marked_disjoint a b [] us ys vs n e = tt
  marked_disjoint a b (x ∷ xs) us [] vs n e = tt
  marked_disjoint a b (x ∷ xs) us (y ∷ ys) vs n e = (not_both, marked_disjoint a b xs us ys vs n (cc))
    where
      same : x.0 ≡ y.0
      same = ap (λ (z : ℕ × X). z.0) (same_first x y (xs ++ us) (ys ++ vs) e)

      not_both : (eqb x.0 a && eqb y.0 b) ≡ false
      not_both = dite (ℕ_discrete x.0 a)
          (λ is. ap (λ z. eqb x.0 a && z) (ne_eqb y.0 b (λ c. n (sym c ∙ (sym same ∙ is)))) ∙ and_false (eqb x.0 a))
          (λ other. ap (λ z. z && eqb y.0 b) (ne_eqb x.0 a other))

  -- what is an end of what a party has yet to see carries no name of its share
  foreign_later : (actor : X → Name) (share : List Name) (front later all : List (ℕ × X)) → all ≡ front ++ later → Foreign actor share (events all) → Foreign actor share (events later)
  foreign_later actor share front later all is f = foreign_end actor share (events front) (events later) (subst (λ z. Foreign actor share z) (ap events is ∙ events_append front later) f)

  fits_both : (actor : X → Name) (h : List (ℕ × X)) (a b : ℕ) (k l : Known X) → b ≢ a → Agrees actor h a k → Agrees actor h b l → Agrees actor (relabel a b h) a (known_absorbing k l)
  fits_both actor h a b k l other fk fl =
      let t = merge a b fk.before fk.later fl.before fl.later (sym fk.is ∙ fl.is) fk.none fl.none in
      let seen = (λ c. merge_marks (fk.seen c) (fl.seen c)) ∙ t.seen in record {
        before = relabel a b t.before;
        later = relabel a b t.later;
        is = ap (relabel a b) (fk.is ∙ t.is) ∙ relabel_append a b t.before t.later;
        seen = seen;
        none = t.none;
        foreign = subst (λ z. Foreign actor (join_shares k.share l.share) z) (sym (events_relabel a b t.later)) (foreign_both actor k.share l.share (join_shares k.share l.share) (λ x. joined_clear x k.share l.share) (events t.later)
            (foreign_later actor k.share t.first.0 t.later fk.later t.first.1 fk.foreign) (foreign_later actor l.share t.second.0 t.later fl.later t.second.1 fl.foreign));
        told = (events fl.later, events_relabel a b h ∙ (ap events fl.is ∙ (events_append fl.before fl.later ∙ ap (λ z. z ++ events fl.later) (sym (ap plain fl.seen ∙ plain_marked b fl.before)))));
        apart = subst (λ (z : List (Bool × X) × List (Bool × X)). AreDisjoint z.0 z.1) (λ c. (sym fk.seen c, sym fl.seen c)) (marked_disjoint a b fk.before fk.later fl.before fl.later other (sym fk.is ∙ fl.is));
      }

  fits_others : (actor : X → Name) (h : List (ℕ × X)) (a b i : ℕ) (k : Known X) → i ≢ a → i ≢ b → Agrees actor h i k → Agrees actor (relabel a b h) i k
  fits_others actor h a b i k na nb f = record {
    before = relabel a b f.before;
    later = relabel a b f.later;
    is = ap (relabel a b) f.is ∙ relabel_append a b f.before f.later;
    seen = f.seen ∙ sym (marked_relabel a b i f.before na nb);
    none = without_relabel a b i f.later na f.none;
    foreign = subst (λ z. Foreign actor k.share z) (sym (events_relabel a b f.later)) f.foreign;
    told = (f.told.0, events_relabel a b h ∙ f.told.1);
    apart = f.apart;
  }

module _ {X V : Type 0} (knows : V → Known X) where
  pub owned_join : (views : List V) (h : List (ℕ × X)) (a b : ℕ) (v w x y : V) → get_elem? views a ≡ some v → b ≢ a → get_elem? (set views a x) b ≡ some w → knows x ≡ known_absorbing (knows v) (knows w) → knows y ≡ known_absorbed → (knows v).share ≢ []
      → SharesDisjoint knows views h → SharesDisjoint knows (set (set views a x) b y) (relabel a b h)
  owned_join views h a b v w x y at apart there is_both is_spent named o =
      let one = set views a x in
      let long = length-set one b y ∙ length-set views a x in
      let all = ap (λ (k : Known X). k.share) is_both in
      let nothing = ap (λ (k : Known X). k.share) is_spent in record {
        below = subst (λ n. Below n (relabel a b h)) (sym long) (below_relabel a b (length views) h (at_length views a v at) o.below);
        quiet = two_set (λ i u. (knows u).share ≡ [] → NoneOf i (relabel a b h)) views a b x y
            (λ none_of. absurd (joined_some (knows v).share (knows w).share named (sym all ∙ none_of)))
            (λ _. without_gone a b h apart)
            (λ i u ne _ e none_of. without_relabel a b i h ne (o.quiet i u e none_of));
        long = o.long + (letters (knows v).share + letters (knows w).share);
        apart = λ n l.
            let f : V → ℕ = λ u. covers n (knows u).share in
            let p = ap (covers n) all in let q = ap (covers n) nothing in
            omega (arith, o.apart n (omega arith), tally_set f views a v x at, tally_set f one b w y there, join_covers n (knows v).share (knows w).share (omega arith));
      }

module _ {X V : Type 0} (actor : X → Name) (knows : V → Known X) where
  pub fits_join : (views : List V) (h : List (ℕ × X)) (a b : ℕ) (v w x y : V) → get_elem? views a ≡ some v → b ≢ a → get_elem? (set views a x) b ≡ some w → knows x ≡ known_absorbing (knows v) (knows w) → knows y ≡ known_absorbed
      → AllAgree actor knows views h → AllAgree actor knows (set (set views a x) b y) (relabel a b h)
  fits_join views h a b v w x y at apart there is_both is_spent fits =
      two_set (λ i u. Agrees actor (relabel a b h) i (knows u)) views a b x y
      (subst (Agrees actor (relabel a b h) a) (sym is_both) (fits_both actor h a b (knows v) (knows w) apart (fits a v at) (fits b w (was_there views a b x w apart there))))
      (subst (Agrees actor (relabel a b h) b) (sym is_spent) (fits_gone actor h a b apart))
      (λ i u ne other e. fits_others actor h a b i (knows u) ne other (fits i u e))
