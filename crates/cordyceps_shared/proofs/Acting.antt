-- What parties did in several steps, and what a party did that gave rooms to another and took it in again.
use Rattle.std.proofs.Common.{◌≡◌, ℕ, List, [], ◌∷◌, ◌++◌, Bool, refl, sym, ap, ◌∙◌, subst, append-nil, append_assoc}
use Rattle.cordyceps_shared.specs.Acting.{Acts}
use Rattle.cordyceps_shared.specs.Histories.{plain, own, AllOwn, AreDisjoint}
use Rattle.cordyceps_shared.specs.Interleaving.{Interleaves}
use Rattle.cordyceps_shared.specs.Knowing.{without_marks, merge_marks, IsPrefixOf}
use Rattle.cordyceps_shared.specs.Shares.{Name, join_shares, IsShare}
use Rattle.cordyceps_shared.specs.Standings.{Standing, keeping, giving, Adds, Absorbs}
use Rattle.cordyceps_shared.proofs.Adding.{plain_own}
use Rattle.cordyceps_shared.proofs.Ordering.{share_joins}
use Rattle.cordyceps_shared.proofs.Interleaving.{interleaves_same}
use Rattle.cordyceps_shared.proofs.Owning.{own_merged}
use Rattle.cordyceps_shared.proofs.EventOwners.{or_false}
use Rattle.cordyceps_shared.proofs.HistoryMarks.{own_append}

-- ---- what was seen since
module _ {X : Type 0} where
  pub merged_since : (xs ys zs : List (Bool × X)) → merge_marks (xs ++ ys) (without_marks xs ++ zs) ≡ xs ++ merge_marks ys zs
  merged_since [] ys zs = refl
  merged_since (x ∷ xs) ys zs = λ i. (or_false x.0 i, x.1) ∷ merged_since xs ys zs i

  disjoint_since : (xs ys zs : List (Bool × X)) → AreDisjoint (xs ++ ys) (without_marks xs ++ zs) → AreDisjoint ys zs
  disjoint_since [] ys zs a = a
  disjoint_since (x ∷ xs) ys zs a = disjoint_since xs ys zs a.1

  prefix_since : (xs ys zs : List (Bool × X)) → IsPrefixOf (plain (without_marks xs ++ ys)) (plain (xs ++ zs)) → IsPrefixOf (plain ys) (plain zs)
  prefix_since [] ys zs b = b
  prefix_since (x ∷ xs) ys zs b =
      let all = b.1 in
      let others : plain (xs ++ zs) ≡ plain (without_marks xs ++ ys) ++ b.0 = cc in
      prefix_since xs ys zs (b.0, others)

  -- ---- one party
  pub acts_none : (u : Standing X) → Acts u [] u
  acts_none u = record { rest = []; is = sym (append-nil u.seen); adds = refl; table = refl; share = refl }

  pub acts_then : (u v w : Standing X) (xs ys : List X) → Acts u xs v → Acts v ys w → Acts u (xs ++ ys) w
  acts_then u v w xs ys a b = record {
    rest = a.rest ++ b.rest;
    is = b.is ∙ (ap (λ z. z ++ b.rest) a.is ∙ append_assoc u.seen a.rest b.rest);
    adds = own_append a.rest b.rest ∙ (λ i. a.adds i ++ b.adds i);
    table = b.table ∙ a.table;
    share = b.share ∙ a.share;
  }

  -- a party that had seen nothing, and of which every event is its own, has seen just what it did
  pub acts_alone : (u w : Standing X) (es : List X) → u.seen ≡ [] → Acts u es w → AllOwn w.seen → plain w.seen ≡ es
  acts_alone u w es new a all =
      plain_own w.seen all ∙ (ap own a.is ∙ (ap (λ (z : List (Bool × X)). own (z ++ a.rest)) new ∙ a.adds))

  pub acts_of : (actor : X → Name) (Legal : List X → Type 0) (u w : Standing X) (es : List X) → Adds actor Legal u es w → Acts u es w
  acts_of actor Legal u w es a = let g = a.0 in record { rest = g.rest; is = g.is; adds = g.adds; table = a.1; share = g.share }

module _ {X : Type 0} (Legal : List X → Type 0) where
  -- ---- a party that gave up rooms, and the one that got them and was taken in again: what was done is an interleaving of
  -- what both did, and the share is what it was
  pub acts_both : (n : ℕ) (u v o w : Standing X) (xs ys : List X) → IsShare u.share → Acts (keeping n u) xs v → Acts (giving n u) ys o → Absorbs Legal v o w
      → (es : List X) × Interleaves xs ys es × Acts u es w
  acts_both n u v o w xs ys share a b m =
      let mine = a.rest in
      let theirs = b.rest in
      let both : merge_marks v.seen o.seen ≡ u.seen ++ merge_marks mine theirs = (λ i. merge_marks (a.is i) (b.is i)) ∙ merged_since u.seen mine theirs in
      let apart = disjoint_since u.seen mine theirs (subst (λ (z : List (Bool × X) × List (Bool × X)). AreDisjoint z.0 z.1) (λ i. (a.is i, b.is i)) m.apart) in
      let begun = prefix_since u.seen theirs (merge_marks mine theirs)
      (subst (λ (z : List (Bool × X) × List (Bool × X)). IsPrefixOf (plain z.0) (plain z.1)) (λ i. (b.is i, (m.seen ∙ both) i)) m.theirs) in
      let all = own (merge_marks mine theirs) in (
        all,
        interleaves_same (own mine) xs (own theirs) ys all all a.adds b.adds refl (own_merged mine theirs apart begun),
        record {
          rest = merge_marks mine theirs;
          is = m.seen ∙ both;
          adds = refl;
          table = m.table ∙ a.table;
          share = m.share ∙ ((λ i. join_shares (a.share i) (b.share i)) ∙ share_joins u.share share);
        },
      )
