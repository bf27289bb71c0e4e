-- What parties see in several steps, by splitting and by joining.
use Rattle.std.proofs.Common.{◌≡◌, ℕ, zero, suc, List, [], ◌∷◌, ◌++◌, replicate, Bool, true, cond, refl, sym, ap, ◌∙◌, subst, append_assoc}
use Rattle.cordyceps_shared.specs.Histories.{plain, own, others, AllOwn}
use Rattle.cordyceps_shared.specs.Knowing.{Foreign, without_marks, merge_marks, IsPrefixOf}
use Rattle.cordyceps_shared.specs.Shares.{Name, whole, keeps_half, gives_half}
use Rattle.cordyceps_shared.specs.Standings.{Standing, known_of, Adds}
use Rattle.cordyceps_shared.proofs.HistoryMarks.{since, others_append}
use Rattle.cordyceps_shared.proofs.StepEvents.{foreign_front, grown_none, grown_then}

-- one more of the same at the end
pub replicate_more : {A : Type 0} (n : ℕ) (a : A) (xs : List A) → replicate n a ++ a ∷ xs ≡ replicate (suc n) a ++ xs
replicate_more zero a xs = refl
replicate_more (suc n) a xs = ap (λ z. a ∷ z) (replicate_more n a xs)

pub keeps_not_whole : (ns : List Name) → keeps_half ns ≡ whole → ⊥
keeps_not_whole [] e = cc
keeps_not_whole ([] ∷ ns) e = cc
keeps_not_whole ((b ∷ bs) ∷ ns) e = cc

pub not_whole : (ns : List Name) → gives_half ns ≡ whole → ⊥
not_whole [] e = cc
not_whole ([] ∷ ns) e = cc
not_whole ((b ∷ bs) ∷ ns) e = cc

module _ {X : Type 0} where
  pub plain_append : (xs ys : List (Bool × X)) → plain (xs ++ ys) ≡ plain xs ++ plain ys
  plain_append [] ys = refl
  plain_append (x ∷ xs) ys = ap (λ z. x.1 ∷ z) (plain_append xs ys)

  pub plain_unmarked : (xs : List (Bool × X)) → plain (without_marks xs) ≡ plain xs
  plain_unmarked [] = refl
  plain_unmarked (x ∷ xs) = ap (λ z. x.1 ∷ z) (plain_unmarked xs)

  -- what a party saw is a prefix of what it sees with another
  pub merged_prefix : (xs ys : List (Bool × X)) → IsPrefixOf (plain xs) (plain (merge_marks xs ys))
  merged_prefix [] ys = (plain ys, refl)
  merged_prefix (x ∷ xs) [] = ([], sym (ap (λ z. x.1 ∷ z) (append_none (plain xs))))
    where
      append_none : (zs : List X) → zs ++ [] ≡ zs
      append_none [] = refl
      append_none (z ∷ zs) = ap (λ y. z ∷ y) (append_none zs)
  merged_prefix (x ∷ xs) (y ∷ ys) = let t = merged_prefix xs ys in (t.0, ap (λ z. x.1 ∷ z) t.1)

  pub tail_own : (xs ys : List (Bool × X)) → AllOwn (xs ++ ys) → AllOwn ys
  tail_own [] ys a = a
  tail_own (x ∷ xs) ys a = tail_own xs ys a.1

  pub plain_own : (xs : List (Bool × X)) → AllOwn xs → plain xs ≡ own xs
  plain_own [] a = refl
  plain_own (x ∷ xs) a = ap (λ z. x.1 ∷ z) (plain_own xs a.1) ∙ ap (λ b. cond b (x.1 ∷ own xs) (own xs)) (sym a.0)

  pub none_else : (xs : List (Bool × X)) → AllOwn xs → others xs ≡ []
  none_else [] a = refl
  none_else (x ∷ xs) a = ap (λ b. cond b (others xs) (x.1 ∷ others xs)) a.0 ∙ none_else xs a.1

module _ {X : Type 0} (actor : X → Name) (Legal : List X → Type 0) where
  pub adds_then : (u v w : Standing X) (xs ys : List X) → Adds actor Legal u xs v → Adds actor Legal v ys w → Adds actor Legal u (xs ++ ys) w
  adds_then u v w xs ys a b = (grown_then actor Legal (known_of u) (known_of v) (known_of w) xs ys a.0 b.0, b.1 ∙ a.1)

  pub adds_none : (u w : Standing X) (xs : List X) → Adds actor Legal u xs w → Adds actor Legal w [] w
  adds_none u w xs a = (grown_none actor Legal (known_of u) (known_of w) xs a.0, refl)

  -- a whole party has seen just what it had seen, and its own events
  pub whole_adds : (u w : Standing X) (es : List X) → u.share ≡ whole → Adds actor Legal u es w → plain w.seen ≡ plain u.seen ++ es
  whole_adds u w es is a =
      let g = a.0 in
      let all = tail_own u.seen g.rest (subst (λ z. AllOwn z) g.is (g.alone (g.share ∙ is))) in
      ap (λ z. plain z) g.is ∙ (plain_append u.seen g.rest ∙ ap (λ z. plain u.seen ++ z) (plain_own g.rest all ∙ g.adds))

  -- an event of the party's own among those that it has seen since, its own events before that one, and others'
  pub record SeesAt (u w : Standing X) (before : List X) (x : X) : Type 0 where
    pub front : List (Bool × X)
    pub later : List X
    pub all : plain w.seen ≡ (plain u.seen ++ plain front) ++ x ∷ later
    pub mine : own front ≡ before
    pub foreign : Foreign actor u.share (others front)

  pub sees_at : (u w : Standing X) (es before after : List X) (x : X) → Adds actor Legal u es w → es ≡ before ++ x ∷ after → SeesAt u w before x
  sees_at u w es before after x a e =
      let g = a.0 in
      let t = since g.rest before after x (g.adds ∙ e) in
      record {
        front = t.front;
        later = plain t.later;
        all = ap plain g.is ∙ (plain_append u.seen g.rest ∙ (ap (λ z. plain u.seen ++ plain z) t.is ∙ (ap (λ z. plain u.seen ++ z) (plain_append t.front ((true, x) ∷ t.later)) ∙ sym (append_assoc (plain u.seen) (plain t.front) (x ∷ plain t.later)))));
        mine = t.mine;
        foreign = foreign_front actor u.share (others t.front) (others ((true, x) ∷ t.later)) (subst (λ z. Foreign actor u.share z) (ap others t.is ∙ others_append t.front ((true, x) ∷ t.later)) g.foreign);
      }
