-- What is counted of the events that a party saw: of its own, and of others', which carry no name of its share.
use Rattle.std.proofs.Common.{◌≡◌, ◌≢◌, ℕ, ◌+◌, List, [], ◌∷◌, ◌++◌, Bool, true, false, cond, refl, sym, ap, ◌∙◌, subst, arith, true≢false}
use Rattle.std.proofs.lemmas.List.{append-nil}
use Rattle.cordyceps_shared.specs.Histories.{plain, own, others}
use Rattle.cordyceps_shared.specs.Knowing.{Known, Foreign, Grown}
use Rattle.cordyceps_shared.specs.Shares.{Name, is_prefix, first_name, keeps_half, gives_half, Clear, IsOf}
use Rattle.cordyceps_shared.proofs.Adding.{plain_append}
use Rattle.cordyceps_shared.proofs.PartyNames.{prefix_longer}
use Rattle.cordyceps_shared.proofs.Ordering.{keeps_clear, gives_clear}

-- ---- the names of a share
pub first_of : (names : List Name) → names ≢ [] → IsOf names (first_name names)
first_of [] some_name c = some_name refl
first_of (n ∷ ns) some_name c = true≢false (sym (subst (λ m. is_prefix n m ≡ true) (append-nil n) (prefix_longer n [])) ∙ c.0)

pub of_kept : (names : List Name) (q : Name) → IsOf (keeps_half names) q → IsOf names q
of_kept names q of c = of (keeps_clear q names c)

pub of_given : (names : List Name) (q : Name) → IsOf (gives_half names) q → IsOf names q
of_given names q of c = of (gives_clear q names c)

-- every name is one of the whole share
pub of_whole : (q : Name) → IsOf ([] ∷ []) q
of_whole q c = true≢false c.1

-- ---- what is counted one event after the other
module _ {X : Type 0} (f : List X → ℕ) (more : (xs ys : List X) → f (xs ++ ys) ≡ f xs + f ys) where
  none : f [] ≡ 0
  none = let twice : f [] ≡ f [] + f [] = more [] [] in omega arith

  parted : (xs : List (Bool × X)) → f (plain xs) ≡ f (own xs) + f (others xs)
  parted [] = let zero_of = none in omega arith
  parted (x ∷ xs) = at_first x.0 (parted xs)
    where
      at_first : (b : Bool) → f (plain xs) ≡ f (own xs) + f (others xs) → f (x.1 ∷ plain xs) ≡ f (cond b (x.1 ∷ own xs) (own xs)) + f (cond b (others xs) (x.1 ∷ others xs))
      at_first true e =
          let all : f (x.1 ∷ plain xs) ≡ f (x.1 ∷ []) + f (plain xs) = more (x.1 ∷ []) (plain xs) in
          let mine : f (x.1 ∷ own xs) ≡ f (x.1 ∷ []) + f (own xs) = more (x.1 ∷ []) (own xs) in
          omega arith
      at_first false e =
          let all : f (x.1 ∷ plain xs) ≡ f (x.1 ∷ []) + f (plain xs) = more (x.1 ∷ []) (plain xs) in
          let theirs : f (x.1 ∷ others xs) ≡ f (x.1 ∷ []) + f (others xs) = more (x.1 ∷ []) (others xs) in
          omega arith

  -- which is nothing of events that carry other names
  module _ (actor : X → Name) (q : Name) (nothing : (x : X) → actor x ≢ q → f (x ∷ []) ≡ 0) where
    pub foreign_counts : (names : List Name) → IsOf names q → (es : List X) → Foreign actor names es → f es ≡ 0
    foreign_counts names of [] t = none
    foreign_counts names of (x ∷ xs) t =
        let all : f (x ∷ xs) ≡ f (x ∷ []) + f xs = more (x ∷ []) xs in
        let first = nothing x (λ e. of (subst (λ n. Clear n names) e t.0)) in
        let rest = foreign_counts names of xs t.1 in
        omega arith

    pub seen_counts : (names : List Name) → IsOf names q → (seen rest : List (Bool × X)) → Foreign actor names (others rest) → f (plain (seen ++ rest)) ≡ f (plain seen) + f (own rest)
    seen_counts names of seen rest foreign =
        let all = ap f (plain_append seen rest) ∙ more (plain seen) (plain rest) in
        let parts = parted rest in
        let theirs = foreign_counts names of (others rest) foreign in
        omega arith

    pub grown_counts : (Legal : List X → Type 0) (u w : Known X) (es : List X) → Grown actor Legal u es w → IsOf u.share q → f (plain w.seen) ≡ f (plain u.seen) + f es
    grown_counts Legal u w es g of =
        ap (λ z. f (plain z)) g.is ∙ (seen_counts u.share of u.seen g.rest g.foreign ∙ ap (λ z. f (plain u.seen) + f z) g.adds)
