-- The own events of parties that act, are split and take others in.
use Rattle.std.proofs.Common.{◌≡◌, ℕ, List, [], ◌∷◌, ◌++◌, Bool, true, false, cond, ◌&&◌, ◌||◌, refl, sym, ap, ◌∙◌, subst, inl, inr}
use Rattle.cordyceps_shared.specs.Histories.{plain, own, AreDisjoint}
use Rattle.cordyceps_shared.specs.Interleaving.{Interleaves}
use Rattle.cordyceps_shared.specs.Knowing.{without_marks, merge_marks, IsPrefixOf}
use Rattle.cordyceps_shared.specs.Shares.{Name}
use Rattle.cordyceps_shared.specs.Standings.{Standing, keeping, giving, Adds, Absorbs}
use Rattle.cordyceps_shared.proofs.Interleaving.{all_left, all_right}
use Rattle.cordyceps_shared.proofs.HistoryMarks.{own_append}

module _ {X : Type 0} where
  pub own_unmarked : (xs : List (Bool × X)) → own (without_marks xs) ≡ []
  own_unmarked [] = refl
  own_unmarked (x ∷ xs) = own_unmarked xs

  one_more : (mine theirs : Bool) (x y : X) (us vs ws : List X) → x ≡ y → (mine && theirs) ≡ false → Interleaves us vs ws
      → Interleaves (cond mine (x ∷ us) us) (cond theirs (y ∷ vs) vs) (cond (mine || theirs) (x ∷ ws) ws)
  one_more false false x y us vs ws same apart h = h
  one_more true false x y us vs ws same apart h = inl (us, refl, h)
  one_more false true x y us vs ws same apart h = inr (vs, ap (λ z. z ∷ vs) (sym same), h)
  one_more true true x y us vs ws same apart h = absurd (cc)

  pub own_merged : (xs ys : List (Bool × X)) → AreDisjoint xs ys → IsPrefixOf (plain ys) (plain (merge_marks xs ys)) → Interleaves (own xs) (own ys) (own (merge_marks xs ys))
  own_merged [] ys apart prefix = all_right (own ys)
  own_merged (x ∷ xs) [] apart prefix = all_left (own (x ∷ xs))
  own_merged (x ∷ xs) (y ∷ ys) apart prefix =
      let all : x.1 ∷ plain (merge_marks xs ys) ≡ y.1 ∷ (plain ys ++ prefix.0) = prefix.1 in
      let same : x.1 ≡ y.1 = cc in
      let others : plain (merge_marks xs ys) ≡ plain ys ++ prefix.0 = cc in
      one_more x.0 y.0 x.1 y.1 (own xs) (own ys) (own (merge_marks xs ys)) same apart.0 (own_merged xs ys apart.1 (prefix.0, others))

  -- the party that was split off has none as yet, and the other has those that it had
  pub own_split : (n : ℕ) (u : Standing X) → (own (giving n u).seen ≡ []) × (own (keeping n u).seen ≡ own u.seen)
  own_split n u = (own_unmarked u.seen, refl)

module _ {X : Type 0} (Legal : List X → Type 0) where
  pub own_adds : (actor : X → Name) (u w : Standing X) (es : List X) → Adds actor Legal u es w → own w.seen ≡ own u.seen ++ es
  own_adds actor u w es a = let g = a.0 in ap own g.is ∙ (own_append u.seen g.rest ∙ ap (λ z. own u.seen ++ z) g.adds)

  pub own_absorbed : (u o w : Standing X) → Absorbs Legal u o w → Interleaves (own u.seen) (own o.seen) (own w.seen)
  own_absorbed u o w a = subst (λ z. Interleaves (own u.seen) (own o.seen) (own z)) (sym a.seen)
      (own_merged u.seen o.seen a.apart (a.theirs.0, ap plain (sym a.seen) ∙ a.theirs.1))
