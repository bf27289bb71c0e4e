-- A name that was split is what it was when its halves are joined.
use Rattle.std.proofs.Common.{◌≡◌, [], ◌∷◌, ◌++◌, true, false, cond, refl, ap, ◌∙◌}
use Rattle.cordyceps_shared.specs.Shares.{Name, earlier, is_pair, parent, combine_first, combine, keeps_half, gives_half, join_shares}

pub halves_earlier : (n : Name) → earlier (n ++ false ∷ []) (n ++ true ∷ []) ≡ true
halves_earlier [] = refl
halves_earlier (true ∷ n) = halves_earlier n
halves_earlier (false ∷ n) = halves_earlier n

pub halves_pair : (n : Name) → is_pair (n ++ false ∷ []) (n ++ true ∷ []) ≡ true
halves_pair [] = refl
halves_pair (true ∷ []) = refl
halves_pair (false ∷ []) = refl
halves_pair (true ∷ b ∷ n) = halves_pair (b ∷ n)
halves_pair (false ∷ b ∷ n) = halves_pair (b ∷ n)

pub half_parent : (n : Name) → parent (n ++ false ∷ []) ≡ n
half_parent [] = refl
half_parent (a ∷ []) = refl
half_parent (a ∷ b ∷ n) = ap (λ z. a ∷ z) (half_parent (b ∷ n))

pub halves_join : (n : Name) → join_shares (keeps_half (n ∷ [])) (gives_half (n ∷ [])) ≡ n ∷ []
halves_join n =
    let l = n ++ false ∷ [] in
    let r = n ++ true ∷ [] in
    ap (λ b. combine (cond b (l ∷ r ∷ []) (r ∷ l ∷ []))) (halves_earlier n) ∙ (ap (λ b. cond b (combine_first (parent l) []) (l ∷ r ∷ [])) (halves_pair n) ∙ ap (λ z. z ∷ []) (half_parent n))
