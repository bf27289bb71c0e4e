-- Two senders of which no two act under the same name.
use Rattle.std.proofs.Common.{◌≡◌, ℕ, zero, suc, ◌<◌, List, [], ◌∷◌, ◌++◌, length, refl, sym, subst, arith}
use Rattle.std.proofs.lemmas.List.{length-append}
use Rattle.cordyceps_queue.specs.Shared.Calls.{PartyOf}
use Rattle.cordyceps_channel.specs.Channels.{AreApart}

pub none_before : {X : Type 0} (xs : List X) (a b : X) → length ((xs ++ a ∷ []) ++ b ∷ []) ≡ 2 → xs ≡ []
none_before [] a b e = refl
none_before (x ∷ xs) a b e = absurd (omega (arith, e, length-append (xs ++ a ∷ []) (b ∷ []), length-append xs (a ∷ [])))

-- parties with the same shares are apart too
pub still_apart : {E : Type 0} (a b c d : PartyOf E) → c.share ≡ a.share → d.share ≡ b.share → AreApart (a ∷ b ∷ []) → AreApart (c ∷ d ∷ [])
still_apart a b c d first second h zero zero k less below = absurd (omega (arith, less))
still_apart a b c d first second h zero (suc zero) k less below =
    let one = subst (λ s. AreApart (record a { share = s } ∷ b ∷ [])) (sym first) h in
    let both = subst (λ s. AreApart (record a { share = c.share } ∷ record b { share = s } ∷ [])) (sym second) one in
    both 0 1 a (omega arith) (omega arith)
still_apart a b c d first second h zero (suc (suc j)) k less below = absurd (omega (arith, below))
still_apart a b c d first second h (suc i) j k less below = absurd (omega (arith, less, below))
