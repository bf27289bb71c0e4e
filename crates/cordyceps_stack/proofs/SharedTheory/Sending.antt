-- A call after others of which it is known what they put in and took out, what is received of what another sends, and what is
-- held after a push of a party that is alone.
use Rattle.std.proofs.Common.{◌≡◌, ℕ, List, [], ◌∷◌, ◌++◌, map, reverse, Bool, ap, ◌∙◌, subst}
use Rattle.std.proofs.lemmas.List.{append-nil}
use Rattle.atomic_table.specs.Seated.{TableId}
use Rattle.cordyceps_shared.specs.Histories.{plain}
use Rattle.cordyceps_shared.specs.Sending.{Splits}
use Rattle.cordyceps_shared.specs.Shares.{whole}
use Rattle.cordyceps_shared.specs.Standings.{name_of, new_party, Absorbs}
use Rattle.cordyceps_shared.proofs.Adding.{whole_adds}
use Rattle.cordyceps_shared.proofs.Moving.{moves_then}
use Rattle.cordyceps_shared.proofs.Sending as parties
use Rattle.cordyceps_stack.specs.History.{Load, Push, held, Legal, actor}
use Rattle.cordyceps_stack.specs.Shared.Calls.{PartyOf, PushesAt, PushesRefilled, Takes}
use Rattle.cordyceps_stack.specs.Shared.Moves.{put_by, got_by, Moves}
use Rattle.cordyceps_stack.proofs.Histories.{held_from-append}
use Rattle.cordyceps_stack.proofs.SharedTheory.PartyMoves.{all_kept, moves_refilled, moves_take}

module _ {E A : Type 0} (f : E → A) where
  -- a push that may have taken rooms of the pool first
  pub then_refilled : {s g : List A} {u v : PartyOf E} (e : E) (first : Bool) (w : PartyOf E) → Moves f s g u v → PushesRefilled e first v w
      → Moves f (s ++ f e ∷ []) g u w
  then_refilled {s} {g} {u} {v} e first w before c = subst (λ z. Moves f (s ++ f e ∷ []) z u w) (append-nil g)
      (moves_then (put_by f) (got_by f) s g (f e ∷ []) [] u v w before (moves_refilled f e first v w c))

  pub then_takes : {s g : List A} {u v : PartyOf E} (batch : List E) (w : PartyOf E) → Moves f s g u v → Takes batch v w
      → Moves f s (g ++ map f (reverse batch)) u w
  then_takes {s} {g} {u} {v} batch w before c = subst (λ z. Moves f z (g ++ map f (reverse batch)) u w) (append-nil s)
      (moves_then (put_by f) (got_by f) s g [] (map f (reverse batch)) u v w before (moves_take f batch v w c))

  -- the party of a new stack gave rooms to another, which pushed, and took meanwhile. Taken in again, it is whole, and what it took,
  -- and then what is held, is what was pushed
  pub exchanged : {k n : ℕ} {id : TableId} {u kept other v o w : PartyOf E} {got sent : List A} → u ≡ new_party id k → Splits n u kept other
      → Moves f [] got kept v → Moves f sent [] other o → Absorbs (λ h. Legal h) v o w
      → (w.table ≡ id) × (w.share ≡ whole) × (sent ≡ got ++ map f (held (plain w.seen)))
  exchanged new split mine theirs m =
      parties.exchanged (λ h. map f (held h)) (λ h legal. all_kept f h legal) new split mine theirs m

pub held_pushed : {E : Type 0} (e : E) (first : Bool) (u w : PartyOf E) → u.share ≡ whole → PushesAt 1 e first u w
    → held (plain w.seen) ≡ held (plain u.seen) ++ e ∷ []
held_pushed e first u w alone a =
    let events = Load (name_of u) ∷ Push (name_of u) e ∷ [] in
    ap (λ h. held h) (whole_adds actor (λ h. Legal h) u w events alone a.0) ∙ held_from-append [] (plain u.seen) events
