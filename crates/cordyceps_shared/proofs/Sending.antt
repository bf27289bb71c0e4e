-- What parties put in and took out of which one was split off the other and taken in again: both put in, both took out, or one
-- received what the other sent. The two parties at the split stand for themselves, as its contract gives them.
use Rattle.std.proofs.Common.{◌≡◌, ℕ, List, [], ◌∷◌, ◌++◌, map, flat_map, length, refl, sym, ap, ◌∙◌, subst, inl, inr, arith}
use Rattle.atomic_table.specs.Seated.{TableId}
use Rattle.cordyceps_shared.specs.Acting.{Moves}
use Rattle.cordyceps_shared.specs.Histories.{plain}
use Rattle.cordyceps_shared.specs.Interleaving.{Interleaves}
use Rattle.cordyceps_shared.specs.Sending.{how_many, Delivers, Splits, Sends}
use Rattle.cordyceps_shared.specs.Shares.{whole, IsShare}
use Rattle.cordyceps_shared.specs.Standings.{Standing, new_party, keeping, giving, Absorbs}
use Rattle.cordyceps_shared.proofs.Interleaving.{only_left, only_right, interleaves_turned}
use Rattle.cordyceps_shared.proofs.Moving.{moves_none, moves_both, all_moved}

-- ---- one list more
module _ {A : Type 0} where
  pub delivers_more : (xs : List A) (lists : List (List A)) (others all : List A) → Delivers lists others → Interleaves xs others all → Delivers (xs ∷ lists) all
  delivers_more xs lists others [] d h =
      let first = ap length h.0 in let rest : how_many lists ≡ 0 = subst (λ z. Delivers lists z) h.1 d in omega arith
  delivers_more xs lists others (z ∷ all) d (inl h) = ([], h.0, lists, ap (λ k. k ∷ lists) h.1, delivers_more h.0 lists others all d h.2)
  delivers_more xs lists others (z ∷ all) d (inr h) =
      let next = subst (λ k. Delivers lists k) h.1 d in
      (xs ∷ next.0, next.1, next.2, ap (λ k. xs ∷ k) next.3, delivers_more xs (next.0 ++ next.1 ∷ next.2) h.0 all next.4 h.2)

  no_items : {B : Type 0} (f : B → List A) (lists : List B) → length lists ≡ 0 → Delivers (map f lists) []
  no_items f [] none = refl
  no_items f (x ∷ xs) none = absurd (omega arith)

module _ {X A : Type 0} {puts takes : X → List A} where
  pub sends_none : {B : Type 0} (f : B → List A) (lists : List B) (u : Standing X) → length lists ≡ 0 → Sends puts takes (map f lists) u u
  sends_none f lists u none = ([], no_items f lists none, moves_none puts takes u)

  module _ {Legal : List X → Type 0} where
    met : {n : ℕ} {u kept given v o w : Standing X} {s g t h : List A} → IsShare u.share → Splits n u kept given
        → Moves puts takes s g kept v → Moves puts takes t h given o → Absorbs Legal v o w
        → (sent got : List A) × Interleaves s t sent × Interleaves g h got × Moves puts takes sent got u w
    met {n} {u} {kept} {given} {v} {o} {w} {s} {g} {t} {h} share split a b m =
        moves_both puts takes Legal n u v o w s g t h share (subst (λ (z : Standing X). Moves puts takes s g z v) split.0 a)
        (subst (λ (z : Standing X). Moves puts takes t h z o) split.1 b) m

    -- ---- both put in, or both took out
    pub both_put : {n : ℕ} {u kept given v o w : Standing X} {s t : List A} → IsShare u.share → Splits n u kept given
        → Moves puts takes s [] kept v → Moves puts takes t [] given o → Absorbs Legal v o w → (sent : List A) × Interleaves s t sent × Moves puts takes sent [] u w
    both_put {n} {u} {kept} {given} {v} {o} {w} share split a b m =
        let all = met share split a b m in
        (all.0, all.2, subst (λ z. Moves puts takes all.0 z u w) (only_left [] all.1 all.3) all.4)

    pub both_took : {n : ℕ} {u kept given v o w : Standing X} {g h : List A} → IsShare u.share → Splits n u kept given
        → Moves puts takes [] g kept v → Moves puts takes [] h given o → Absorbs Legal v o w → (got : List A) × Interleaves g h got × Moves puts takes [] got u w
    both_took {n} {u} {kept} {given} {v} {o} {w} share split a b m =
        let all = met share split a b m in
        (all.1, all.3, subst (λ z. Moves puts takes z all.1 u w) (only_left [] all.0 all.2) all.4)

    -- a party that was split off sent one list, and the other the others
    pub sends_more : {n : ℕ} {xs : List A} {rest lists : List (List A)} {u kept given v o w : Standing X} → lists ≡ xs ∷ rest
        → IsShare u.share → Splits n u kept given → Sends puts takes rest kept v → Moves puts takes xs [] given o
        → Absorbs Legal v o w → Sends puts takes lists u w
    sends_more {xs = xs} {rest = rest} {u = u} {w = w} all share split others mine m =
        let both = both_put share split others.2 mine m in
        subst (λ z. Sends puts takes z u w) (sym all)
        (both.0, delivers_more xs rest others.0 both.0 others.1 (interleaves_turned others.0 xs both.0 both.1), both.2)

    -- ---- one received what the other sent, from the start on: held says what a history holds
    module _ (held : List X → List A) (kept_all : (h : List X) → Legal h → flat_map takes h ++ held h ≡ flat_map puts h) where
      pub exchanged : {k n : ℕ} {id : TableId} {u kept given v o w : Standing X} {got sent : List A} → u ≡ new_party id k → Splits n u kept given
          → Moves puts takes [] got kept v → Moves puts takes sent [] given o → Absorbs Legal v o w
          → (w.table ≡ id) × (w.share ≡ whole) × (sent ≡ got ++ held (plain w.seen))
      exchanged {k} {n} {id} {u} {kept} {given} {v} {o} {w} {got} {sent} new split mine theirs m =
          let first = subst (λ (z : Standing X). Moves puts takes [] got z v) (split.0 ∙ ap (λ (z : Standing X). keeping n z) new) mine in
          let second = subst (λ (z : Standing X). Moves puts takes sent [] z o) (split.1 ∙ ap (λ (z : Standing X). giving n z) new) theirs in
          let all = all_moved puts takes Legal held kept_all k n id v o w [] got sent [] first second m in
          let both = all.1 in (
            m.table ∙ first.acts.table,
            all.0,
            sym (only_right sent both.0 both.2) ∙ (both.4 ∙ ap (λ z. z ++ held (plain w.seen)) (only_left got both.1 both.3)),
          )

      pub delivered : {k n : ℕ} {id : TableId} {u kept given v o w : Standing X} {got : List A} {lists : List (List A)} → u ≡ new_party id k
          → Splits n u kept given → Moves puts takes [] got kept v → Sends puts takes lists given o → Absorbs Legal v o w
          → (w.table ≡ id) × (w.share ≡ whole) × Delivers lists (got ++ held (plain w.seen))
      delivered {lists = lists} new split mine theirs m =
          let all = exchanged new split mine theirs.2 m in
          (all.0, all.1, subst (λ z. Delivers lists z) all.2 theirs.1)
