-- The word of the bell, and whether the history says that it has been rung.
use Rattle.std.proofs.Common.{◌≡◌, ◌≢◌, ℕ, List, [], ◌∷◌, ◌++◌, set, Bool, false, refl, sym, ap, ◌∙◌, get_or-set_other}
use Rattle.cordyceps_shared.specs.Histories.{events}
use Rattle.cordyceps_queue.specs.Bells.{rung_after, rung_from, IsQuiet}
use Rattle.cordyceps_queue.specs.History.{Event}
use Rattle.cordyceps_queue.specs.Shared.Rule.{TableState, RuleHolds, bell}
use Rattle.cordyceps_queue.specs.declared.shared.bell.TheConstants.{BELL}

-- a store to another word
pub bell_beside : (words : List ℕ) (i n : ℕ) → i ≢ BELL → bell (set words i n) ≡ bell words
bell_beside words i n ne = get_or-set_other words i BELL n 0 (λ e. ne (sym e))

module _ {P E : Type 0} where
  pub rung_from-append : (b : Bool) (h t : List (Event P E)) → rung_from b (h ++ t) ≡ rung_from (rung_from b h) t
  rung_from-append b [] t = refl
  rung_from-append b (x ∷ h) t = rung_from-append (rung_after b x) h t

  -- events that do not ring
  pub quiet_more : (h t : List (Event P E)) → IsQuiet h → IsQuiet t → IsQuiet (h ++ t)
  quiet_more h t quiet silent = rung_from-append false h t ∙ (ap (λ b. rung_from b t) quiet ∙ silent)

-- where neither the word nor the history changes in this
pub rung_still : {E : Type 0} {Q : Type 0} (s : TableState E) (k : RuleHolds s) (words : List ℕ) → bell words ≡ bell s.words → (IsQuiet (events k.plain.history) → Q) → bell words ≢ 1 → Q
rung_still s k words same calm ne = calm (k.rung (λ e. ne (same ∙ e)))
