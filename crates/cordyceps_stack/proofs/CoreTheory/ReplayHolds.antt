-- What holds of a replay.
use Rattle.std.proofs.Common.{ℕ, List, [], ◌∷◌, ◌≡◌, ◌≢◌, length, false, refl, sym, subst, arith}
use Rattle.std.specs.Prelude.{◌↔◌, IsTrue}
use Rattle.cordyceps_base.specs.Runs.{Ran, replies_to, history_after, AllSay}
use Rattle.cordyceps_base.proofs.Runs.{run_meets}
use Rattle.cordyceps_stack.specs.declared.cores.steps.TransferStep.{TransferStep}
use Rattle.cordyceps_stack.specs.History.{Event}
use Rattle.cordyceps_stack.specs.Cores.Machine.{Machine, Answered}
use Rattle.cordyceps_stack.specs.Cores.CoreMeets.{CoreMeets, core_step, core_events, core_says, Replayed}
use Rattle.cordyceps_stack.specs.Cores.Walks.{HandsOn, handed_elements_of}
use Rattle.cordyceps_stack.proofs.Histories.{nothing_lost}
use Rattle.cordyceps_stack.proofs.CoreTheory.AnyStep.{core_steps}
use Rattle.cordyceps_stack.proofs.CoreTheory.WalkSteps.{run_hands}

-- where no step is left, nothing was stopped
pub not_stopped : {A : Type 0} (rest : List A) → length rest ≡ 0 → IsTrue false ↔ (rest ≢ [])
not_stopped [] e = (λ t. let no : ⊥ = cc in absurd no, λ ne. absurd (ne refl))
not_stopped (x ∷ xs) e = absurd (omega arith)

module _ {E : Type 0} where
  run_law : (all : List (ℕ × TransferStep E)) (first last : Machine E) (replies : List (Answered E)) (rest : List (ℕ × TransferStep E)) → (r : Ran core_step all first last replies rest) → (h : List (Event ℕ E)) → CoreMeets h first
      → CoreMeets (history_after core_step core_events h first r.ran) last × AllSay core_step core_events core_says h first r.ran
  run_law all first last replies rest r h was =
      let law = run_meets core_step core_events (λ k m. CoreMeets k m) core_says (λ k m s met. core_steps k m s.0 s.1 met) h first r.ran was in
      (subst (CoreMeets (history_after core_step core_events h first r.ran)) (sym r.state) law.0, law.1)

  run_walks : (all : List (ℕ × TransferStep E)) (first last : Machine E) (replies : List (Answered E)) (rest : List (ℕ × TransferStep E)) → (r : Ran core_step all first last replies rest) → (h : List (Event ℕ E)) → CoreMeets h first
      → HandsOn h first (history_after core_step core_events h first r.ran) last (λ p. handed_elements_of p r.ran replies)
  run_walks all first last replies rest r h was =
      let after_all = history_after core_step core_events h first r.ran in
      subst (λ (as' : List (Answered E)). HandsOn h first after_all last (λ p. handed_elements_of p r.ran as')) (sym r.told)
      (subst (λ (m : Machine E). HandsOn h first after_all m (λ p. handed_elements_of p r.ran (replies_to core_step first r.ran))) (sym r.state)
      (run_hands h first r.ran was))

  -- what holds of a whole run
  pub replayed : (all : List (ℕ × TransferStep E)) (first last : Machine E) (replies : List (Answered E)) (rest : List (ℕ × TransferStep E)) → Ran core_step all first last replies rest → Replayed all first last replies rest
  replayed all first last replies rest r =
      record {
        run = r;
        meets = run_law all first last replies rest r;
        nothing_lost = λ h was. nothing_lost (history_after core_step core_events h first r.ran) (run_law all first last replies rest r h was).0.legal;
        walks = λ h was. run_walks all first last replies rest r h was;
      }
