-- Parties at rest go, and others at rest come in their places or in new ones: what the machine meets stays so.
use Rattle.std.proofs.Common.{◌≡◌, ◌≢◌, ◌⊎◌, ℕ, List, [], ◌++◌, Option, Some, refl, sym, ap, ◌∙◌, subst, inl, inr, arith}
use mathlib.Core.Option.{some}
use lib.ListN.{get_elem?}
use Rattle.cordyceps_shared.specs.Shares.{Name}
use Rattle.cordyceps_queue.specs.declared.cores.stage.Stage.{Stage}
use Rattle.cordyceps_queue.specs.declared.cores.stage.Stage.TheVariants.{Rest}
use Rattle.cordyceps_queue.specs.History.{Event}
use Rattle.cordyceps_queue.specs.Past.{IsSettled}
use Rattle.cordyceps_queue.specs.Cores.Abstract.{AbstractParty, AbstractMachine}
use Rattle.cordyceps_queue.specs.Cores.Meets.{Owner, Shared, Spare, Ready, Unmade, Chain, OwnsRooms, AtStage, Meets}
use Rattle.cordyceps_queue.specs.Shared.Rule.{party_of, machine_of}
use Rattle.cordyceps_queue.specs.Shared.View.{View}
use Rattle.cordyceps_queue.proofs.CoreTheory.OtherParties.{fits_dealt, joined_yet, right_yet}
use Rattle.cordyceps_queue.proofs.CoreTheory.ProducerSteps.{spare_shared, ready_spare, spare_unmade}
use Rattle.cordyceps_queue.proofs.Legality.{counts, settled_or_open}
use Rattle.cordyceps_queue.proofs.SharedTheory.SeatNames.{party_was, name_known}

module _ {E : Type 0} (was now : List (View E)) (c : Chain) (owner : ℕ → Owner) where
  -- each seat is as it was, or who had it and who has it are at rest; and only free rooms change hands
  pub record Regroups : Type 0 where
    pub fixed : (r : ℕ) (o : Owner) → c.owner r ≡ o → ((j : ℕ) → o ≡ Spare j → ⊥) → owner r ≡ o
    pub stays : (i : ℕ) (u : View E) → get_elem? was i ≡ some u → (get_elem? now i ≡ some u) ⊎ (u.stage ≡ Rest)
    pub comes : (i : ℕ) (u : View E) → get_elem? now i ≡ some u → (get_elem? was i ≡ some u) ⊎ ((u.stage ≡ Rest) × ((z : View E) → get_elem? was i ≡ some z → z.stage ≡ Rest))
    pub rooms : (i : ℕ) (u : View E) → get_elem? now i ≡ some u → u.known.share ≢ [] → OwnsRooms owner i (u.free ++ u.back)
    pub names : (j k : ℕ) (p q : AbstractParty Name) → party_of (get_elem? now j) ≡ Some p → party_of (get_elem? now k) ≡ Some q → p.name ≡ q.name → j ≡ k

  module _ (cell : ℕ → Option E) (words : List ℕ) (h : List (Event Name E)) (M : Meets (machine_of cell words was) c h) (G : Regroups) where
    abbrev m : AbstractMachine Name E
    m = machine_of cell words was

    abbrev m' : AbstractMachine Name E
    m' = machine_of cell words now

    abbrev stage_of : AbstractParty Name → Stage
    stage_of p = p.stage

    party_stays : (i : ℕ) (p : AbstractParty Name) → m.party i ≡ Some p → (m'.party i ≡ Some p) ⊎ (p.stage ≡ Rest)
    party_stays i p e =
        let w = party_was (get_elem? was i) p e in
        elim (G.stays i w.view w.there) [ inl a ↦ inl (ap party_of (a ∙ sym w.there) ∙ e) | inr r ↦ inr (ap stage_of (sym w.is) ∙ r) ]

    -- a name is settled if each party that had it was at rest
    name_settled : (q : Name) → ((j : ℕ) (p : AbstractParty Name) → m.party j ≡ Some p → p.name ≡ q → p.stage ≡ Rest) → IsSettled q h
    name_settled q rests = elim (settled_or_open name_known h q) [
      | inl s ↦ s
      | inr unlinked ↦ M.strangers q (λ j p e is.
          let at_rest = subst (AtStage m.head m.next m.cell c.owner c.keeper c.rooms h j p.name) (rests j p e is) (M.fits j p e) in
          let count = counts name_known h M.legal q in
          let even = count.0 (subst (λ n. IsSettled n h) is at_rest) in
          let odd = count.1 unlinked in absurd (omega arith))
    ]

    stays : (i : ℕ) (p : AbstractParty Name) → m.party i ≡ Some p → p.stage ≢ Rest → m'.party i ≡ Some p
    stays i p e busy = elim (party_stays i p e) [ inl there ↦ there | inr rests ↦ absurd (busy rests) ]

    pub regroups_keep : Meets m' (record c { owner = owner }) h
    regroups_keep = record {
      legal = M.legal;
      last = M.last;
      ends = M.ends;
      joined = λ i a b ia ib. joined_yet stays m.next a b (M.joined i a b ia ib);
      once = M.once;
      shared = λ i x ix. G.fixed x Shared (M.shared i x ix) (λ b e. spare_shared refl (sym e));
      stub = G.fixed 0 Shared M.stub (λ b e. spare_shared refl (sym e));
      unmade = λ x lt. G.fixed x Unmade (M.unmade x lt) (λ b e. spare_unmade refl (sym e));
      holds = M.holds;
      right = right_yet stays m.right c.rooms h c.keeper M.right;
      fits = λ k p e.
          let w = party_was (get_elem? now k) p e in
          elim (G.comes k w.view w.there) [
            | inl a ↦ fits_dealt m c h owner k p.name (λ x o. G.fixed x (Ready k) o (λ b s. ready_spare refl s)) p.stage (M.fits k p (ap party_of (a ∙ sym w.there) ∙ e))
            | inr t ↦ subst (AtStage m.head m.next m.cell owner c.keeper c.rooms h k p.name) (sym (ap stage_of (sym w.is) ∙ t.0)) (name_settled p.name (λ j q f is. elim (party_stays j q f) [
              | inl g ↦
                  let o = party_was (get_elem? was j) q f in
                  ap stage_of (sym o.is) ∙ t.1 o.view (subst (λ i. get_elem? was i ≡ some o.view) (G.names j k q p g e is) o.there)
              | inr r ↦ r
            ]))
          ];
      rooms = λ k p e. let w = party_was (get_elem? now k) p e in subst (λ (q : AbstractParty Name). OwnsRooms owner k q.spare) w.is (G.rooms k w.view w.there w.named);
      names = G.names;
      strangers = λ q away. name_settled q (λ j p e is. elim (party_stays j p e) [ inl g ↦ absurd (away j p g is) | inr r ↦ r ]);
    }
