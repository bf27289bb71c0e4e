-- The stub comes back into the chain.
use Rattle.std.proofs.Common.{◌≡◌, ℕ, suc, ◌≢◌, List, [], ◌∷◌, ◌++◌, map, Some, None, refl, sym, ap, ◌∙◌, subst, inl, inr, arith, append-nil}
use native.Mathlib.Decide.{ℕ_discrete}
use Rattle.cordyceps_queue.specs.History.{Event}
use Rattle.cordyceps_queue.specs.declared.cores.stage.Stage.TheVariants.{PutClear, PutSwap, PutLink, PutRead}
use Rattle.cordyceps_queue.specs.Cores.Abstract.{update, AbstractParty, AbstractMachine, clear_stub, swap_head, link_next}
use Rattle.cordyceps_shared.specs.Places.{ItemAt}
use Rattle.cordyceps_queue.specs.Cores.Meets.{real, Owes, tail_of, Chain, IsOut, Joined, Real}
use Rattle.cordyceps_queue.specs.Cores.Meets.{HasClearStub, HasOpenStub, Meets}
use Rattle.cordyceps_shared.proofs.Places.{at_end}
use Rattle.cordyceps_queue.proofs.CoreTheory.Basics.{open_with, ready_with, put_same, put_other}
use Rattle.cordyceps_queue.proofs.CoreTheory.Basics.{put_none, at_one, at_within, at_more, at_split}
use Rattle.cordyceps_queue.proofs.CoreTheory.Basics.{real_more}
use Rattle.cordyceps_queue.proofs.CoreTheory.ChainGrows.{open_more, last_more, once_more, joined_more}
use Rattle.cordyceps_queue.proofs.CoreTheory.OtherParties.{goes_without, joined_put}
use Rattle.cordyceps_queue.proofs.CoreTheory.StepLeaves.{fits_as, chain_of, joined_on, moves_on, parties, rooms_still}
use Rattle.cordyceps_queue.proofs.CoreTheory.ProducerSteps.{ready_shared}
use Rattle.cordyceps_queue.proofs.CoreTheory.HolderSteps.{not_keeper, right_with}

module _ {P E : Type 0} (m : AbstractMachine P E) (c : Chain) (h : List (Event P E)) (M : Meets m c h) (k : ℕ) (p : AbstractParty P) (at : m.party k ≡ Some p) where
  -- Clear of the stub
  module _ (t : ℕ) (stage : p.stage ≡ PutClear t) where
    unlinked : Real c.keeper c.rooms h k p.name t × IsOut c.rooms
    unlinked = fits_as m c h M k p at stage

    pub clear_stub_keeps : Meets (clear_stub m k p t) c h
    clear_stub_keeps = moves_on m c h M k p at (PutSwap t) p.spare (clear_stub m k p t) c h record {
      legal = M.legal;
      chain = chain_of m c h M;
      ends = put_none m.next 0 m.head M.ends;
      joined = λ i a b ia. joined_on m c h M k p at (PutSwap t) p.spare (update m.next 0 None) (λ a b o. subst (λ l. Owes l a b) stage o) i a b
          (put_other m.next 0 None a (λ s. unlinked.1 i (subst (ItemAt c.rooms i) s ia))) ia;
      holds = M.holds;
      right = right_with m c h M k p at t (ap tail_of stage) (PutSwap t) p.spare c.rooms h t refl unlinked.0.keeps.held_by;
      goes = λ j q ne _. goes_without (put_none m.next 0) (λ s. s) (λ n w. w) (not_keeper m c h M k p at t (ap tail_of stage) j ne);
      mine = record { has = unlinked.0; out = unlinked.1; null = put_same m.next 0 None };
      rooms = rooms_still m c h M k p at (PutSwap t) p.spare (M.rooms k p at);
      strangers = λ n _ s. s;
    }

  -- Swap of the stub
  module _ (t : ℕ) (stage : p.stage ≡ PutSwap t) where
    abbrev pub chain_after_stub : Chain
    chain_after_stub = record c { rooms = c.rooms ++ 0 ∷ [] }

    cleared_stub : HasClearStub m.next c.keeper c.rooms h k p.name t
    cleared_stub = fits_as m c h M k p at stage

    real_keeps : Real c.keeper (c.rooms ++ 0 ∷ []) h k p.name t
    real_keeps = record {
      keeps =
          let keeps = cleared_stub.has.keeps in
          let tail = at_more c.rooms (0 ∷ []) 0 t keeps.tail in
          record { kept = keeps.kept; held_by = keeps.held_by; tail = tail; settled = keeps.settled };
      is_real = cleared_stub.has.is_real;
      looked = cleared_stub.has.looked;
    }

    pub swap_stub_keeps : Meets (swap_head m k p 0 (PutLink t m.head)) chain_after_stub h
    swap_stub_keeps = moves_on m c h M k p at (PutLink t m.head) p.spare (swap_head m k p 0 (PutLink t m.head)) chain_after_stub h record {
      legal = M.legal;
      chain = record {
        last = last_more m c h M 0;
        once = once_more m c h M 0 cleared_stub.out;
        shared = λ i x ix. elim (at_split c.rooms 0 i x ix) [ inl a ↦ M.shared i x a | inr a ↦ ap c.owner a.1 ∙ M.stub ];
        stub = M.stub;
        unmade = M.unmade;
      };
      ends = cleared_stub.null;
      joined = joined_more m c h M k p (record p { stage = PutLink t m.head }) at 0 (λ a b o. absurd (subst (λ l. Owes l a b) stage o)) (refl, refl);
      holds = ap (map m.cell) (real_more c.rooms (0 ∷ []) ∙ append-nil (real c.rooms)) ∙ M.holds;
      right = right_with m c h M k p at t (ap tail_of stage) (PutLink t m.head) p.spare (c.rooms ++ 0 ∷ []) h t refl cleared_stub.has.keeps.held_by;
      goes = λ j q ne _. record {
        settled = λ s. s;
        ready = λ x f. f;
        opened = λ x old f. open_more c.rooms 0 f f.pending;
        right = λ is. absurd (not_keeper m c h M k p at t (ap tail_of stage) j ne is);
      };
      mine = record {
        has = real_keeps;
        at = M.last.at;
        old_at = at_more c.rooms (0 ∷ []) M.last.at m.head M.last.head_at;
        stub_at = subst (λ i. ItemAt (c.rooms ++ 0 ∷ []) i 0) M.last.long (at_end c.rooms 0);
        null = M.ends;
      };
      rooms = rooms_still m c h M k p at (PutLink t m.head) p.spare (M.rooms k p at);
      strangers = λ n _ s. s;
    }

  -- Link of the stub
  module _ (t old : ℕ) (stage : p.stage ≡ PutLink t old) where
    open_stub : HasOpenStub m.next c.keeper c.rooms h k p.name t old
    open_stub = fits_as m c h M k p at stage

    not_old_stub : (j a : ℕ) → ItemAt c.rooms j a → j ≢ open_stub.at → a ≢ old
    not_old_stub j a ja ne same = ne (M.once j open_stub.at old (subst (ItemAt c.rooms j) same ja) open_stub.old_at)

    none_stays : (a : ℕ) → a ≢ old → m.next a ≡ None → update m.next old (Some 0) a ≡ None
    none_stays a ne none = put_other m.next old (Some 0) a ne ∙ none

    stub_joined : (i a b : ℕ) → ItemAt c.rooms i a → ItemAt c.rooms (suc i) b → Joined (update m.next old (Some 0)) (parties m c h M k p at (PutRead t) p.spare) a b
    stub_joined i a b ia ib = elim (ℕ_discrete i open_stub.at) [
      | yes same ↦
          let ea : a ≡ old = at_one c.rooms open_stub.at a old
          (subst (λ n. ItemAt c.rooms n a) same ia) open_stub.old_at in
          let eb : b ≡ 0 = at_one c.rooms (suc open_stub.at) b 0 (subst (λ n. ItemAt c.rooms (suc n) b) same ib)
          open_stub.stub_at in
          inl (ap (update m.next old (Some 0)) ea ∙ put_same m.next old (Some 0) ∙ ap Some (sym eb))
      | no ne ↦
          let apart = not_old_stub i a ia ne in
          joined_put m.party k p (record p { stage = PutRead t }) at m.next (update m.next old (Some 0)) a b (put_other m.next old (Some 0) a apart)
          (λ o. absurd (apart (subst (λ l. Owes l a b) stage o).0)) (M.joined i a b ia ib)
    ]

    -- head is after the stub's neighbour
    head_far : (i : ℕ) → i ≡ M.last.at → i ≢ open_stub.at
    head_far i e s = let l = at_within c.rooms (suc open_stub.at) 0 open_stub.stub_at in absurd
        (omega (arith, M.last.long))

    pub link_stub_keeps : Meets (link_next m k p old 0 (PutRead t)) c h
    link_stub_keeps = moves_on m c h M k p at (PutRead t) p.spare (link_next m k p old 0 (PutRead t)) c h record {
      legal = M.legal;
      chain = chain_of m c h M;
      ends = none_stays m.head (not_old_stub M.last.at m.head M.last.head_at (head_far M.last.at refl)) M.ends;
      joined = stub_joined;
      holds = M.holds;
      right = right_with m c h M k p at t (ap tail_of stage) (PutRead t) p.spare c.rooms h t refl open_stub.has.keeps.held_by;
      goes = λ j q ne _. record {
        settled = λ s. s;
        ready = λ x f.
            let shared = M.shared open_stub.at old open_stub.old_at in
            ready_with f f.settled f.ready (none_stays x (λ s. ready_shared f.ready (ap c.owner s ∙ shared)) f.null) f.full;
        opened = λ x o f.
            let apart : f.at ≢ open_stub.at = λ s.
            let there = subst (λ n. ItemAt c.rooms (suc n) x) s f.room_at in
            f.is_real (at_one c.rooms (suc open_stub.at) x 0 there open_stub.stub_at) in
            open_with f (none_stays o (not_old_stub f.at o f.old_at apart) f.null) f.pending;
        right = λ is. absurd (not_keeper m c h M k p at t (ap tail_of stage) j ne is);
      };
      mine = (open_stub.has, head_not_tail);
      rooms = rooms_still m c h M k p at (PutRead t) p.spare (M.rooms k p at);
      strangers = λ n _ s. s;
    }
      where
        head_not_tail : m.head ≢ t
        head_not_tail same =
            let e : M.last.at ≡ 0 = M.once M.last.at 0 t (subst (ItemAt c.rooms M.last.at) same M.last.head_at)
            open_stub.has.keeps.tail in
            let l = at_within c.rooms (suc open_stub.at) 0 open_stub.stub_at in absurd (omega (arith, M.last.long))
