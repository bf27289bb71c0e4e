-- A run goes on by one step, and keeps what each step keeps.
use Rattle.std.proofs.Common.{◌≡◌, List, [], ◌∷◌, ◌++◌, refl, ap, sym, ◌∙◌, append_assoc}
use Rattle.cordyceps_base.specs.Runs.{after, replies_to, history_after, AllSay, Ran}

module _ {M S R : Type 0} (step : M → S → M × R) where
  pub after-push : (m : M) (ss : List S) (s : S) → after step m (ss ++ s ∷ []) ≡ (step (after step m ss) s).0
  after-push m [] s = refl
  after-push m (t ∷ ss) s = after-push (step m t).0 ss s

  pub replies_to-push : (m : M) (ss : List S) (s : S) → replies_to step m (ss ++ s ∷ []) ≡ replies_to step m ss ++ (step (after step m ss) s).1 ∷ []
  replies_to-push m [] s = refl
  replies_to-push m (t ∷ ss) s = ap (λ rs. (step m t).1 ∷ rs) (replies_to-push (step m t).0 ss s)

  pub ran_none : (all : List S) (m : M) → Ran step all m m [] all
  ran_none all m = record { ran = []; split = refl; state = refl; told = refl }

  pub ran_more : (all : List S) (old new : M) (replies : List R) (s : S) (rest : List S) →
      Ran step all old new replies (s ∷ rest) → Ran step all old (step new s).0 (replies ++ (step new s).1 ∷ []) rest
  ran_more all old new replies s rest r =
      record {
        ran = r.ran ++ s ∷ [];
        split = append_assoc r.ran (s ∷ []) rest ∙ r.split;
        state = ap (λ m. (step m s).0) r.state ∙ sym (after-push old r.ran s);
        told = ap (λ rs. rs ++ (step new s).1 ∷ []) r.told ∙ (ap (λ m. replies_to step old r.ran ++ (step m s).1 ∷ []) r.state ∙ sym (replies_to-push old r.ran s));
      }

  -- what each step keeps of a history, a run keeps
  pub run_meets : {V : Type 0} (events : List V → M → S → R → List V) (Meets : List V → M → Type 0) (Says : List V → S → R → Type 0) →
      ((h : List V) (m : M) (s : S) → Meets h m → Meets (h ++ events h m s (step m s).1) (step m s).0 × Says h s (step m s).1) →
      (h : List V) (m : M) (ss : List S) → Meets h m → Meets (history_after step events h m ss) (after step m ss) × AllSay step events Says h m ss
  run_meets events Meets Says law h m [] was = (was, tt)
  run_meets events Meets Says law h m (s ∷ ss) was =
      let one = law h m s was in
      let more = run_meets events Meets Says law (h ++ events h m s (step m s).1) (step m s).0 ss one.0 in
      (more.0, (one.1, more.1))
