-- New machines.
use Rattle.std.proofs.Common.{◌≡◌, ℕ, zero, suc, ◌≤◌, [], ◌∷◌, None, refl, sym, ap, ◌∙◌, arith}
use Rattle.cordyceps_shared.specs.Places.{ItemAt}
use Rattle.cordyceps_queue.specs.Cores.Meets.{Owner, Shared, Unmade}
use Rattle.cordyceps_queue.specs.Cores.StepKeeps.{NewMeets}
use Rattle.cordyceps_queue.proofs.CoreTheory.Basics.{at_only, none_some}

-- whose the rooms of a new machine are
abbrev pub new_owner : ℕ → Owner
new_owner zero = Shared
new_owner (suc r) = Unmade

pub is_unmade : (r : ℕ) → 1 ≤ r → new_owner r ≡ Unmade
is_unmade zero lt = absurd (omega arith)
is_unmade (suc r) lt = refl

pub new_meets : (P E : Type 0) → NewMeets P E
new_meets P E = (
  record { rooms = 0 ∷ []; owner = new_owner; keeper = None },
  record {
    legal = tt;
    last = record { at = 0; long = refl; head_at = refl };
    ends = refl;
    joined = λ i a b ia ib. absurd (none_follows i b ib);
    once = λ i j r ir jr. (at_only 0 i r ir).0 ∙ sym (at_only 0 j r jr).0;
    shared = λ i r ir. ap new_owner (at_only 0 i r ir).1;
    stub = refl;
    unmade = λ r lt. is_unmade r lt;
    holds = refl;
    right = record { unheld = refl; tail = 0; right_is = refl; tail_at = refl };
    fits = λ k p e. absurd (none_some e);
    rooms = λ k p e. absurd (none_some e);
    names = λ j k p q e f s. absurd (none_some e);
    strangers = λ q away. tt;
  },
)
  where
    none_follows : (i b : ℕ) → ItemAt (0 ∷ []) (suc i) b → ⊥
    none_follows i b a = a
