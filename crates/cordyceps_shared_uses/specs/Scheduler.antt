-- Tasks of a scheduler, and what their rounds make of them.
use Rattle.std.specs.Prelude.{◌≡◌, ℕ, ◌+◌, ◌-◌, ◌*◌, ◌^◌, [], ◌∷◌, Bool, true, min, nat_eq, ◌&&◌}
use Rattle.cordyceps.specs.Elements.Element.{Element, Elements}
use Rattle.cordyceps_shared_uses.specs.declared.timers.Timer.{Timer}
use Rattle.cordyceps_shared_uses.specs.declared.scheduler.work.Work.{Work}

-- it has this number, so many rounds, none of which it ran, and sleeps so long between them
abbrev pub IsNew : ℕ → ℕ → ℕ → Work → Type 0
IsNew n r p w = (w.number ≡ n) × (w.rounds ≡ r) × (w.pause ≡ p) × (w.ran ≡ 0)

-- from before to after it ran so many rounds, and nothing else of it changed but the sum
pub record Ran (n : ℕ) (before after : Work) : Type 0 where
  pub number : after.number ≡ before.number
  pub rounds : after.rounds ≡ before.rounds
  pub pause : after.pause ≡ before.pause
  pub ran : after.ran ≡ before.ran + n
  pub sum : after.sum ≡ before.sum + n * before.number

-- the task as it sleeps from the time now on: until its pause is over
abbrev pub paused : ℕ → Element (Timer Work) → Element (Timer Work)
paused now t = record {
  id = t.id;
  value = record { deadline = min (now + t.value.payload.pause) (2 ^ 64 - 1); payload = t.value.payload };
}

-- each ran all its rounds, and its sum is that of all
abbrev pub is_done : Work → Bool
is_done w = nat_eq w.ran w.rounds && nat_eq w.sum (w.rounds * w.number)

abbrev pub all_done : Elements (Timer Work) → Bool
all_done [] = true
all_done (e ∷ s) = is_done e.value.payload && all_done s
