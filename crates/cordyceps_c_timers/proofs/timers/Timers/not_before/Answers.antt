use Rattle.std.proofs.Common.{◌≡◌, ◌⊎◌, ℕ, ◌<◌, ◌≤◌, [], Option, Some, None, MatchOption, refl, subst}
use Rattle.std.specs.List.{AllByRecursion}
use Rattle.std.specs.Prelude.{IfSome}
use denote.RawPtr.{Ptr}
use Rattle.cordyceps_base.specs.Element.{Element}
use Rattle.cordyceps_base.specs.Nodes.{Nodes}
use Rattle.cordyceps_stable.specs.Agreeing.{HasElementAt}
use Rattle.cordyceps_clock.specs.Clock.{rounded}
use Rattle.cordyceps_c_timers.specs.declared.timers.Timer.{Timer}
use Rattle.cordyceps_c_timers.specs.Timers.{Bounds, Running, due_of}
use Rattle.cordyceps_c_timers.proofs.TimersSaid.{IsNear, bounds}
use Rattle.cordyceps_c_timers.proofs.timers.Timers.not_before.Goals as goal

none_before : (o : Option ℕ) (c : Nodes Timer) → MatchOption o (c ≡ []) (λ t. (of : Timer → ℕ) → of ≡ due_of → AllByRecursion (λ n. t ≤ of n.1.value) c)
    → MatchOption o (c ≡ []) (λ t. AllByRecursion (λ n. t ≤ due_of n.1.value) c)
none_before None c told = told
none_before (Some t) c told = told due_of refl

near_of : (o : Option ℕ) (c : Nodes Timer) (now : ℕ)
    → IfSome o (λ t. (of : Timer → ℕ) → of ≡ due_of → (spot : Ptr) × (e : Element Timer) × HasElementAt c spot e
    × AllByRecursion (λ n. of e.value ≤ of n.1.value) c × (t ≡ rounded now (of e.value)) × ((now < t) ⊎ (of e.value ≡ t)))
    → IfSome o (λ t. IsNear now t c)
near_of None c now told = told
near_of (Some t) c now told =
    let (spot, e, lies, least, near, later) = told due_of refl in record { spot = spot; timer = e; lies = lies; least = least; near = near; later = later }

pub returns : goal.returns
returns c =
    let was = c.self.inside in
    subst (λ (t : Running). Bounds c.not_before.result t) c.self.view_is
    (bounds was.queue.nodes was.queue.clock was.tickets c.not_before.result (none_before c.not_before.result was.queue.nodes c.not_before.ensures.none_before) (near_of c.not_before.result was.queue.nodes was.queue.clock c.not_before.ensures.near))
