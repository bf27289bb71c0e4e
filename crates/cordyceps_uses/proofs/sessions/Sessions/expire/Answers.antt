use Rattle.std.proofs.Common.{arith, refl, subst, ◌≡◌, ◌≤◌}
use Rattle.cordyceps.proofs.Spots.Members.{in_has}
use Rattle.cordyceps.proofs.Spots.ValueAt.{held_value, value_in}
use Rattle.cordyceps.proofs.Spots.ValueIndexes.{index_of_least, index_of_none}
use Rattle.cordyceps_uses.proofs.Indexed.{left, held_out}
use Rattle.cordyceps_uses.proofs.sessions.Sessions.expire.Goals as goal

pub returns-in_err-at : goal.returns-in_err-at
returns-in_err-at c =
    let m = c.self.inside.map in
    rw (← c.self.view_is, c.from_residual.ensures) (refl, λ p x h. absurd (index_of_none 2 m c.in_err-at.ensures.first c.self.invariant.by_deadline p (in_has m.nodes p (value_in m.nodes p x (held_value m.nodes p x c.lists_agree.ensures.distinct h)))))

pub returns-then-now-value_at : goal.returns-then-now-value_at
returns-then-now-value_at c =
    rw (← c.self.view_is) (
      refl,
      λ p x h.
          let low = index_of_least (λ s. s.deadline) 2 c.self.inside.map c.in_ok-at.at (c.value_at.ensures.0, c.value_at.result.now) c.lists_agree.ensures c.in_ok-at.ensures.first c.self.invariant.by_deadline c.value_at.ensures.1 p x h in omega (arith, low, c.if-now-value_at.true),
    )

pub invariant_of-self : goal.invariant_of-self
invariant_of-self c = left c.self.inside.map c.remove_at.new.self c.in_ok-at.at c.remove_at.result c.lists_agree.ensures c.remove_at.ensures.taken c.remove_at.ensures.lists c.self.invariant

pub returns : goal.returns
returns c =
    let m = c.self.inside.map in let a = c.lists_agree.ensures in let at = c.in_ok-at.at in let taken = c.remove_at.ensures.taken in
    let h = held_out m c.remove_at.new.self at c.remove_at.result taken in
    let f = held_value m.nodes at (c.value_at.ensures.0, c.value_at.result.now) a.distinct c.value_at.ensures.1 in let t = held_value m.nodes at c.remove_at.result.value a.distinct h in
    let same : (c.value_at.ensures.0, c.value_at.result.now) ≡ c.remove_at.result.value = cc in
    rw (← c.self.view_is) ((at, taken), subst (λ x. x.1.deadline ≤ c.args.now) same c.if-now-value_at.false, index_of_least (λ s. s.deadline) 2 m at c.remove_at.result.value a c.in_ok-at.ensures.first c.self.invariant.by_deadline h)
