use Rattle.std.proofs.Common.{◌≡◌, ℕ, ◌+◌, ◌-◌, ◌≤◌, ◌⊎◌, [], ◌∷◌, suc, length, vec_capacity, sym, ap, ◌∙◌, inl, inr, arith, length-append}
use Rattle.std.specs.Prelude.{Ok, Err}
use Rattle.cordyceps_queue.specs.Cores.Alone.{tries, found_of}
use Rattle.cordyceps_queue.specs.Cores.Drain.{after_drain}
use Rattle.cordyceps_queue.specs.History.{held}
use Rattle.cordyceps_queue.proofs.CoreTheory.AloneDrain.{after_items, gave, after_more, after_last}
use Rattle.cordyceps_queue.proofs.cores.machine.Machine.drain.Goals as goal

-- one element more has its room, where one fewer is held
roomy : (max cap cap2 n n2 a b : ℕ) → cap2 ≡ cap → n2 + b ≡ n + a → (max ≤ cap) ⊎ (n + a ≤ cap) → (max ≤ cap2) ⊎ (n2 + b ≤ cap2)
roomy max cap cap2 n n2 a b same sum (inl le) = inl (omega arith)
roomy max cap cap2 n n2 a b same sum (inr le) = inr (omega arith)

pub push_reserved-requires : goal.push_reserved-requires
push_reserved-requires g c =
    let i = c.loop-self.invariant in
    let is : found_of (tries c.args.party 6 c.loop-self.self).1 ≡ Ok c.in-Ok.element = ap found_of (sym (ap (λ o. o.1) c.try_holding.ensures)) ∙ (sym c.found.ensures ∙ c.in-Ok.is) in
    let G = gave i.room.0 c.loop-self.self c.args.party i.holding.0 c.in-Ok.element i.room.1 i.holding.1 is in
    let n = ap length G.left in
    let (_, _, fits) = i.room in
    omega (arith, fits, n, c.loop-self-test.true, c.len.ensures)

pub loop-self-preserved : goal.loop-self-preserved
loop-self-preserved g c =
    let i = c.loop-self.invariant in
    let p = c.args.party in
    let m = c.loop-self.self in
    let e = c.in-Ok.element in
    let old = c.loop-self.batch.items in
    let more = c.push_reserved.ensures.items in
    let is : found_of (tries p 6 m).1 ≡ Ok e = ap found_of (sym (ap (λ o. o.1) c.try_holding.ensures)) ∙ (sym c.found.ensures ∙ c.in-Ok.is) in
    let G = gave i.room.0 m p i.holding.0 e i.room.1 i.holding.1 is in
    let longer = ap length more ∙ length-append old (e ∷ []) in
    let k = c.args.max - length c.push_reserved.new.self.items in
    let again : c.args.max - length old ≡ suc k = omega (arith, longer, c.loop-self-test.true, c.len.ensures) in
    let (_, _, fits) = i.room in
    rw (ap (λ o. o.0) c.try_holding.ensures) record {
      whole = ap (λ es. after_items es (after_drain p k (tries p 6 m).0)) more ∙ (after_more p k old m e is ∙ (ap (λ n. after_items old (after_drain p n m)) (sym again) ∙ i.whole));
      holding = G.holds;
      room = (_, G.meets, roomy c.args.max (vec_capacity c.loop-self.batch) (vec_capacity c.push_reserved.new.self) (length old) (length c.push_reserved.new.self.items) (length (held i.room.0)) _ c.push_reserved.ensures.capacity (let n = ap length G.left in omega (arith, n, longer)) fits);
      few = omega (arith, longer, c.loop-self-test.true, c.len.ensures);
    }

pub returns-in-Err : goal.returns-in-Err
returns-in-Err g c =
    let i = c.loop-self.invariant in
    let p = c.args.party in
    let m = c.loop-self.self in
    let old = c.loop-self.batch.items in
    let is : found_of (tries p 6 m).1 ≡ Err c.in-Err.why = ap found_of (sym (ap (λ o. o.1) c.try_holding.ensures)) ∙ (sym c.found.ensures ∙ c.in-Err.is) in
    let k = c.args.max - length old - 1 in
    let again : c.args.max - length old ≡ suc k = omega (arith, c.loop-self-test.true, c.len.ensures) in
    rw (ap (λ o. o.0) c.try_holding.ensures) (after_last p k old m c.in-Err.why is ∙ (ap (λ n. after_items old (after_drain p n m)) (sym again) ∙ i.whole))
