use Rattle.std.proofs.Common.{◌≡◌, ◌∷◌, ◌++◌, [], true, false, refl, ap, sym, ◌∙◌, subst}
use Rattle.cordyceps_base.specs.Element.{Element}
use Rattle.cordyceps_heap.specs.Heap.{nodes_in}
use Rattle.cordyceps_stable.proofs.Holding.{last_taken}
use Rattle.cordyceps_c_base.proofs.Fitting.{changed_fits, permuted_fits, there_is}
use Rattle.cordyceps_c_timers.specs.declared.queue.Ranked.{Ranked}
use Rattle.cordyceps_c_timers.specs.Queues.{Changes, Queued, key_of, slot_of, with_key}
use Rattle.cordyceps_c_timers.proofs.QueuesSaid.{changes, none_has, seen}
use Rattle.cordyceps_c_timers.proofs.queue.Queue.change.Goals as goal

pub returns-in_default : goal.returns-in_default
returns-in_default c =
    let was = c.self.inside in
    subst (λ (q : Queued). Changes c.args.ticket c.args.key false q q) c.self.view_is (none_has (nodes_in was.heap) was.tickets c.args.ticket c.self.invariant.fit c.in_default.ensures, refl)

pub update-requires-clause-there : goal.update-requires-clause-there
update-requires-clause-there c =
    let was = c.self.inside in there_is slot_of was.tickets (nodes_in was.heap) c.args.ticket c.in-Some.spot c.self.invariant.fit c.in-Some.ensures

pub invariant_of-self : goal.invariant_of-self
invariant_of-self c =
    let was = c.self.inside in let kept = c.self.invariant in let p = c.in-Some.spot in
    let (e, w, rest, returns, taken, same, tells) = c.update.ensures.changed in let (_, (_, slot)) = returns.met in
    let n : Element Ranked = record { id = e.id; value = w } in let all = rest ++ (p, n) ∷ [] in
    let (left, (_, held)) = tells _ kept.arrivals refl kept.held in record {
      fit = permuted_fits slot_of was.tickets all (nodes_in c.update.new.self) same
          (changed_fits slot_of was.tickets (nodes_in was.heap) all rest p e n kept.fit taken (last_taken all rest p n refl) refl (ap slot_of (sym returns.leaves) ∙ slot ∙ ap slot_of returns.shows));
      arrivals = left ++ (p, n) ∷ [];
      held = held;
    }

pub returns : goal.returns
returns c =
    let was = c.self.inside in let new = c.update.new.self in let kept = c.self.invariant in let p = c.in-Some.spot in
    let (e, w, rest, returns, taken, same, tells) = c.update.ensures.changed in let (key, (payload, slot)) = returns.met in let left = sym returns.leaves in
    let new_key : key_of w ≡ c.args.key = ap key_of left ∙ key in
    let n : Element Ranked = record { id = e.id; value = w } in
    let (others, (_, held)) = tells _ kept.arrivals refl kept.held in
    let is : n ≡ with_key c.args.key e =
    λ i. record {
      id = e.id;
      value = record {
        key = new_key i;
        payload = (ap (λ (r : Ranked). r.payload) left ∙ payload ∙ ap (λ (r : Ranked). r.payload) returns.shows) i;
        slot = (ap slot_of left ∙ slot ∙ ap slot_of returns.shows) i;
      };
    } in
    subst (λ (q : Queued). Changes c.args.ticket c.args.key true q (seen new.lines was.tickets)) c.self.view_is
    (changes was.heap.lines new.lines was.tickets was.tickets kept.arrivals (others ++ (p, n) ∷ []) kept.held held p e n rest c.args.ticket c.args.key kept.fit c.spots_are_distinct.ensures c.in-Some.ensures taken is (λ a h. tells _ a refl h))
