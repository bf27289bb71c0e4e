use Rattle.std.proofs.Common.{◌≡◌, ◌∷◌, ◌++◌, [], refl, ap, sym, ◌∙◌, subst}
use Rattle.cordyceps_base.specs.Element.{Element}
use Rattle.cordyceps_base.specs.BySpot.{HasSpot}
use Rattle.cordyceps_heap.specs.Heap.{nodes_in}
use Rattle.cordyceps_stable.proofs.Holding.{last_taken}
use Rattle.cordyceps_c_base.proofs.Fitting.{changed_fits, permuted_fits}
use Rattle.cordyceps_c_timers.specs.declared.queue.Ranked.{Ranked}
use Rattle.cordyceps_c_timers.specs.Queues.{ChangesAt, Queued, key_of, slot_of, with_key}
use Rattle.cordyceps_c_timers.proofs.QueuesSaid.{changes_at, seen, waits_at}
use Rattle.cordyceps_c_timers.proofs.queue.Queue.change_unchecked.Goals as goal

pub update-requires-clause-there : goal.update-requires-clause-there
update-requires-clause-there c = waits_at (nodes_in c.self.inside.heap) c.args.at (subst (λ (q : Queued). HasSpot q.nodes c.args.at) (sym c.self.view_is) c.requires)

pub invariant_of-self : goal.invariant_of-self
invariant_of-self c =
    let was = c.self.inside in let kept = c.self.invariant in let p = c.args.at in
    let (e, w, rest, returns, taken, same, tells) = c.update.ensures.changed in let (_, (_, slot)) = returns.met in
    let n : Element Ranked = record { id = e.id; value = w } in let all = rest ++ (p, n) ∷ [] in
    let (left, (_, held)) = tells _ kept.arrivals refl kept.held in record {
      fit = permuted_fits slot_of was.tickets all (nodes_in c.update.new.self) same
          (changed_fits slot_of was.tickets (nodes_in was.heap) all rest p e n kept.fit taken (last_taken all rest p n refl) refl (ap slot_of (sym returns.leaves) ∙ slot ∙ ap slot_of returns.shows));
      arrivals = left ++ (p, n) ∷ [];
      held = held;
    }

pub returns : goal.returns
returns c =
    let was = c.self.inside in let new = c.update.new.self in let kept = c.self.invariant in let p = c.args.at in
    let (e, w, rest, returns, taken, same, tells) = c.update.ensures.changed in let (key, (payload, slot)) = returns.met in let left = sym returns.leaves in
    let new_key : key_of w ≡ c.args.key = ap key_of left ∙ key in
    let n : Element Ranked = record { id = e.id; value = w } in
    let (others, (_, held)) = tells _ kept.arrivals refl kept.held in
    let is : n ≡ with_key c.args.key e =
    λ i. record {
      id = e.id;
      value = record {
        key = new_key i;
        payload = (ap (λ (r : Ranked). r.payload) left ∙ payload ∙ ap (λ (r : Ranked). r.payload) returns.shows) i;
        slot = (ap slot_of left ∙ slot ∙ ap slot_of returns.shows) i;
      };
    } in
    subst (λ (q : Queued). ChangesAt c.args.at c.args.key q (seen new.lines was.tickets)) c.self.view_is
    (changes_at was.heap.lines new.lines was.tickets was.tickets kept.arrivals (others ++ (p, n) ∷ []) kept.held held p e n c.args.key is (λ a h. tells _ a refl h))
