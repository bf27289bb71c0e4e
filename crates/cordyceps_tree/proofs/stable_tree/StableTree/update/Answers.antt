use Rattle.std.proofs.Common.{◌≡◌, [], ◌∷◌, ◌++◌, ap, sym, ◌∙◌, subst}
use Rattle.std.specs.Fn.{FnOnceReturnsAtMut}
use Rattle.cordyceps_base.specs.declared.boxes.Address.{Address}
use Rattle.cordyceps_base.specs.Element.{Element}
use Rattle.cordyceps_stable.specs.Changing.{ArrivesAnew}
use Rattle.cordyceps_stable.specs.Arranged.{Sorted}
use Rattle.cordyceps_stable.proofs.Reached.{taken_has}
use Rattle.cordyceps_stable.proofs.Valid.{moved_keeps}
use Rattle.cordyceps_tree.proofs.Changing.{arrives_anew}
use Rattle.cordyceps_tree.proofs.Ones.{element_same}
use Rattle.cordyceps_tree.proofs.stable_tree.StableTree.update.Goals as goal

pub change-answer-requires-clause-alone : goal.change-answer-requires-clause-alone
change-answer-requires-clause-alone g c =
    let (e, taken, is) = c.take-one.ensures.taken in (e, is ∙ ap (λ p. (p, e) ∷ []) (sym c.take-one.ensures.at))

pub change-answer-requires-clause-callable : goal.change-answer-requires-clause-callable
change-answer-requires-clause-callable g c = λ o alone lent holds.
    let view = ap (λ (s : Sorted g.row.T.Denot g.row.O.Denot). s.nodes) c.self.view_is in let (e, taken, is) = c.take-one.ensures.taken in let (b, a, was, left) = taken in
    let same : o ≡ e = element_same c.take-one.result.row.boxes.blocks c.args.at o e (alone ∙ ap (λ p. (p, o) ∷ []) c.take-one.ensures.at) is in
    let value : e.value ≡ lent.now = sym (holds ∙ ap (λ (x : Element g.row.T.Denot). x.value) same) in
    c.requires.callable lent (b, e.id, a, sym view ∙ was ∙ (λ i. b ++ (c.args.at, record { id = e.id; value = value i }) ∷ a))

pub put-requires-clause-alone : goal.put-requires-clause-alone
put-requires-clause-alone g c =
    let (e, taken, is) = c.take-one.ensures.taken in
    let (w, now, called) = c.change-answer.ensures.changed e (is ∙ ap (λ p. (p, e) ∷ []) (sym c.take-one.ensures.at)) in
    let n : Element g.row.T.Denot = record { id = e.id; value = w } in
    (n, now ∙ ap (λ (z : Address). (z.ptr, n) ∷ []) (sym c.change-answer.ensures.at))

pub returns-clause-changed : goal.returns-clause-changed
returns-clause-changed g c =
    let view = ap (λ (s : Sorted g.row.T.Denot g.row.O.Denot). s.nodes) c.self.view_is in let order = ap (λ (s : Sorted g.row.T.Denot g.row.O.Denot). s.order) c.self.view_is in
    let (e, taken, is) = c.take-one.ensures.taken in
    let (w, now, called) = c.change-answer.ensures.changed e (is ∙ ap (λ p. (p, e) ∷ []) (sym c.take-one.ensures.at)) in
    let n : Element g.row.T.Denot = record { id = e.id; value = w } in
    let at : c.change-answer.new.self.at.ptr ≡ c.args.at = ap (λ (z : Address). z.ptr) c.change-answer.ensures.at ∙ c.take-one.ensures.at in
    let put = c.put.ensures.put n (now ∙ ap (λ (z : Address). (z.ptr, n) ∷ []) (sym c.change-answer.ensures.at)) in
    let calls : g.row.T.Denot → g.row.T.Denot → Type 0 = λ v x. FnOnceReturnsAtMut g.F.FnOnce c.args.change v c.change-answer.result x in
    subst (λ o. ArrivesAnew calls (g.O.Order.compares_by o) c.args.self.now.nodes c.args.at c.put.new.self) order
    (arrives_anew (g.O.Order.compares_by c.self.inside.order) (λ cmp by. g.met.O.Order.lawful c.self.inside.order cmp by) calls c.self.inside.nodes c.args.self.now.nodes c.take-one.new.self c.put.new.self c.args.at c.change-answer.new.self.at.ptr e w view at taken called put)

pub returns-clause-kept : goal.returns-clause-kept
returns-clause-kept g c = let changed = returns-clause-changed g c in moved_keeps _ _ _ _ _ _ changed.taken changed.put

pub returns-clause-there : goal.returns-clause-there
returns-clause-there g c = taken_has _ _ _ _ (returns-clause-changed g c).put
