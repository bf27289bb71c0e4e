use Rattle.std.proofs.Common.{◌++◌, ◌∷◌, [], List, map, ap, sym, ◌∙◌, append_assoc, append-nil}
use Rattle.cordyceps.specs.Elements.Element.{Element}
use Rattle.cordyceps_shared_uses.specs.declared.logger.Record.{Record}
use Rattle.cordyceps_shared_uses.specs.Logger.{record_of}
use Rattle.cordyceps_shared_uses.proofs.logger.store.Goals as goal

pub loop-record-init : goal.loop-record-init
loop-record-init c = ap (λ (z : List (Element Record)). c.args.log.now.items ++ map record_of z) c.into_iter-record-iterator.ensures.into_iter_gives

pub loop-record-preserved : goal.loop-record-preserved
loop-record-preserved c =
    let log = c.loop-record.log.items in
    let rest = map record_of c.next.new.self in
    ap (λ (z : List Record). z ++ rest) (c.in_ok-push.ensures.items ∙ ap (λ (r : Record). log ++ r ∷ []) c.get.ensures)
    ∙ (append_assoc log (record_of c.in-Some.record ∷ []) rest
    ∙ (ap (λ (z : List (Element Record)). log ++ map record_of z) (sym c.in-Some.ensures.steps) ∙ c.loop-record.invariant))

pub returns : goal.returns
returns c =
    let log = c.loop-record.log.items in
    sym (append-nil log) ∙ (ap (λ (z : List (Element Record)). log ++ map record_of z) (sym c.in-None.ensures.steps.0) ∙ c.loop-record.invariant)
