use Rattle.std.proofs.Common.{◌++◌, ◌∷◌, [], ℕ, List, map, ap, sym, ◌∙◌, append_assoc, append-nil}
use Rattle.cordyceps.specs.Elements.Element.{Element}
use Rattle.cordyceps_shared_uses.specs.declared.mailbox.Message.{Message}
use Rattle.cordyceps_shared_uses.specs.Mailbox.{value_of}
use Rattle.cordyceps_shared_uses.proofs.mailbox.note_all.Goals as goal

pub loop-letter-init : goal.loop-letter-init
loop-letter-init c = ap (λ (z : List (Element Message)). c.args.received.now.items ++ map value_of z) c.into_iter-letter-iterator.ensures.into_iter_gives

pub loop-letter-preserved : goal.loop-letter-preserved
loop-letter-preserved c =
    let all = c.loop-letter.received.items in
    let rest = map value_of c.next.new.self in
    ap (λ (z : List ℕ). z ++ rest) (c.in_ok-push.ensures.items ∙ ap (λ (m : Message). all ++ m.value ∷ []) c.get.ensures)
    ∙ (append_assoc all (value_of c.in-Some.letter ∷ []) rest
    ∙ (ap (λ (z : List (Element Message)). all ++ map value_of z) (sym c.in-Some.ensures.steps) ∙ c.loop-letter.invariant))

pub returns : goal.returns
returns c =
    let all = c.loop-letter.received.items in
    sym (append-nil all) ∙ (ap (λ (z : List (Element Message)). all ++ map value_of z) (sym c.in-None.ensures.steps.0) ∙ c.loop-letter.invariant)
