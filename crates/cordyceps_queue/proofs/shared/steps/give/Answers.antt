use Rattle.std.proofs.Common.{◌≡◌, ◌+◌, ◌*◌, suc, sym, ap, ◌∙◌, subst, rules}
use Rattle.cordyceps_queue.specs.Shared.View.{bit_of}
use Rattle.cordyceps_shared.specs.Places.{ItemAt}
use Rattle.cordyceps_queue.proofs.SharedTheory.WordsAsMachine.{at_after}
use Rattle.cordyceps_queue.proofs.SharedTheory.UsesWrite.{gives_back}
use Rattle.cordyceps_queue.proofs.SharedTheory.StepTells.{told}
use Rattle.cordyceps_queue.proofs.shared.steps.give.Goals as goal

pub store-requires : goal.store-requires
store-requires g c =
    let q = c.requires.holding.right in
    let n : c.free_right.result ≡ 2 * suc c.args.tail.room + bit_of c.args.seat.now.me.0.bits c.args.tail.room =
    c.free_right.ensures ∙ ap (λ b. 2 * suc c.args.tail.room + b) (sym c.requires.knows.0) in
    let near = q.inside in
    let t = c.requires.table in (
      search rules,
      search rules,
      gives_back _ _ _ q.carries (λ i r a. q.near _ r (at_after _ _ i r a)) q.named c.requires.holding.joins
          c.args.tail.room _ n q.stage,
    )

pub returns-clause-rest : goal.returns-clause-rest
returns-clause-rest g c =
    let q = c.requires.holding.right in
    let b = (told c.store.ensures) c.args.tail.room q.stage in record {
      stage = b.stage;
      back = b.back;
      hand = b.hand;
      named = λ e. q.named (sym b.sees.share ∙ e);
      near = λ i r a. q.near i r (subst (λ l. ItemAt l i r) b.free a);
    }

pub returns-clause-answer : goal.returns-clause-answer
returns-clause-answer g c = (told c.store.ensures) c.args.tail.room c.requires.holding.right.stage
