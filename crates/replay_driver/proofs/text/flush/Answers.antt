use Rattle.std.proofs.Common.{ℕ, refl, ◌++◌, [], take, drop, arith, length-drop, length-take}
use Rattle.std.proofs.lemmas.List.{append-nil, take-append-drop}
use Rattle.replay_driver.proofs.Pieces.{on_err, next_piece}
use Rattle.replay_driver.proofs.text.flush.Goals as goal

pub returns-in_err-start-clause-front : goal.returns-in_err-start-clause-front
returns-in_err-start-clause-front g c =
    let text = c.args.text.now.items in
    let start = c.loop-start.start in
    on_err c.from_residual.result (
      drop start text,
      (
        take start text ++ [],
        g.met.O.Sink.takes_more _ _ _ (take start text) [] c.loop-start.invariant.wrote c.in_err-start.ensures.err,
        rw (append-nil text, append-nil (take start text), take-append-drop) refl,
      ),
    )

pub loop-start-preserved : goal.loop-start-preserved
loop-start-preserved g c =
    let text = c.args.text.now.items in
    let start = c.loop-start.start in
    let n = c.in_ok-start.field-0 in
    let more = g.met.O.Sink.takes_more _ _ _ (take start text) _ c.loop-start.invariant.wrote c.in_ok-start.ensures.bytes in
    record {
      within = omega (arith, c.in_ok-start.ensures.count, c.deref.ensures.value, c.deref.ensures.len, length-take {A = ℕ}, length-drop {A = ℕ});
      wrote = rw (next_piece text c.deref.result.now start n c.deref.ensures.value) at more;
    }
