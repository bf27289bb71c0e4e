use Rattle.std.proofs.Common.{◌+◌, [], take, drop, arith, length-drop, refl}
use Rattle.std.proofs.lemmas.Result.{err_from_is_err_and}
use Rattle.replay_driver.specs.Steps.{HasNoFeed}
use Rattle.replay_driver.proofs.Leads.{leads_nothing, writes_nothing}
use Rattle.replay_driver.proofs.Blocks.{Found, found_line, none_found, slice_from, go_on, stopped, rest_of, line_of}
use Rattle.replay_driver.proofs.script.take_lines.Goals as goal

pub loop-length-init : goal.loop-length-init
loop-length-init g c = record {
  ready = c.requires.ready;
  within = omega arith;
  so_far = (
    0,
    omega arith,
    omega arith,
    record {
      lines = [];
      texts = [];
      leads = leads_nothing g.S.Session.machine (g.S.Session.state c.args.session.now) c.args.block.now;
      counted = refl;
      writes = writes_nothing g.O.Sink.takes g.met.O.Sink.takes_nothing c.args.output.now c.args.text.now.items;
    },
  );
}

pub returns-in_err-take_line-clause-taken : goal.returns-in_err-take_line-clause-taken
returns-in_err-take_line-clause-taken g c =
    let p = err_from_is_err_and c.from_residual.result c.from_residual.ensures.1 in
    let block = c.args.block.now in
    let start = c.loop-length.start in
    let k = c.in-Some.length in
    let rest = drop start block in
    let found : Found rest k = found_line rest k (rw (slice_from block start) at c.in-Some.ensures) in
    let so_far = rw found.cut at c.loop-length.invariant.so_far.3 in
    rw (p.1, p.2) (stopped g.S.Session.machine g.O.Sink.takes g.met.O.Sink.takes_more
    (record { run = record { state = g.S.Session.state c.args.session.now; sink = c.args.output.now; text = c.args.text.now.items }; count = c.args.count.now })
    (record { run = record { state = g.S.Session.state c.take_line.new.session; sink = c.take_line.new.output; text = c.take_line.new.text.items }; count = c.loop-length.count })
    (record { state = g.S.Session.state c.loop-length.session; sink = c.loop-length.output; text = c.loop-length.text.items })
    block (take k rest) _ (drop (k + 1) rest) c.loop-length.invariant.so_far.0 (g.O.Sink.has_failed c.take_line.new.output) c.in_err-take_line.field-0.0 so_far c.loop-length.invariant.so_far.1 found.clean (line_of block start k) c.in_err-take_line.ensures.taken)

pub loop-length-preserved : goal.loop-length-preserved
loop-length-preserved g c =
    let block = c.args.block.now in
    let start = c.loop-length.start in
    let k = c.in-Some.length in
    let rest = drop start block in
    let found : Found rest k = found_line rest k (rw (slice_from block start) at c.in-Some.ensures) in
    let so_far = rw found.cut at c.loop-length.invariant.so_far.3 in
    let n = c.loop-length.invariant.so_far.0 in
    let next = go_on g.S.Session.machine g.O.Sink.takes g.met.O.Sink.takes_more
    (record { state = g.S.Session.state c.args.session.now; sink = c.args.output.now; text = c.args.text.now.items })
    (record { state = g.S.Session.state c.loop-length.session; sink = c.loop-length.output; text = c.loop-length.text.items })
    (record { state = g.S.Session.state c.take_line.new.session; sink = c.take_line.new.output; text = c.take_line.new.text.items })
    block (take k rest) _ (drop (k + 1) rest) n (g.O.Sink.has_failed c.take_line.new.output) so_far found.clean (line_of block start k) c.in_ok-take_line.ensures.taken in
    record {
      ready = c.in_ok-take_line.ensures.ready;
      within = omega (arith, found.within, length-drop start block);
      so_far = (n + 1, omega (arith, c.loop-length.invariant.so_far.1), omega (arith, c.loop-length.invariant.so_far.2), rw (rest_of block start k) next);
    }

pub returns-clause-taken : goal.returns-clause-taken
returns-clause-taken g c =
    let block = c.args.block.now in
    let start = c.loop-length.start in
    let clean : HasNoFeed (drop start block) = none_found (drop start block) (rw (slice_from block start) at c.in_default.ensures) in
    let n = c.loop-length.invariant.so_far.0 in
    let so_far = c.loop-length.invariant.so_far.3 in
    (so_far.lines, so_far.texts, so_far.leads, c.loop-length.invariant.within, clean, rw (← so_far.counted) c.loop-length.invariant.so_far.1, so_far.writes)
