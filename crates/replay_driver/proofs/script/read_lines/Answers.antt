use Rattle.std.proofs.Common.{◌≡◌, ◌++◌, [], take, arith, length-drop, length-take, refl}
use Rattle.std.proofs.lemmas.List.{append-nil}
use Rattle.replay_driver.specs.Steps.{HasNoFeed}
use Rattle.replay_driver.proofs.Leads.{leads_nothing, writes_nothing}
use Rattle.replay_driver.proofs.Halting.{grown, counted_le, flushed, joined, nothing_more, halts_unread, halts_ended, halts_last, halts_stopped, halts_long, halts_unwritten}
use Rattle.replay_driver.proofs.script.read_lines.Goals as goal

pub loop-end-init : goal.loop-end-init
loop-end-init g c = record {
  ready = c.requires.ready;
  room = c.requires.block;
  short = omega arith;
  written = c.requires.written;
  clean = λ k d lt. absurd (omega arith);
  so_far = (
    [],
    g.met.I.Source.gives_nothing c.args.input.now,
    (let few = g.met.I.Source.few c.args.input.now in omega arith),
    record {
      lines = [];
      texts = [];
      leads = leads_nothing g.S.Session.machine (g.S.Session.state c.args.session.now) [];
      counted = refl;
      writes = writes_nothing g.O.Sink.takes g.met.O.Sink.takes_nothing c.args.output.now c.args.text.now.items;
    },
  );
}

pub returns-in_default-clause-halts : goal.returns-in_default-clause-halts
returns-in_default-clause-halts g c =
    let (bytes, gave, room, so_far) = c.loop-end.invariant.so_far in
    let gave_them = rw append-nil at (g.met.I.Source.gives_more _ _ _ bytes [] gave c.in_default.ensures.err) in
    halts_unread so_far gave_them c.loop-end.invariant.clean (omega (arith, length-take c.loop-end.held c.loop-end.block, c.loop-end.invariant.short)) c.in_default.ensures.fails

pub overflow_add-count : goal.overflow_add-count
overflow_add-count g c =
    let (bytes, gave, room, so_far) = c.loop-end.invariant.so_far in
    let le = counted_le so_far in omega arith

pub returns-in-Ok-take_last-clause-halts : goal.returns-in-Ok-take_last-clause-halts
returns-in-Ok-take_last-clause-halts g c =
    let (bytes, gave, room, so_far) = c.loop-end.invariant.so_far in
    let (more, given, join) = c.in-Ok.ensures.read in
    let held = c.loop-end.held in
    let end = c.in-Ok.end in
    let block = c.read_more.new.block in
    let gave_them = g.met.I.Source.gives_more _ _ _ bytes more gave given in
    let stop : end ≡ held = c.if-end-held.true in
    let join_held : take held block ≡ take held c.loop-end.block ++ more = rw stop at join in
    let all = grown so_far more (take held block) c.loop-end.block block held held (g.I.Source.room c.loop-end.input) (g.I.Source.room c.read_more.new.input) join_held
    (omega (arith, c.loop-end.invariant.short, c.loop-end.invariant.room)) refl (omega (arith, c.in-Ok.ensures.within.1)) refl (omega (arith, c.in-Ok.ensures.room)) room in
    let clean : HasNoFeed (take held block) = rw (nothing_more c.loop-end.block block more held (omega (arith, c.loop-end.invariant.short, c.loop-end.invariant.room)) c.read_more.ensures.len join_held) c.loop-end.invariant.clean in
    let at_end = c.in-Ok.ensures.end stop in
    halts_ended g.met.O.Sink.takes_more all.1 gave_them clean at_end c.in-Ok-take_last.ensures.taken

pub returns-in-Err-clause-halts : goal.returns-in-Err-clause-halts
returns-in-Err-clause-halts g c =
    let (bytes, gave, room, so_far) = c.loop-end.invariant.so_far in
    let (more, given, join) = c.in-Ok.ensures.read in
    let held = c.loop-end.held in
    let end = c.in-Ok.end in
    let block = c.read_more.new.block in
    let gave_them = g.met.I.Source.gives_more _ _ _ bytes more gave given in
    let stop : end ≡ held = c.if-end-held.true in
    let join_held : take held block ≡ take held c.loop-end.block ++ more = rw stop at join in
    let all = grown so_far more (take held block) c.loop-end.block block held held (g.I.Source.room c.loop-end.input) (g.I.Source.room c.read_more.new.input) join_held
    (omega (arith, c.loop-end.invariant.short, c.loop-end.invariant.room)) refl (omega (arith, c.in-Ok.ensures.within.1)) refl (omega (arith, c.in-Ok.ensures.room)) room in
    let clean : HasNoFeed (take held block) = rw (nothing_more c.loop-end.block block more held (omega (arith, c.loop-end.invariant.short, c.loop-end.invariant.room)) c.read_more.ensures.len join_held) c.loop-end.invariant.clean in
    let at_end = c.in-Ok.ensures.end stop in
    rw c.fault_at.ensures (halts_last g.met.O.Sink.takes_more c.in-Err.stop all.1 gave_them clean at_end c.in-Err.ensures.taken)

pub take_lines-requires-clause-room : goal.take_lines-requires-clause-room
take_lines-requires-clause-room g c =
    let (bytes, gave, room, so_far) = c.loop-end.invariant.so_far in
    let (more, given, join) = c.in-Ok.ensures.read in
    let held = c.loop-end.held in
    let now = take c.in-Ok.end c.read_more.new.block in
    let all = grown so_far more now c.loop-end.block c.read_more.new.block held c.in-Ok.end (g.I.Source.room c.loop-end.input) (g.I.Source.room c.read_more.new.input) join
    (omega (arith, c.loop-end.invariant.short, c.loop-end.invariant.room)) refl c.in-Ok.ensures.within.1 refl c.in-Ok.ensures.room room in
    let small = all.2 in omega arith

pub overflow_add-count-in-Err-take_lines : goal.overflow_add-count-in-Err-take_lines
overflow_add-count-in-Err-take_lines g c =
    let (bytes, gave, room, so_far) = c.loop-end.invariant.so_far in
    let (more, given, join) = c.in-Ok.ensures.read in
    let held = c.loop-end.held in
    let end = c.in-Ok.end in
    let block = c.read_more.new.block in
    let gave_them = g.met.I.Source.gives_more _ _ _ bytes more gave given in
    let all = grown so_far more (take end block) c.loop-end.block block held end (g.I.Source.room c.loop-end.input) (g.I.Source.room c.read_more.new.input) join
    (omega (arith, c.loop-end.invariant.short, c.loop-end.invariant.room)) refl c.in-Ok.ensures.within.1 refl c.in-Ok.ensures.room room in
    let small = all.2 in let bound = c.in-Err-take_lines.ensures.bound in omega arith

pub returns-in-Err-take_lines-clause-halts : goal.returns-in-Err-take_lines-clause-halts
returns-in-Err-take_lines-clause-halts g c =
    let (bytes, gave, room, so_far) = c.loop-end.invariant.so_far in
    let (more, given, join) = c.in-Ok.ensures.read in
    let held = c.loop-end.held in
    let end = c.in-Ok.end in
    let block = c.read_more.new.block in
    let gave_them = g.met.I.Source.gives_more _ _ _ bytes more gave given in
    let all = grown so_far more (take end block) c.loop-end.block block held end (g.I.Source.room c.loop-end.input) (g.I.Source.room c.read_more.new.input) join
    (omega (arith, c.loop-end.invariant.short, c.loop-end.invariant.room)) refl c.in-Ok.ensures.within.1 refl c.in-Ok.ensures.room room in
    rw c.fault_at-in-Err-take_lines.ensures (halts_stopped g.met.O.Sink.takes_more
    (record { run = record { state = g.S.Session.state c.take_lines.new.session; sink = c.take_lines.new.output; text = c.take_lines.new.text.items }; count = c.take_lines.new.count })
    c.in-Err-take_lines.stop all.1 gave_them c.in-Err-take_lines.ensures.taken)

pub overflow_add-result : goal.overflow_add-result
overflow_add-result g c =
    let (bytes, gave, room, so_far) = c.loop-end.invariant.so_far in
    let (more, given, join) = c.in-Ok.ensures.read in
    let held = c.loop-end.held in
    let end = c.in-Ok.end in
    let block = c.read_more.new.block in
    let gave_them = g.met.I.Source.gives_more _ _ _ bytes more gave given in
    let all = grown so_far more (take end block) c.loop-end.block block held end (g.I.Source.room c.loop-end.input) (g.I.Source.room c.read_more.new.input) join
    (omega (arith, c.loop-end.invariant.short, c.loop-end.invariant.room)) refl c.in-Ok.ensures.within.1 refl c.in-Ok.ensures.room room in
    let small = all.2 in let bound = c.in-Ok-take_lines.ensures.bound in omega arith

pub returns-then-held-gt-LONGEST_LINE-clause-halts : goal.returns-then-held-gt-LONGEST_LINE-clause-halts
returns-then-held-gt-LONGEST_LINE-clause-halts g c =
    let (bytes, gave, room, so_far) = c.loop-end.invariant.so_far in
    let (more, given, join) = c.in-Ok.ensures.read in
    let held = c.loop-end.held in
    let end = c.in-Ok.end in
    let block = c.read_more.new.block in
    let gave_them = g.met.I.Source.gives_more _ _ _ bytes more gave given in
    let all = grown so_far more (take end block) c.loop-end.block block held end (g.I.Source.room c.loop-end.input) (g.I.Source.room c.read_more.new.input) join
    (omega (arith, c.loop-end.invariant.short, c.loop-end.invariant.room)) refl c.in-Ok.ensures.within.1 refl c.in-Ok.ensures.room room in
    let next = joined g.met.O.Sink.takes_more (g.O.Sink.has_failed c.take_lines.new.output) all.1 c.in-Ok-take_lines.ensures.taken in
    halts_long next gave_them c.in-Ok-take_lines.ensures.taken.4 (omega (arith, c.in-Ok.ensures.within.1, length-drop c.in-Ok-take_lines.used (take end block), length-take end block))

pub returns-in_default-flush-clause-halts : goal.returns-in_default-flush-clause-halts
returns-in_default-flush-clause-halts g c =
    let (bytes, gave, room, so_far) = c.loop-end.invariant.so_far in
    let (more, given, join) = c.in-Ok.ensures.read in
    let held = c.loop-end.held in
    let end = c.in-Ok.end in
    let block = c.read_more.new.block in
    let gave_them = g.met.I.Source.gives_more _ _ _ bytes more gave given in
    let all = grown so_far more (take end block) c.loop-end.block block held end (g.I.Source.room c.loop-end.input) (g.I.Source.room c.read_more.new.input) join
    (omega (arith, c.loop-end.invariant.short, c.loop-end.invariant.room)) refl c.in-Ok.ensures.within.1 refl c.in-Ok.ensures.room room in
    let next = joined g.met.O.Sink.takes_more (g.O.Sink.has_failed c.take_lines.new.output) all.1 c.in-Ok-take_lines.ensures.taken in
    halts_unwritten g.met.O.Sink.takes_more next gave_them c.in-Ok-take_lines.ensures.taken.4 c.in_default-flush.ensures.fails c.in_default-flush.ensures.front.0 c.in_default-flush.ensures.front.1

pub loop-end-preserved : goal.loop-end-preserved
loop-end-preserved g c =
    let (bytes, gave, room, so_far) = c.loop-end.invariant.so_far in
    let (more, given, join) = c.in-Ok.ensures.read in
    let held = c.loop-end.held in
    let end = c.in-Ok.end in
    let block = c.read_more.new.block in
    let gave_them = g.met.I.Source.gives_more _ _ _ bytes more gave given in
    let all = grown so_far more (take end block) c.loop-end.block block held end (g.I.Source.room c.loop-end.input) (g.I.Source.room c.read_more.new.input) join
    (omega (arith, c.loop-end.invariant.short, c.loop-end.invariant.room)) refl c.in-Ok.ensures.within.1 refl c.in-Ok.ensures.room room in
    let next = joined g.met.O.Sink.takes_more (g.O.Sink.has_failed c.take_lines.new.output) all.1 c.in-Ok-take_lines.ensures.taken in
    let written = flushed g.met.O.Sink.takes_more next c.in-Ok-flush.ensures.wrote in
    record {
      ready = c.in-Ok-take_lines.ensures.ready;
      room = omega (arith, c.loop-end.invariant.room, c.keep.ensures.len, c.read_more.ensures.len);
      short = omega (arith, c.if-held-gt-LONGEST_LINE.false);
      written = c.in-Ok-flush.ensures.empty;
      clean = rw c.keep.ensures.kept c.in-Ok-take_lines.ensures.taken.4;
      so_far = (bytes ++ more, gave_them, all.0, rw (c.keep.ensures.kept, c.in-Ok-flush.ensures.empty) written);
    }
