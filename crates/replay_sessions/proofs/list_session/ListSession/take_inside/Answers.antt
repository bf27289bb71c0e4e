use Rattle.std.proofs.Common.{ℕ, [], refl, sym, inl, inr, arith}
use Rattle.std.proofs.lemmas.List.{append-nil}
use Rattle.replay_sessions.specs.OpenBlocks.{open_as}
use Rattle.replay_sessions.proofs.ListLines.{inside, kept, closed, refused, reopened, no_end, can_run_to, stays_open}
use Rattle.replay_sessions.proofs.list_session.ListSession.take_inside.Goals as goal

pub returns-in_default-push-clause-taken : goal.returns-in_default-push-clause-taken
returns-in_default-push-clause-taken c =
    let block = c.args.block in (
      _,
      _,
      [],
      inside c.args.self.now.lists (open_as block) c.args.line.now c.in-Some.command c.in-Some.ensures.value,
      (0, inl refl, refl),
      sym (append-nil c.args.text.now.items),
      inl (rw c.in_default-push.ensures.items refl),
    )

pub returns-in_default-push-clause-ready : goal.returns-in_default-push-clause-ready
returns-in_default-push-clause-ready c = rw c.in_default-push.ensures.items c.requires.open

pub run_block-requires : goal.run_block-requires
run_block-requires c =
    (c.requires.open.0, rw c.in-Ok.ensures.items (can_run_to c.args.block.lines.items c.in-Some.command c.requires.open.1 c.in-Some.ensures.fits))

pub returns-in_default-command : goal.returns-in_default-command
returns-in_default-command c =
    let block = c.args.block in
    let command = c.in-Some.command in
    let goes_on = no_end command c.in_default-command.not-End in
    record {
      taken = (
        [],
        kept c.args.self.now.lists (open_as block) c.args.line.now command c.push.new.self.items c.in-Some.ensures.value goes_on c.in-Ok.ensures.items,
        sym (append-nil c.args.text.now.items),
      );
      ready = (c.requires.open.0, rw c.in-Ok.ensures.items (stays_open block.lines.items command c.requires.open.1 c.in-Some.ensures.fits goes_on));
    }

pub returns-in-Ok-run_block-clause-taken : goal.returns-in-Ok-run_block-clause-taken
returns-in-Ok-run_block-clause-taken c =
    rw (c.in-Ok-run_block.ensures.block, c.requires.block) (
    closed c.args.self.now.lists c.run_block.new.self.lists (open_as c.args.block) c.args.line.now c.in-Some.command c.push.new.self.items c.args.text.now.items c.run_block.new.text.items
    c.in-Some.ensures.value c.in-End.is c.in-Ok.ensures.items c.in-Ok-run_block.ensures.ok
    )

pub returns-in-Err-Some-clause-taken : goal.returns-in-Err-Some-clause-taken
returns-in-Err-Some-clause-taken c =
    let block = c.args.block in
    let table = c.args.self.now.lists in
    let new = c.run_block.new.self.lists in
    let came = rw c.in-Err-Some.field-0-is at c.in-Err-Some.ensures.back in
    let same = reopened table new block (record { list = block.list; end = block.end; lines = c.push.new.self }) c.in-Err-Some.back c.in-Some.command c.truncate.new.self.items c.len-held.result came refl refl
    c.in-Ok.ensures.items (omega (arith, c.len-held.ensures, c.args.block.lines.ok)) c.truncate.ensures.items in
    refused {E = ℕ} 0 table (open_as block) c.args.line.now c.in-Some.command c.push.new.self.items (new, _) c.args.text.now.items c.run_block.new.text.items c.in-Some.ensures.value c.in-End.is c.in-Ok.ensures.items
    (inl same) c.in-Err-Some.ensures.err

pub returns-in-Err-None-clause-taken : goal.returns-in-Err-None-clause-taken
returns-in-Err-None-clause-taken c =
    let ran = rw c.in-Err-None.field-0-is at c.in-Err-None.ensures.back in
    refused {E = ℕ} 0 c.args.self.now.lists (open_as c.args.block) c.args.line.now c.in-Some.command c.push.new.self.items (c.run_block.new.self.lists, _) c.args.text.now.items c.run_block.new.text.items
    c.in-Some.ensures.value c.in-End.is c.in-Ok.ensures.items (inr (rw (c.in-Err-None.ensures.block, c.requires.block, ran) refl)) c.in-Err-None.ensures.err
