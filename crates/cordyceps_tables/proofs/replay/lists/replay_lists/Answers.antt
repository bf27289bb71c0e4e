use Rattle.std.proofs.Common.{◌≡◌, ◌∷◌, drop, rules}
use Rattle.std.proofs.lemmas.List.Elements.{All-drop}
use Rattle.cordyceps_tables.specs.Lists.{step, Fits}
use Rattle.cordyceps_tables.specs.Plays.{Plays}
use Rattle.cordyceps_tables.proofs.Plays.{plays_nothing, plays_more, first_waiting}
use Rattle.cordyceps_tables.proofs.replay.lists.replay_lists.Goals as goal

pub loop-command-preserved : goal.loop-command-preserved
loop-command-preserved c =
    let waiting = c.loop-command.rest.items in
    let command = c.in-Some.command.now in
    let split : waiting ≡ command ∷ drop 1 waiting = first_waiting waiting command c.in-Some.ensures.item.3.0 c.in-Some.ensures.lookup in
    let before : Plays step c.args.lists.now c.args.commands.items c.loop-command.replies.items (command ∷ drop 1 waiting) c.loop-command.lists = rw split at c.loop-command.invariant.played in
    let after = plays_more step c.args.lists.now c.loop-command.lists c.run.new.self c.args.commands.items (drop 1 waiting) c.loop-command.replies.items command c.in-Ok.reply before c.in-Ok.ensures.ok in
    record {
      played = rw (c.discard_first.ensures, c.in-Ok-push.ensures.items, c.reserve.ensures.items) after;
      fit = rw c.discard_first.ensures (All-drop Fits 1 waiting c.loop-command.invariant.fit);
    }

pub loop-command-init : goal.loop-command-init
loop-command-init c = record { played = rw c.new-replies.ensures.items (plays_nothing step c.args.lists.now c.args.commands.items); fit = c.requires }

pub returns : goal.returns
returns c =
    let same : c.match-front.lists ≡ c.loop-command.lists = search rules in
    let told : c.match-front.replies.items ≡ c.loop-command.replies.items = search rules in
    rw (same, told) c.loop-command.invariant.played
