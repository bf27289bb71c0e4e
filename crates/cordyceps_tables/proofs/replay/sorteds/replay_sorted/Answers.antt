use Rattle.std.proofs.Common.{◌≡◌, ◌∷◌, [], drop, refl, arith, rules, ◌∙◌}
use Rattle.std.proofs.lemmas.Grind.{common_steps}
use Rattle.std.proofs.lemmas.List.Elements.{All-drop}
use Rattle.cordyceps_tables.specs.Sorteds.{order_of, step, Fits}
use Rattle.cordyceps_tables.specs.Plays.{Plays, AnswersSome}
use Rattle.cordyceps_tables.proofs.Ordered.{own, stays_in_order, each_is_preorder}
use Rattle.cordyceps_tables.proofs.Plays.{plays_nothing, plays_more, answers_more, first_waiting}
use Rattle.cordyceps_tables.proofs.replay.sorteds.replay_sorted.Goals as goal

pub loop-command-init : goal.loop-command-init
loop-command-init g c =
    let empty : c.new-replies.result.items ≡ [] = search rules in
    record {
      played = λ cmp by sorted. rw empty (plays_nothing (step (order_of own cmp)) c.args.sorteds.now.0 c.args.commands.items);
      in_order = λ cmp by sorted. sorted;
      function = refl;
      fit = c.requires.fit;
      answers = ([], refl, rw empty);
    }

pub returns-clause-played : goal.returns-clause-played
returns-clause-played g c =
    let same : c.match-front.sorteds ≡ c.loop-command.sorteds = first_of (search rules, grind (arith, common_steps)) in
    let told : c.match-front.replies.items ≡ c.loop-command.replies.items = first_of (search rules, grind (arith, common_steps)) in
    λ cmp by sorted. rw (same, told) (c.loop-command.invariant.played cmp by sorted)

pub returns-clause-in_order : goal.returns-clause-in_order
returns-clause-in_order g c =
    let same : c.match-front.sorteds ≡ c.loop-command.sorteds = first_of (search rules, grind (arith, common_steps)) in
    λ cmp by sorted. rw same (c.loop-command.invariant.in_order cmp by sorted)

pub loop-command-preserved : goal.loop-command-preserved
loop-command-preserved g c =
    let kept = c.loop-command.invariant in
    let waiting = c.loop-command.rest.items in
    let command = c.in-Some.command.now in
    let split : waiting ≡ command ∷ drop 1 waiting = first_waiting waiting command c.in-Some.ensures.item.3.0 c.in-Some.ensures.lookup in
    record {
      played = λ cmp by sorted.
          let means = step (order_of own cmp) in
          let before : Plays means c.args.sorteds.now.0 c.args.commands.items c.loop-command.replies.items (command ∷ drop 1 waiting) c.loop-command.sorteds.0 = rw split at (kept.played cmp by sorted) in
          let here = c.in-Ok.ensures.ok cmp (rw kept.function by) (kept.in_order cmp by sorted) in
          let after = plays_more means c.args.sorteds.now.0 c.loop-command.sorteds.0 c.run.new.self.0 c.args.commands.items (drop 1 waiting) c.loop-command.replies.items command c.in-Ok.reply before here in
          rw (c.pop_front.ensures.rest, c.in-Ok-push.ensures.items, c.reserve.ensures.items) after;
      in_order = λ cmp by sorted.
          let was = kept.in_order cmp by sorted in
          let here = c.in-Ok.ensures.ok cmp (rw kept.function by) was in
          stays_in_order (order_of own cmp) (each_is_preorder cmp by.lawful) c.loop-command.sorteds.0 c.run.new.self.0 _ command here was;
      function = c.in-Ok.ensures.function ∙ kept.function;
      fit = rw c.pop_front.ensures.rest (All-drop Fits 1 waiting kept.fit);
      answers =
          let before : AnswersSome c.args.commands.items c.loop-command.replies.items (command ∷ drop 1 waiting) = rw split at kept.answers in
          rw (c.pop_front.ensures.rest, c.in-Ok-push.ensures.items, c.reserve.ensures.items) (answers_more c.args.commands.items (drop 1 waiting) c.loop-command.replies.items command c.in-Ok.reply before);
    }

pub returns-clause-answers : goal.returns-clause-answers
returns-clause-answers g c =
    let told : c.match-front.replies.items ≡ c.loop-command.replies.items = first_of (search rules, grind (arith, common_steps)) in
    rw told c.loop-command.invariant.answers
