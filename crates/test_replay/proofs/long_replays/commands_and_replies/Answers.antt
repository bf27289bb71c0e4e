use Rattle.std.proofs.Common.{All, [], ◌∷◌, rules}
use Rattle.std.proofs.lemmas.List.Elements.{All-append, All-cons}
use Rattle.cordyceps.specs.Lists.{Fits}
use Rattle.test_replay.proofs.long_replays.commands_and_replies.Goals as goal

pub loop-number-preserved : goal.loop-number-preserved
loop-number-preserved g c =
    let command = c.draw-next.result.command in
    let none : All Fits [] = search rules in
    rw c.in_ok-push_back.ensures.items (All-append Fits c.loop-number.commands.items (command ∷ []) c.loop-number.invariant (All-cons Fits command [] c.draw-next.ensures none))
