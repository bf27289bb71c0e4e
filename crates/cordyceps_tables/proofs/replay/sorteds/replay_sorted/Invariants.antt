use Rattle.std.proofs.Common.{◌≡◌, All}
use Rattle.std.specs.VecDeque.{deque_len}
use Rattle.std.specs.declared.cmp.Ordering.{Ordering}
use Rattle.cordyceps_single.specs.ByFn.{Computes}
use Rattle.cordyceps_commands.specs.declared.item.Item.{Item}
use Rattle.cordyceps_tables.specs.Sorteds.{order_of, step, Fits, AreInOrder}
use Rattle.cordyceps_tables.specs.Plays.{Plays, AnswersSome}
use Rattle.cordyceps_tables.proofs.Ordered.{own}
use Rattle.cordyceps_tables.proofs.replay.sorteds.replay_sorted.Given as goal

abbrev pub invariant-loop-command : goal.invariant-loop-command
invariant-loop-command g l =
    record {
      played : (cmp : Item → Item → Ordering) → Computes g.F.Fn l.fn.sorteds.1 cmp → AreInOrder (order_of own cmp) l.fn.sorteds.0 → Plays (step (order_of own cmp)) l.fn.sorteds.0 l.fn.commands.items l.replies.items l.rest.items l.sorteds.0;
      in_order : (cmp : Item → Item → Ordering) → Computes g.F.Fn l.fn.sorteds.1 cmp → AreInOrder (order_of own cmp) l.fn.sorteds.0 → AreInOrder (order_of own cmp) l.sorteds.0;
      function : l.sorteds.1 ≡ l.fn.sorteds.1;
      fit : All Fits l.rest.items;
      answers : AnswersSome l.fn.commands.items l.replies.items l.rest.items;
    }

abbrev pub decreases-loop-command : goal.decreases-loop-command
decreases-loop-command g l = deque_len l.rest
