use Rattle.std.proofs.Common.{rules}
use Rattle.cordyceps_queue.proofs.SharedTheory.ReceiptKeeps.{tells_receipt}
use Rattle.cordyceps_queue.proofs.shared.receipt.tell.Goals as goal

pub split_seat-requires : goal.split_seat-requires
split_seat-requires g c = (
  search rules,
  search rules,
  tells_receipt _ _,
)
