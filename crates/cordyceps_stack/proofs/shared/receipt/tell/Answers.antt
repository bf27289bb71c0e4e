use Rattle.std.proofs.Common.{rules}
use Rattle.cordyceps_stack.proofs.SharedTheory.ReceiptKeeps.{tells_receipt}
use Rattle.cordyceps_stack.proofs.shared.receipt.tell.Goals as goal

pub split_seat-requires : goal.split_seat-requires
split_seat-requires g c = (
  search rules,
  search rules,
  tells_receipt _ _,
)
