use Rattle.std.proofs.Common.{length, ap, arith}
use Rattle.cordyceps_list.proofs.Handed.{handed_within}
use Rattle.test_lists.proofs.whole_lists.splits_and_extends.Goals as goal

pub extend-requires : goal.extend-requires
extend-requires c it h = λ same. (tt, tt, λ taken t y. let few = handed_within _ h t taken y in omega (arith, few, ap length same, ap length it.into_iter.ensures.into_iter_gives))

pub from_iter-copy-requires : goal.from_iter-copy-requires
from_iter-copy-requires c it h = λ same. (tt, tt, λ taken t y. let few = handed_within _ h t taken y in omega (arith, few, ap length same, ap length it.into_iter-2.ensures.into_iter_gives))
