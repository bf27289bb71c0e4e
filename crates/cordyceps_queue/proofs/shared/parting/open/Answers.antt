use Rattle.std.proofs.Common.{sym, subst}
use Rattle.cordyceps_queue.specs.Shared.Parts.{AreNewWords}
use Rattle.cordyceps_queue.proofs.SharedTheory.UsesShare.{opens_with, plain_words, are_new}
use Rattle.cordyceps_queue.proofs.shared.parting.open.Goals as goal

pub vacant-requires : goal.vacant-requires
vacant-requires g c = opens_with _ _ (plain_words c.args.rooms) _ (are_new c.args.rooms) (subst (λ w. AreNewWords w c.args.rooms) (sym c.as_slice.ensures.value) c.in_ok-words.ensures)
