use Rattle.std.proofs.Common.{Some, sym, ◌∙◌}
use Rattle.cordyceps_c.proofs.list.cordyceps_list_move_to_back.Goals as goal

pub returns : goal.returns
returns c =
    rw (c.in-Some.ensures.taken ∙ (λ i. Some (sym c.deref_mut.ensures.value i))) (c.move_to_back-is_moved.new.self, c.put.ensures, c.move_to_back-is_moved.ensures)
