use Rattle.cordyceps_base.proofs.double_row.row_of.Goals as goal

pub returns-clause-one : goal.returns-clause-one
returns-clause-one g c = (c.one-row.result.1, c.from_box.result.value, c.one-row.ensures)
