use Rattle.std.proofs.Common.{subst, inl}
use denote.RawPtr.{Testable}
use Rattle.cordyceps_base.specs.DoubleChain.{prev_of}
use Rattle.cordyceps_base.proofs.LineMarks.{head_node, head_there, head_read, head_marked}
use Rattle.cordyceps_base.proofs.double_lines.is_marked.Goals as goal

pub is_null-requires : goal.is_null-requires
is_null-requires g c = c.requires.testable

pub returns-then-is_null : goal.returns-then-is_null
returns-then-is_null g c = inl c.if-is_null.ensures

pub get-requires : goal.get-requires
get-requires g c =
    let h = c.args.first in let ns = c.args.row.now.blocks in let u = (head_node h ns c.requires c.if-is_null.ensures).place in
    head_there h ns c.requires u c.from_address.result.now.blocks c.from_address.ensures

pub is_not_null-requires : goal.is_not_null-requires
is_not_null-requires g c =
    let h = c.args.first in let ns = c.args.row.now.blocks in let u = (head_node h ns c.requires c.if-is_null.ensures).place in
    subst (λ x. Testable (prev_of x)) (head_read h ns c.requires u c.from_address.result.now.blocks c.get.result.now c.from_address.ensures c.get.ensures) (head_node h ns c.requires c.if-is_null.ensures).prev_testable

pub returns : goal.returns
returns g c =
    let h = c.args.first in let ns = c.args.row.now.blocks in let u = (head_node h ns c.requires c.if-is_null.ensures).place in
    head_marked h ns c.requires u c.is_not_null.result c.get.result.now (head_read h ns c.requires u c.from_address.result.now.blocks c.get.result.now c.from_address.ensures c.get.ensures) c.is_not_null.ensures
