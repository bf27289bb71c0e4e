use Rattle.std.proofs.Common.{refl}
use Rattle.cordyceps_base.proofs.Segments.{cut, place_there, next_testable, next_there, next_none}
use Rattle.cordyceps_base.proofs.double_chain.DoubleChain.next_at.Goals as goal

pub get-requires : goal.get-requires
get-requires g c = place_there c.self.inside.boxes.blocks c.from_address.result.now.blocks c.args.self.now c.args.at.ptr c.self.view_is c.requires c.from_address.ensures

pub is_not_null-requires : goal.is_not_null-requires
is_not_null-requires g c =
    let u = cut c.self.view_is c.requires c.self.invariant (refl, c.from_address.ensures) in
    next_testable u c.args.self.now c.self.view_is c.self.invariant.comparable c.get.result.now c.get.ensures

pub returns-then-is_not_null : goal.returns-then-is_not_null
returns-then-is_not_null g c =
    let u = cut c.self.view_is c.requires c.self.invariant (refl, c.from_address.ensures) in
    next_there u c.args.self.now c.self.view_is c.self.invariant.comparable c.get.result.now c.get.ensures c.if-is_not_null.ensures

pub returns-else-is_not_null : goal.returns-else-is_not_null
returns-else-is_not_null g c =
    let u = cut c.self.view_is c.requires c.self.invariant (refl, c.from_address.ensures) in
    next_none u c.args.self.now c.self.view_is c.self.invariant.comparable c.get.result.now c.get.ensures c.if-is_not_null.ensures
