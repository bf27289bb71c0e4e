use Rattle.std.proofs.Common.{◌≡◌, ◌≤◌, arith, length, rules, subst, sym}
use Rattle.cordyceps_channel.specs.Selects.{InRow, RowFindsNone, SelectsNone}
use Rattle.cordyceps_channel.proofs.Selecting.{as_many, both_rows, found_later, row_nothing}
use Rattle.cordyceps_channel.proofs.select.Select.try_recv.Goals as goal

pub try_row-requires-in-Err : goal.try_row-requires-in-Err
try_row-requires-in-Err g c =
    let turn = c.min-turn.result in
    let count = c.len-count.result in
    let few : turn ≤ count = search rules in
    let all : count ≡ length c.args.self.now = search rules in
    (omega arith, omega (arith, few, all, as_many (InRow c.in-Err.behind turn count) c.args.self.now c.try_row.new.self c.in-Err.ensures.each))

pub returns-in-Ok-try_row : goal.returns-in-Ok-try_row
returns-in-Ok-try_row g c =
    let found = c.in-Ok-try_row.found in
    let us = c.args.self.now in
    let vs = c.try_row.new.self in
    found_later found.index found.value us vs c.try_row-in-Err.new.self (row_nothing c.in-Err.behind c.min-turn.result c.len-count.result us vs c.in-Err.ensures) c.in-Ok-try_row.ensures

pub returns-in-Err-try_row : goal.returns-in-Err-try_row
returns-in-Err-try_row g c =
    let us = c.args.self.now in
    let vs = c.try_row.new.self in
    let ws = c.try_row-in-Err.new.self in
    let turn = c.min-turn.result in
    let all : c.len-count.result ≡ length us = search rules in
    let behind = subst (λ n. RowFindsNone c.in-Err.behind turn n us vs) all c.in-Err.ensures in
    subst (λ y. SelectsNone y us ws) (sym c.worse.ensures) (both_rows c.in-Err.behind c.in-Err-try_row.before turn us vs ws behind c.in-Err-try_row.ensures)
