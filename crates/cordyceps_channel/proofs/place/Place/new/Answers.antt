use Rattle.std.proofs.Common.{rules}
use mathlib.Core.Option.{none}
use Rattle.atomic_table.specs.Table.{step}
use Rattle.cordyceps_channel.proofs.Placing.{handle_opens}
use Rattle.cordyceps_channel.proofs.place.Place.new.Goals as goal

pub compare_exchange-requires : goal.compare_exchange-requires
compare_exchange-requires g c =
    (search rules, search rules, handle_opens g.X.Fits.fits c.deref.result.now.shared.key _ _ (step c.deref.result.now.shared.table_id.slots 0 2 0 none) c.in_ok-table.seat.me (search rules))
