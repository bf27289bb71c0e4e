-- What a handle ends as, once a `&mut` to what it holds has ended.
use Rattle.std.specs.Prelude.{Some}
use Rattle.std.specs.Borrow.{Fml, MutBor, Lends}
use Rattle.cordyceps_c_shared.specs.declared.inbox.Inbox.{Inbox}
use Rattle.cordyceps_c_shared.specs.declared.pile.Pile.{Pile}
use Rattle.cordyceps_c_shared.specs.Rows.{inbox_row, pile_row}
use Rattle.cordyceps_c_shared.specs.declared.inbox_handle.InboxHandle.{InboxHandle}
use Rattle.cordyceps_c_shared.specs.contracts.inbox_handle.InboxHandle as inbox_handle
use Rattle.cordyceps_c_shared.specs.declared.pile_handle.PileHandle.{PileHandle}
use Rattle.cordyceps_c_shared.specs.contracts.pile_handle.PileHandle as pile_handle

abbrev pub with_inbox : InboxHandle → Inbox → InboxHandle
with_inbox h w = record { at = h.at; held = Some w }

abbrev pub lends_inbox : MutBor InboxHandle → MutBor Inbox → Fml
lends_inbox h r = Lends inbox_handle.the_row inbox_row h r (with_inbox h.now)

abbrev pub with_pile : PileHandle → Pile → PileHandle
with_pile h w = record { at = h.at; held = Some w }

abbrev pub lends_pile : MutBor PileHandle → MutBor Pile → Fml
lends_pile h r = Lends pile_handle.the_row pile_row h r (with_pile h.now)
