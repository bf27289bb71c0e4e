-- What a handle holds, as the logic has it.
use denote.RattleType.{RattleType}
use Rattle.cordyceps_c_shared.specs.contracts.inbox.Inbox as inbox
use Rattle.cordyceps_c_shared.specs.contracts.pile.Pile as pile

abbrev pub inbox_row : RattleType
inbox_row = inbox.the_row

abbrev pub pile_row : RattleType
pile_row = pile.the_row
