use Rattle.std.proofs.Common.{◌≡◌, ℕ, ◌<◌, List, [], length, get_or, slice_set, refl, sym, ap, ◌∙◌, arith}
use Rattle.std.proofs.lemmas.List.{get_or_read}
use Rattle.std.proofs.lemmas.Result.{IfOk-weaker}
use Rattle.std.specs.declared.alloc.Global.{Global}
use Rattle.std.specs.declared.vec.Vec.{Vec}
use Rattle.cordyceps_base.specs.Element.{Elements}
use Rattle.cordyceps_commands.specs.declared.item.Item.{Item}
use Rattle.cordyceps_commands.specs.declared.list_command.ListEnd.{ListEnd}
use Rattle.cordyceps_commands.specs.declared.list_command.CursorCommand.{CursorCommand}
use Rattle.cordyceps_commands.specs.declared.list_command.ListCommand.{ListCommand}
use Rattle.cordyceps_commands.specs.declared.list_command.ListCommand.TheVariants.{Append, Split, Cursor}
use Rattle.cordyceps_tables.specs.Lists.{step, call_on, list_of}
use Rattle.cordyceps_commands.specs.Replies.{Line}
use Rattle.cordyceps_tables.specs.Tables.{Table, held_at, on}
use Rattle.cordyceps_tables.proofs.replay.lists.Lists.run.Goals as goal

-- a command on its list alone
alone : (table : Table) (command : ListCommand) → ((l m : ℕ) → command ≡ Append l m → ⊥) → ((l at m : ℕ) → command ≡ Split l at m → ⊥) →
    ((l : ℕ) (end : ListEnd) (lines : Vec CursorCommand Global) → command ≡ Cursor l end lines → ⊥) →
    step table command ≡ on table (list_of command) (λ s. call_on s command)
alone table (Append l m) a b c = absurd (a l m refl)
alone table (Split l at m) a b c = absurd (b l at m refl)
alone table (Cursor l end lines) a b c = absurd (c l end lines refl)
alone table command a b c = refl

pub append-requires-clause-list : goal.append-requires-clause-list
append-requires-clause-list c = let fits = rw c.in-Append.is at c.requires in omega (arith, fits.first)

pub append-requires-clause-other : goal.append-requires-clause-other
append-requires-clause-other c = let fits = rw c.in-Append.is at c.requires in omega (arith, fits.others)

pub split-requires-clause-list : goal.split-requires-clause-list
split-requires-clause-list c = let fits = rw c.in-Split.is at c.requires in omega (arith, fits.first)

pub split-requires-clause-other : goal.split-requires-clause-other
split-requires-clause-other c = let fits = rw c.in-Split.is at c.requires in omega (arith, fits.others)

pub run_block-requires-clause-list : goal.run_block-requires-clause-list
run_block-requires-clause-list c = let fits = rw c.in-Cursor.is at c.requires in omega (arith, fits.first)

pub run_block-requires-clause-count : goal.run_block-requires-clause-count
run_block-requires-clause-count c = omega arith

pub listed : goal.listed
listed c = omega (arith, c.number_of.ensures, c.requires.first)

pub bounds-self-inside-number_of : goal.bounds-self-inside-number_of
bounds-self-inside-number_of c = omega (arith, c.number_of.ensures, c.requires.first)

pub returns-in_default-clause-ok : goal.returns-in_default-clause-ok
returns-in_default-clause-ok c =
    let n = c.number_of.result in
    let command = c.args.command.now in
    let lists = c.self.inside.lists in
    let here : n < length lists = omega (arith, c.number_of.ensures, c.requires.first) in
    let held : get_or lists n c.index-self-number_of.result ≡ held_at lists n = sym c.index-self-number_of.is ∙ get_or_read lists _ _ here c.index-self-number_of.is [] in
    let means = alone c.args.self.now command c.in_default.not-Append c.in_default.not-Split c.in_default.not-Cursor ∙ ap (λ (k : ℕ). on c.args.self.now k (λ s. call_on s command)) (sym c.number_of.ensures) in
    rw (means, ← c.self.view_is) (IfOk-weaker c.run_call.result _ _ (λ reply ran. ap (λ (p : Elements Item × List Line). (slice_set lists n p.0, p.1)) (ran ∙ ap (λ (s : Elements Item). call_on s command) held)) c.run_call.ensures.ok)
