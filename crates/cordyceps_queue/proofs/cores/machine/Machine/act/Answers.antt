use Rattle.std.proofs.Common.{Some, refl, ap, sym, ◌∙◌}
use Rattle.std.specs.Prelude.{is_some}
use Rattle.cordyceps_queue.specs.declared.cores.stage.Stage.TheVariants.{Holding, Second, PutRead}
use Rattle.std.proofs.lemmas.Option.{slice_get_within}
use Rattle.cordyceps_queue.proofs.CoreTheory.RoomsAtStages.{swapped_within, put_link_within, tail_within, holding_full, second_full, put_read_full}
use Rattle.cordyceps_queue.proofs.cores.machine.Machine.act.Goals as goal

pub link-requires-clause-room : goal.link-requires-clause-room
link-requires-clause-room g c =
    swapped_within c.args.self.now c.requires c.args.party c.in-Swapped-Link.room c.in-Swapped-Link.old (sym c.stage.ensures ∙ (c.in-Some.is ∙ ap (λ l. Some l) c.in-Swapped-Link.is-0))

pub link-requires-in-PutLink-Link-clause-party : goal.link-requires-in-PutLink-Link-clause-party
link-requires-in-PutLink-Link-clause-party g c =
    slice_get_within c.args.self.now.parties c.args.party _ (sym c.stage.ensures ∙ c.in-Some.is)

pub link-requires-in-PutLink-Link-clause-room : goal.link-requires-in-PutLink-Link-clause-room
link-requires-in-PutLink-Link-clause-room g c =
    put_link_within c.args.self.now c.requires c.args.party c.in-PutLink-Link.tail c.in-PutLink-Link.old (sym c.stage.ensures ∙ (c.in-Some.is ∙ ap (λ l. Some l) c.in-PutLink-Link.is-0))

pub link-requires-in-PutClear-Clear-None-clause-party : goal.link-requires-in-PutClear-Clear-None-clause-party
link-requires-in-PutClear-Clear-None-clause-party g c =
    slice_get_within c.args.self.now.parties c.args.party _ (sym c.stage.ensures ∙ c.in-Some.is)

pub swap-requires-in-PutSwap-Swap : goal.swap-requires-in-PutSwap-Swap
swap-requires-in-PutSwap-Swap g c =
    slice_get_within c.args.self.now.parties c.args.party _ (sym c.stage.ensures ∙ c.in-Some.is)

pub take-requires : goal.take-requires
take-requires g c =
    slice_get_within c.args.self.now.parties c.args.party _ (sym c.stage.ensures ∙ c.in-Some.is)

pub look-requires-clause-party : goal.look-requires-clause-party
look-requires-clause-party g c =
    slice_get_within c.args.self.now.parties c.args.party _ (sym c.stage.ensures ∙ c.in-Some.is)

pub read-requires-clause-party : goal.read-requires-clause-party
read-requires-clause-party g c =
    slice_get_within c.args.self.now.parties c.args.party _ (sym c.stage.ensures ∙ c.in-Some.is)

pub read_again-requires-clause-party : goal.read_again-requires-clause-party
read_again-requires-clause-party g c =
    slice_get_within c.args.self.now.parties c.args.party _ (sym c.stage.ensures ∙ c.in-Some.is)

pub head_stub-requires : goal.head_stub-requires
head_stub-requires g c =
    slice_get_within c.args.self.now.parties c.args.party _ (sym c.stage.ensures ∙ c.in-Some.is)

pub head_tail-requires : goal.head_tail-requires
head_tail-requires g c =
    slice_get_within c.args.self.now.parties c.args.party _ (sym c.stage.ensures ∙ c.in-Some.is)

pub give-requires : goal.give-requires
give-requires g c =
    slice_get_within c.args.self.now.parties c.args.party _ (sym c.stage.ensures ∙ c.in-Some.is)

pub look-requires-clause-room : goal.look-requires-clause-room
look-requires-clause-room g c =
    tail_within c.args.self.now c.requires c.args.party (Holding c.in-Holding-ReadNext.tail) (sym c.stage.ensures ∙ (c.in-Some.is ∙ ap (λ l. Some l) c.in-Holding-ReadNext.is-0)) c.in-Holding-ReadNext.tail refl

pub look-requires-clause-full : goal.look-requires-clause-full
look-requires-clause-full g c =
    λ ne. let w = holding_full c.args.self.now c.requires c.args.party c.in-Holding-ReadNext.tail (sym c.stage.ensures ∙ (c.in-Some.is ∙ ap (λ l. Some l) c.in-Holding-ReadNext.is-0)) ne in ap is_some w.1

pub read-requires-clause-room : goal.read-requires-clause-room
read-requires-clause-room g c =
    tail_within c.args.self.now c.requires c.args.party (Second c.in-Second-ReadNext.tail) (sym c.stage.ensures ∙ (c.in-Some.is ∙ ap (λ l. Some l) c.in-Second-ReadNext.is-0)) c.in-Second-ReadNext.tail refl

pub read-requires-clause-full : goal.read-requires-clause-full
read-requires-clause-full g c =
    let w = second_full c.args.self.now c.requires c.args.party c.in-Second-ReadNext.tail (sym c.stage.ensures ∙ (c.in-Some.is ∙ ap (λ l. Some l) c.in-Second-ReadNext.is-0)) in ap is_some w.1

pub read_again-requires-clause-room : goal.read_again-requires-clause-room
read_again-requires-clause-room g c =
    tail_within c.args.self.now c.requires c.args.party (PutRead c.in-PutRead-ReadNext.tail) (sym c.stage.ensures ∙ (c.in-Some.is ∙ ap (λ l. Some l) c.in-PutRead-ReadNext.is-0)) c.in-PutRead-ReadNext.tail refl

pub read_again-requires-clause-full : goal.read_again-requires-clause-full
read_again-requires-clause-full g c =
    let w = put_read_full c.args.self.now c.requires c.args.party c.in-PutRead-ReadNext.tail (sym c.stage.ensures ∙ (c.in-Some.is ∙ ap (λ l. Some l) c.in-PutRead-ReadNext.is-0)) in ap is_some w.1
