use Rattle.cordyceps_stable.proofs.Holding.{next_stays, replaced_before, replaced_last}
use Rattle.cordyceps_stable.proofs.Valid.{replaced_apart, replaced_keeps}
use Rattle.cordyceps_stable.proofs.stable_list.StableList.replace.Goals as goal

pub insert_before-requires-clause-there : goal.insert_before-requires-clause-there
insert_before-requires-clause-there g c = next_stays _ _ _ _ _ c.spots_are_distinct.ensures c.in-Some.ensures.step c.remove-old.ensures.taken

pub returns-in-Some-clause-replaced : goal.returns-in-Some-clause-replaced
returns-in-Some-clause-replaced g c =
    replaced_before _ _ _ _ _ _ _ _ c.spots_are_distinct.ensures c.remove-old.ensures.distinct c.in-Some.ensures.step c.remove-old.ensures.taken c.insert_before.ensures.holds

pub returns-in-None-clause-replaced : goal.returns-in-None-clause-replaced
returns-in-None-clause-replaced g c = replaced_last _ _ _ _ _ _ _ c.spots_are_distinct.ensures c.in-None.ensures.step c.remove-old.ensures.taken c.push_back.ensures.holds

pub returns-in-Some-clause-kept : goal.returns-in-Some-clause-kept
returns-in-Some-clause-kept g c = replaced_keeps _ _ _ _ _ _ (returns-in-Some-clause-replaced g c)

pub returns-in-Some-clause-apart : goal.returns-in-Some-clause-apart
returns-in-Some-clause-apart g c = replaced_apart _ _ _ _ _ _ c.insert_before.ensures.distinct (returns-in-Some-clause-replaced g c)

pub returns-in-None-clause-kept : goal.returns-in-None-clause-kept
returns-in-None-clause-kept g c = replaced_keeps _ _ _ _ _ _ (returns-in-None-clause-replaced g c)

pub returns-in-None-clause-apart : goal.returns-in-None-clause-apart
returns-in-None-clause-apart g c = replaced_apart _ _ _ _ _ _ c.push_back.ensures.distinct (returns-in-None-clause-replaced g c)
