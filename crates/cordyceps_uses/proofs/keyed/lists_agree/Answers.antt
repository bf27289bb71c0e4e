use Rattle.cordyceps_uses.proofs.keyed.lists_agree.Goals as goal

pub returns : goal.returns
returns g c = let e = c.lists_agree.ensures in record { laws = g.met.K.Eq.laws; distinct = e.distinct; once = e.once; inside = e.inside; all = e.all; apart = e.apart }
