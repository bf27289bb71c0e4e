use Rattle.std.proofs.Common.{◌≡◌, ◌+◌, ◌∙◌, subst, ap, sym, rules, arith}
use Rattle.cordyceps_channel.specs.Channels.{ComesBack, AreHomes, left_after}
use Rattle.cordyceps_channel.proofs.Registering.{home_at}
use Rattle.cordyceps_channel.proofs.register.Register.reopen.Goals as goal

pub returns-in-Some-clause-opened : goal.returns-in-Some-clause-opened
returns-in-Some-clause-opened g c =
    let made = c.in_ok-home.ensures.made in
    let took = c.in-Some.ensures in
    let same = ap (λ p. p.key) took.0 in
    let of = c.index_mut.ensures.value in
    let i = c.loop-i.invariant in
    let z = c.args.self.now.party.table in
    let h = home_at z c.loop-i.self.homes.items 0 c.loop-i.i c.index_mut.result.now (search rules) (subst (λ hs. AreHomes z 0 hs) (sym i.1) c.requires.places) in
    let table = ap (λ k. k.value.table) same ∙ (ap (λ p. p.key.value.table) made ∙ (ap (λ p. p.key.value.table) of ∙ h.table)) in
    let at : 0 + c.loop-i.i ≡ c.loop-i.i = omega arith in
    let share = ap (λ k. k.value.share) same ∙ (ap (λ p. p.key.value.share) made ∙ (ap (λ p. p.key.value.share) of ∙ (h.share ∙ ap left_after at))) in
    record { table = table; share = share; took = ap (λ p. p.took) took.0; back = subst (λ k. ComesBack k.value c.in-Some.party) (sym same) took.1 }
