use Rattle.std.proofs.Common.{◌≡◌, length, [], ◌∷◌, ◌++◌, ◌∙◌, subst, ap, sym, rules}
use Rattle.cordyceps_shared.specs.Standings.{keeping}
use Rattle.cordyceps_queue.specs.History.{came}
use Rattle.cordyceps_channel.specs.Channels.{IsRegister, IsOpened, left_after, sent}
use Rattle.cordyceps_channel.proofs.Registering.{none_own, still_register, split_opened}
use Rattle.cordyceps_channel.proofs.register.Register.split.Goals as goal

pub returns-clause-register : goal.returns-clause-register
returns-clause-register g c =
    let u = c.args.self.now.party in
    let z = c.args.queue.now.table in
    let kept = c.in_ok-kept.ensures.made in
    let made = c.in_ok-home.ensures in
    let key = c.of-key.ensures in
    let pushed = c.push_reserved.ensures.items in
    let before = c.in_ok-try_reserve.ensures.items in
    let key_is = ap (λ p. p.key.value) kept ∙ (ap (λ p. p.key.value) made ∙ key) in
    let r = still_register z 0 u c.args.self.now.homes.items c.in_ok-kept.kept c.requires key_is (ap (λ p. p.took) kept) in
    let homes = pushed ∙ ap (λ hs. hs ++ c.in_ok-kept.kept ∷ []) before in
    subst (λ q. IsRegister z q c.push_reserved.new.self.items) (sym c.split-party.ensures.0) (subst (λ hs. IsRegister z (keeping 0 u) hs) (sym homes) r)

pub returns-clause-opened : goal.returns-clause-opened
returns-clause-opened g c =
    let u = c.args.self.now.party in
    let z = c.args.queue.now.table in
    let n = c.len-number.result in
    let same : length c.args.self.now.homes.items ≡ n = search rules in
    let left : u.share ≡ left_after n = c.requires.share ∙ ap left_after same in
    let o = split_opened z n u c.another.new.self c.requires.table left (search rules) (search rules) in
    subst (λ p. IsOpened z n p c.another.new.self) (sym c.split-party.ensures.1) o

pub returns-clause-unsent : goal.returns-clause-unsent
returns-clause-unsent g c = ap (λ v. sent v) c.split-party.ensures.1 ∙ ap came (none_own c.args.self.now.party.seen)
