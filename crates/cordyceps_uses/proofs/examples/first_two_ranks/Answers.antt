use Rattle.std.proofs.Common.{rules, ◌≡◌, ℕ, zero, suc, ◌+◌, ◌%◌, [], ◌∷◌, length, map, slice_get, Some, ap, ◌∙◌, subst, arith, mod-eq_of_lt}
use Rattle.cordyceps.specs.Elements.Element.{Element, Elements, values}
use Rattle.cordyceps.specs.Cursors.Places.{next_place}
use Rattle.cordyceps_uses.specs.declared.job.Job.{Job}
use Rattle.cordyceps_uses.proofs.examples.first_two_ranks.Goals as goal

rank_at : (s : Elements Job) (k : ℕ) (j : Job) → slice_get (values s) k ≡ Some j → slice_get (map (λ (n : Element Job). n.value.rank) s) k ≡ Some j.rank
rank_at [] zero j is = absurd cc
rank_at [] (suc k) j is = absurd cc
rank_at (e ∷ s) zero j is = let same : e.value ≡ j = cc in ap (λ (x : Job). Some x.rank) same
rank_at (e ∷ s) (suc k) j is = rank_at s k j is

-- the place after that of the first
after_first : (s : Elements Job) (p : ℕ) (a b : Job) → slice_get (values s) 0 ≡ Some a → p ≡ next_place (length s) 0 → slice_get (values s) p ≡ Some b
    → slice_get (map (λ (n : Element Job). n.value.rank) s) 1 ≡ Some b.rank
after_first [] p a b first at is = absurd cc
after_first (e ∷ s) p a b first at is =
    let one : (0 + 1) % (length (e ∷ s) + 1) ≡ 0 + 1 = mod-eq_of_lt (omega arith) in
    rank_at (e ∷ s) 1 b (subst (λ i. slice_get (values (e ∷ s)) i ≡ Some b) (at ∙ one) is)

pub returns : goal.returns
returns c =
    let jobs = c.args.jobs.now in
    let first : slice_get (values jobs) 0 ≡ Some c.in_ok-first.first.now = search rules in
    (rank_at jobs 0 c.in_ok-first.first.now first, after_first jobs c.move_next.new.self.place c.in_ok-first.first.now c.in_ok-second.second.now first (search rules) (search rules))
