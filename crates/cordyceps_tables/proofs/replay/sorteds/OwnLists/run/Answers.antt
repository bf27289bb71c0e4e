use Rattle.std.proofs.Common.{◌≡◌, ◌∷◌, [], refl, arith}
use Rattle.std.proofs.lemmas.List.Elements.{All-set}
use Rattle.std.proofs.lemmas.Result.{IfOk-weaker}
use Rattle.cordyceps_tables.specs.Sorteds.{empty_with}
use Rattle.cordyceps_tables.proofs.Sorteds.{same_order}
use Rattle.cordyceps_tables.proofs.replay.sorteds.OwnLists.run.Goals as goal

pub run_own-requires-clause-same : goal.run_own-requires-clause-same
run_own-requires-clause-same g c = same_order c.args.by c.args.self.now _ 0 (empty_with c.args.by) c.self.view_is c.requires.same (omega arith)

pub returns-then-index-lt1-clause-ok : goal.returns-then-index-lt1-clause-ok
returns-then-index-lt1-clause-ok g c =
    let index : c.args.index ≡ 0 = omega (arith, c.if-index-lt1.true, c.requires.within) in
    rw (index, ← c.self.view_is) (IfOk-weaker c.run_own.result _ _ (λ reply ran. (c.run_own.new.list, refl, ran)) c.run_own.ensures.ok)

pub returns-then-index-lt1-clause-order : goal.returns-then-index-lt1-clause-order
returns-then-index-lt1-clause-order g c =
    let s = c.self.inside in
    All-set (λ l. l.order ≡ c.args.by) (s.first ∷ s.second ∷ s.third ∷ s.fourth ∷ s.fifth ∷ []) 0 c.run_own.new.list c.run_own.ensures.order (rw (← c.self.view_is) at c.requires.same)

pub run_own-requires-then-index-lt2-clause-same : goal.run_own-requires-then-index-lt2-clause-same
run_own-requires-then-index-lt2-clause-same g c = same_order c.args.by c.args.self.now _ 1 (empty_with c.args.by) c.self.view_is c.requires.same (omega arith)

pub returns-then-index-lt2-clause-ok : goal.returns-then-index-lt2-clause-ok
returns-then-index-lt2-clause-ok g c =
    let index : c.args.index ≡ 1 = omega (arith, c.if-index-lt1.false, c.if-index-lt2.true, c.requires.within) in
    rw (index, ← c.self.view_is) (IfOk-weaker c.run_own-then-index-lt2.result _ _ (λ reply ran. (c.run_own-then-index-lt2.new.list, refl, ran)) c.run_own-then-index-lt2.ensures.ok)

pub returns-then-index-lt2-clause-order : goal.returns-then-index-lt2-clause-order
returns-then-index-lt2-clause-order g c =
    let s = c.self.inside in
    All-set (λ l. l.order ≡ c.args.by) (s.first ∷ s.second ∷ s.third ∷ s.fourth ∷ s.fifth ∷ []) 1 c.run_own-then-index-lt2.new.list c.run_own-then-index-lt2.ensures.order (rw (← c.self.view_is) at c.requires.same)

pub run_own-requires-then-index-lt3-clause-same : goal.run_own-requires-then-index-lt3-clause-same
run_own-requires-then-index-lt3-clause-same g c = same_order c.args.by c.args.self.now _ 2 (empty_with c.args.by) c.self.view_is c.requires.same (omega arith)

pub returns-then-index-lt3-clause-ok : goal.returns-then-index-lt3-clause-ok
returns-then-index-lt3-clause-ok g c =
    let index : c.args.index ≡ 2 = omega (arith, c.if-index-lt2.false, c.if-index-lt3.true, c.requires.within) in
    rw (index, ← c.self.view_is) (IfOk-weaker c.run_own-then-index-lt3.result _ _ (λ reply ran. (c.run_own-then-index-lt3.new.list, refl, ran)) c.run_own-then-index-lt3.ensures.ok)

pub returns-then-index-lt3-clause-order : goal.returns-then-index-lt3-clause-order
returns-then-index-lt3-clause-order g c =
    let s = c.self.inside in
    All-set (λ l. l.order ≡ c.args.by) (s.first ∷ s.second ∷ s.third ∷ s.fourth ∷ s.fifth ∷ []) 2 c.run_own-then-index-lt3.new.list c.run_own-then-index-lt3.ensures.order (rw (← c.self.view_is) at c.requires.same)

pub run_own-requires-then-index-lt4-clause-same : goal.run_own-requires-then-index-lt4-clause-same
run_own-requires-then-index-lt4-clause-same g c = same_order c.args.by c.args.self.now _ 3 (empty_with c.args.by) c.self.view_is c.requires.same (omega arith)

pub returns-then-index-lt4-clause-ok : goal.returns-then-index-lt4-clause-ok
returns-then-index-lt4-clause-ok g c =
    let index : c.args.index ≡ 3 = omega (arith, c.if-index-lt3.false, c.if-index-lt4.true, c.requires.within) in
    rw (index, ← c.self.view_is) (IfOk-weaker c.run_own-then-index-lt4.result _ _ (λ reply ran. (c.run_own-then-index-lt4.new.list, refl, ran)) c.run_own-then-index-lt4.ensures.ok)

pub returns-then-index-lt4-clause-order : goal.returns-then-index-lt4-clause-order
returns-then-index-lt4-clause-order g c =
    let s = c.self.inside in
    All-set (λ l. l.order ≡ c.args.by) (s.first ∷ s.second ∷ s.third ∷ s.fourth ∷ s.fifth ∷ []) 3 c.run_own-then-index-lt4.new.list c.run_own-then-index-lt4.ensures.order (rw (← c.self.view_is) at c.requires.same)

pub run_own-requires-else-index-lt4-clause-same : goal.run_own-requires-else-index-lt4-clause-same
run_own-requires-else-index-lt4-clause-same g c = same_order c.args.by c.args.self.now _ 4 (empty_with c.args.by) c.self.view_is c.requires.same (omega arith)

pub returns-else-index-lt4-clause-ok : goal.returns-else-index-lt4-clause-ok
returns-else-index-lt4-clause-ok g c =
    let index : c.args.index ≡ 4 = omega (arith, c.if-index-lt4.false, c.requires.within) in
    rw (index, ← c.self.view_is) (IfOk-weaker c.run_own-else-index-lt4.result _ _ (λ reply ran. (c.run_own-else-index-lt4.new.list, refl, ran)) c.run_own-else-index-lt4.ensures.ok)

pub returns-else-index-lt4-clause-order : goal.returns-else-index-lt4-clause-order
returns-else-index-lt4-clause-order g c =
    let s = c.self.inside in
    All-set (λ l. l.order ≡ c.args.by) (s.first ∷ s.second ∷ s.third ∷ s.fourth ∷ s.fifth ∷ []) 4 c.run_own-else-index-lt4.new.list c.run_own-else-index-lt4.ensures.order (rw (← c.self.view_is) at c.requires.same)
