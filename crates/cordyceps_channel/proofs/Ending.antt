-- What a receiver knows that finds nothing where its party is whole.
use Rattle.std.proofs.Common.{◌≡◌, List, [], ◌∷◌, ◌++◌, refl, sym, ap, ◌∙◌, subst, append_assoc}
use Rattle.std.specs.Prelude.{Err}
use Rattle.std.proofs.lemmas.List.{append-nil}
use Rattle.std.proofs.lemmas.List.Concat.{flat_map-append}
use Rattle.cordyceps_shared.specs.Histories.{plain}
use Rattle.cordyceps_shared.specs.Shares.{Name, whole}
use Rattle.cordyceps_shared.specs.Standings.{name_of}
use Rattle.cordyceps_shared.proofs.Adding.{plain_own, whole_adds}
use Rattle.cordyceps_queue.specs.declared.cores.steps.TryDequeueError.{TryDequeueError}
use Rattle.cordyceps_queue.specs.declared.cores.steps.TryDequeueError.TheVariants as error
use Rattle.cordyceps_queue.specs.History.{Event, Look, Empty, actor, comes, goes, came, went}
use Rattle.cordyceps_queue.specs.Shared.Calls.{PartyOf, Legal, Consumes, IsCertain}
use Rattle.cordyceps_channel.specs.Channels.{IsOver}

module _ {E : Type 0} where
  finds_all : (u w : PartyOf E) → u.share ≡ whole → Consumes (Err error.Empty) u w → IsOver w
  finds_all u w is d =
      let n = name_of u in
      let a = d.0 in
      let before : List (Event Name E) = plain u.seen ++ Look n ∷ [] in
      let after : List (Event Name E) = Empty n ∷ [] in
      let all : plain w.seen ≡ before ++ after = whole_adds actor (λ h. Legal h) u w (Look n ∷ after) is a ∙ sym (append_assoc (plain u.seen) (Look n ∷ []) after) in
      let even = (a.0.legal.turns before [] (Empty n) all).1 in
      let out : went (plain w.seen) ≡ went before = ap went all ∙ (flat_map-append goes before after ∙ append-nil (went before)) in
      let in_all : came (plain w.seen) ≡ came before = ap came all ∙ (flat_map-append comes before after ∙ append-nil (came before)) in
      let alone : w.share ≡ whole = a.0.share ∙ is in
      record { alone = alone; legal = a.0.legal; all = sym (ap went (plain_own w.seen (a.0.alone alone))) ∙ (out ∙ (even ∙ sym in_all)) }

  pub over : (u w : PartyOf E) (why : TryDequeueError) → u.share ≡ whole → Consumes (Err why) u w → why ≡ error.Empty → IsOver w
  over u w why is d c = finds_all u w is (subst (λ (y : TryDequeueError). Consumes (Err y) u w) c d)

pub certain : (E : Type 0) (why : TryDequeueError) → IsCertain {E = E} (Err why) → why ≡ error.Empty
certain E error.Empty c = refl
certain E error.Inconsistent c = absurd c
certain E error.Busy c = absurd c
