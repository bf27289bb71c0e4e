-- Where a party finds the right taken, or a try blocked, it is by a name that is none of its own.
use Rattle.std.proofs.Common.{◌≡◌, ◌≢◌, List, [], ◌∷◌, ◌++◌, Bool, true, false, cond, refl, sym, ap, ◌∙◌, subst, arith, append_assoc}
use Rattle.cordyceps_shared.specs.Histories.{plain, own, others}
use Rattle.cordyceps_shared.specs.Knowing.{Foreign}
use Rattle.cordyceps_shared.specs.Shares.{Name, IsOf}
use Rattle.cordyceps_shared.specs.Standings.{name_of}
use Rattle.cordyceps_shared.proofs.Adding.{plain_append}
use Rattle.cordyceps_shared.proofs.HistoryMarks.{others_append, since}
use Rattle.cordyceps_shared.proofs.StepEvents.{foreign_front}
use Rattle.cordyceps_shared.proofs.EventCounts.{seen_counts}
use Rattle.cordyceps_queue.specs.History.{Event, Take, Busy, Look, Free, Ring, actor, links_by, swaps_by, is_swap, is_link, is_take, is_free}
use Rattle.cordyceps_queue.specs.Laws.{takes_by, frees_by, BusyIsAnothers, BlockedIsAnothers, BlockedTryIsAnothers}
use Rattle.cordyceps_queue.specs.Shared.Calls.{PartyOf, same_name, Legal, NonePending, Adds, BlockedAfter}
use Rattle.cordyceps_queue.proofs.HistoryEnds.{count-append, count_of_other}
use Rattle.cordyceps_queue.proofs.SharedTheory.OwnNames.{even_links, even_frees, not_holder}

module _ {X : Type 0} where
  -- a prefix with more own events than another is longer
  pub record Longer (seen rest past later : List (Bool × X)) (es : List X) : Type 0 where
    pub more : List (Bool × X)
    pub past_is : past ≡ seen ++ more
    pub rest_is : rest ≡ more ++ later
    pub mine : own more ≡ es

  nothing : (xs es : List X) → [] ≡ xs ++ es → es ≡ []
  nothing [] es e = sym e
  nothing (x ∷ xs) es e = let no : ⊥ = cc in absurd no

  pub longer : (seen rest past later : List (Bool × X)) (es : List X) → es ≢ [] → seen ++ rest ≡ past ++ later → own past ≡ own seen ++ es → Longer seen rest past later es
  longer [] rest past later es some e o = record { more = past; past_is = refl; rest_is = e; mine = o }
  longer (x ∷ s) rest [] later es some e o = absurd (some (nothing (own (x ∷ s)) es o))
  longer (x ∷ s) rest (y ∷ p) later es some e o =
      let first : x ≡ y = cc in
      let tail : s ++ rest ≡ p ++ later = cc in
      let t = longer s rest p later es some tail (less x.0 (own p) (own s) (subst (λ (z : Bool × X). cond z.0 (z.1 ∷ own p) (own p) ≡ cond x.0 (x.1 ∷ own s) (own s) ++ es) (sym first) o)) in
      record { more = t.more; past_is = (λ i. sym first i ∷ t.past_is i); rest_is = t.rest_is; mine = t.mine }
    where
      less : (b : Bool) (ps ss : List X) → cond b (x.1 ∷ ps) ps ≡ cond b (x.1 ∷ ss) ss ++ es → ps ≡ ss ++ es
      less true ps ss e = cc
      less false ps ss e = e

module _ {E : Type 0} where
  front_legal : (xs ys : List (Event Name E)) → Legal (xs ++ ys) → Legal xs
  front_legal xs ys l = record {
    in_order = λ past later e. l.in_order past (later ++ ys) (ap (λ z. z ++ ys) e ∙ append_assoc past later ys);
    links = λ past later e. l.links past (later ++ ys) (ap (λ z. z ++ ys) e ∙ append_assoc past later ys);
    turns = λ past later x e. l.turns past (later ++ ys) x (ap (λ z. z ++ ys) e ∙ append_assoc past (x ∷ later) ys);
    rings = λ past later p e. l.rings past (later ++ ys) p (ap (λ z. z ++ ys) e ∙ append_assoc past (Ring p ∷ later) ys);
  }

  pub busy_is_anothers : BusyIsAnothers E
  busy_is_anothers u w legal none a =
      let g = a.0 in
      let n = name_of u in
      let t = since g.rest [] [] (Busy n) g.adds in
      let past = u.seen ++ t.front in
      let is : w.seen ≡ past ++ (true, Busy n) ∷ t.later = g.is ∙ (ap (λ z. u.seen ++ z) t.is ∙ sym (append_assoc u.seen t.front ((true, Busy n) ∷ t.later))) in
      let all : plain w.seen ≡ plain past ++ Busy n ∷ plain t.later = ap plain is ∙ plain_append past ((true, Busy n) ∷ t.later) in
      let held = g.legal.turns (plain past) (plain t.later) (Busy n) all in
      let before = front_legal (plain past) (Busy n ∷ plain t.later) (subst (λ h. Legal h) all g.legal) in
      let foreign = foreign_front actor u.share (others t.front) (others ((true, Busy n) ∷ t.later)) (subst (λ z. Foreign actor u.share z) (ap others t.is ∙ others_append t.front ((true, Busy n) ∷ t.later)) g.foreign) in
      let by = held.0 in record {
        past = past;
        later = t.later;
        is = is;
        by = by;
        holds = held.1;
        another = λ of.
            let even = even_frees by (plain u.seen) legal (none by of) in
            let frees = seen_counts (λ h. frees_by same_name by h) (count-append same_name is_free by) actor by (count_of_other same_name is_free by) u.share of u.seen t.front foreign in
            let takes = seen_counts (λ h. takes_by same_name by h) (count-append same_name is_take by) actor by (count_of_other same_name is_take by) u.share of u.seen t.front foreign in
            let no_frees = ap (λ h. frees_by same_name by h) t.mine in
            let no_takes = ap (λ h. takes_by same_name by h) t.mine in
            not_holder by (plain past) before (omega arith) held.1;
      }

  -- a try that was blocked
  blocked_by : (u w : PartyOf E) (es fs : List (Event Name E)) → Legal (plain u.seen) → NonePending u.share (plain u.seen) → Adds u fs w → (b : BlockedAfter u es w) → es ≢ []
      → ((q : Name) → (links_by same_name q es ≡ 0) × (swaps_by same_name q es ≡ 0)) → IsOf u.share b.blocked.by → ⊥
  blocked_by u w es fs legal none a b some nothing_of of =
      let g = a.0 in
      let q = b.blocked.by in
      let t = longer u.seen g.rest b.past b.later es some (sym g.is ∙ b.is) b.adds in
      let foreign = foreign_front actor u.share (others t.more) (others b.later) (subst (λ z. Foreign actor u.share z) (ap others t.rest_is ∙ others_append t.more b.later) g.foreign) in
      let even = even_links q (plain u.seen) legal (none q of) in
      let links = ap (λ z. links_by same_name q (plain z)) t.past_is ∙ seen_counts (λ h. links_by same_name q h) (count-append same_name is_link q) actor q (count_of_other same_name is_link q) u.share of u.seen t.more foreign in
      let swaps = ap (λ z. swaps_by same_name q (plain z)) t.past_is ∙ seen_counts (λ h. swaps_by same_name q h) (count-append same_name is_swap q) actor q (count_of_other same_name is_swap q) u.share of u.seen t.more foreign in
      let no_links = ap (λ h. links_by same_name q h) t.mine in
      let no_swaps = ap (λ h. swaps_by same_name q h) t.mine in
      let zero_of = nothing_of q in
      let pending = b.blocked.pending in
      absurd (omega arith)

  pub blocked_is_anothers : BlockedIsAnothers E
  blocked_is_anothers u w legal none d =
      let n = name_of u in
      blocked_by u w (Take n ∷ Look n ∷ []) (Take n ∷ Look n ∷ Free n ∷ []) legal none d.adds d.prefix (λ e. cc) (λ q. (refl, refl))

  pub blocked_try_is_anothers : BlockedTryIsAnothers E
  blocked_try_is_anothers u w legal none d =
      let n = name_of u in
      blocked_by u w (Look n ∷ []) (Look n ∷ []) legal none d.adds d.prefix (λ e. cc) (λ q. (refl, refl))
