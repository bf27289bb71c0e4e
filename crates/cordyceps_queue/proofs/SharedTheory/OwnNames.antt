-- What a party's names did, by what the party has seen: none is pending, and none has the right but in a consumer.
use Rattle.std.proofs.Common.{◌≡◌, ◌≢◌, ◌+◌, suc, List, [], ◌∷◌, Bool, Some, refl, sym, ap, ◌∙◌, subst, arith, append-nil, inl, inr}
use mathlib.Core.Bool.{Bool-discrete}
use mathlib.Core.List.{List-discrete}
use Rattle.cordyceps_shared.specs.Histories.{plain}
use Rattle.cordyceps_shared.specs.Shares.{Name, first_name, IsOf}
use Rattle.cordyceps_shared.proofs.EventCounts.{first_of, grown_counts}
use Rattle.cordyceps_queue.specs.History.{Event, Take, Free, actor, holder, swaps_by, links_by, IsPending, is_swap, is_link, is_take, is_free, count_of}
use Rattle.cordyceps_queue.specs.Laws.{takes_by, frees_by, OneHasRight}
use Rattle.cordyceps_queue.specs.Shared.Calls.{same_name, Legal, NonePending, NoneHolds}
use Rattle.cordyceps_queue.specs.Shared.Plays.{Sees}
use Rattle.cordyceps_queue.specs.Shared.Plays as seen
use Rattle.cordyceps_queue.specs.Shared.View.{View, name}
use Rattle.cordyceps_queue.proofs.CoreTheory.Basics.{some_inj}
use Rattle.cordyceps_queue.proofs.HistoryEnds.{count-append, count_of_other}
use Rattle.cordyceps_queue.proofs.Legality.{one_same, one_other, told_legal}
use Rattle.cordyceps_queue.proofs.PartyOrder.{one_holder}

module _ {E : Type 0} where
  -- as many links as swaps, and the right given back as often as it was taken, of each name
  abbrev pub Balanced : List (Event Name E) → Type 0
  Balanced es = (q : Name) → (links_by same_name q es ≡ swaps_by same_name q es) × (frees_by same_name q es ≡ takes_by same_name q es)

  -- neither `Swap` and `Link` nor `Take` and `Free`
  abbrev pub Neutral : List (Event Name E) → Type 0
  Neutral es = (q : Name) → (links_by same_name q es ≡ swaps_by same_name q es) × ((frees_by same_name q es ≡ 0) × (takes_by same_name q es ≡ 0))

  module _ (q : Name) where
    -- ---- what the counts of a legal history say
    pub even_links : (h : List (Event Name E)) → Legal h → (IsPending same_name q h → ⊥) → links_by same_name q h ≡ swaps_by same_name q h
    even_links h l not = elim (l.links h [] (sym (append-nil h)) q) [ inl e ↦ e | inr p ↦ absurd (not p) ]

    right_of : (h : List (Event Name E)) → Legal h → OneHasRight same_name h
    right_of h l = one_holder Name E same_name h h [] l (sym (append-nil h))

    pub even_frees : (h : List (Event Name E)) → Legal h → holder h ≢ Some q → frees_by same_name q h ≡ takes_by same_name q h
    even_frees h l not = let r = right_of h l in elim (r.counts q) [ inl has ↦ absurd (not ((r.holds q).0 has)) | inr e ↦ e ]

    pub not_holder : (h : List (Event Name E)) → Legal h → frees_by same_name q h ≡ takes_by same_name q h → holder h ≢ Some q
    not_holder h l even e = let has = ((right_of h l).holds q).1 e in absurd (omega arith)

    pub is_holder : (h : List (Event Name E)) → Legal h → suc (frees_by same_name q h) ≡ takes_by same_name q h → holder h ≡ Some q
    is_holder h l has = ((right_of h l).holds q).0 has

    took_more : (h : List (Event Name E)) → Legal h → holder h ≡ Some q → suc (frees_by same_name q h) ≡ takes_by same_name q h
    took_more h l e = ((right_of h l).holds q).1 e

    -- ---- what a party adds, and others do not, of its names
    module _ (v w : View E) (es : List (Event Name E)) (g : Sees v es w) (of : IsOf v.known.share q) where
      count_more : (kind : Event Name E → Bool) → count_of same_name kind q (plain w.known.seen) ≡ count_of same_name kind q (plain v.known.seen) + count_of same_name kind q es
      count_more kind = grown_counts (count_of same_name kind q) (count-append same_name kind q) actor q (count_of_other same_name kind q) seen.LegalReversed v.known w.known es g of

  -- ---- what holds after events of its own
  now_legal : (v w : View E) (es : List (Event Name E)) → Sees v es w → Legal (plain w.known.seen)
  now_legal v w es g = told_legal same_name (plain w.known.seen) g.legal

  of_before : (v w : View E) (es : List (Event Name E)) (q : Name) → Sees v es w → IsOf w.known.share q → IsOf v.known.share q
  of_before v w es q g of = subst (λ ns. IsOf ns q) g.share of

  pub linked_after : (v w : View E) (es : List (Event Name E)) → Sees v es w → Legal (plain v.known.seen) → NonePending v.known.share (plain v.known.seen) → ((q : Name) → links_by same_name q es ≡ swaps_by same_name q es)
      → NonePending w.known.share (plain w.known.seen)
  linked_after v w es g l none even q of p =
      let o = of_before v w es q g of in
      let before = even_links q (plain v.known.seen) l (none q o) in
      let links = count_more q v w es g o is_link in
      let swaps = count_more q v w es g o is_swap in
      let more = even q in
      absurd (omega arith)

  pub unheld_after : (v w : View E) (es : List (Event Name E)) → Sees v es w → Legal (plain v.known.seen) → NoneHolds v.known.share (plain v.known.seen) → ((q : Name) → frees_by same_name q es ≡ takes_by same_name q es)
      → NoneHolds w.known.share (plain w.known.seen)
  unheld_after v w es g l none even q of =
      let o = of_before v w es q g of in
      let before = even_frees q (plain v.known.seen) l (none q o) in
      let frees = count_more q v w es g o is_free in
      let takes = count_more q v w es g o is_take in
      let more = even q in
      not_holder q (plain w.known.seen) (now_legal v w es g) (omega arith)

  -- the right was taken
  pub held_taken : (v w : View E) → Sees v (Take (name v) ∷ []) w → Legal (plain v.known.seen) → NoneHolds v.known.share (plain v.known.seen) → v.known.share ≢ [] → holder (plain w.known.seen) ≡ Some (name w)
  held_taken v w g l none some_name =
      let n = name v in
      let es : List (Event Name E) = Take n ∷ [] in
      let o = first_of v.known.share some_name in
      let before = even_frees n (plain v.known.seen) l (none n o) in
      let frees = count_more n v w es g o is_free in
      let takes = count_more n v w es g o is_take in
      let one = one_same (same_name n n) refl in
      is_holder n (plain w.known.seen) (now_legal v w es g) (omega arith) ∙ ap (λ ns. Some (first_name ns)) (sym g.share)

  -- a try while it has the right
  pub held_after : (v w : View E) (es : List (Event Name E)) → Sees v es w → Legal (plain v.known.seen) → holder (plain v.known.seen) ≡ Some (name v) → v.known.share ≢ []
      → ((q : Name) → (frees_by same_name q es ≡ 0) × (takes_by same_name q es ≡ 0)) → holder (plain w.known.seen) ≡ Some (name w)
  held_after v w es g l has some_name nothing =
      let n = name v in
      let o = first_of v.known.share some_name in
      let before = took_more n (plain v.known.seen) l has in
      let frees = count_more n v w es g o is_free in
      let takes = count_more n v w es g o is_take in
      let none = nothing n in
      is_holder n (plain w.known.seen) (now_legal v w es g) (omega arith) ∙ ap (λ ns. Some (first_name ns)) (sym g.share)

  -- the right was given back
  pub unheld_given : (v w : View E) → Sees v (Free (name v) ∷ []) w → Legal (plain v.known.seen) → holder (plain v.known.seen) ≡ Some (name v) → NoneHolds w.known.share (plain w.known.seen)
  unheld_given v w g l has q of =
      let n = name v in
      let es : List (Event Name E) = Free n ∷ [] in
      let o = of_before v w es q g of in
      let frees = count_more q v w es g o is_free in
      let takes = count_more q v w es g o is_take in
      not_holder q (plain w.known.seen) (now_legal v w es g) (elim (List-discrete Bool-discrete q n) [
        | yes e ↦
            let before = took_more q (plain v.known.seen) l (has ∙ ap (λ m. Some m) (sym e)) in
            let one = one_same (same_name q n) e in
            omega arith
        | no not ↦
            let before = even_frees q (plain v.known.seen) l (λ e. not (sym (some_inj (sym has ∙ e)))) in
            let none = one_other (same_name q n) not in
            omega arith
      ])
