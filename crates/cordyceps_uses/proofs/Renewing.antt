-- An entry of a map gets another time, and becomes the last used one.
use Rattle.std.proofs.Common.{◌≡◌, suc, Bool, true, false, if◌then◌else◌, [], ◌∷◌, ◌++◌, length, refl, sym, ap, ◌∙◌, subst, arith, length-append}
use Rattle.std.specs.Map.{remove_entry}
use denote.RawPtr.{Ptr}
use Rattle.cordyceps.specs.Spots.Spots.{same_ptr}
use Rattle.cordyceps.proofs.Spots.{same_ptr_eq}
use Rattle.cordyceps.specs.Spots.MultiList.{list_at, SameBut}
use Rattle.cordyceps.specs.Spots.Threads.{is_in, without}
use Rattle.cordyceps.proofs.Spots.Members.{in_mid, other_mid}
use Rattle.cordyceps.proofs.Spots.Threads.{split, other_way, in_append, in_there, length_without, without_other}
use Rattle.cordyceps.specs.Spots.MapLends.{with_value_at}
use Rattle.cordyceps.specs.Spots.StableMap.{Mapped}
use Rattle.cordyceps_uses.specs.declared.expiring.Timed.{Timed}
use Rattle.cordyceps_uses.specs.Expiring.{Entry, AreTimed}
use Rattle.cordyceps_uses.specs.Keyed.{in_order, order, moved_back, AreFrom, IsAt, IsSound, IsLinkedIn}
use Rattle.cordyceps_uses.proofs.ByKey.{listed}
use Rattle.cordyceps_uses.proofs.Ordered.{from_cut}
use Rattle.cordyceps_uses.proofs.Placing.{order_other}
use Rattle.cordyceps_uses.proofs.States.{until}
use Rattle.cordyceps_uses.proofs.Written.{written_left, written_last}

-- the node at p, with the entry x of the key k, was taken out of list 1, and t was written there
module _ {K V : Type 0} (eq : K → K → Bool) (m : Mapped (Entry K V)) (s : IsSound eq m) (timed : AreTimed m) (k : K) (p : Ptr) (a : IsAt eq 0 m k p)
    (w : Mapped (Entry K V)) (nodes : w.nodes ≡ m.nodes) (one : list_at 1 w.lists ≡ without p (list_at 1 m.lists)) (others : SameBut 1 m.lists w.lists)
    (t : Timed V) (z : IsSound eq (with_value_at w p t)) where
  zero_same : list_at 0 w.lists ≡ list_at 0 m.lists
  zero_same = others 0 (λ e. absurd cc)

  abbrev n : Mapped (Entry K V)
  n = with_value_at w p t

  abbrev y : Entry K V
  y = (a.entry.0, t)

  timed_here : is_in p (list_at 1 m.lists) ≡ true
  timed_here = timed.all p (listed eq m s p a.entry a.value)

  -- and moved to the back of list 0
  module _ (u : Mapped (Entry K V)) (same : u.nodes ≡ n.nodes) (list : list_at 0 u.lists ≡ without p (list_at 0 w.lists) ++ p ∷ []) (rest : SameBut 0 w.lists u.lists) (moved : order 0 u ≡ moved_back (eq k) (order 0 n)) where
    one_now : list_at 1 u.lists ≡ without p (list_at 1 m.lists)
    one_now = rest 1 (λ e. absurd cc) ∙ one

    pub written_room : suc (length (list_at 1 u.lists)) ≡ length (list_at 0 m.lists)
    written_room = let a = ap length one_now in let b = length_without p (list_at 1 m.lists) timed_here in let c = timed.long in omega (arith, a, b, c)

    pub written_sorted : AreFrom until 0 (order 1 u)
    written_sorted = subst (AreFrom until 0) (sym (ap (λ c. in_order c (list_at 1 u.lists)) same ∙ ap (in_order n.nodes) one_now ∙ written_left eq m s k p a w nodes zero_same t z 1)) (from_cut until (eq a.entry.0) 0 (order 1 m) timed.sorted)

    -- and linked by its time
    module _ (v : Mapped (Entry K V)) (l : IsLinkedIn until 1 u p v) where
      pub renewed_entries : order 0 v ≡ remove_entry (eq k) (order 0 m) ++ y ∷ []
      renewed_entries = order_other until 1 u p v l 0 (λ e. absurd cc) ∙ written_last eq m s k p a w nodes zero_same t z u moved

      zero_now : list_at 0 v.lists ≡ without p (list_at 0 m.lists) ++ p ∷ []
      zero_now = l.others 0 (λ e. absurd cc) ∙ list ∙ ap (λ b. without p b ++ p ∷ []) zero_same

      pub renewed_timed : AreTimed v
      renewed_timed = record {
        long = let old = ap length l.old in let b = ap length l.new in let c = length-append l.before l.after in let d = length-append l.before (p ∷ l.after) in let e = written_room in
            let f = ap length zero_now in let g = length-append (without p (list_at 0 m.lists)) (p ∷ []) in let h = length_without p (list_at 0 m.lists) (listed eq m s p a.entry a.value) in omega (arith, old, b, c, d, e, f, g, h);
        all = λ r h. split (same_ptr p r)
            (λ is. subst (λ q. is_in q (list_at 1 v.lists) ≡ true) (same_ptr_eq p r is) (ap (is_in p) l.new ∙ in_mid p l.before l.after))
            (λ other. let apart = other_way p r other in
            ap (is_in r) l.new ∙ other_mid r p l.before l.after apart ∙ sym (ap (is_in r) l.old) ∙ ap (is_in r) one_now ∙ without_other p r (list_at 1 m.lists) other
            ∙ timed.all r (sym (without_other p r (list_at 0 m.lists) other)
            ∙ sym (in_append r (without p (list_at 0 m.lists)) (p ∷ []) ∙ ap (λ (b : Bool). if is_in r (without p (list_at 0 m.lists)) then true else b) (in_there r p [] apart) ∙ either (is_in r (without p (list_at 0 m.lists))))
            ∙ sym (ap (is_in r) zero_now) ∙ h));
        sorted = l.sorted;
      } where
        either : (b : Bool) → (if b then true else false) ≡ b
        either true = refl
        either false = refl
