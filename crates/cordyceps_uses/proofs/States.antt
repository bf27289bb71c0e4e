-- What calls of a map leave of its entries by time.
use Rattle.std.proofs.Common.{◌≡◌, ◌<◌, ◌≤◌, ◌⊎◌, inr, ℕ, Bool, true, false, if◌then◌else◌, List, [], ◌∷◌, ◌++◌, length, Option, Some, None, MatchOption, nat_lt, refl, sym, ap, ◌∙◌, subst, arith, length-append}
use Rattle.std.specs.List.{All}
use Rattle.std.specs.Map.{lookup_entry}
use Rattle.std.proofs.lemmas.Bool.{lt-ltb, le-ltb}
use denote.RawPtr.{Ptr}
use Rattle.cordyceps.specs.Spots.Spots.{same_ptr}
use Rattle.cordyceps.proofs.Spots.{same_ptr_eq}
use Rattle.cordyceps.specs.Spots.Entries.{value_at}
use Rattle.cordyceps.specs.Spots.MultiList.{list_at, SameBut, IsFirstOf}
use Rattle.cordyceps.specs.Spots.StableMap.{Mapped}
use Rattle.cordyceps.specs.Spots.Threads.{is_in, without}
use Rattle.cordyceps.proofs.Spots.Members.{in_mid, other_mid, has_in, first_in}
use Rattle.cordyceps.proofs.Spots.Threads.{split, differ, other_way, in_append, in_there, length_without, without_other, without_gone}
use Rattle.cordyceps.proofs.Spots.ValueAt.{in_value}
use Rattle.cordyceps_uses.specs.declared.expiring.Timed.{Timed}
use Rattle.cordyceps_uses.specs.Expiring.{Entry, by_use, by_time, live, used, IsLive, AreTimed, IsFirstExpired, IsLongestUnused}
use Rattle.cordyceps_uses.specs.Keyed.{in_order, moved_back, AreFrom, HasAt, IsSound, IsTakenOut, IsPut, IsLinkedIn}
use Rattle.cordyceps_uses.proofs.ByKey.{once_of, listed, cut}
use Rattle.cordyceps_uses.proofs.Ordered.{from_mid, from_cut, order_here, all_of}

-- the rank of a time
abbrev pub until : {V : Type 0} → Timed V → ℕ
until t = t.until

-- ---- which entry is not expired
module _ {K V : Type 0} (now : ℕ) (t : K → Bool) (s : List (Entry K V)) (x : Entry K V) where
  live_by : lookup_entry t s ≡ Some x → (b : Bool) → nat_lt now x.1.until ≡ b → live now t s ≡ (if b then Some x else None)
  live_by e b is = ap (λ (o : Option (Entry K V)). elim o [ Some y ↦ if nat_lt now y.1.until then Some y else None | None ↦ None ]) e
      ∙ ap (λ (z : Bool). if z then Some x else None) is

  pub live_here : lookup_entry t s ≡ Some x → now < x.1.until → live now t s ≡ Some x
  live_here e l = live_by e true (lt-ltb now x.1.until l)

  pub live_gone : lookup_entry t s ≡ Some x → x.1.until ≤ now → live now t s ≡ None
  live_gone e l = live_by e false (le-ltb now x.1.until l)

  pub used_here : live now t s ≡ Some x → used now t s ≡ moved_back t s
  used_here e = let f : Option (Entry K V) → List (Entry K V) = λ o. elim o [ Some y ↦ moved_back t s | None ↦ s ] in ap f e

module _ {K V : Type 0} (eq : K → K → Bool) (m : Mapped (Entry K V)) (s : IsSound eq m) (t : AreTimed m) where
  module _ (p : Ptr) (x : Entry K V) (v : value_at m.nodes p ≡ Some x) (w : Mapped (Entry K V)) where
    here : is_in p (list_at 0 m.lists) ≡ true
    here = listed eq m s p x v

    -- the node at p became the last used one
    pub moved_timed : w.nodes ≡ m.nodes → list_at 0 w.lists ≡ without p (list_at 0 m.lists) ++ p ∷ [] → SameBut 0 m.lists w.lists → AreTimed w
    moved_timed nodes moved others =
        let same = others 1 (λ e. absurd cc) in record {
          long = let a = ap length same in let b = ap length moved in let c = length-append (without p (list_at 0 m.lists)) (p ∷ []) in let d = length_without p (list_at 0 m.lists) here in let e = t.long in omega (arith, a, b, c, d, e);
          all = λ q h. ap (is_in q) same ∙ t.all q (split (same_ptr p q)
              (λ is. subst (λ z. is_in z (list_at 0 m.lists) ≡ true) (same_ptr_eq p q is) here)
              (λ other. sym (without_other p q (list_at 0 m.lists) other)
              ∙ sym (in_append q (without p (list_at 0 m.lists)) (p ∷ []) ∙ ap (λ (b : Bool). if is_in q (without p (list_at 0 m.lists)) then true else b) (in_there q p [] (other_way p q other)) ∙ either (is_in q (without p (list_at 0 m.lists))))
              ∙ sym (ap (is_in q) moved) ∙ h));
          sorted = subst (AreFrom until 0) (sym (ap (λ c. in_order c (list_at 1 w.lists)) nodes ∙ ap (in_order m.nodes) same)) t.sorted;
        } where
          either : (b : Bool) → (if b then true else false) ≡ b
          either true = refl
          either false = refl

    -- the node at p went
    pub taken_timed : IsTakenOut eq 2 m p x w → AreTimed w
    taken_timed r =
        let zero = r.lists 0 (omega arith) in let one = r.lists 1 (omega arith) in let timed = t.all p here in record {
          long = let a = ap length zero in let b = ap length one in let c = length_without p (list_at 0 m.lists) here in let d = length_without p (list_at 1 m.lists) timed in let e = t.long in omega (arith, a, b, c, d, e);
          all = λ q h.
              let there = sym (ap (is_in q) zero) ∙ h in
              let other = other_way q p (differ q p (without p (list_at 0 m.lists)) there (without_gone p (list_at 0 m.lists) (once_of (list_at 0 m.lists) (s.once 0)))) in
              ap (is_in q) one ∙ without_other p q (list_at 1 m.lists) other ∙ t.all q (sym (without_other p q (list_at 0 m.lists) other) ∙ there);
          sorted = subst (AreFrom until 0) (sym (r.orders 1 (omega arith))) (from_cut until (eq x.0) 0 (by_time m) t.sorted);
        }

  -- a node came to q, and is also in the order of the times
  pub put_timed : (w : Mapped (Entry K V)) (q : Ptr) (y : Entry K V) (n : Mapped (Entry K V)) → IsPut eq m q y n → IsLinkedIn until 1 n q w → AreTimed w
  put_timed w q y n a l = record {
    long = let was = ap length (a.others 1 (λ e. absurd cc)) in let old = ap length l.old in let new = ap length l.new in let one = length-append l.before l.after in let two = length-append l.before (q ∷ l.after) in
        let zero = ap length (l.others 0 (λ e. absurd cc) ∙ a.list) in let last = length-append (list_at 0 m.lists) (q ∷ []) in let e = t.long in omega (arith, was, old, new, one, two, zero, last, e);
    all = λ r h. split (same_ptr q r)
        (λ is. subst (λ z. is_in z (list_at 1 w.lists) ≡ true) (same_ptr_eq q r is) (ap (is_in q) l.new ∙ in_mid q l.before l.after))
        (λ other. let apart = other_way q r other in
        ap (is_in r) l.new ∙ other_mid r q l.before l.after apart ∙ sym (ap (is_in r) l.old) ∙ ap (is_in r) (a.others 1 (λ e. absurd cc))
        ∙ t.all r (sym (in_append r (list_at 0 m.lists) (q ∷ []) ∙ ap (λ (b : Bool). if is_in r (list_at 0 m.lists) then true else b) (in_there r q [] apart) ∙ either (is_in r (list_at 0 m.lists)))
        ∙ sym (ap (is_in r) (l.others 0 (λ e. absurd cc) ∙ a.list)) ∙ h));
    sorted = l.sorted;
  } where
    either : (b : Bool) → (if b then true else false) ≡ b
    either true = refl
    either false = refl

  -- an entry expires no earlier than what all by time do
  late : (u : ℕ) → AreFrom until u (by_time m) → (q : Ptr) (y : Entry K V) → is_in q (list_at 0 m.lists) ≡ true → value_at m.nodes q ≡ Some y → u ≤ y.1.until
  late u a q y h v = let r = cut eq m s q y v 1 (t.all q h) in (from_mid until u (in_order m.nodes r.front) (in_order m.nodes r.back) y (subst (AreFrom until u) r.order a)).0

  -- ---- the first by time
  module _ (now : ℕ) where
    module _ (p : Ptr) (x : Entry K V) (v : value_at m.nodes p ≡ Some x) (first : IsFirstOf (list_at 1 m.lists) p) where
      from_first : AreFrom until x.1.until (by_time m)
      from_first = let is = ap (in_order m.nodes) first.1 ∙ order_here m.nodes p first.0 x v in
          subst (AreFrom until x.1.until) (sym is) (omega arith, (subst (AreFrom until 0) is t.sorted).1)

      pub first_out : x.1.until ≤ now → HasAt m (IsFirstExpired now (by_use m)) p
      first_out le = record { entry = x; value = v; holds = record { expired = le; first = all_of m.nodes (λ y. x.1.until ≤ y.1.until) (list_at 0 m.lists) (late x.1.until from_first) } }

      pub all_live : now < x.1.until → All (IsLive now) (by_use m)
      all_live lt = all_of m.nodes (IsLive now) (list_at 0 m.lists) (λ q y h w. let a = late x.1.until from_first q y h w in omega (arith, a, lt))

    pub oldest : All (IsLive now) (by_use m) → (o : Option Ptr) → MatchOption o (list_at 0 m.lists ≡ []) (λ p. IsFirstOf (list_at 0 m.lists) p)
        → MatchOption o (by_use m ≡ []) (λ p. HasAt m (λ x. IsFirstExpired now (by_use m) x ⊎ IsLongestUnused now (by_use m) x) p)
    oldest live None e = ap (in_order m.nodes) e
    oldest live (Some p) e =
        let r = in_value m.nodes p (has_in m.nodes p (s.inside 0 p (first_in (list_at 0 m.lists) p e))) in
        record { entry = r.0; value = r.1; holds = inr (record { live = live; after = in_order m.nodes e.0; whole = ap (in_order m.nodes) e.1 ∙ order_here m.nodes p e.0 r.0 r.1 }) }
