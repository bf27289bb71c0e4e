-- Every node is linked into an empty table.
use Rattle.std.proofs.Common.{◌≡◌, ◌<◌, ℕ, Bool, true, false, List, [], ◌∷◌, ◌++◌, length, Option, Some, None, MatchOption, refl, sym, ap, ◌∙◌, subst, arith, append_assoc, append-nil}
use Rattle.std.specs.Int.{IsPowerOfTwo}
use denote.RawPtr.{Ptr}
use Rattle.cordyceps_base.specs.BySpot.{HasSpot}
use Rattle.cordyceps_base.specs.Nodes.{Nodes, spots}
use Rattle.cordyceps_base.specs.Spots.{AreDistinct}
use Rattle.cordyceps_many.specs.Entries.{value_at, from_place}
use Rattle.cordyceps_many.specs.MultiList.{IsFirstOf, IsLastOf, AreNextIn}
use Rattle.cordyceps_many.specs.Threads.{is_in}
use Rattle.cordyceps_many.proofs.Entered.{from_here, clear_front}
use Rattle.cordyceps_many.proofs.Members.{in_mid, has_in, in_has}
use Rattle.cordyceps_many.proofs.Threads.{split}
use Rattle.cordyceps_map.specs.declared.entry.Entry.{Entry}
use Rattle.cordyceps_map.specs.Shown.{shown}
use Rattle.cordyceps_map.specs.StableMap.{AreApart}
use Rattle.cordyceps_map.specs.Chains.{bucket_in, AreChained, IsEmptyTable, IsEntered, IsMap}
use Rattle.cordyceps_map.proofs.Chained.{Says}
use Rattle.cordyceps_map.proofs.Entering.{joined_members, renamed, entered}

module _ {K V : Type 0} (hash : K → ℕ) where
  -- an empty table reaches no node
  pub emptied : (f : Says K V) (hs : List (Option Ptr)) → IsEmptyTable hs → AreChained hash f hs []
  emptied f hs e = record {
    chains = λ j. [];
    heads = λ j. e.empty j;
    once = λ j. tt;
    own = λ j p i. absurd cc;
    only = λ j p i. absurd cc;
    reach = λ p o i v. absurd cc;
  }

  pub empty_map : (eq : K → K → Bool) (c : Nodes (Entry K V)) (hs : List (Option Ptr)) → c ≡ [] → IsEmptyTable hs → IsMap eq hash c hs
  empty_map eq c hs none e = subst (λ z. IsMap eq hash z hs) (sym none) (record { power = e.power; chained = emptied (value_at []) hs e; apart = λ p q x y v w same. absurd cc })

-- what comes after a spot of a list in which none comes twice
after_is : (s : List Ptr) (p : Ptr) (l t m r : List Ptr) → AreDistinct s → s ≡ l ++ p ∷ t → s ≡ m ++ p ∷ r → t ≡ r
after_is s p l t m r d e f = let same : p ∷ t ≡ p ∷ r = sym (from_here s p l t e d) ∙ from_here s p m r f d in cc

next_first : (s : List Ptr) (p : Ptr) (l t : List Ptr) (o : Option Ptr) → AreDistinct s → s ≡ l ++ p ∷ t → MatchOption o (IsLastOf s p) (λ q. AreNextIn s p q) → MatchOption o (t ≡ []) (λ q. IsFirstOf t q)
next_first s p l t None d e (b, f) = after_is s p l t b [] d e f
next_first s p l t (Some q) d e n = (n.after, after_is s p l t n.before (q ∷ n.after) d e n.whole)

next_rest : (s : List Ptr) (p : Ptr) (l t : List Ptr) (o : Option Ptr) → AreDistinct s → s ≡ l ++ p ∷ t → MatchOption o (IsLastOf s p) (λ q. AreNextIn s p q) → from_place o s ≡ t
next_rest s p l t None d e (b, f) = sym (after_is s p l t b [] d e f)
next_rest s p l t (Some q) d e n =
    from_here s q (n.before ++ p ∷ []) n.after (n.whole ∙ sym (append_assoc n.before (p ∷ []) (q ∷ n.after))) d ∙ sym (after_is s p l t n.before (q ∷ n.after) d e n.whole)

-- the list of which the last part begins at `at`, whose nodes before that are in the table
module _ {K V : Type 0} (hash : K → ℕ) where
  pub record IsFilling (c : Nodes (Entry K V)) (hs : List (Option Ptr)) (s : List Ptr) (at : Option Ptr) : Type 0 where
    pub front : List Ptr
    pub back : List Ptr
    pub whole : s ≡ front ++ back
    pub here : MatchOption at (back ≡ []) (λ p. IsFirstOf back p)
    pub chained : AreChained hash (value_at c) hs front

  pub begun : (c : Nodes (Entry K V)) (hs : List (Option Ptr)) (s : List Ptr) (at : Option Ptr) → IsEmptyTable hs → MatchOption at (s ≡ []) (λ p. IsFirstOf s p) → IsFilling c hs s at
  begun c hs s at e first = record { front = []; back = s; whole = refl; here = first; chained = emptied hash (value_at c) hs e }

  module _ (c : Nodes (Entry K V)) (hs : List (Option Ptr)) (s : List Ptr) (p : Ptr) (w : IsFilling c hs s (Some p)) (once : AreDistinct s) where
    split_at : s ≡ w.front ++ p ∷ w.here.0
    split_at = w.whole ∙ ap (λ z. w.front ++ z) w.here.1

    fresh : is_in p w.front ≡ false
    fresh = clear_front w.front p w.here.0 (subst AreDistinct split_at once)

    pub gone_on : (d : Nodes (Entry K V)) (ms : List (Option Ptr)) (j : ℕ) (r : IsEntered c hs j p d ms) (e : Entry K V) → value_at c p ≡ Some e → j ≡ bucket_in (length hs) (hash e.key) → (o : Option Ptr) → MatchOption o (IsLastOf s p) (λ q. AreNextIn s p q) → IsFilling d ms s o
    gone_on d ms j r e says number o n = record {
      front = w.front ++ p ∷ [];
      back = w.here.0;
      whole = split_at ∙ sym (append_assoc w.front (p ∷ []) w.here.0);
      here = next_first s p w.front w.here.0 o once split_at n;
      chained = renamed hash (value_at d) ms (p ∷ w.front) (w.front ++ p ∷ []) (λ q. joined_members q p w.front) (entered hash c hs p d ms w.front fresh j r e says number w.chained);
    }

    pub fewer : (o : Option Ptr) → MatchOption o (IsLastOf s p) (λ q. AreNextIn s p q) → length (from_place o s) < length (from_place (Some p) s)
    fewer o n = let rest = ap length (next_rest s p w.front w.here.0 o once split_at n) in let all = ap length (from_here s p w.front w.here.0 split_at once) in omega (arith, rest, all)

    pub among : is_in p s ≡ true
    among = ap (is_in p) split_at ∙ in_mid p w.front w.here.0

  pub filled : (c : Nodes (Entry K V)) (hs : List (Option Ptr)) (s : List Ptr) → IsFilling c hs s None → AreChained hash (value_at c) hs s
  filled c hs s w = subst (AreChained hash (value_at c) hs) (sym (w.whole ∙ ap (λ z. w.front ++ z) w.here ∙ append-nil w.front)) w.chained

-- two lists that have the same members
pub same_members : (a b : List Ptr) → ((q : Ptr) → is_in q a ≡ true → is_in q b ≡ true) → ((q : Ptr) → is_in q b ≡ true → is_in q a ≡ true) → (q : Ptr) → is_in q b ≡ is_in q a
same_members a b f g q = split (is_in q a)
    (λ there. f q there ∙ sym there)
    (λ missing. split (is_in q b) (λ here. let t = g q here in absurd cc) (λ out. out ∙ sym missing))

module _ {K V : Type 0} (eq : K → K → Bool) (hash : K → ℕ) (c : Nodes (Entry K V)) (hs : List (Option Ptr)) (m : IsMap eq hash c hs) where
  pub refilled : (d : Nodes (Entry K V)) (ms : List (Option Ptr)) (s : List Ptr) → shown d ≡ shown c → IsPowerOfTwo (length ms) → AreChained hash (value_at d) ms s
      → ((q : Ptr) → is_in q s ≡ true → HasSpot d q) → ((q : Ptr) → HasSpot d q → is_in q s ≡ true) → IsMap eq hash d ms
  refilled d ms s same power chained inside all = record {
    power = power;
    chained = renamed hash (value_at d) ms s (spots d) (same_members s (spots d) (λ q i. has_in d q (inside q i)) (λ q i. all q (in_has d q i))) chained;
    apart = subst (AreApart eq) (sym same) m.apart;
  }
