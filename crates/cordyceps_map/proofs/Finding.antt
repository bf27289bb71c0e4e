-- What is known of a key's node, and of the one before it.
use Rattle.std.proofs.Common.{◌≡◌, ◌<◌, ℕ, Bool, true, List, [], ◌∷◌, ◌++◌, length, Option, Some, None, MatchOption, refl, sym, ap, ◌∙◌, subst}
use Rattle.std.specs.Prelude.{IfSome}
use Rattle.std.specs.Cmp.{IsEquivalence}
use Rattle.std.specs.Map.{lookup, lookup_entry}
use denote.RawPtr.{Ptr}
use Rattle.cordyceps_base.specs.BySpot.{HasSpot, HoldsAt, IsTaken}
use Rattle.cordyceps_base.specs.Element.{Element}
use Rattle.cordyceps_base.specs.Nodes.{Nodes, spots}
use Rattle.cordyceps_base.specs.Spots.{same_ptr, AreDistinct}
use Rattle.cordyceps_base.proofs.SpotsMemory.{same_ptr_eq}
use Rattle.cordyceps_many.specs.Entries.{value_at}
use Rattle.cordyceps_many.specs.MultiList.{list_at}
use Rattle.cordyceps_many.specs.Threads.{is_in, without}
use Rattle.cordyceps_many.proofs.Members.{in_has}
use Rattle.cordyceps_many.proofs.Threads.{split, in_there}
use Rattle.cordyceps_map.specs.declared.entry.Entry.{Entry}
use Rattle.cordyceps_map.specs.Shown.{pair_of, shown_element, shown}
use Rattle.cordyceps_map.specs.StableMap.{Mapped, pairs, AreApart, IsFound, IsRemoved}
use Rattle.cordyceps_map.specs.Chains.{bucket_in, head_in, IsChain, IsMap, IsBucketOf, IsPlace, IsCut}
use Rattle.cordyceps_map.proofs.Chained.{Says, last_among}
use Rattle.cordyceps_map.proofs.Leaving.{in_front, cut_shows}
use Rattle.cordyceps_map.proofs.Looking.{value_of_entry, none_of_entry, none_found}
use Rattle.cordyceps_map.proofs.ShownNodes.{shown_has, has_shown, shown_held, shown_taken, value_shown}
use Rattle.cordyceps_many.proofs.ValueAt.{value_in, value_held, held_value}

pub when_none : {A N : Type 0} (S : A → Type 0) (o : Option A) → o ≡ None → N → MatchOption o N S
when_none S None e n = n
when_none S (Some x) e n = absurd cc

pub no_some : {A : Type 0} (o : Option A) → ((x : A) → o ≡ Some x → ⊥) → o ≡ None
no_some None f = refl
no_some (Some x) f = absurd (f x refl)

module _ {K V : Type 0} where
  -- a spot in a chain is that of a node
  pub chain_in : (f : Says K V) (h : Option Ptr) (s : List Ptr) (q : Ptr) → IsChain f h s → is_in q s ≡ true → (e : Entry K V) × (f q ≡ Some e)
  chain_in f h [] q c i = absurd cc
  chain_in f h (p ∷ s) q (at, l) i = split (same_ptr q p)
      (λ same. (l.entry, ap f (same_ptr_eq q p same) ∙ l.says))
      (λ other. chain_in f l.entry.next s q l.on (sym (in_there q p s other) ∙ i))

  module _ (eq : K → K → Bool) (c : Nodes (Entry K V)) (hs : List (Option Ptr)) (k : K) (j : ℕ) where
    pub placed_has : (before : Option Ptr) (p : Ptr) (w : IsPlace eq c hs k j before p) → HasSpot c p
    placed_has before p w = in_has c p (value_in c p w.entry w.says)

    pub before_has : (before : Option Ptr) (p : Ptr) (w : IsPlace eq c hs k j before p) → IfSome before (λ q. HasSpot c q)
    before_has None p w = tt
    before_has (Some q) p w =
        let r = chain_in (value_at c) (head_in hs j) (w.front ++ p ∷ w.back) q w.chain (in_front q w.front (p ∷ w.back) (last_among w.front q w.last)) in
        in_has c q (value_in c q r.0 r.1)

    pub cut_has : (before : Option Ptr) (p : Ptr) (d : Nodes (Entry K V)) (ms : List (Option Ptr)) → IsCut c hs j before p d ms → (q : Ptr) → HasSpot c q → HasSpot d q
    cut_has before p d ms u q h = has_shown d q (subst (λ z. HasSpot z q) (sym (cut_shows c hs j p d ms before u)) (shown_has c q h))

    module _ (ls : List (List Ptr)) {size : ℕ} (v : Mapped (K × V)) (seen : record { nodes = shown c; lists = ls; buckets = size } ≡ v) where
      pub placed_found : (before : Option Ptr) (p : Ptr) (w : IsPlace eq c hs k j before p) → IsFound eq v.nodes k p
      placed_found before p w = subst (λ (z : Mapped (K × V)). IsFound eq z.nodes k p) seen
          (record { pair = pair_of w.entry; held = shown_held c p w.entry (value_held c p w.entry w.says); found = w.found })

      pub not_found : lookup_entry (eq k) (pairs (shown c)) ≡ None → lookup (eq k) (pairs v.nodes) ≡ None
      not_found e = subst (λ (z : Mapped (K × V)). lookup (eq k) (pairs z.nodes) ≡ None) seen (none_of_entry eq k (pairs (shown c)) e)

      -- the node was taken out
      pub removed : (before : Option Ptr) (p : Ptr) (w : IsPlace eq c hs k j before p) (d : Nodes (Entry K V)) (ms : List (Option Ptr)) (u : IsCut c hs j before p d ms)
          (n : Element (Entry K V)) (e : Nodes (Entry K V)) (taken : IsTaken d p n e) (count : ℕ) (ns : List (List Ptr)) (lists : (i : ℕ) → i < count → list_at i ns ≡ without p (list_at i ls)) (left : ℕ) (long : left ≡ size)
          → IsRemoved eq count v k (shown_element n) (record { nodes = shown e; lists = ns; buckets = left })
      removed before p w d ms u n e taken count ns lists left long = record {
        spot = p;
        found = placed_found before p w;
        taken = subst (λ (z : Nodes (K × V)). IsTaken z p (shown_element n) (shown e)) (cut_shows c hs j p d ms before u ∙ ap (λ (z : Mapped (K × V)). z.nodes) seen) (shown_taken d p n e taken);
        lists = λ i less. lists i less ∙ ap (λ (z : Mapped (K × V)). without p (list_at i z.lists)) seen;
        buckets = long ∙ ap (λ (z : Mapped (K × V)). z.buckets) seen;
      }

  -- the bucket that a key's hash says, of a table with n buckets
  pub bucket_said : (eq : K → K → Bool) (hash : K → ℕ) (c : Nodes (Entry K V)) (hs ms : List (Option Ptr)) (k : K) (n j : ℕ) → IsMap eq hash c hs → ms ≡ hs → n ≡ length ms → ((x : K) → eq k x ≡ true → hash k ≡ hash x)
      → j ≡ bucket_in n (hash k) → j < n → IsBucketOf eq c ms k j
  bucket_said eq hash c hs ms k n j m same long alike number within = record {
    within = subst (λ z. j < z) long within;
    hash = hash;
    map = subst (IsMap eq hash c) (sym same) m;
    alike = alike;
    number = number ∙ ap (λ z. bucket_in z (hash k)) long;
  }

  -- where the key of a node is looked for
  module _ (eq : K → K → Bool) (laws : IsEquivalence eq) (hash : K → ℕ) (c : Nodes (Entry K V)) (hs : List (Option Ptr)) (m : IsMap eq hash c hs) (at : Ptr) (e : Entry K V) (says : value_at c at ≡ Some e) where
    pub never_none : lookup_entry (eq e.key) (pairs (shown c)) ≡ None → ⊥
    never_none none = let no = none_found eq e.key (shown c) none at (pair_of e) (value_shown c at e says) in let yes = laws.refl e.key in cc

    pub same_place : (j : ℕ) (before : Option Ptr) (p : Ptr) (w : IsPlace eq c hs e.key j before p) → p ≡ at
    same_place j before p w = m.apart p at (pair_of w.entry) (pair_of e) (value_shown c p w.entry w.says) (value_shown c at e says) (laws.symm w.entry.key e.key ∙ w.same)

  -- one node has the key
  module _ (eq : K → K → Bool) (laws : IsEquivalence eq) (c : Nodes (K × V)) (distinct : AreDistinct (spots c)) (apart : AreApart eq c) (k : K) where
    pub one_spot : (p q : Ptr) → IsFound eq c k p → IsFound eq c k q → p ≡ q
    one_spot p q f o =
        let same : f.pair ≡ o.pair = let t = sym f.found ∙ o.found in cc in
        apart p q f.pair o.pair (held_value c p f.pair distinct f.held) (held_value c q o.pair distinct o.held) (sym (ap (λ (z : K × V). eq f.pair.0 z.0) same) ∙ laws.refl f.pair.0)

    pub value_found : (p : Ptr) (f : IsFound eq c k p) (x : K × V) → HoldsAt c p x → lookup (eq k) (pairs c) ≡ Some x.1
    value_found p f x held =
        let same : f.pair ≡ x = let t = sym (held_value c p f.pair distinct f.held) ∙ held_value c p x distinct held in cc in
        value_of_entry eq k (pairs c) f.pair f.found ∙ ap (λ (z : K × V). Some z.1) same
