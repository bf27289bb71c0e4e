-- A node is taken out of the chain of its bucket, and of the map.
use Rattle.std.proofs.Common.{◌≡◌, ◌≢◌, ◌==◌, ℕ, Bool, true, false, if◌then◌else◌, List, ◌∷◌, ◌++◌, length, Option, Some, None, sym, ap, ◌∙◌, subst}
use Rattle.std.specs.Cmp.{IsEquivalence}
use Rattle.std.specs.Int.{IsPowerOfTwo}
use Rattle.std.specs.Map.{lookup_entry}
use Rattle.std.proofs.lemmas.List.{length-set, get_or-set_same, get_or-set_other}
use denote.RawPtr.{Ptr}
use Rattle.cordyceps_base.specs.Element.{Element}
use Rattle.cordyceps_base.specs.Nodes.{Nodes, spots}
use Rattle.cordyceps_base.specs.Spots.{same_ptr, AreDistinct}
use Rattle.cordyceps_base.proofs.SpotsMemory.{same_ptr_eq}
use Rattle.cordyceps_many.specs.Entries.{value_at}
use Rattle.cordyceps_many.specs.Threads.{is_in, Once}
use Rattle.cordyceps_many.proofs.Members.{in_mid, other_mid, spots_joined}
use Rattle.cordyceps_many.proofs.Threads.{split, differ, in_append, Apart, apart}
use Rattle.cordyceps_map.specs.declared.entry.Entry.{Entry}
use Rattle.cordyceps_map.specs.Shown.{pair_of, shown}
use Rattle.cordyceps_map.specs.Chains.{bucket_in, head_in, IsChain, IsInBucket, AreChained, IsMap, IsPlace, IsCut}
use Rattle.cordyceps_map.proofs.Chained.{framed, unique, leads_on, cut as cut_chain, last_among, no_last}
use Rattle.cordyceps_map.proofs.Entering.{with_chain, chain_here, chain_there, same_number, other_number}
use Rattle.cordyceps_map.specs.StableMap.{pairs}
use Rattle.cordyceps_map.proofs.Looking.{absent}
use Rattle.cordyceps_map.proofs.ShownNodes.{spots_shown, value_shown, shown_value}
use Rattle.cordyceps_many.proofs.ValueAt.{value_in, value_left, spot_gone, distinct_left}

pub in_front : (q : Ptr) (s t : List Ptr) → is_in q s ≡ true → is_in q (s ++ t) ≡ true
in_front q s t e = in_append q s t ∙ ap (λ (b : Bool). if b then true else is_in q t) e

module _ {K V : Type 0} (c : Nodes (Entry K V)) (hs : List (Option Ptr)) (j : ℕ) (p : Ptr) (d : Nodes (Entry K V)) (ms : List (Option Ptr)) where
  -- what contracts see stays
  pub cut_shows : (before : Option Ptr) (u : IsCut c hs j before p d ms) → shown d ≡ shown c
  cut_shows None u = ap shown u.cut.0
  cut_shows (Some q) u = u.cut.0.shows

  pub cut_long : (before : Option Ptr) (u : IsCut c hs j before p d ms) → length ms ≡ length hs
  cut_long None u = ap length u.cut.1 ∙ length-set hs j u.entry.next
  cut_long (Some q) u = ap length u.cut.1

module _ {K V : Type 0} (eq : K → K → Bool) (hash : K → ℕ) (c : Nodes (Entry K V)) (hs : List (Option Ptr)) (m : IsMap eq hash c hs) (k : K) (j : ℕ) (p : Ptr) (d : Nodes (Entry K V)) (ms : List (Option Ptr)) where
  -- where the chain of the bucket has the node
  whole : (before : Option Ptr) (w : IsPlace eq c hs k j before p) → m.chained.chains j ≡ w.front ++ p ∷ w.back
  whole before w = unique (value_at c) (head_in hs j) (m.chained.chains j) (w.front ++ p ∷ w.back) (m.chained.heads j) w.chain

  once_whole : (before : Option Ptr) (w : IsPlace eq c hs k j before p) → Once (w.front ++ p ∷ w.back)
  once_whole before w = subst Once (whole before w) (m.chained.once j)

  same_entry : (before : Option Ptr) (w : IsPlace eq c hs k j before p) (u : IsCut c hs j before p d ms) → u.entry ≡ w.entry
  same_entry before w u = let t = sym u.was ∙ w.says in cc

  -- the chain of the bucket
  cut_here : (before : Option Ptr) (w : IsPlace eq c hs k j before p) (u : IsCut c hs j before p d ms) → IsChain (value_at d) (head_in ms j) (w.front ++ w.back)
  cut_here None w u =
      let none = no_last w.front w.last in
      let on : IsChain (value_at c) w.entry.next w.back = leads_on (value_at c) (head_in hs j) w.front p w.back w.entry w.chain w.says in
      let says : head_in ms j ≡ w.entry.next = ap (λ z. head_in z j) u.cut.1 ∙ get_or-set_same hs j u.entry.next None w.within ∙ ap (λ (z : Entry K V). z.next) (same_entry None w u) in
      subst (λ z. IsChain (value_at d) (head_in ms j) (z ++ w.back)) (sym none)
      (subst (λ z. IsChain (value_at d) z w.back) (sym says) (subst (λ z. IsChain (value_at z) w.entry.next w.back) (sym u.cut.0) on))
  cut_here (Some q) w u =
      let r = u.cut.0 in
      let here : value_at d q ≡ Some (record r.entry { next = w.entry.next }) = r.here ∙ ap (λ (z : Entry K V). Some (record r.entry { next = z.next })) (same_entry (Some q) w u) in
      subst (λ z. IsChain (value_at d) (head_in z j) (w.front ++ w.back)) (sym u.cut.1)
      (cut_chain (value_at c) (value_at d) p w.back w.entry w.says q r.entry r.was here r.others (head_in hs j) w.front w.last (once_whole (Some q) w) w.chain)

  -- a spot of another bucket's chain
  elsewhere : (i : ℕ) (q z : Ptr) → i ≢ j → is_in q (m.chained.chains j) ≡ true → is_in z (m.chained.chains i) ≡ true → same_ptr z q ≡ false
  elsewhere i q z other there here = split (same_ptr z q)
      (λ same. let a = m.chained.own i z here in let b = m.chained.own j q there in
      let t : a.entry ≡ b.entry = let s = sym a.says ∙ ap (value_at c) (same_ptr_eq z q same) ∙ b.says in cc in
      absurd (other (sym a.bucket ∙ ap (λ (y : Entry K V). bucket_in (length hs) (hash y.key)) t ∙ b.bucket)))
      (λ no. no)

  cut_there : (before : Option Ptr) (w : IsPlace eq c hs k j before p) (u : IsCut c hs j before p d ms) (i : ℕ) → i ≢ j → IsChain (value_at d) (head_in ms i) (m.chained.chains i)
  cut_there None w u i other =
      subst (λ z. IsChain (value_at d) z (m.chained.chains i)) (sym (ap (λ z. head_in z i) u.cut.1 ∙ get_or-set_other hs j i u.entry.next None other))
      (subst (λ z. IsChain (value_at z) (head_in hs i) (m.chained.chains i)) (sym u.cut.0) (m.chained.heads i))
  cut_there (Some q) w u i other =
      let among : is_in q (m.chained.chains j) ≡ true = ap (is_in q) (whole (Some q) w) ∙ in_front q w.front (p ∷ w.back) (last_among w.front q w.last) in
      subst (λ z. IsChain (value_at d) (head_in z i) (m.chained.chains i)) (sym u.cut.1)
      (framed (value_at c) (value_at d) (head_in hs i) (m.chained.chains i) (λ z here. u.cut.0.others z (elsewhere i q z other among here)) (m.chained.heads i))

  module _ (before : Option Ptr) (w : IsPlace eq c hs k j before p) (u : IsCut c hs j before p d ms) (distinct : AreDistinct (spots c)) (n : Element (Entry K V)) (e b a : Nodes (Entry K V)) (was : d ≡ b ++ (p, n) ∷ a) (is_left : e ≡ b ++ a) where
    same_spots : spots d ≡ spots c
    same_spots = sym (spots_shown d) ∙ ap spots (cut_shows c hs j p d ms before u) ∙ spots_shown c

    kept : (q : Ptr) → same_ptr q p ≡ false → value_at e q ≡ value_at d q
    kept q other = ap (λ z. value_at z q) is_left ∙ value_left b a p n q other ∙ sym (ap (λ z. value_at z q) was)

    out : is_in p (spots e) ≡ false
    out = ap (λ z. is_in p (spots z)) is_left ∙ spot_gone b a p n (subst AreDistinct (sym same_spots ∙ ap spots was) distinct)

    spots_kept : (q : Ptr) → same_ptr q p ≡ false → is_in q (spots e) ≡ is_in q (spots c)
    spots_kept q other = ap (λ z. is_in q (spots z)) is_left ∙ ap (is_in q) (spots_joined b a) ∙ sym (other_mid q p (spots b) (spots a) other)
        ∙ sym (ap (is_in q) (spots_joined b ((p, n) ∷ a))) ∙ sym (ap (λ z. is_in q (spots z)) was) ∙ ap (is_in q) same_spots

    not_p : (q : Ptr) → is_in q (spots e) ≡ true → same_ptr q p ≡ false
    not_p q here = differ q p (spots e) here out

    -- the keys at the other spots stay
    pub forth : (q : Ptr) (o : Entry K V) → same_ptr q p ≡ false → value_at c q ≡ Some o → (y : Entry K V) × ((value_at e q ≡ Some y) × (pair_of y ≡ pair_of o))
    forth q o other v =
        let r = shown_value d q (pair_of o) (ap (λ z. value_at z q) (cut_shows c hs j p d ms before u) ∙ value_shown c q o v) in
        (r.0, (kept q other ∙ r.1.0, r.1.1))

    pub back : (q : Ptr) (y : Entry K V) → value_at e q ≡ Some y → (o : Entry K V) × ((value_at c q ≡ Some o) × (pair_of o ≡ pair_of y))
    back q y v =
        let other = not_p q (value_in e q y v) in
        shown_value c q (pair_of y) (sym (ap (λ z. value_at z q) (cut_shows c hs j p d ms before u)) ∙ value_shown d q y (sym (kept q other) ∙ v))

    parts : Apart w.front p w.back
    parts = apart w.front p w.back (once_whole before w)

    abbrev rest : List Ptr
    rest = w.front ++ w.back

    abbrev chains : ℕ → List Ptr
    chains = with_chain j rest m.chained.chains

    in_rest : (q : Ptr) → is_in q rest ≡ true → same_ptr q p ≡ false
    in_rest q here = differ q p rest here (in_append p w.front w.back ∙ ap (λ (z : Bool). if z then true else is_in p w.back) parts.before ∙ parts.after)

    rest_in : (q : Ptr) → same_ptr q p ≡ false → is_in q rest ≡ is_in q (m.chained.chains j)
    rest_in q other = sym (other_mid q p w.front w.back other) ∙ sym (ap (is_in q) (whole before w))

    p_in : is_in p (m.chained.chains j) ≡ true
    p_in = ap (is_in p) (whole before w) ∙ in_mid p w.front w.back

    long : length ms ≡ length hs
    long = cut_long c hs j p d ms before u

    owned : (i : ℕ) (q : Ptr) → same_ptr q p ≡ false → is_in q (m.chained.chains i) ≡ true → IsInBucket hash (value_at e) (length ms) i q
    owned i q other here =
        let o = m.chained.own i q here in let r = forth q o.entry other o.says in
        record { entry = r.0; says = r.1.0; bucket = ap (λ z. bucket_in z (hash r.0.key)) long ∙ ap (λ (x : K × V). bucket_in (length hs) (hash x.0)) r.1.1 ∙ o.bucket }

    pub chained : AreChained hash (value_at e) ms (spots e)
    chained = record {
      chains = chains;
      heads = λ i. split (i == j)
          (λ same. let is = same_number i j same in
          subst (IsChain (value_at e) (head_in ms i)) (sym (chain_here j rest m.chained.chains i is))
          (subst (λ z. IsChain (value_at e) (head_in ms z) rest) (sym is) (framed (value_at d) (value_at e) (head_in ms j) rest (λ q here. kept q (in_rest q here)) (cut_here before w u))))
          (λ other. let not = other_number i j other in
          subst (IsChain (value_at e) (head_in ms i)) (sym (chain_there j rest m.chained.chains i other))
          (framed (value_at d) (value_at e) (head_in ms i) (m.chained.chains i) (λ q here. kept q (elsewhere i p q not p_in here)) (cut_there before w u i not)));
      once = λ i. split (i == j)
          (λ same. subst Once (sym (chain_here j rest m.chained.chains i (same_number i j same))) parts.joined)
          (λ other. subst Once (sym (chain_there j rest m.chained.chains i other)) (m.chained.once i));
      own = λ i q here. split (i == j)
          (λ same. let is = same_number i j same in let r : is_in q rest ≡ true = sym (ap (is_in q) (chain_here j rest m.chained.chains i is)) ∙ here in
          owned i q (in_rest q r) (ap (λ z. is_in q (m.chained.chains z)) is ∙ sym (rest_in q (in_rest q r)) ∙ r))
          (λ other. let not = other_number i j other in let r : is_in q (m.chained.chains i) ≡ true = sym (ap (is_in q) (chain_there j rest m.chained.chains i other)) ∙ here in
          owned i q (elsewhere i p q not p_in r) r);
      only = λ i q here. split (i == j)
          (λ same. let is = same_number i j same in let r : is_in q rest ≡ true = sym (ap (is_in q) (chain_here j rest m.chained.chains i is)) ∙ here in
          spots_kept q (in_rest q r) ∙ m.chained.only j q (sym (rest_in q (in_rest q r)) ∙ r))
          (λ other. let not = other_number i j other in let r : is_in q (m.chained.chains i) ≡ true = sym (ap (is_in q) (chain_there j rest m.chained.chains i other)) ∙ here in
          spots_kept q (elsewhere i p q not p_in r) ∙ m.chained.only i q r);
      reach = λ q y here v. let apart_p = not_p q here in let o = back q y v in
          let number : bucket_in (length ms) (hash y.key) ≡ bucket_in (length hs) (hash o.0.key) = ap (λ z. bucket_in z (hash y.key)) long ∙ sym (ap (λ (x : K × V). bucket_in (length hs) (hash x.0)) o.1.1) in
          let old : is_in q (m.chained.chains (bucket_in (length ms) (hash y.key))) ≡ true = ap (λ z. is_in q (m.chained.chains z)) number ∙ m.chained.reach q o.0 (sym (spots_kept q apart_p) ∙ here) o.1.0 in
          split (bucket_in (length ms) (hash y.key) == j)
          (λ same. let is = same_number (bucket_in (length ms) (hash y.key)) j same in
          ap (is_in q) (chain_here j rest m.chained.chains (bucket_in (length ms) (hash y.key)) is) ∙ rest_in q apart_p ∙ sym (ap (λ z. is_in q (m.chained.chains z)) is) ∙ old)
          (λ other. ap (is_in q) (chain_there j rest m.chained.chains (bucket_in (length ms) (hash y.key)) other) ∙ old);
    }

    -- what contracts see at the other spots was there before
    seen_before : (q : Ptr) (x : K × V) → value_at (shown e) q ≡ Some x → value_at (shown c) q ≡ Some x
    seen_before q x v = let r = shown_value e q x v in let o = back q r.0 r.1.0 in value_shown c q o.0 o.1.0 ∙ ap (λ z. Some z) (o.1.1 ∙ r.1.1)

    pub left : IsMap eq hash e ms
    left = record {
      power = subst IsPowerOfTwo (sym long) m.power;
      chained = chained;
      apart = λ q r x y v v' same. m.apart q r x y (seen_before q x v) (seen_before r y v') same;
    }

    -- and no node has the key
    pub gone : IsEquivalence eq → lookup_entry (eq k) (pairs (shown e)) ≡ None
    gone laws = absent eq k (shown e) (subst AreDistinct (sym (spots_shown e)) (ap_left (distinct_left b a p n (subst AreDistinct (sym same_spots ∙ ap spots was) distinct))))
        (λ q x v. split (eq k x.0)
        (λ found.
        let same : q ≡ p = m.apart q p x (pair_of w.entry) (seen_before q x v) (value_shown c p w.entry w.says) (sym (laws.congr k x.0 w.entry.key found) ∙ w.same) in
        let there : is_in p (spots e) ≡ true = subst (λ z. is_in z (spots e) ≡ true) same (ap (is_in q) (sym (spots_shown e)) ∙ value_in (shown e) q x v) in
        let missing = out in absurd cc)
        (λ other. other)) where
          ap_left : AreDistinct (spots (b ++ a)) → AreDistinct (spots e)
          ap_left z = subst (λ y. AreDistinct (spots y)) (sym is_left) z
