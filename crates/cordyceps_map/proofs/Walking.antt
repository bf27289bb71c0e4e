-- A key is looked for along the chain of its bucket.
use Rattle.std.proofs.Common.{◌≡◌, ◌<◌, ◌≤◌, ℕ, zero, suc, Bool, true, false, if◌then◌else◌, List, [], ◌∷◌, ◌++◌, length, Option, Some, None, refl, sym, ap, ◌∙◌, subst, arith, append_assoc, length-append}
use denote.RawPtr.{Ptr}
use Rattle.cordyceps_base.specs.Nodes.{Nodes, spots}
use Rattle.cordyceps_base.specs.Spots.{same_ptr}
use Rattle.cordyceps_base.proofs.SpotsMemory.{same_ptr_eq}
use Rattle.cordyceps_many.specs.Entries.{value_at}
use Rattle.cordyceps_many.specs.Threads.{is_in}
use Rattle.cordyceps_many.proofs.Members.{once_distinct}
use Rattle.cordyceps_many.proofs.Threads.{split, in_there, in_append}
use Rattle.cordyceps_map.specs.declared.entry.Entry.{Entry}
use Rattle.cordyceps_map.specs.Shown.{shown}
use Rattle.cordyceps_map.specs.Chains.{bucket_in, head_in, last_spot, Leads, IsChain, IsMap}
use Rattle.cordyceps_map.proofs.Chained.{Says, unique}
use Rattle.cordyceps_many.proofs.Fewer.{no_longer}
use Rattle.cordyceps_map.proofs.ShownNodes.{shown_value}
use Rattle.cordyceps_many.proofs.ValueAt.{value_in}

last_joined : (o : Option Ptr) (s : List Ptr) (p : Ptr) → last_spot o (s ++ p ∷ []) ≡ Some p
last_joined o [] p = refl
last_joined o (x ∷ s) p = last_joined (Some x) s p

module _ {K V : Type 0} where
  -- where an entry leads, if there is one
  abbrev pub on_from : Option (Entry K V) → Option Ptr
  on_from None = None
  on_from (Some e) = e.next

  -- how many spots a walk from h comes to, and n at the most
  abbrev pub steps : Says K V → ℕ → Option Ptr → ℕ
  steps f zero h = zero
  steps f (suc n) None = zero
  steps f (suc n) (Some p) = suc (steps f n (on_from (f p)))

  pub steps_is : (f : Says K V) (n : ℕ) (h : Option Ptr) (s : List Ptr) → IsChain f h s → length s ≤ n → steps f n h ≡ length s
  steps_is f zero h [] c le = refl
  steps_is f zero h (p ∷ s) c le = absurd (omega (arith, le))
  steps_is f (suc n) h [] c le = ap (steps f (suc n)) c
  steps_is f (suc n) h (p ∷ s) (at, l) le = ap (steps f (suc n)) at ∙ ap (λ z. suc (steps f n (on_from z))) l.says ∙ ap suc (steps_is f n l.entry.next s l.on (omega (arith, le)))

  -- the walk has come past the spots at `front`, of which none has the key k, and `at` leads to the others
  pub record IsOnWay (eq : K → K → Bool) (c : Nodes (Entry K V)) (h : Option Ptr) (k : K) (before at : Option Ptr) : Type 0 where
    pub front : List Ptr
    pub back : List Ptr
    pub whole : IsChain (value_at c) h (front ++ back)
    pub here : IsChain (value_at c) at back
    pub last : last_spot None front ≡ before
    pub none : (q : Ptr) (e : Entry K V) → is_in q front ≡ true → value_at c q ≡ Some e → eq k e.key ≡ false

  module _ (eq : K → K → Bool) (c : Nodes (Entry K V)) (h : Option Ptr) (k : K) where
    pub begun : (s : List Ptr) → IsChain (value_at c) h s → IsOnWay eq c h k None h
    begun s m = record { front = []; back = s; whole = m; here = m; last = refl; none = λ q e i v. absurd cc }

    -- what is at a spot on the way
    pub record Met (before : Option Ptr) (p : Ptr) (w : IsOnWay eq c h k before (Some p)) : Type 0 where
      pub after : List Ptr
      pub is : w.back ≡ p ∷ after
      pub there : Leads (value_at c) p (λ n. IsChain (value_at c) n after)

    pub met : (before : Option Ptr) (p : Ptr) (w : IsOnWay eq c h k before (Some p)) → Met before p w
    met before p w = of w.back refl w.here where
      of : (s : List Ptr) → w.back ≡ s → IsChain (value_at c) (Some p) s → Met before p w
      of [] e m = absurd cc
      of (q ∷ s) e (at, l) = let same : q ≡ p = cc in record { after = s; is = e ∙ ap (λ z. z ∷ s) same; there = subst (λ z. Leads (value_at c) z (λ n. IsChain (value_at c) n s)) same l }

    pub gone_on : (before : Option Ptr) (p : Ptr) (w : IsOnWay eq c h k before (Some p)) (e : Entry K V) → value_at c p ≡ Some e → eq k e.key ≡ false → IsOnWay eq c h k (Some p) e.next
    gone_on before p w e says other =
        let m = met before p w in let is : m.there.entry ≡ e = let t = sym m.there.says ∙ says in cc in
        record {
          front = w.front ++ p ∷ [];
          back = m.after;
          whole = subst (IsChain (value_at c) h) (ap (λ z. w.front ++ z) m.is ∙ sym (append_assoc w.front (p ∷ []) m.after)) w.whole;
          here = subst (λ (z : Entry K V). IsChain (value_at c) z.next m.after) is m.there.on;
          last = last_joined None w.front p;
          none = λ q o i v. split (is_in q w.front)
              (λ yes. w.none q o yes v)
              (λ no. let at : is_in q (p ∷ []) ≡ true = sym (ap (λ (b : Bool). if b then true else is_in q (p ∷ [])) no) ∙ sym (in_append q w.front (p ∷ [])) ∙ i in
              split (same_ptr q p)
              (λ same. let t : e ≡ o = let z = sym says ∙ ap (value_at c) (sym (same_ptr_eq q p same)) ∙ v in cc in subst (λ (z : Entry K V). eq k z.key ≡ false) t other)
              (λ apart. let t = sym (in_there q p [] apart) ∙ at in absurd cc));
        }

    pub fewer : (n : ℕ) (before : Option Ptr) (p : Ptr) (w : IsOnWay eq c h k before (Some p)) (e : Entry K V) → value_at c p ≡ Some e → length (w.front ++ w.back) ≤ n → steps (value_at c) n e.next < steps (value_at c) n (Some p)
    fewer n before p w e says fits =
        let m = met before p w in let is : m.there.entry ≡ e = let t = sym m.there.says ∙ says in cc in
        let long = length-append w.front w.back in let more = ap length m.is in
        let here = steps_is (value_at c) n (Some p) w.back w.here (omega (arith, fits, long)) in
        let on = steps_is (value_at c) n e.next m.after (subst (λ (z : Entry K V). IsChain (value_at c) z.next m.after) is m.there.on) (omega (arith, fits, long, more)) in
        omega (arith, here, on, more)

  -- how a walk ends
  module _ (eq : K → K → Bool) (hash : K → ℕ) (c : Nodes (Entry K V)) (hs : List (Option Ptr)) (m : IsMap eq hash c hs) (k : K) (alike : (x : K) → eq k x ≡ true → hash k ≡ hash x) (j : ℕ) (number : j ≡ bucket_in (length hs) (hash k)) where
    pub bounded : (before at : Option Ptr) (w : IsOnWay eq c (head_in hs j) k before at) → length (w.front ++ w.back) ≤ length (spots c)
    bounded before at w =
        let is = unique (value_at c) (head_in hs j) (m.chained.chains j) (w.front ++ w.back) (m.chained.heads j) w.whole in
        subst (λ z. length z ≤ length (spots c)) is (no_longer (m.chained.chains j) (spots c) (once_distinct (m.chained.chains j) (m.chained.once j)) (m.chained.only j))

    pub nowhere : (before : Option Ptr) (w : IsOnWay eq c (head_in hs j) k before None) → (q : Ptr) (x : K × V) → value_at (shown c) q ≡ Some x → eq k x.0 ≡ false
    nowhere before w q x v = split (eq k x.0)
        (λ yes.
        let r = shown_value c q x v in let o = r.0 in
        let same : eq k o.key ≡ true = ap (λ (z : K × V). eq k z.0) r.1.1 ∙ yes in
        let all : w.back ≡ [] = ended w.back w.here in
        let is = unique (value_at c) (head_in hs j) (m.chained.chains j) (w.front ++ w.back) (m.chained.heads j) w.whole in
        let among : is_in q (m.chained.chains (bucket_in (length hs) (hash o.key))) ≡ true = m.chained.reach q o (in_spots q o r.1.0) r.1.0 in
        let there : is_in q (m.chained.chains j) ≡ true = ap (λ z. is_in q (m.chained.chains z)) (number ∙ ap (bucket_in (length hs)) (alike o.key same)) ∙ among in
        let front : is_in q (w.front ++ []) ≡ true = sym (ap (λ z. is_in q (w.front ++ z)) all) ∙ sym (ap (is_in q) is) ∙ there in
        let no = w.none q o (sym (in_append q w.front [] ∙ same_or (is_in q w.front)) ∙ front) r.1.0 in absurd cc)
        (λ no. no)
      where
        ended : (s : List Ptr) → IsChain (value_at c) None s → s ≡ []
        ended [] e = refl
        ended (p ∷ s) (at, l) = absurd cc

        same_or : (b : Bool) → (if b then true else false) ≡ b
        same_or true = refl
        same_or false = refl

        in_spots : (q : Ptr) (o : Entry K V) → value_at c q ≡ Some o → is_in q (spots c) ≡ true
        in_spots q o e = value_in c q o e
