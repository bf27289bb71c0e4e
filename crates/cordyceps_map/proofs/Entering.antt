-- A node is linked into the chain of its bucket.
use Rattle.std.proofs.Common.{◌≡◌, ◌≢◌, ◌==◌, ℕ, Bool, true, false, if◌then◌else◌, List, [], ◌∷◌, ◌++◌, length, Option, Some, None, refl, sym, ap, ◌∙◌, subst, eqb→eq, T}
use Rattle.std.proofs.lemmas.List.{length-set, get_or-set_same, get_or-set_other}
use Rattle.std.proofs.lemmas.Bool.{eq-eqb}
use denote.RawPtr.{Ptr}
use Rattle.cordyceps_base.specs.Nodes.{Nodes}
use Rattle.cordyceps_base.specs.Spots.{same_ptr}
use Rattle.cordyceps_base.proofs.SpotsMemory.{same_ptr_eq}
use Rattle.cordyceps_many.specs.Entries.{value_at}
use Rattle.cordyceps_many.specs.Threads.{is_in, Once}
use Rattle.cordyceps_many.proofs.Threads.{split, differ, in_more, in_here, in_there, in_append}
use Rattle.cordyceps_map.specs.declared.entry.Entry.{Entry}
use Rattle.cordyceps_map.specs.Chains.{bucket_in, head_in, IsChain, IsInBucket, AreChained, IsEntered}
use Rattle.cordyceps_map.proofs.Chained.{Says, framed}

-- the lists, with another one at b
abbrev pub with_chain : ℕ → List Ptr → (ℕ → List Ptr) → ℕ → List Ptr
with_chain b s cs j = if j == b then s else cs j

pub chain_here : (b : ℕ) (s : List Ptr) (cs : ℕ → List Ptr) (j : ℕ) → j ≡ b → with_chain b s cs j ≡ s
chain_here b s cs j e = ap (λ (z : Bool). if z then s else cs j) (eq-eqb j b e)

pub chain_there : (b : ℕ) (s : List Ptr) (cs : ℕ → List Ptr) (j : ℕ) → (j == b) ≡ false → with_chain b s cs j ≡ cs j
chain_there b s cs j e = ap (λ (z : Bool). if z then s else cs j) e

pub same_number : (j b : ℕ) → (j == b) ≡ true → j ≡ b
same_number j b e = eqb→eq j b (subst T (sym e) tt)

pub other_number : (j b : ℕ) → (j == b) ≡ false → j ≢ b
other_number j b e same = let t = eq-eqb j b same in cc

-- a list with one more at its end has the members of one with it at its front
pub joined_members : (q p : Ptr) (s : List Ptr) → is_in q (s ++ p ∷ []) ≡ is_in q (p ∷ s)
joined_members q p s = in_append q s (p ∷ []) ∙ turned (is_in q s) (same_ptr q p) where
  turned : (a b : Bool) → (if a then true else (if b then true else false)) ≡ (if b then true else a)
  turned true true = refl
  turned true false = refl
  turned false true = refl
  turned false false = refl

module _ {K V : Type 0} (hash : K → ℕ) where
  -- the spots that are reached may be told in another order
  pub renamed : (f : Says K V) (hs : List (Option Ptr)) (a b : List Ptr) → ((q : Ptr) → is_in q b ≡ is_in q a) → AreChained hash f hs a → AreChained hash f hs b
  renamed f hs a b same m = record {
    chains = m.chains;
    heads = m.heads;
    once = m.once;
    own = m.own;
    only = λ j q i. same q ∙ m.only j q i;
    reach = λ q e i. m.reach q e (sym (same q) ∙ i);
  }

  -- what is said of the spots that are reached is all that counts
  pub carried : (f g : Says K V) (hs : List (Option Ptr)) (done : List Ptr) → ((q : Ptr) → is_in q done ≡ true → g q ≡ f q) → AreChained hash f hs done → AreChained hash g hs done
  carried f g hs done same m = record {
    chains = m.chains;
    heads = λ j. framed f g (head_in hs j) (m.chains j) (λ q i. same q (m.only j q i)) (m.heads j);
    once = m.once;
    own = λ j q i. let o = m.own j q i in record { entry = o.entry; says = same q (m.only j q i) ∙ o.says; bucket = o.bucket };
    only = m.only;
    reach = λ q e i v. m.reach q e i (sym (same q i) ∙ v);
  }

  module _ (c : Nodes (Entry K V)) (hs : List (Option Ptr)) (p : Ptr) (d : Nodes (Entry K V)) (ms : List (Option Ptr)) (done : List Ptr) (out : is_in p done ≡ false) (bucket : ℕ) (r : IsEntered c hs bucket p d ms) (entry : Entry K V) (was : value_at c p ≡ Some entry) (number : bucket ≡ bucket_in (length hs) (hash entry.key)) (m : AreChained hash (value_at c) hs done) where
    was_entry : r.nodes.entry ≡ entry
    was_entry = let t = sym r.nodes.was ∙ was in cc

    long : length ms ≡ length hs
    long = ap length r.heads ∙ length-set hs bucket (Some p)

    apart : (j : ℕ) (q : Ptr) → is_in q (m.chains j) ≡ true → same_ptr q p ≡ false
    apart j q i = differ q p done (m.only j q i) out

    fresh : (j : ℕ) → is_in p (m.chains j) ≡ false
    fresh j = split (is_in p (m.chains j)) (λ yes. let t = m.only j p yes in absurd cc) (λ no. no)

    abbrev chains : ℕ → List Ptr
    chains = with_chain bucket (p ∷ m.chains bucket) m.chains

    kept : (j : ℕ) → IsChain (value_at d) (head_in hs j) (m.chains j)
    kept j = framed (value_at c) (value_at d) (head_in hs j) (m.chains j) (λ q i. r.nodes.others q (apart j q i)) (m.heads j)

    abbrev here_entry : Entry K V
    here_entry = record r.nodes.entry { next = head_in hs bucket }

    first : IsChain (value_at d) (Some p) (p ∷ m.chains bucket)
    first = (refl, record { entry = here_entry; says = r.nodes.here; on = kept bucket })

    key_is : bucket_in (length ms) (hash r.nodes.entry.key) ≡ bucket
    key_is = ap (λ n. bucket_in n (hash r.nodes.entry.key)) long ∙ ap (λ (e : Entry K V). bucket_in (length hs) (hash e.key)) was_entry ∙ sym number

    own_old : (j : ℕ) (q : Ptr) → is_in q (m.chains j) ≡ true → IsInBucket hash (value_at d) (length ms) j q
    own_old j q i = let o = m.own j q i in record { entry = o.entry; says = r.nodes.others q (apart j q i) ∙ o.says; bucket = ap (λ n. bucket_in n (hash o.entry.key)) long ∙ o.bucket }

    pub entered : AreChained hash (value_at d) ms (p ∷ done)
    entered = record {
      chains = chains;
      heads = λ j. split (j == bucket)
          (λ same. let is = same_number j bucket same in
          subst (IsChain (value_at d) (head_in ms j)) (sym (chain_here bucket (p ∷ m.chains bucket) m.chains j is))
          (subst (λ h. IsChain (value_at d) h (p ∷ m.chains bucket)) (sym (ap (λ z. head_in ms z) is ∙ ap (λ z. head_in z bucket) r.heads ∙ get_or-set_same hs bucket (Some p) None r.within)) first))
          (λ other. subst (IsChain (value_at d) (head_in ms j)) (sym (chain_there bucket (p ∷ m.chains bucket) m.chains j other))
          (subst (λ h. IsChain (value_at d) h (m.chains j)) (sym (ap (λ z. head_in z j) r.heads ∙ get_or-set_other hs bucket j (Some p) None (other_number j bucket other))) (kept j)));
      once = λ j. split (j == bucket)
          (λ same. subst Once (sym (chain_here bucket (p ∷ m.chains bucket) m.chains j (same_number j bucket same))) (fresh bucket, m.once bucket))
          (λ other. subst Once (sym (chain_there bucket (p ∷ m.chains bucket) m.chains j other)) (m.once j));
      own = λ j q i. split (j == bucket)
          (λ same. let is = same_number j bucket same in let among : is_in q (p ∷ m.chains bucket) ≡ true = sym (ap (is_in q) (chain_here bucket (p ∷ m.chains bucket) m.chains j is)) ∙ i in
          split (same_ptr q p)
          (λ at. let is_p = same_ptr_eq q p at in record { entry = here_entry; says = ap (value_at d) is_p ∙ r.nodes.here; bucket = key_is ∙ sym is })
          (λ more. let o = own_old bucket q (sym (in_there q p (m.chains bucket) more) ∙ among) in record { entry = o.entry; says = o.says; bucket = o.bucket ∙ sym is }))
          (λ other. own_old j q (sym (ap (is_in q) (chain_there bucket (p ∷ m.chains bucket) m.chains j other)) ∙ i));
      only = λ j q i. split (j == bucket)
          (λ same. let among : is_in q (p ∷ m.chains bucket) ≡ true = sym (ap (is_in q) (chain_here bucket (p ∷ m.chains bucket) m.chains j (same_number j bucket same))) ∙ i in
          split (same_ptr q p) (λ at. in_here q p done at) (λ more. in_more q p done (m.only bucket q (sym (in_there q p (m.chains bucket) more) ∙ among))))
          (λ other. in_more q p done (m.only j q (sym (ap (is_in q) (chain_there bucket (p ∷ m.chains bucket) m.chains j other)) ∙ i)));
      reach = λ q e i v. split (same_ptr q p)
          (λ at. let is_p = same_ptr_eq q p at in let same : here_entry ≡ e = let t = sym r.nodes.here ∙ ap (value_at d) (sym is_p) ∙ v in cc in
          let number : bucket_in (length ms) (hash e.key) ≡ bucket = ap (λ (z : Entry K V). bucket_in (length ms) (hash z.key)) (sym same) ∙ key_is in
          ap (is_in q) (chain_here bucket (p ∷ m.chains bucket) m.chains (bucket_in (length ms) (hash e.key)) number) ∙ in_here q p (m.chains bucket) at)
          (λ more. let old = m.reach q e (sym (in_there q p done more) ∙ i) (sym (r.nodes.others q more) ∙ v) in
          let moved : is_in q (m.chains (bucket_in (length ms) (hash e.key))) ≡ true = ap (λ n. is_in q (m.chains (bucket_in n (hash e.key)))) long ∙ old in
          split (bucket_in (length ms) (hash e.key) == bucket)
          (λ same. ap (is_in q) (chain_here bucket (p ∷ m.chains bucket) m.chains (bucket_in (length ms) (hash e.key)) (same_number (bucket_in (length ms) (hash e.key)) bucket same))
          ∙ in_more q p (m.chains bucket) (subst (λ j. is_in q (m.chains j) ≡ true) (same_number (bucket_in (length ms) (hash e.key)) bucket same) moved))
          (λ other. ap (is_in q) (chain_there bucket (p ∷ m.chains bucket) m.chains (bucket_in (length ms) (hash e.key)) other) ∙ moved));
    }
