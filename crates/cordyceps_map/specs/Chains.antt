-- How a map finds its nodes: a table has the first node of each bucket, and each node leads to the next of its bucket.
use Rattle.std.specs.Prelude.{◌≡◌, ◌-◌, ◌<◌, ℕ, Bool, true, false, List, [], ◌∷◌, ◌++◌, length, Option, Some, None, MatchOption, slice_index_or}
use Rattle.std.specs.Int.{IsPowerOfTwo}
use Rattle.std.specs.Int.Bits.{bit_and}
use Rattle.std.specs.List.{fold}
use Rattle.std.specs.Map.{lookup_entry}
use lib.ListN.{set}
use Rattle.core.specs.declared.hash.Hasher as hasher
use Rattle.core.specs.declared.hash.build.BuildHasher as builder
use denote.RawPtr.{Ptr}
use Rattle.cordyceps_base.specs.Nodes.{Nodes, spots}
use Rattle.cordyceps_base.specs.Spots.{same_ptr}
use Rattle.cordyceps_many.specs.Entries.{value_at}
use Rattle.cordyceps_many.specs.Threads.{is_in, Once}
use Rattle.cordyceps_map.specs.declared.entry.Entry.{Entry}
use Rattle.cordyceps_map.specs.Shown.{pair_of, shown}
use Rattle.cordyceps_map.specs.StableMap.{pairs, AreApart}

-- the hash of a key that writes so
abbrev pub hash_of : {S H : Type 0} → builder.Ghosts S H → hasher.Ghosts H → S → List (List ℕ) → ℕ
hash_of b h s writes = h.finish (fold h.write (b.build_hasher s) writes)

-- the bucket of a hash, of n buckets
abbrev pub bucket_in : ℕ → ℕ → ℕ
bucket_in n h = bit_and h (n - 1)

-- the first node of bucket j
abbrev pub head_in : List (Option Ptr) → ℕ → Option Ptr
head_in hs j = slice_index_or hs j None

-- the last of the spots, if there is one
abbrev pub last_spot : Option Ptr → List Ptr → Option Ptr
last_spot o [] = o
last_spot o (p ∷ s) = last_spot (Some p) s

-- a table of buckets that are all empty, as many as a power of two
pub record IsEmptyTable (hs : List (Option Ptr)) : Type 0 where
  pub power : IsPowerOfTwo (length hs)
  pub empty : (j : ℕ) → head_in hs j ≡ None

module _ {K V : Type 0} where
  -- f says of p what leads on to where `rest` holds
  pub record Leads (f : Ptr → Option (Entry K V)) (p : Ptr) (rest : Option Ptr → Type 0) : Type 0 where
    pub entry : Entry K V
    pub says : f p ≡ Some entry
    pub on : rest entry.next

  -- what f says leads from h through the spots s, and no further
  abbrev pub IsChain : (Ptr → Option (Entry K V)) → Option Ptr → List Ptr → Type 0
  IsChain f h [] = h ≡ None
  IsChain f h (p ∷ s) = (h ≡ Some p) × Leads f p (λ n. IsChain f n s)

  -- g is f, but for what it says of p
  abbrev pub SaysElse : (Ptr → Option (Entry K V)) → Ptr → (Ptr → Option (Entry K V)) → Type 0
  SaysElse f p g = (q : Ptr) → same_ptr q p ≡ false → g q ≡ f q

  -- a node with an entry is in bucket j of n
  pub record IsInBucket (hash : K → ℕ) (f : Ptr → Option (Entry K V)) (n j : ℕ) (p : Ptr) : Type 0 where
    pub entry : Entry K V
    pub says : f p ≡ Some entry
    pub bucket : bucket_in n (hash entry.key) ≡ j

  -- each bucket's chain has the spots of `done` whose key is of the bucket, once each, and no others
  pub record AreChained (hash : K → ℕ) (f : Ptr → Option (Entry K V)) (hs : List (Option Ptr)) (done : List Ptr) : Type 0
    where
      pub chains : ℕ → List Ptr
      pub heads : (j : ℕ) → IsChain f (head_in hs j) (chains j)
      pub once : (j : ℕ) → Once (chains j)
      pub own : (j : ℕ) (p : Ptr) → is_in p (chains j) ≡ true → IsInBucket hash f (length hs) j p
      pub only : (j : ℕ) (p : Ptr) → is_in p (chains j) ≡ true → is_in p done ≡ true
      pub reach : (p : Ptr) (e : Entry K V) → is_in p done ≡ true → f p ≡ Some e →
          is_in p (chains (bucket_in (length hs) (hash e.key))) ≡ true

  -- a table of buckets, as many as a power of two, leads to each of the nodes, and no two of them have equal keys
  pub record IsMap (eq : K → K → Bool) (hash : K → ℕ) (c : Nodes (Entry K V)) (hs : List (Option Ptr)) : Type 0 where
    pub power : IsPowerOfTwo (length hs)
    pub chained : AreChained hash (value_at c) hs (spots c)
    pub apart : AreApart eq (shown c)

  -- nothing changes but where the node at p leads
  pub record IsRedirected (c : Nodes (Entry K V)) (p : Ptr) (next : Option Ptr) (d : Nodes (Entry K V)) : Type 0 where
    pub shows : shown d ≡ shown c
    pub entry : Entry K V
    pub was : value_at c p ≡ Some entry
    pub here : value_at d p ≡ Some (record entry { next = next })
    pub others : SaysElse (value_at c) p (value_at d)

  -- j is the bucket of the key k: the table and the nodes are a map by some hash, which equal keys share, and it says j
  pub record IsBucketOf (eq : K → K → Bool) (c : Nodes (Entry K V)) (hs : List (Option Ptr)) (k : K) (j : ℕ) : Type 0
    where
      pub within : j < length hs
      pub hash : K → ℕ
      pub map : IsMap eq hash c hs
      pub alike : (x : K) → eq k x ≡ true → hash k ≡ hash x
      pub number : j ≡ bucket_in (length hs) (hash k)

  -- the node at p is the first of the chain of bucket j, before the one that was the first
  pub record IsEntered (c : Nodes (Entry K V)) (hs : List (Option Ptr)) (j : ℕ) (p : Ptr) (d : Nodes (Entry K V))
      (ms : List (Option Ptr)) : Type 0 where
    pub within : j < length hs
    pub nodes : IsRedirected c p (head_in hs j) d
    pub heads : ms ≡ set hs j (Some p)

  -- the node before p in the chain of bucket j, or the bucket, leads to where p leads
  pub record IsCut (c : Nodes (Entry K V)) (hs : List (Option Ptr)) (j : ℕ) (before : Option Ptr) (p : Ptr)
      (d : Nodes (Entry K V)) (ms : List (Option Ptr)) : Type 0 where
    pub entry : Entry K V
    pub was : value_at c p ≡ Some entry
    pub cut : MatchOption before ((d ≡ c) × (ms ≡ set hs j entry.next)) (λ q. IsRedirected c q entry.next d × (ms ≡ hs))

  -- the key k stands at p: its node is there, after the nodes at `front` in the chain of its bucket
  pub record IsPlace (eq : K → K → Bool) (c : Nodes (Entry K V)) (hs : List (Option Ptr)) (k : K) (j : ℕ)
      (before : Option Ptr) (p : Ptr) : Type 0 where
    pub within : j < length hs
    pub front : List Ptr
    pub back : List Ptr
    pub entry : Entry K V
    pub says : value_at c p ≡ Some entry
    pub same : eq k entry.key ≡ true
    pub found : lookup_entry (eq k) (pairs (shown c)) ≡ Some (pair_of entry)
    pub chain : IsChain (value_at c) (head_in hs j) (front ++ p ∷ back)
    pub last : last_spot None front ≡ before
