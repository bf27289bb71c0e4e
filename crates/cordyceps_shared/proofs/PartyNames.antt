-- Names that are split and joined cover no long name twice, and what covers none twice has no name in common.
use Rattle.std.proofs.Common.{◌≡◌, ◌≢◌, ℕ, ◌+◌, ◌≤◌, List, [], ◌∷◌, ◌++◌, length, replicate, Bool, true, false, cond, refl, sym, ap, arith, true≢false, length-append}
use Rattle.std.proofs.lemmas.List.{length-replicate}
use Rattle.cordyceps_shared.specs.Counts.{tally, one_if}
use Rattle.cordyceps_shared.specs.Shares.{Name, same_bit, is_prefix, covers, earlier, insert_name, insert_names, is_pair, parent, combine_first, combine, join_shares, keeps_half, gives_half, Clear, NamesDisjoint}

-- the two halves of a name
pub halves : (n x : Name) → one_if (is_prefix (n ++ false ∷ []) x) + one_if (is_prefix (n ++ true ∷ []) x) ≤ one_if (is_prefix n x)
halves [] [] = omega arith
halves [] (true ∷ bs) = omega arith
halves [] (false ∷ bs) = omega arith
halves (a ∷ us) [] = omega arith
halves (a ∷ us) (b ∷ bs) = at_first (same_bit a b) (halves us bs)
  where
    at_first : (c : Bool) → one_if (is_prefix (us ++ false ∷ []) bs) + one_if (is_prefix (us ++ true ∷ []) bs) ≤ one_if (is_prefix us bs)
        → one_if (cond c (is_prefix (us ++ false ∷ []) bs) false) + one_if (cond c (is_prefix (us ++ true ∷ []) bs) false) ≤ one_if (cond c (is_prefix us bs) false)
    at_first true h = h
    at_first false h = omega arith

pub split_covers : (x : Name) (ns : List Name) → covers x (keeps_half ns) + covers x (gives_half ns) ≤ covers x ns
split_covers x [] = omega arith
split_covers x (n ∷ ns) = omega (arith, halves n x)

-- a name represents its two halves, where the other name is long
pub pair_covers : (n m x : Name) → is_pair n m ≡ true → length n ≤ length x → one_if (is_prefix (parent n) x) ≡ one_if (is_prefix n x) + one_if (is_prefix m x)
pair_covers [] m x e l = absurd (true≢false (sym e))
pair_covers (a ∷ us) [] x e l = absurd (true≢false (sym e))
pair_covers (a ∷ us) (b ∷ bs) [] e l = absurd (omega arith)
pair_covers (true ∷ []) (b ∷ []) (y ∷ ys) e l = absurd (true≢false (sym e))
pair_covers (false ∷ []) (false ∷ []) (y ∷ ys) e l = absurd (true≢false (sym e))
pair_covers (false ∷ []) (true ∷ []) (true ∷ ys) e l = omega arith
pair_covers (false ∷ []) (true ∷ []) (false ∷ ys) e l = omega arith
pair_covers (a ∷ []) (b ∷ d ∷ bs) (y ∷ ys) e l = absurd (true≢false (sym e))
pair_covers (a ∷ c ∷ us) (b ∷ []) (y ∷ ys) e l = absurd (true≢false (sym e))
pair_covers (true ∷ c ∷ us) (true ∷ d ∷ bs) (true ∷ ys) e l = pair_covers (c ∷ us) (d ∷ bs) ys e (omega arith)
pair_covers (true ∷ c ∷ us) (true ∷ d ∷ bs) (false ∷ ys) e l = omega arith
pair_covers (false ∷ c ∷ us) (false ∷ d ∷ bs) (true ∷ ys) e l = omega arith
pair_covers (false ∷ c ∷ us) (false ∷ d ∷ bs) (false ∷ ys) e l = pair_covers (c ∷ us) (d ∷ bs) ys e (omega arith)
pair_covers (true ∷ c ∷ us) (false ∷ d ∷ bs) (y ∷ ys) e l = absurd (true≢false (sym e))
pair_covers (false ∷ c ∷ us) (true ∷ d ∷ bs) (y ∷ ys) e l = absurd (true≢false (sym e))

parent_short : (n : Name) → length (parent n) ≤ length n
parent_short [] = omega arith
parent_short (a ∷ []) = omega arith
parent_short (a ∷ b ∷ us) = omega (arith, parent_short (b ∷ us))

abbrev pub letters : List Name → ℕ
letters ns = tally (λ n. length n) ns

place_covers : (x n : Name) (ms : List Name) → length n + letters ms ≤ length x → covers x (combine_first n ms) ≡ one_if (is_prefix n x) + covers x ms
place_covers x n [] l = omega arith
place_covers x n (m ∷ ms) l = at_pair (is_pair n m) (λ e. pair_covers n m x e (omega arith)) (place_covers x (parent n) ms (omega (arith, parent_short n)))
  where
    at_pair : (b : Bool) → (b ≡ true → one_if (is_prefix (parent n) x) ≡ one_if (is_prefix n x) + one_if (is_prefix m x)) → covers x (combine_first (parent n) ms) ≡ one_if (is_prefix (parent n) x) + covers x ms
        → covers x (cond b (combine_first (parent n) ms) (n ∷ m ∷ ms)) ≡ one_if (is_prefix n x) + covers x (m ∷ ms)
    at_pair true pair more = let p = pair refl in omega arith
    at_pair false pair more = omega arith

place_letters : (n : Name) (ms : List Name) → letters (combine_first n ms) ≤ length n + letters ms
place_letters n [] = omega arith
place_letters n (m ∷ ms) = at_pair (is_pair n m) (place_letters (parent n) ms)
  where
    at_pair : (b : Bool) → letters (combine_first (parent n) ms) ≤ length (parent n) + letters ms → letters (cond b (combine_first (parent n) ms) (n ∷ m ∷ ms)) ≤ length n + letters (m ∷ ms)
    at_pair true more = omega (arith, parent_short n)
    at_pair false more = omega arith

combine_letters : (ns : List Name) → letters (combine ns) ≤ letters ns
combine_letters [] = omega arith
combine_letters (n ∷ ns) = omega (arith, place_letters n (combine ns), combine_letters ns)

combine_covers : (x : Name) (ns : List Name) → letters ns ≤ length x → covers x (combine ns) ≡ covers x ns
combine_covers x [] l = omega arith
combine_covers x (n ∷ ns) l = let c = combine_letters ns in omega (arith, place_covers x n (combine ns) (omega arith), combine_covers x ns (omega arith))

tally_put : (f : Name → ℕ) (n : Name) (ms : List Name) → tally f (insert_name n ms) ≡ f n + tally f ms
tally_put f n [] = refl
tally_put f n (m ∷ ms) = at_first (earlier n m) (tally_put f n ms)
  where
    at_first : (b : Bool) → tally f (insert_name n ms) ≡ f n + tally f ms → tally f (cond b (n ∷ m ∷ ms) (m ∷ insert_name n ms)) ≡ f n + (f m + tally f ms)
    at_first true e = refl
    at_first false e = omega arith

tally_put_all : (f : Name → ℕ) (ns ms : List Name) → tally f (insert_names ns ms) ≡ tally f ns + tally f ms
tally_put_all f [] ms = omega arith
tally_put_all f (n ∷ ns) ms = omega (arith, tally_put f n (insert_names ns ms), tally_put_all f ns ms)

pub join_covers : (x : Name) (ns ms : List Name) → letters ns + letters ms ≤ length x → covers x (join_shares ns ms) ≡ covers x ns + covers x ms
join_covers x ns ms l =
    let a = tally_put_all (λ n. length n) ns ms in let b = tally_put_all (λ n. one_if (is_prefix n x)) ns ms in omega (arith, combine_covers x (insert_names ns ms) (omega arith))

-- a name is a prefix of what it is lengthened to
pub prefix_longer : (n x : Name) → is_prefix n (n ++ x) ≡ true
prefix_longer [] x = refl
prefix_longer (true ∷ us) x = prefix_longer us x
prefix_longer (false ∷ us) x = prefix_longer us x

pub some_cover : (n x : Name) (ns : List Name) → 1 ≤ covers (n ++ x) (n ∷ ns)
some_cover n x ns = let here = ap one_if (prefix_longer n x) in omega arith

place_some : (n : Name) (ms : List Name) → 1 ≤ length (combine_first n ms)
place_some n [] = omega arith
place_some n (m ∷ ms) = at_pair (is_pair n m) (place_some (parent n) ms)
  where
    at_pair : (b : Bool) → 1 ≤ length (combine_first (parent n) ms) → 1 ≤ length (cond b (combine_first (parent n) ms) (n ∷ m ∷ ms))
    at_pair true more = more
    at_pair false more = omega arith

combine_some : (ns : List Name) → 1 ≤ length ns → 1 ≤ length (combine ns)
combine_some [] l = l
combine_some (n ∷ ns) l = place_some n (combine ns)

count_names : (ns : List Name) → tally (λ _. 1) ns ≡ length ns
count_names [] = refl
count_names (n ∷ ns) = omega (arith, count_names ns)

pub joined_some : (ns ms : List Name) → ns ≢ [] → join_shares ns ms ≢ []
joined_some [] ms not e = not refl
joined_some (n ∷ ns) ms not e =
    let k = tally_put_all (λ _. 1) (n ∷ ns) ms in
    let c = count_names (insert_names (n ∷ ns) ms) in
    let few = combine_some (insert_names (n ∷ ns) ms) (omega arith) in
    let none = ap (λ z. length z) e in
    omega arith

pub keeps_some : (ns : List Name) → ns ≢ [] → keeps_half ns ≢ []
keeps_some [] not e = not refl
keeps_some (n ∷ ns) not e = absurd (cc)

pub gives_some : (ns : List Name) → ns ≢ [] → gives_half ns ≢ []
gives_some [] not e = not refl
gives_some (n ∷ ns) not e = absurd (cc)

-- ---- names that cover no long name both
prefix_of_append : (n m x : Name) → is_prefix n m ≡ true → is_prefix n (m ++ x) ≡ true
prefix_of_append [] m x e = refl
prefix_of_append (a ∷ us) [] x e = absurd (true≢false (sym e))
prefix_of_append (true ∷ us) (true ∷ bs) x e = prefix_of_append us bs x e
prefix_of_append (false ∷ us) (false ∷ bs) x e = prefix_of_append us bs x e
prefix_of_append (true ∷ us) (false ∷ bs) x e = absurd (true≢false (sym e))
prefix_of_append (false ∷ us) (true ∷ bs) x e = absurd (true≢false (sym e))

module _ (long : ℕ) where
  not_prefix : (n m : Name) → ((x : Name) → long ≤ length x → one_if (is_prefix n x) + one_if (is_prefix m x) ≤ 1) → is_prefix n m ≡ false
  not_prefix n m few = either (is_prefix n m) refl
    where
      either : (b : Bool) → is_prefix n m ≡ b → is_prefix n m ≡ false
      either false e = e
      either true e =
          let x = m ++ replicate long false in
          let l : long ≤ length x = omega (arith, length-append m (replicate long false), length-replicate long false) in
          let first = ap one_if (prefix_of_append n m (replicate long false) e) in
          let second = ap one_if (prefix_longer m (replicate long false)) in
          let one = few x l in
          absurd (omega arith)

  pub clear_of : (n : Name) (ms : List Name) → ((x : Name) → long ≤ length x → one_if (is_prefix n x) + covers x ms ≤ 1) → Clear n ms
  clear_of n [] few = tt
  clear_of n (m ∷ ms) few = (not_prefix n m (λ x l. omega (arith, few x l)), not_prefix m n (λ x l. omega (arith, few x l)), clear_of n ms (λ x l. omega (arith, few x l)))

  names_distinct : (ns ms : List Name) → ((x : Name) → long ≤ length x → covers x ns + covers x ms ≤ 1) → NamesDisjoint ns ms
  names_distinct [] ms few = tt
  names_distinct (n ∷ ns) ms few = (clear_of n ms (λ x l. omega (arith, few x l)), names_distinct ns ms (λ x l. omega (arith, few x l)))

-- shares had no name in common where what they became covers no long name twice
pub joined_disjoint : (long : ℕ) (ns ms : List Name) → ((x : Name) → long ≤ length x → covers x (join_shares ns ms) ≤ 1) → NamesDisjoint ns ms
joined_disjoint long ns ms once = names_distinct (long + (letters ns + letters ms)) ns ms (λ x l. omega (arith, once x (omega arith), join_covers x ns ms (omega arith)))
