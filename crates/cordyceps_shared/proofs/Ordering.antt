-- Names that are split and joined are in order, and what was clear of them stays so.
use Rattle.std.proofs.Common.{◌≡◌, List, [], ◌∷◌, ◌++◌, Bool, true, false, cond, refl, sym, ap, ◌∙◌, subst, true≢false}
use Rattle.cordyceps_shared.proofs.NameHalves.{halves_earlier, halves_pair, half_parent}
use Rattle.cordyceps_shared.proofs.PartyNames.{prefix_longer, joined_some, keeps_some, gives_some}
use Rattle.cordyceps_shared.specs.Shares.{Name, is_prefix, earlier, insert_name, insert_names, is_pair, parent, combine_first, combine, join_shares, whole, keeps_half, gives_half, IsBefore, Clear, NamesDisjoint, InOrder, NoPair, IsShare}

pub no_longer : {A : Type 0} → true ≡ false → A
no_longer e = absurd (true≢false e)

-- ---- a longer name
not_prefix_longer : (n t x : Name) → is_prefix n x ≡ false → is_prefix (n ++ t) x ≡ false
not_prefix_longer [] t x e = no_longer e
not_prefix_longer (a ∷ us) t [] e = refl
not_prefix_longer (true ∷ us) t (true ∷ bs) e = not_prefix_longer us t bs e
not_prefix_longer (false ∷ us) t (false ∷ bs) e = not_prefix_longer us t bs e
not_prefix_longer (true ∷ us) t (false ∷ bs) e = refl
not_prefix_longer (false ∷ us) t (true ∷ bs) e = refl

not_prefix_of_longer : (x n t : Name) → is_prefix n x ≡ false → is_prefix x n ≡ false → is_prefix x (n ++ t) ≡ false
not_prefix_of_longer x [] t e f = no_longer e
not_prefix_of_longer [] (a ∷ us) t e f = no_longer f
not_prefix_of_longer (true ∷ bs) (true ∷ us) t e f = not_prefix_of_longer bs us t e f
not_prefix_of_longer (false ∷ bs) (false ∷ us) t e f = not_prefix_of_longer bs us t e f
not_prefix_of_longer (true ∷ bs) (false ∷ us) t e f = refl
not_prefix_of_longer (false ∷ bs) (true ∷ us) t e f = refl

pub keeps_clear : (x : Name) (ns : List Name) → Clear x ns → Clear x (keeps_half ns)
keeps_clear x [] c = tt
keeps_clear x (n ∷ ns) c = (not_prefix_of_longer x n (false ∷ []) c.1 c.0, not_prefix_longer n (false ∷ []) x c.1, c.2)

pub gives_clear : (x : Name) (ns : List Name) → Clear x ns → Clear x (gives_half ns)
gives_clear x [] c = tt
gives_clear x (n ∷ ns) c = (not_prefix_of_longer x n (true ∷ []) c.1 c.0, not_prefix_longer n (true ∷ []) x c.1, tt)

-- ---- a name in place of its two halves
pub pair_halves : (n m : Name) → is_pair n m ≡ true → (n ≡ parent n ++ false ∷ []) × (m ≡ parent n ++ true ∷ [])
pair_halves [] m e = no_longer (sym e)
pair_halves (a ∷ us) [] e = no_longer (sym e)
pair_halves (true ∷ []) (b ∷ []) e = no_longer (sym e)
pair_halves (false ∷ []) (false ∷ []) e = no_longer (sym e)
pair_halves (false ∷ []) (true ∷ []) e = (refl, refl)
pair_halves (a ∷ []) (b ∷ c ∷ bs) e = no_longer (sym e)
pair_halves (a ∷ c ∷ us) (b ∷ []) e = no_longer (sym e)
pair_halves (true ∷ c ∷ us) (true ∷ d ∷ bs) e =
    let t = pair_halves (c ∷ us) (d ∷ bs) e in (ap (λ (z : Name). true ∷ z) t.0, ap (λ (z : Name). true ∷ z) t.1)
pair_halves (false ∷ c ∷ us) (false ∷ d ∷ bs) e =
    let t = pair_halves (c ∷ us) (d ∷ bs) e in (ap (λ (z : Name). false ∷ z) t.0, ap (λ (z : Name). false ∷ z) t.1)
pair_halves (true ∷ c ∷ us) (false ∷ d ∷ bs) e = no_longer (sym e)
pair_halves (false ∷ c ∷ us) (true ∷ d ∷ bs) e = no_longer (sym e)

not_prefix : (p x : Name) → is_prefix (p ++ false ∷ []) x ≡ false → is_prefix (p ++ true ∷ []) x ≡ false
    → is_prefix x (p ++ false ∷ []) ≡ false → is_prefix p x ≡ false
not_prefix [] [] e f g = no_longer g
not_prefix [] (true ∷ bs) e f g = no_longer f
not_prefix [] (false ∷ bs) e f g = no_longer e
not_prefix (a ∷ us) [] e f g = refl
not_prefix (true ∷ us) (true ∷ bs) e f g = not_prefix us bs e f g
not_prefix (false ∷ us) (false ∷ bs) e f g = not_prefix us bs e f g
not_prefix (true ∷ us) (false ∷ bs) e f g = refl
not_prefix (false ∷ us) (true ∷ bs) e f g = refl

not_prefix_of_shorter : (x p t : Name) → is_prefix x (p ++ t) ≡ false → is_prefix x p ≡ false
not_prefix_of_shorter [] p t e = no_longer e
not_prefix_of_shorter (b ∷ bs) [] t e = refl
not_prefix_of_shorter (true ∷ bs) (true ∷ us) t e = not_prefix_of_shorter bs us t e
not_prefix_of_shorter (false ∷ bs) (false ∷ us) t e = not_prefix_of_shorter bs us t e
not_prefix_of_shorter (true ∷ bs) (false ∷ us) t e = refl
not_prefix_of_shorter (false ∷ bs) (true ∷ us) t e = refl

-- the name is clear of one
abbrev AreDisjoint : Name → Name → Type 0
AreDisjoint x n = (is_prefix x n ≡ false) × (is_prefix n x ≡ false)

parent_distinct : (x n m : Name) → is_pair n m ≡ true → AreDisjoint x n → AreDisjoint x m → AreDisjoint x (parent n)
parent_distinct x n m pair a b =
    let t = pair_halves n m pair in
    let first : AreDisjoint x (parent n ++ false ∷ []) = subst (λ z. AreDisjoint x z) t.0 a in
    let second : AreDisjoint x (parent n ++ true ∷ []) = subst (λ z. AreDisjoint x z) t.1 b in
    (not_prefix_of_shorter x (parent n) (false ∷ []) first.0, not_prefix (parent n) x first.1 second.1 first.0)

placed_clear : (x n : Name) (ms : List Name) → AreDisjoint x n → Clear x ms → Clear x (combine_first n ms)
placed_clear x n [] a c = (a.0, a.1, tt)
placed_clear x n (m ∷ ms) a c = at_pair (is_pair n m) (λ e. placed_clear x (parent n) ms (parent_distinct x n m e a (c.0, c.1)) c.2)
  where
    at_pair : (b : Bool) → (b ≡ true → Clear x (combine_first (parent n) ms)) → Clear x (cond b (combine_first (parent n) ms) (n ∷ m ∷ ms))
    at_pair true more = more refl
    at_pair false more = (a.0, a.1, c)

combined_clear : (x : Name) (ns : List Name) → Clear x ns → Clear x (combine ns)
combined_clear x [] c = tt
combined_clear x (n ∷ ns) c = placed_clear x n (combine ns) (c.0, c.1) (combined_clear x ns c.2)

put_clear : (x n : Name) (ms : List Name) → AreDisjoint x n → Clear x ms → Clear x (insert_name n ms)
put_clear x n [] a c = (a.0, a.1, tt)
put_clear x n (m ∷ ms) a c = at_first (earlier n m) (put_clear x n ms a c.2)
  where
    at_first : (b : Bool) → Clear x (insert_name n ms) → Clear x (cond b (n ∷ m ∷ ms) (m ∷ insert_name n ms))
    at_first true more = (a.0, a.1, c)
    at_first false more = (c.0, c.1, more)

all_clear : (x : Name) (ns ms : List Name) → Clear x ns → Clear x ms → Clear x (insert_names ns ms)
all_clear x [] ms c d = d
all_clear x (n ∷ ns) ms c d = put_clear x n (insert_names ns ms) (c.0, c.1) (all_clear x ns ms c.2 d)

pub joined_clear : (x : Name) (ns ms : List Name) → Clear x ns → Clear x ms → Clear x (join_shares ns ms)
joined_clear x ns ms c d = combined_clear x (insert_names ns ms) (all_clear x ns ms c d)

-- ---- the order
earlier_longer : (n m t : Name) → is_prefix n m ≡ false → earlier (n ++ t) m ≡ earlier n m
earlier_longer [] m t e = no_longer e
earlier_longer (a ∷ us) [] t e = refl
earlier_longer (true ∷ us) (true ∷ bs) t e = earlier_longer us bs t e
earlier_longer (false ∷ us) (false ∷ bs) t e = earlier_longer us bs t e
earlier_longer (true ∷ us) (false ∷ bs) t e = refl
earlier_longer (false ∷ us) (true ∷ bs) t e = refl

later_first : (n m : Name) → is_prefix m n ≡ false → earlier n m ≡ false → earlier m n ≡ true
later_first [] m c e = no_longer e
later_first (a ∷ us) [] c e = no_longer c
later_first (true ∷ us) (true ∷ bs) c e = later_first us bs c e
later_first (false ∷ us) (false ∷ bs) c e = later_first us bs c e
later_first (true ∷ us) (false ∷ bs) c e = refl
later_first (false ∷ us) (true ∷ bs) c e = no_longer e

earlier_then : (n m k : Name) → is_prefix n m ≡ false → is_prefix m k ≡ false → earlier n m ≡ true → earlier m k ≡ true → earlier n k ≡ true
earlier_then [] m k c d e f = refl
earlier_then (a ∷ us) [] k c d e f = no_longer (sym e)
earlier_then (a ∷ us) (b ∷ bs) [] c d e f = no_longer (sym f)
earlier_then (true ∷ us) (true ∷ bs) (true ∷ ds) c d e f = earlier_then us bs ds c d e f
earlier_then (true ∷ us) (true ∷ bs) (false ∷ ds) c d e f = f
earlier_then (true ∷ us) (false ∷ bs) k c d e f = no_longer (sym e)
earlier_then (false ∷ us) (true ∷ bs) (true ∷ ds) c d e f = refl
earlier_then (false ∷ us) (true ∷ bs) (false ∷ ds) c d e f = no_longer (sym f)
earlier_then (false ∷ us) (false ∷ bs) (true ∷ ds) c d e f = refl
earlier_then (false ∷ us) (false ∷ bs) (false ∷ ds) c d e f = earlier_then us bs ds c d e f

front_then : (n m : Name) (ms : List Name) → is_prefix n m ≡ false → earlier n m ≡ true → IsBefore m ms → Clear m ms → IsBefore n ms
front_then n m [] c e f g = tt
front_then n m (k ∷ ks) c e f g = (earlier_then n m k c g.0 e f.0, front_then n m ks c e f.1 g.2)

-- ---- a share that gave up half of its first name
front_longer : (n t : Name) (ms : List Name) → Clear n ms → IsBefore n ms → IsBefore (n ++ t) ms
front_longer n t [] c f = tt
front_longer n t (m ∷ ms) c f = (earlier_longer n m t c.0 ∙ f.0, front_longer n t ms c.2 f.1)

clear_longer : (n t : Name) (ms : List Name) → Clear n ms → Clear (n ++ t) ms
clear_longer n t [] c = tt
clear_longer n t (m ∷ ms) c = (not_prefix_longer n t m c.0, not_prefix_of_longer m n t c.0 c.1, clear_longer n t ms c.2)

pub keeps_order : (ns : List Name) → InOrder ns → InOrder (keeps_half ns)
keeps_order [] o = tt
keeps_order (n ∷ ns) o = (front_longer n (false ∷ []) ns o.1 o.0, clear_longer n (false ∷ []) ns o.1, o.2)

pub gives_order : (ns : List Name) → InOrder (gives_half ns)
gives_order [] = tt
gives_order (n ∷ ns) = (tt, tt, tt)

-- ---- two shares as one
put_front : (n m : Name) (ms : List Name) → earlier m n ≡ true → IsBefore m ms → IsBefore m (insert_name n ms)
put_front n m [] e f = (e, tt)
put_front n m (k ∷ ks) e f = at_first (earlier n k) (put_front n m ks e f.1)
  where
    at_first : (b : Bool) → IsBefore m (insert_name n ks) → IsBefore m (cond b (n ∷ k ∷ ks) (k ∷ insert_name n ks))
    at_first true more = (e, f)
    at_first false more = (f.0, more)

put_order : (n : Name) (ms : List Name) → Clear n ms → InOrder ms → InOrder (insert_name n ms)
put_order n [] c o = (tt, tt, tt)
put_order n (m ∷ ms) c o =
    at_first (earlier n m) (λ e. ((e, front_then n m ms c.0 e o.0 o.1), c, o))
    (λ e. (put_front n m ms (later_first n m c.1 e) o.0, put_clear m n ms (c.1, c.0) o.1, put_order n ms c.2 o.2))
  where
    at_first : (b : Bool) → (b ≡ true → InOrder (n ∷ m ∷ ms)) → (b ≡ false → InOrder (m ∷ insert_name n ms)) → InOrder (cond b (n ∷ m ∷ ms) (m ∷ insert_name n ms))
    at_first true first second = first refl
    at_first false first second = second refl

all_order : (ns ms : List Name) → NamesDisjoint ns ms → InOrder ns → InOrder ms → InOrder (insert_names ns ms)
all_order [] ms a o p = p
all_order (n ∷ ns) ms a o p = put_order n (insert_names ns ms) (all_clear n ns ms o.1 a.0) (all_order ns ms a.1 o.2 p)

parent_front : (p : Name) (ms : List Name) → Clear p ms → IsBefore (p ++ false ∷ []) ms → IsBefore p ms
parent_front p [] c f = tt
parent_front p (m ∷ ms) c f = (sym (earlier_longer p m (false ∷ []) c.0) ∙ f.0, parent_front p ms c.2 f.1)

parent_clear : (n m : Name) (ms : List Name) → is_pair n m ≡ true → Clear n ms → Clear m ms → Clear (parent n) ms
parent_clear n m [] e c d = tt
parent_clear n m (k ∷ ks) e c d = let t = parent_distinct k n m e (c.1, c.0) (d.1, d.0) in (t.1, t.0, parent_clear n m ks e c.2 d.2)

placed_order : (n : Name) (ms : List Name) → InOrder (n ∷ ms) → InOrder (combine_first n ms)
placed_order n [] o = o
placed_order n (m ∷ ms) o = at_pair (is_pair n m) (λ e.
    let clear = parent_clear n m ms e o.1.2 o.2.1 in
    placed_order (parent n) ms (parent_front (parent n) ms clear (subst (λ z. IsBefore z ms) (pair_halves n m e).0 o.0.1), clear, o.2.2))
  where
    at_pair : (b : Bool) → (b ≡ true → InOrder (combine_first (parent n) ms)) → InOrder (cond b (combine_first (parent n) ms) (n ∷ m ∷ ms))
    at_pair true more = more refl
    at_pair false more = o

placed_front : (x n : Name) (ms : List Name) → AreDisjoint x n → Clear x ms → earlier x n ≡ true → IsBefore x ms → IsBefore x (combine_first n ms)
placed_front x n [] a c e f = (e, tt)
placed_front x n (m ∷ ms) a c e f = at_pair (is_pair n m) (λ pair.
    let up = parent_distinct x n m pair a (c.0, c.1) in
    placed_front x (parent n) ms up c.2 (earlier_shorter x (parent n) (false ∷ []) up.0 up.1 (subst (λ z. earlier x z ≡ true) (pair_halves n m pair).0 e)) f.1)
  where
    earlier_shorter : (x p t : Name) → is_prefix x p ≡ false → is_prefix p x ≡ false → earlier x (p ++ t) ≡ true → earlier x p ≡ true
    earlier_shorter [] p t c d e = no_longer c
    earlier_shorter (b ∷ bs) [] t c d e = no_longer d
    earlier_shorter (true ∷ bs) (true ∷ us) t c d e = earlier_shorter bs us t c d e
    earlier_shorter (false ∷ bs) (false ∷ us) t c d e = earlier_shorter bs us t c d e
    earlier_shorter (true ∷ bs) (false ∷ us) t c d e = e
    earlier_shorter (false ∷ bs) (true ∷ us) t c d e = e

    at_pair : (b : Bool) → (b ≡ true → IsBefore x (combine_first (parent n) ms)) → IsBefore x (cond b (combine_first (parent n) ms) (n ∷ m ∷ ms))
    at_pair true more = more refl
    at_pair false more = (e, f)

combined_front : (x : Name) (ns : List Name) → Clear x ns → IsBefore x ns → IsBefore x (combine ns)
combined_front x [] c f = tt
combined_front x (n ∷ ns) c f = placed_front x n (combine ns) (c.0, c.1) (combined_clear x ns c.2) f.0 (combined_front x ns c.2 f.1)

combined_order : (ns : List Name) → InOrder ns → InOrder (combine ns)
combined_order [] o = tt
combined_order (n ∷ ns) o = placed_order n (combine ns) (combined_front n ns o.1 o.0, combined_clear n ns o.1, combined_order ns o.2)

pub joined_order : (ns ms : List Name) → NamesDisjoint ns ms → InOrder ns → InOrder ms → InOrder (join_shares ns ms)
joined_order ns ms a o p = combined_order (insert_names ns ms) (all_order ns ms a o p)

-- ---- shares
pub whole_share : IsShare whole
whole_share = ((λ e. cc), (tt, tt, tt), tt)

-- a half that is kept is no half of another name
kept_unpaired : (n m : Name) → is_prefix n m ≡ false → is_pair (n ++ false ∷ []) m ≡ false
kept_unpaired n m c = either (is_pair (n ++ false ∷ []) m) refl
  where
    either : (b : Bool) → is_pair (n ++ false ∷ []) m ≡ b → is_pair (n ++ false ∷ []) m ≡ false
    either false e = e
    either true e =
        let is : m ≡ n ++ true ∷ [] = (pair_halves (n ++ false ∷ []) m e).1 ∙ ap (λ z. z ++ true ∷ []) (half_parent n) in
        no_longer (sym (subst (λ z. is_prefix n z ≡ true) (sym is) (prefix_longer n (true ∷ []))) ∙ c)

keeps_unpaired : (ns : List Name) → InOrder ns → NoPair ns → NoPair (keeps_half ns)
keeps_unpaired [] o p = tt
keeps_unpaired (n ∷ []) o p = tt
keeps_unpaired (n ∷ m ∷ ms) o p = (kept_unpaired n m o.1.0, p.1)

gives_unpaired : (ns : List Name) → NoPair (gives_half ns)
gives_unpaired [] = tt
gives_unpaired (n ∷ ns) = tt

placed_unpaired : (n : Name) (ms : List Name) → NoPair ms → NoPair (combine_first n ms)
placed_unpaired n [] p = tt
placed_unpaired n (m ∷ ms) p = at_pair (is_pair n m) refl (placed_unpaired (parent n) ms (rest m ms p))
  where
    rest : (m : Name) (ms : List Name) → NoPair (m ∷ ms) → NoPair ms
    rest m [] p = tt
    rest m (k ∷ ks) p = p.1

    at_pair : (b : Bool) → is_pair n m ≡ b → NoPair (combine_first (parent n) ms) → NoPair (cond b (combine_first (parent n) ms) (n ∷ m ∷ ms))
    at_pair true e more = more
    at_pair false e more = (e, p)

combined_unpaired : (ns : List Name) → NoPair (combine ns)
combined_unpaired [] = tt
combined_unpaired (n ∷ ns) = placed_unpaired n (combine ns) (combined_unpaired ns)

pub keeps_share : (ns : List Name) → IsShare ns → IsShare (keeps_half ns)
keeps_share ns s = (keeps_some ns s.0, keeps_order ns s.1, keeps_unpaired ns s.1 s.2)

pub gives_share : (ns : List Name) → IsShare ns → IsShare (gives_half ns)
gives_share ns s = (gives_some ns s.0, gives_order ns, gives_unpaired ns)

pub joined_share : (ns ms : List Name) → NamesDisjoint ns ms → IsShare ns → IsShare ms → IsShare (join_shares ns ms)
joined_share ns ms a s t = (joined_some ns ms s.0, joined_order ns ms a s.1 t.1, combined_unpaired (insert_names ns ms))

-- ---- what was split is what it was when its halves are joined
placed_alone : (n : Name) (ms : List Name) → NoPair (n ∷ ms) → combine_first n ms ≡ n ∷ ms
placed_alone n [] p = refl
placed_alone n (m ∷ ms) p = ap (λ b. cond b (combine_first (parent n) ms) (n ∷ m ∷ ms)) p.0

combined_same : (ns : List Name) → NoPair ns → combine ns ≡ ns
combined_same [] p = refl
combined_same (n ∷ []) p = refl
combined_same (n ∷ m ∷ ms) p = ap (combine_first n) (combined_same (m ∷ ms) p.1) ∙ placed_alone n (m ∷ ms) p

-- names after the given half stay after it
put_after : (n x : Name) (ms : List Name) → earlier n x ≡ false → insert_name n (x ∷ ms) ≡ x ∷ insert_name n ms
put_after n x ms e = ap (λ b. cond b (n ∷ x ∷ ms) (x ∷ insert_name n ms)) e

put_first : (n : Name) (ms : List Name) → IsBefore n ms → insert_name n ms ≡ n ∷ ms
put_first n [] f = refl
put_first n (m ∷ ms) f = ap (λ b. cond b (n ∷ m ∷ ms) (m ∷ insert_name n ms)) f.0

not_earlier : (n m : Name) → is_prefix n m ≡ false → earlier n m ≡ true → earlier m n ≡ false
not_earlier [] m c e = no_longer c
not_earlier (a ∷ us) [] c e = no_longer (sym e)
not_earlier (true ∷ us) (true ∷ bs) c e = not_earlier us bs c e
not_earlier (false ∷ us) (false ∷ bs) c e = not_earlier us bs c e
not_earlier (true ∷ us) (false ∷ bs) c e = no_longer (sym e)
not_earlier (false ∷ us) (true ∷ bs) c e = refl

put_all_after : (x : Name) (ns : List Name) → Clear x ns → IsBefore x ns → InOrder ns → insert_names ns (x ∷ []) ≡ x ∷ ns
put_all_after x [] c f o = refl
put_all_after x (n ∷ ns) c f o =
    ap (insert_name n) (put_all_after x ns c.2 f.1 o.2) ∙ (put_after n x ns (not_earlier x n c.0 f.0) ∙ ap (λ z. x ∷ z) (put_first n ns o.0))

given_unpaired : (n m : Name) → is_pair (n ++ true ∷ []) m ≡ false
given_unpaired n m = either (is_pair (n ++ true ∷ []) m) refl
  where
    ends : (n p : Name) → n ++ true ∷ [] ≡ p ++ false ∷ [] → ⊥
    ends [] [] e = cc
    ends [] (b ∷ []) e = cc
    ends [] (b ∷ c ∷ p) e = cc
    ends (a ∷ []) [] e = cc
    ends (a ∷ c ∷ n) [] e = cc
    ends (a ∷ n) (b ∷ p) e = ends n p (cc)

    either : (b : Bool) → is_pair (n ++ true ∷ []) m ≡ b → is_pair (n ++ true ∷ []) m ≡ false
    either false e = e
    either true e = absurd (ends n (parent (n ++ true ∷ [])) (pair_halves (n ++ true ∷ []) m e).0)

given_first : (n : Name) (ns : List Name) → NoPair (n ∷ ns) → NoPair ((n ++ true ∷ []) ∷ ns)
given_first n [] p = tt
given_first n (m ∷ ms) p = (given_unpaired n m, p.1)

pub share_joins : (ns : List Name) → IsShare ns → join_shares (keeps_half ns) (gives_half ns) ≡ ns
share_joins [] s = absurd (s.0 refl)
share_joins (n ∷ ns) s =
    let l = n ++ false ∷ [] in
    let r = n ++ true ∷ [] in
    let o = s.1 in
    let after : insert_names ns (r ∷ []) ≡ r ∷ ns = put_all_after r ns (clear_longer n (true ∷ []) ns o.1) (front_longer n (true ∷ []) ns o.1 o.0) o.2 in
    let both : insert_names (l ∷ ns) (r ∷ []) ≡ l ∷ r ∷ ns = ap (insert_name l) after ∙ ap (λ b. cond b (l ∷ r ∷ ns) (r ∷ insert_name l ns)) (halves_earlier n) in
    let pair : combine_first l (r ∷ ns) ≡ combine_first (parent l) ns = ap (λ b. cond b (combine_first (parent l) ns) (l ∷ r ∷ ns)) (halves_pair n) in
    ap combine both ∙ (ap (combine_first l) (combined_same (r ∷ ns) (given_first n ns s.2)) ∙ (pair ∙ (ap (λ z. combine_first z ns) (half_parent n) ∙ placed_alone n ns s.2)))
