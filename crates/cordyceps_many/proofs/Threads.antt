-- Lists that go through nodes: what stays linked where hooks are written.
use Rattle.std.proofs.Common.{◌≡◌, inl, inr, suc, ◌+◌, ◌-◌, Bool, true, false, if◌then◌else◌, List, [], ◌∷◌, ◌++◌, length, refl, sym, ap, ◌∙◌, subst, arith, length-append}
use lib.Dec.{lit<}
use denote.RawPtr.{Ptr, null_ptr, InBlock, Testable}
use Rattle.cordyceps_base.specs.declared.boxes.Address.{Address}
use Rattle.cordyceps_base.specs.Spots.{same_ptr}
use Rattle.cordyceps_base.proofs.SpotsMemory.{same_ptr_eq, same_ptr_refl}
use Rattle.cordyceps_many.specs.declared.hook.Hook.{Hook}
use Rattle.cordyceps_many.specs.declared.hook.Ends.{Ends}
use Rattle.cordyceps_many.specs.Threads.{is_in, without, Once, with_next, with_prev, Chain, walk, IsThread, IsOpen, Wrote, IsFollowedBy, IsPrecededBy}

pub split : {P : Type 0} (b : Bool) → (b ≡ true → P) → (b ≡ false → P) → P
split true y n = y refl
split false y n = n refl

pub other_way : (p q : Ptr) → same_ptr p q ≡ false → same_ptr q p ≡ false
other_way p q e = split (same_ptr q p) (λ t. let yes : same_ptr p q ≡ true = subst (λ r. same_ptr p r ≡ true) (sym (same_ptr_eq q p t)) (same_ptr_refl p) in absurd cc) (λ o. o)

pub null_Testable : Testable null_ptr
null_Testable = lit< tt

-- ---- members
pub in_here : (p q : Ptr) (s : List Ptr) → same_ptr p q ≡ true → is_in p (q ∷ s) ≡ true
in_here p q s e = ap (λ (b : Bool). if b then true else is_in p s) e

pub in_there : (p q : Ptr) (s : List Ptr) → same_ptr p q ≡ false → is_in p (q ∷ s) ≡ is_in p s
in_there p q s e = ap (λ (b : Bool). if b then true else is_in p s) e

pub in_more : (p q : Ptr) (s : List Ptr) → is_in p s ≡ true → is_in p (q ∷ s) ≡ true
in_more p q s e = split (same_ptr p q) (λ same. in_here p q s same) (λ other. in_there p q s other ∙ e)

pub not_in : (p q : Ptr) (s : List Ptr) → is_in p (q ∷ s) ≡ false → (same_ptr p q ≡ false) × (is_in p s ≡ false)
not_in p q s e = split (same_ptr p q) (λ same. let t = in_here p q s same in absurd cc) (λ other. (other, sym (in_there p q s other) ∙ e))

pub in_append : (p : Ptr) (xs ys : List Ptr) → is_in p (xs ++ ys) ≡ (if is_in p xs then true else is_in p ys)
in_append p [] ys = refl
in_append p (x ∷ xs) ys = split (same_ptr p x)
    (λ same. in_here p x (xs ++ ys) same ∙ sym (ap (λ (b : Bool). if b then true else is_in p ys) (in_here p x xs same)))
    (λ other. in_there p x (xs ++ ys) other ∙ in_append p xs ys ∙ sym (ap (λ (b : Bool). if b then true else is_in p ys) (in_there p x xs other)))

pub not_in_append : (p : Ptr) (xs ys : List Ptr) → is_in p (xs ++ ys) ≡ false → (is_in p xs ≡ false) × (is_in p ys ≡ false)
not_in_append p xs ys e = split (is_in p xs)
    (λ yes. let t = sym (in_append p xs ys) ∙ e in let u = ap (λ (b : Bool). if b then true else is_in p ys) yes in absurd cc)
    (λ no. (no, sym (ap (λ (b : Bool). if b then true else is_in p ys) no) ∙ sym (in_append p xs ys) ∙ e))

pub not_in_both : (p : Ptr) (xs ys : List Ptr) → is_in p xs ≡ false → is_in p ys ≡ false → is_in p (xs ++ ys) ≡ false
not_in_both p xs ys e f = in_append p xs ys ∙ ap (λ (b : Bool). if b then true else is_in p ys) e ∙ f

-- two spots, of which a list has one
pub differ : (p q : Ptr) (s : List Ptr) → is_in p s ≡ true → is_in q s ≡ false → same_ptr p q ≡ false
differ p q s e f = split (same_ptr p q) (λ same. let t : is_in q s ≡ true = subst (λ z. is_in z s ≡ true) (same_ptr_eq p q same) e in absurd cc) (λ other. other)

-- ---- a list without a spot
pub record Parts (a : Ptr) (s : List Ptr) : Type 0 where
  pub front : List Ptr
  pub back : List Ptr
  pub whole : s ≡ front ++ a ∷ back
  pub left : without a s ≡ front ++ back

without_here : (a q : Ptr) (s : List Ptr) → same_ptr a q ≡ true → without a (q ∷ s) ≡ s
without_here a q s e = ap (λ (b : Bool). if b then s else q ∷ without a s) e

without_there : (a q : Ptr) (s : List Ptr) → same_ptr a q ≡ false → without a (q ∷ s) ≡ q ∷ without a s
without_there a q s e = ap (λ (b : Bool). if b then s else q ∷ without a s) e

pub parts : (a : Ptr) (s : List Ptr) → is_in a s ≡ true → Parts a s
parts a [] e = absurd cc
parts a (q ∷ s) e = split (same_ptr a q)
    (λ same. record { front = []; back = s; whole = ap (λ z. z ∷ s) (sym (same_ptr_eq a q same)); left = without_here a q s same })
    (λ other. let p = parts a s (sym (in_there a q s other) ∙ e) in record { front = q ∷ p.front; back = p.back; whole = ap (λ l. q ∷ l) p.whole; left = without_there a q s other ∙ ap (λ l. q ∷ l) p.left })

pub length_without : (a : Ptr) (s : List Ptr) → is_in a s ≡ true → length s ≡ suc (length (without a s))
length_without a s e = let u = parts a s e in let x = ap length u.whole ∙ length-append u.front (a ∷ u.back) in let y = ap length u.left ∙ length-append u.front u.back in omega (arith, x, y)

pub without_other : (a q : Ptr) (s : List Ptr) → same_ptr a q ≡ false → is_in q (without a s) ≡ is_in q s
without_other a q [] e = refl
without_other a q (x ∷ s) e = split (same_ptr a x)
    (λ same. let o : same_ptr q x ≡ false = subst (λ z. same_ptr q z ≡ false) (same_ptr_eq a x same) (other_way a q e) in ap (is_in q) (without_here a x s same) ∙ sym (in_there q x s o))
    (λ other. ap (is_in q) (without_there a x s other) ∙ ap (λ (b : Bool). if same_ptr q x then true else b) (without_other a q s e))

pub without_none : (a : Ptr) (s : List Ptr) → is_in a s ≡ false → without a s ≡ s
without_none a [] e = refl
without_none a (x ∷ s) e = let n = not_in a x s e in without_there a x s n.0 ∙ ap (λ l. x ∷ l) (without_none a s n.1)

pub without_gone : (a : Ptr) (s : List Ptr) → Once s → is_in a (without a s) ≡ false
without_gone a [] o = refl
without_gone a (x ∷ s) o = split (same_ptr a x)
    (λ same. ap (is_in a) (without_here a x s same) ∙ subst (λ z. is_in z s ≡ false) (sym (same_ptr_eq a x same)) o.0)
    (λ other. ap (is_in a) (without_there a x s other) ∙ in_there a x (without a s) other ∙ without_gone a s o.1)

-- what is known of the parts of a list in which no spot comes twice
pub record Apart (front : List Ptr) (a : Ptr) (back : List Ptr) : Type 0 where
  pub first : Once front
  pub second : Once back
  pub before : is_in a front ≡ false
  pub after : is_in a back ≡ false
  pub none : (q : Ptr) → is_in q front ≡ true → is_in q back ≡ false
  pub joined : Once (front ++ back)

pub apart : (xs : List Ptr) (a : Ptr) (ys : List Ptr) → Once (xs ++ a ∷ ys) → Apart xs a ys
apart [] a ys o = record { first = tt; second = o.1; before = refl; after = o.0; none = λ q e. absurd cc; joined = o.1 }
apart (x ∷ xs) a ys o =
    let r = apart xs a ys o.1 in let n = not_in_append x xs (a ∷ ys) o.0 in let m = not_in x a ys n.1 in
    record {
      first = (n.0, r.first);
      second = r.second;
      before = in_there a x xs (other_way x a m.0) ∙ r.before;
      after = r.after;
      none = λ q e. split (same_ptr q x) (λ same. subst (λ z. is_in z ys ≡ false) (sym (same_ptr_eq q x same)) m.1) (λ other. r.none q (sym (in_there q x xs other) ∙ e));
      joined = (not_in_both x xs ys n.0 m.1, r.joined);
    }

pub once_pushed : (s : List Ptr) (a : Ptr) → Once s → is_in a s ≡ false → Once (s ++ a ∷ [])
once_pushed [] a o e = (refl, tt)
once_pushed (x ∷ s) a o e = let n = not_in a x s e in (not_in_both x s (a ∷ []) o.0 (in_there x a [] (other_way a x n.0)), once_pushed s a o.1 n.1)

-- ---- hooks that stay
abbrev pub Same : (Ptr → Hook) → (Ptr → Hook) → List Ptr → Type 0
Same f g [] = Unit {0}
Same f g (a ∷ s) = (g a ≡ f a) × Same f g s

abbrev nx : Hook → Ptr
nx h = h.next.ptr

abbrev pv : Hook → Ptr
pv h = h.prev.ptr

module _ (f g : Ptr → Hook) where
  pub chain_keep : (p h : Ptr) (s : List Ptr) (t q : Ptr) → Chain f p h s t q → Same f g s → Chain g p h s t q
  chain_keep p h [] t q c a = c
  chain_keep p h (x ∷ s) t q c a = ((c.0.0, ap pv a.0 ∙ c.0.1), subst (λ z. Chain g x z s t q) (sym (ap nx a.0)) (chain_keep x (f x).next.ptr s t q c.1 a.1))

  pub same_but : (p : Ptr) (v : Hook) (s : List Ptr) → Wrote f p v g → is_in p s ≡ false → Same f g s
  same_but p v [] w e = tt
  same_but p v (x ∷ s) w e = let n = not_in p x s e in (w.others x n.0, same_but p v s w n.1)

  pub same_all : (s : List Ptr) → ((q : Ptr) → g q ≡ f q) → Same f g s
  same_all [] k = tt
  same_all (x ∷ s) k = (k x, same_all s k)

module _ (f : Ptr → Hook) where
  pub chain_join : (p h : Ptr) (xs : List Ptr) (l m : Ptr) (ys : List Ptr) (t q : Ptr) → Chain f p h xs l m → Chain f l m ys t q → Chain f p h (xs ++ ys) t q
  chain_join p h [] l m ys t q c d = subst (λ (s : Ptr × Ptr). Chain f s.0 s.1 ys t q) (λ i. (c.1 i, sym c.0 i)) d
  chain_join p h (x ∷ xs) l m ys t q c d = (c.0, chain_join x (f x).next.ptr xs l m ys t q c.1 d)

  pub chain_front : (p h : Ptr) (xs : List Ptr) (a : Ptr) (ys : List Ptr) (t q : Ptr) → Chain f p h (xs ++ a ∷ ys) t q → Chain f p h xs (f a).prev.ptr a
  chain_front p h [] a ys t q c = c.0
  chain_front p h (x ∷ xs) a ys t q c = (c.0, chain_front x (f x).next.ptr xs a ys t q c.1)

  pub chain_back : (p h : Ptr) (xs : List Ptr) (a : Ptr) (ys : List Ptr) (t q : Ptr) → Chain f p h (xs ++ a ∷ ys) t q → Chain f a (f a).next.ptr ys t q
  chain_back p h [] a ys t q c = c.1
  chain_back p h (x ∷ xs) a ys t q c = chain_back x (f x).next.ptr xs a ys t q c.1

  pub last_in : (p h x : Ptr) (s : List Ptr) (t q : Ptr) → Chain f p h (x ∷ s) t q → is_in t (x ∷ s) ≡ true
  last_in p h x [] t q c = in_here t x [] (subst (λ z. same_ptr t z ≡ true) c.1.1 (same_ptr_refl t))
  last_in p h x (y ∷ s) t q c = in_more t x (y ∷ s) (last_in x (f x).next.ptr y s t q c.1)

  pub last_end : (p h x : Ptr) (s : List Ptr) (t q : Ptr) → Chain f p h (x ∷ s) t q → (l : List Ptr) × (x ∷ s ≡ l ++ t ∷ [])
  last_end p h x [] t q c = ([], ap (λ z. z ∷ []) (sym c.1.1))
  last_end p h x (y ∷ s) t q c = let (l, e) = last_end x (f x).next.ptr y s t q c.1 in (x ∷ l, ap (λ m. x ∷ m) e)

  pub thread_none : (e : Ends) (s : List Ptr) → IsThread f e s → e.len ≡ 0 → s ≡ []
  thread_none e [] t z = refl
  thread_none e (x ∷ s) t z = let l = t.long in absurd (omega (arith, l, z))

  pub thread_first_is : (e : Ends) (s : List Ptr) → IsThread f e s → (e.len ≡ 0 → ⊥) → (l : List Ptr) × (s ≡ e.first.ptr ∷ l)
  thread_first_is e [] t z = absurd (z t.long)
  thread_first_is e (x ∷ s) t z = (s, ap (λ y. y ∷ s) (sym t.chain.0.0))

  pub thread_last_is : (e : Ends) (s : List Ptr) → IsThread f e s → (e.len ≡ 0 → ⊥) → (l : List Ptr) × (s ≡ l ++ e.last.ptr ∷ [])
  thread_last_is e [] t z = absurd (z t.long)
  thread_last_is e (x ∷ s) t z = last_end null_ptr e.first.ptr x s e.last.ptr null_ptr t.chain

  pub last_where : (h : Ptr) (s : List Ptr) (t q : Ptr) → Chain f null_ptr h s t q → InBlock t → is_in t s ≡ true
  last_where h [] t q c b = absurd (subst InBlock c.1 b)
  last_where h (x ∷ s) t q c b = last_in null_ptr h x s t q c

  pub first_where : (p h : Ptr) (s : List Ptr) (t : Ptr) → Chain f p h s t null_ptr → InBlock h → is_in h s ≡ true
  first_where p h [] t c b = absurd (subst InBlock c.0 b)
  first_where p h (x ∷ s) t c b = in_here h x s (subst (λ z. same_ptr h z ≡ true) c.0.0 (same_ptr_refl h))

  pub walk_is : (p h : Ptr) (s : List Ptr) (t q : Ptr) → Chain f p h s t q → walk f (length s) h ≡ s
  walk_is p h [] t q c = refl
  walk_is p h (x ∷ s) t q c = ap (λ z. z ∷ walk f (length s) (f z).next.ptr) c.0.0 ∙ ap (λ l. x ∷ l) (walk_is x (f x).next.ptr s t q c.1)

  pub thread_is : (e : Ends) (s : List Ptr) → IsThread f e s → walk f e.len e.first.ptr ≡ s
  thread_is e s t = ap (λ n. walk f n e.first.ptr) t.long ∙ walk_is null_ptr e.first.ptr s e.last.ptr null_ptr t.chain

-- the node after a node
module _ (f : Ptr → Hook) (e : Ends) (s : List Ptr) (a : Ptr) (w : IsThread f e s) (there : is_in a s ≡ true) where
  ahead : (back : List Ptr) → s ≡ (parts a s there).front ++ a ∷ back → Chain f a (f a).next.ptr back e.last.ptr null_ptr → (InBlock (f a).next.ptr → (l : List Ptr) × (m : List Ptr) × (s ≡ l ++ a ∷ (f a).next.ptr ∷ m))
      × ((f a).next.ptr ≡ null_ptr → ((x : Ptr) → is_in x s ≡ true → InBlock x) → (l : List Ptr) × (s ≡ l ++ a ∷ []))
  ahead [] is c = (λ b. absurd (subst InBlock c.0 b), λ z solid. ((parts a s there).front, is))
  ahead (y ∷ back) is c = (
    λ b. ((parts a s there).front, back, is ∙ ap (λ z. (parts a s there).front ++ a ∷ z ∷ back) (sym c.0.0)),
    λ z solid.
        let m : is_in y s ≡ true = ap (is_in y) is ∙ in_append y (parts a s there).front (a ∷ y ∷ back) ∙ split (is_in y (parts a s there).front) (λ yes. ap (λ (b : Bool). if b then true else is_in y (a ∷ y ∷ back)) yes)
        (λ no. ap (λ (b : Bool). if b then true else is_in y (a ∷ y ∷ back)) no ∙ in_more y a (y ∷ back) (in_here y y back (same_ptr_refl y))) in
        absurd (subst InBlock (sym c.0.0 ∙ z) (solid y m)),
  )

  pub next_is : (InBlock (f a).next.ptr → (l : List Ptr) × (m : List Ptr) × (s ≡ l ++ a ∷ (f a).next.ptr ∷ m)) × ((f a).next.ptr ≡ null_ptr → ((x : Ptr) → is_in x s ≡ true → InBlock x) → (l : List Ptr) × (s ≡ l ++ a ∷ []))
  next_is =
      let u = parts a s there in
      ahead u.back u.whole (chain_back f null_ptr e.first.ptr u.front a u.back e.last.ptr null_ptr (subst (λ l. Chain f null_ptr e.first.ptr l e.last.ptr null_ptr) u.whole w.chain))

-- ---- a link is written
module _ (f g : Ptr → Hook) where
  relinked_last : (p h x : Ptr) (s : List Ptr) (t q : Ptr) (n : Address) → Chain f p h (x ∷ s) t q → Once (x ∷ s) → Wrote f t (with_next (f t) n) g → Chain g p h (x ∷ s) t n.ptr
  relinked_last p h x [] t q n c o w =
      let e : g x ≡ with_next (f x) n = subst (λ z. g z ≡ with_next (f z) n) c.1.1 w.here in
      ((c.0.0, ap pv e ∙ c.0.1), (ap nx e, c.1.1))
  relinked_last p h x (y ∷ s) t q n c o w =
      let e : g x ≡ f x = w.others x (differ t x (y ∷ s) (last_in f x (f x).next.ptr y s t q c.1) o.0) in
      ((c.0.0, ap pv e ∙ c.0.1), subst (λ z. Chain g x z (y ∷ s) t n.ptr) (sym (ap nx e)) (relinked_last x (f x).next.ptr y s t q n c.1 o.1 w))

  relinked_first : (p h x : Ptr) (s : List Ptr) (t q : Ptr) (n : Address) → Chain f p h (x ∷ s) t q → Once (x ∷ s) → Wrote f h (with_prev (f h) n) g → Chain g n.ptr h (x ∷ s) t q
  relinked_first p h x s t q n c o w =
      let e : g x ≡ with_prev (f x) n = subst (λ z. g z ≡ with_prev (f z) n) c.0.0 w.here in
      let away : is_in h s ≡ false = subst (λ z. is_in z s ≡ false) (sym c.0.0) o.0 in
      ((c.0.0, ap pv e), subst (λ z. Chain g x z s t q) (sym (ap nx e)) (chain_keep f g x (f x).next.ptr s t q c.1 (same_but f g h (with_prev (f h) n) s w away)))

  pub front_followed : (h : Ptr) (xs : List Ptr) (t q : Ptr) (n : Address) (r : Ptr) → Chain f null_ptr h xs t q → Once xs → ((x : Ptr) → is_in x xs ≡ true → InBlock x) → IsFollowedBy f t n h g r → Chain g null_ptr r xs t n.ptr
  front_followed h [] t q n r c o solid (inl d) = (d.end, d.null)
  front_followed h [] t q n r c o solid (inr d) = absurd (subst InBlock c.1 d.there)
  front_followed h (x ∷ xs) t q n r c o solid (inl d) = absurd (subst InBlock d.null (solid t (last_in f null_ptr h x xs t q c)))
  front_followed h (x ∷ xs) t q n r c o solid (inr d) = subst (λ z. Chain g null_ptr z (x ∷ xs) t n.ptr) (sym d.end) (relinked_last null_ptr h x xs t q n c o d.wrote)

  pub back_preceded : (p h : Ptr) (ys : List Ptr) (t : Ptr) (n : Address) (r : Ptr) → Chain f p h ys t null_ptr → Once ys → ((x : Ptr) → is_in x ys ≡ true → InBlock x) → IsPrecededBy f h n t g r → Chain g n.ptr h ys r null_ptr
  back_preceded p h [] t n r c o solid (inl d) = (d.null, d.end)
  back_preceded p h [] t n r c o solid (inr d) = absurd (subst InBlock c.0 d.there)
  back_preceded p h (x ∷ ys) t n r c o solid (inl d) = absurd (subst InBlock d.null (subst InBlock (sym c.0.0) (solid x (in_here x x ys (same_ptr_refl x)))))
  back_preceded p h (x ∷ ys) t n r c o solid (inr d) = subst (λ z. Chain g n.ptr h (x ∷ ys) z null_ptr) (sym d.end) (relinked_first p h x ys t null_ptr n c o d.wrote)

  pub followed_same : (t : Ptr) (n : Address) (h r : Ptr) (s : List Ptr) → IsFollowedBy f t n h g r → (InBlock t → is_in t s ≡ false) → Same f g s
  followed_same t n h r s (inl d) away = same_all f g s (λ q j. d.same j q)
  followed_same t n h r s (inr d) away = same_but f g t (with_next (f t) n) s d.wrote (away d.there)

  pub preceded_same : (h : Ptr) (n : Address) (t r : Ptr) (s : List Ptr) → IsPrecededBy f h n t g r → (InBlock h → is_in h s ≡ false) → Same f g s
  preceded_same h n t r s (inl d) away = same_all f g s (λ q j. d.same j q)
  preceded_same h n t r s (inr d) away = same_but f g h (with_prev (f h) n) s d.wrote (away d.there)

  pub followed_marks : (t : Ptr) (n : Address) (h r : Ptr) → IsFollowedBy f t n h g r → (q : Ptr) → (g q).linked ≡ (f q).linked
  followed_marks t n h r (inl d) q = λ j. (d.same j q).linked
  followed_marks t n h r (inr d) q = split (same_ptr t q)
      (λ same. let e : g q ≡ with_next (f q) n = subst (λ z. g z ≡ with_next (f z) n) (same_ptr_eq t q same) d.wrote.here in ap (λ (k : Hook). k.linked) e)
      (λ other. ap (λ (k : Hook). k.linked) (d.wrote.others q other))

  pub preceded_marks : (h : Ptr) (n : Address) (t r : Ptr) → IsPrecededBy f h n t g r → (q : Ptr) → (g q).linked ≡ (f q).linked
  preceded_marks h n t r (inl d) q = λ j. (d.same j q).linked
  preceded_marks h n t r (inr d) q = split (same_ptr h q)
      (λ same. let e : g q ≡ with_prev (f q) n = subst (λ z. g z ≡ with_prev (f z) n) (same_ptr_eq h q same) d.wrote.here in ap (λ (k : Hook). k.linked) e)
      (λ other. ap (λ (k : Hook). k.linked) (d.wrote.others q other))

-- ---- whole calls
-- a node that the list has not may have any hook
pub opened : (f : Ptr → Hook) (e : Ends) (s : List Ptr) (a : Ptr) → IsThread f e s → is_in a s ≡ false → IsOpen f e s a
opened f e s a w away = record { long = w.long; once = w.once; away = away; marks = λ q other. w.marks q; chain = w.chain }

-- and where its mark is off, the list is whole
pub closed : (f g : Ptr → Hook) (e : Ends) (s : List Ptr) (a : Ptr) (h : Hook) → IsOpen f e s a → Wrote f a h g → h.linked ≡ false → IsThread g e s
closed f g e s a h w set off = record {
  long = w.long;
  once = w.once;
  marks = λ q. split (same_ptr a q) (λ same. subst (λ z. (g z).linked ≡ is_in z s) (same_ptr_eq a q same) (ap (λ (k : Hook). k.linked) set.here ∙ off ∙ sym w.away)) (λ other. ap (λ (k : Hook). k.linked) (set.others q other) ∙ w.marks q other);
  chain = chain_keep f g null_ptr e.first.ptr s e.last.ptr null_ptr w.chain (same_but f g a h s set w.away);
}

-- what leads through a list, each of whose nodes has the mark
pub record Goes (f : Ptr → Hook) (e : Ends) (s : List Ptr) : Type 0 where
  pub chain : Chain f null_ptr e.first.ptr s e.last.ptr null_ptr
  pub marked : (q : Ptr) → is_in q s ≡ true → (f q).linked ≡ true

pub thread_goes : (f : Ptr → Hook) (e : Ends) (s : List Ptr) → IsThread f e s → Goes f e s
thread_goes f e s w = record { chain = w.chain; marked = λ q m. w.marks q ∙ m }

pub open_goes : (f : Ptr → Hook) (e : Ends) (s : List Ptr) (a : Ptr) → IsOpen f e s a → Goes f e s
open_goes f e s a w = record { chain = w.chain; marked = λ q m. w.marks q (other_way q a (differ q a s m w.away)) ∙ m }

-- a node is taken out of a list: its neighbours are linked
module _ (f0 f2 f3 : Ptr → Hook) (e : Ends) (s : List Ptr) (a : Ptr) (first last : Address) (w : IsThread f0 e s) (there : is_in a s ≡ true) (solid : (x : Ptr) → is_in x s ≡ true → InBlock x)
    (on : IsFollowedBy f0 (f0 a).prev.ptr (f0 a).next e.first.ptr f2 first.ptr) (back : IsPrecededBy f2 (f0 a).next.ptr (f0 a).prev e.last.ptr f3 last.ptr) where
  u : Parts a s
  u = parts a s there

  o : Apart u.front a u.back
  o = apart u.front a u.back (subst Once u.whole w.once)

  chained : Chain f0 null_ptr e.first.ptr (u.front ++ a ∷ u.back) e.last.ptr null_ptr
  chained = subst (λ l. Chain f0 null_ptr e.first.ptr l e.last.ptr null_ptr) u.whole w.chain

  solid_front : (x : Ptr) → is_in x u.front ≡ true → InBlock x
  solid_front x i = solid x (ap (is_in x) u.whole ∙ in_append x u.front (a ∷ u.back) ∙ ap (λ (b : Bool). if b then true else is_in x (a ∷ u.back)) i)

  solid_back : (x : Ptr) → is_in x u.back ≡ true → InBlock x
  solid_back x i = solid x (ap (is_in x) u.whole ∙ in_append x u.front (a ∷ u.back) ∙ split (is_in x u.front) (λ yes. ap (λ (b : Bool). if b then true else is_in x (a ∷ u.back)) yes) (λ no. ap (λ (b : Bool). if b then true else is_in x (a ∷ u.back)) no ∙ in_more x a u.back i))

  front0 : Chain f0 null_ptr e.first.ptr u.front (f0 a).prev.ptr a
  front0 = chain_front f0 null_ptr e.first.ptr u.front a u.back e.last.ptr null_ptr chained

  back0 : Chain f0 a (f0 a).next.ptr u.back e.last.ptr null_ptr
  back0 = chain_back f0 null_ptr e.first.ptr u.front a u.back e.last.ptr null_ptr chained

  front2 : Chain f2 null_ptr first.ptr u.front (f0 a).prev.ptr (f0 a).next.ptr
  front2 = front_followed f0 f2 e.first.ptr u.front (f0 a).prev.ptr a (f0 a).next first.ptr front0 o.first solid_front on

  back2 : Chain f2 a (f0 a).next.ptr u.back e.last.ptr null_ptr
  back2 = chain_keep f0 f2 a (f0 a).next.ptr u.back e.last.ptr null_ptr back0
      (followed_same f0 f2 (f0 a).prev.ptr (f0 a).next e.first.ptr first.ptr u.back on (λ b. o.none (f0 a).prev.ptr (last_where f0 e.first.ptr u.front (f0 a).prev.ptr a front0 b)))

  front3 : Chain f3 null_ptr first.ptr u.front (f0 a).prev.ptr (f0 a).next.ptr
  front3 = chain_keep f2 f3 null_ptr first.ptr u.front (f0 a).prev.ptr (f0 a).next.ptr front2 (preceded_same f2 f3 (f0 a).next.ptr (f0 a).prev e.last.ptr last.ptr u.front back
      (λ b. split (is_in (f0 a).next.ptr u.front) (λ yes. let n = o.none (f0 a).next.ptr yes in let m = first_where f0 a (f0 a).next.ptr u.back e.last.ptr back0 b in absurd cc) (λ no. no)))

  back3 : Chain f3 (f0 a).prev.ptr (f0 a).next.ptr u.back last.ptr null_ptr
  back3 = back_preceded f2 f3 a (f0 a).next.ptr u.back e.last.ptr (f0 a).prev last.ptr back2 o.second solid_back back

  pub cut_open : IsOpen f3 (record { first = first; last = last; len = e.len - 1 }) (without a s) a
  cut_open = record {
    long = let long = w.long in let l = length_without a s there in omega (arith, long, l);
    once = subst Once (sym u.left) o.joined;
    away = without_gone a s w.once;
    marks = λ q other. preceded_marks f2 f3 (f0 a).next.ptr (f0 a).prev e.last.ptr last.ptr back q ∙ followed_marks f0 f2 (f0 a).prev.ptr (f0 a).next e.first.ptr first.ptr on q ∙ w.marks q ∙ sym (without_other a q s other);
    chain = subst (λ l. Chain f3 null_ptr first.ptr l last.ptr null_ptr) (sym u.left) (chain_join f3 null_ptr first.ptr u.front (f0 a).prev.ptr (f0 a).next.ptr u.back last.ptr null_ptr front3 back3);
  }

-- a node is put in at the back, or at the front
module _ (f0 f1 f2 : Ptr → Hook) (e : Ends) (s : List Ptr) (a none end : Address) (w : IsOpen f0 e s a.ptr) (solid : (x : Ptr) → is_in x s ≡ true → InBlock x) (null : none.ptr ≡ null_ptr) where
  module _ (set : Wrote f0 a.ptr (record { next = none; prev = e.last; linked = true }) f1) (on : IsFollowedBy f1 e.last.ptr a e.first.ptr f2 end.ptr) where
    chain1 : Chain f1 null_ptr e.first.ptr s e.last.ptr null_ptr
    chain1 = chain_keep f0 f1 null_ptr e.first.ptr s e.last.ptr null_ptr w.chain (same_but f0 f1 a.ptr (record { next = none; prev = e.last; linked = true }) s set w.away)

    chain2 : Chain f2 null_ptr end.ptr s e.last.ptr a.ptr
    chain2 = front_followed f1 f2 e.first.ptr s e.last.ptr null_ptr a end.ptr chain1 w.once solid on

    kept : f2 a.ptr ≡ record { next = none; prev = e.last; linked = true }
    kept = (followed_same f1 f2 e.last.ptr a e.first.ptr end.ptr (a.ptr ∷ []) on (λ b. in_there e.last.ptr a.ptr [] (differ e.last.ptr a.ptr s (last_where f0 e.first.ptr s e.last.ptr null_ptr w.chain b) w.away))).0 ∙ set.here

    pub thread_last : IsThread f2 (record { first = end; last = a; len = e.len + 1 }) (s ++ a.ptr ∷ [])
    thread_last = record {
      long = let long = w.long in let l = length-append s (a.ptr ∷ []) in omega (arith, long, l);
      once = once_pushed s a.ptr w.once w.away;
      marks = λ q. followed_marks f1 f2 e.last.ptr a e.first.ptr end.ptr on q ∙ split (same_ptr a.ptr q)
          (λ same. subst (λ z. (f1 z).linked ≡ is_in z (s ++ a.ptr ∷ [])) (same_ptr_eq a.ptr q same) (ap (λ (k : Hook). k.linked) set.here ∙ sym (in_append a.ptr s (a.ptr ∷ []) ∙ ap (λ (b : Bool). if b then true else is_in a.ptr (a.ptr ∷ [])) w.away ∙ in_here a.ptr a.ptr [] (same_ptr_refl a.ptr))))
          (λ other. ap (λ (k : Hook). k.linked) (set.others q other) ∙ w.marks q other ∙ sym (in_append q s (a.ptr ∷ []) ∙ ap (λ (b : Bool). if is_in q s then true else b) (in_there q a.ptr [] (other_way a.ptr q other)) ∙ either (is_in q s)));
      chain = chain_join f2 null_ptr end.ptr s e.last.ptr a.ptr (a.ptr ∷ []) a.ptr null_ptr chain2 ((refl, ap pv kept), (ap nx kept ∙ null, refl));
    } where
      either : (b : Bool) → (if b then true else false) ≡ b
      either true = refl
      either false = refl

  module _ (set : Wrote f0 a.ptr (record { next = e.first; prev = none; linked = true }) f1) (back : IsPrecededBy f1 e.first.ptr a e.last.ptr f2 end.ptr) where
    chain1' : Chain f1 null_ptr e.first.ptr s e.last.ptr null_ptr
    chain1' = chain_keep f0 f1 null_ptr e.first.ptr s e.last.ptr null_ptr w.chain (same_but f0 f1 a.ptr (record { next = e.first; prev = none; linked = true }) s set w.away)

    chain2' : Chain f2 a.ptr e.first.ptr s end.ptr null_ptr
    chain2' = back_preceded f1 f2 null_ptr e.first.ptr s e.last.ptr a end.ptr chain1' w.once solid back

    kept' : f2 a.ptr ≡ record { next = e.first; prev = none; linked = true }
    kept' = (preceded_same f1 f2 e.first.ptr a e.last.ptr end.ptr (a.ptr ∷ []) back (λ b. in_there e.first.ptr a.ptr [] (differ e.first.ptr a.ptr s (first_where f0 null_ptr e.first.ptr s e.last.ptr w.chain b) w.away))).0 ∙ set.here

    pub thread_first : IsThread f2 (record { first = a; last = end; len = e.len + 1 }) (a.ptr ∷ s)
    thread_first = record {
      long = let long = w.long in omega (arith, long);
      once = (w.away, w.once);
      marks = λ q. preceded_marks f1 f2 e.first.ptr a e.last.ptr end.ptr back q ∙ split (same_ptr a.ptr q)
          (λ same. subst (λ z. (f1 z).linked ≡ is_in z (a.ptr ∷ s)) (same_ptr_eq a.ptr q same) (ap (λ (k : Hook). k.linked) set.here ∙ sym (in_here a.ptr a.ptr s (same_ptr_refl a.ptr))))
          (λ other. ap (λ (k : Hook). k.linked) (set.others q other) ∙ w.marks q other ∙ sym (in_there q a.ptr s (other_way a.ptr q other)));
      chain = ((refl, ap pv kept' ∙ null), subst (λ z. Chain f2 a.ptr z s end.ptr null_ptr) (sym (ap nx kept')) chain2');
    }
