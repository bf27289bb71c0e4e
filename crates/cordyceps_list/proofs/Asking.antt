-- Which predicates may be asked.
use Rattle.std.proofs.Common.{◌≡◌, ℕ, zero, suc, ◌+◌, ◌-◌, Bool, true, false, List, [], ◌∷◌, ◌++◌, Option, take, drop, slice_get, Some, refl, sym, ap, ◌∙◌, subst, add-one, arith}
use Rattle.std.proofs.lemmas.List.{drop-drop}
use Rattle.std.specs.Array.{list_steps}
use Rattle.std.specs.Borrow.{Bor}
use Rattle.std.specs.Fn.{Mut, CalledAt, TakesAt, always_mut}
use Rattle.std.specs.Iterator.{CallableAtEachTurn, Yields}
use Rattle.std.specs.List.{All, FoldsTo}
use Rattle.cordyceps_base.specs.Element.{Element, Elements, values}
use Rattle.cordyceps_list.specs.Filter.{RemovesFirst}
use Rattle.cordyceps_list.specs.Walks.{Walks, MayAsk, MayAskAll}

module _ {X F : Type 0} {R : F → X → F → Type 0} {Q : F → X → Type 0} where
  at_first : (x : X) (xs : List X) (f : F) → CallableAtEachTurn list_steps R Q (x ∷ xs) f → Q f x
  at_first x xs f h = h.at [] (x ∷ xs) f x xs refl refl refl

  after_first : (x : X) (xs : List X) (f n : F) → CallableAtEachTurn list_steps R Q (x ∷ xs) f → R f x n → CallableAtEachTurn list_steps R Q xs n
  after_first x xs f n h r = record { at = λ ys t q y u along calls step. h.at (x ∷ ys) t q y u (xs, refl, along) (n, r, calls) step }

follows : {X : Type 0} (xs : List X) (k : ℕ) (x : X) → slice_get xs k ≡ Some x → drop k xs ≡ x ∷ drop (suc k) xs
follows [] zero x h = absurd cc
follows [] (suc k) x h = absurd cc
follows (y ∷ xs) zero x h = let e : y ≡ x = cc in ap (λ z. z ∷ xs) e
follows (y ∷ xs) (suc k) x h = follows xs k x h

drop_without : {X : Type 0} (s : Elements X) (j : ℕ) → drop j (values (take j s ++ drop (suc j) s)) ≡ drop (suc j) (values s)
drop_without [] zero = refl
drop_without [] (suc j) = refl
drop_without (e ∷ []) zero = refl
drop_without (e ∷ d ∷ s) zero = refl
drop_without (e ∷ s) (suc j) = drop_without s j

module _ {F X : Type 0} (g : Mut F (Bor X × Unit {0}) Bool) where
  abbrev Any : F → X → F → Type 0
  Any p x q = (r : Bool) × CalledAt g p x r q

  abbrev No : F → X → F → Type 0
  No p x q = CalledAt g p x false q

  each_no : (xs : List X) (p q : F) → FoldsTo No p xs q → FoldsTo Any p xs q
  each_no [] p q c = c
  each_no (x ∷ xs) p q c = (c.0, (false, c.1), each_no xs c.0 q c.2)

  -- who may be asked of all may be asked up to the first `true`
  pub may_ask_some : (xs : List X) (f : F) → MayAskAll g xs f → MayAsk g xs f
  may_ask_some xs f h = record { at = λ ys t q x u along calls step. h.at ys t q x u along (each_no ys f q calls) step }

  always_kept : (xs : List X) (p q : F) → always_mut g p → FoldsTo Any p xs q → always_mut g q
  always_kept [] p q always c = subst (always_mut g) c always
  always_kept (x ∷ xs) p q always c =
      let call = c.1.1 in
      always_kept xs c.0 q (record { at = λ args. (always.at ((call.shown, tt) ∷ args)).1 c.1.0 c.0 call.called }) c.2

  -- and so may who may be called on every value
  pub may_ask_all : (xs : List X) (f : F) → always_mut g f → MayAskAll g xs f
  may_ask_all xs f always = record { at = λ ys t q x u along calls step. λ shown shows. ((always_kept ys f q always calls).at ((shown, tt) ∷ [])).0 }

  all_left : (P : X → Type 0) (xs ys t : List X) → Yields list_steps xs ys t → All P xs → All P t
  all_left P xs [] t along all = subst (All P) along all
  all_left P [] (y ∷ ys) t (mid, step, along) all = absurd cc
  all_left P (x ∷ xs) (y ∷ ys) t (mid, step, along) all = let e : xs ≡ mid = cc in all_left P mid ys t along (subst (All P) e (λ k d inside. all (suc k) d (omega (arith, inside))))

  -- and who may be called on each of the values, whatever it was asked before
  pub may_ask_each : (xs : List X) (f : F) → ((q : F) → All (TakesAt g q) xs) → MayAskAll g xs f
  may_ask_each xs f each = record { at = λ ys t q x u along calls step. subst (All (TakesAt g q)) step (all_left (TakesAt g q) xs ys t along (each q)) 0 x (omega arith) }

  -- the first of the values to be asked of, and the others after a `false`
  pub may_ask_here : (xs : List X) (k : ℕ) (x : X) (f : F) → slice_get xs k ≡ Some x → MayAsk g (drop k xs) f → TakesAt g f x
  may_ask_here xs k x f there h = at_first x (drop (suc k) xs) f (subst (λ l. MayAsk g l f) (follows xs k x there) h)

  pub may_ask_on : (xs : List X) (k : ℕ) (x : X) (f n : F) → slice_get xs k ≡ Some x → CalledAt g f x false n → MayAsk g (drop k xs) f → MayAsk g (drop (k + 1) xs) n
  may_ask_on xs k x f n there call h =
      let e : suc k ≡ k + 1 = omega arith in
      subst (λ i. MayAsk g (drop i xs) n) e (after_first x (drop (suc k) xs) f n (subst (λ l. MayAsk g l f) (follows xs k x there) h) call)

  walked : (xs : List X) (n : ℕ) (f h : F) → Walks (CalledAt g) f xs n h → MayAskAll g xs f → MayAskAll g (drop (suc n) xs) h
  walked [] n f h (none, same) may = subst (MayAskAll g []) (sym same) may
  walked (x ∷ xs) n f h (true, next, call, (none, same)) may =
      subst (λ i. MayAskAll g (drop i xs) h) (sym none) (subst (MayAskAll g xs) (sym same) (after_first x xs f next may (true, call)))
  walked (x ∷ xs) n f h (false, next, call, (m, more, walk)) may =
      let e : suc m ≡ n = omega (arith, more) in
      subst (λ i. MayAskAll g (drop i xs) h) e (walked xs m next h walk (after_first x xs f next may (false, call)))

  -- after the first element that passes, where that was taken out
  pub may_ask_rest : {H : Type 0} (element : H → Element X) (s t : Elements X) (k j : ℕ) (f h : F) (r : Option H) → MayAskAll g (drop k (values s)) f → RemovesFirst element (CalledAt g) s k f r t j h → MayAskAll g (drop j (values t)) h
  may_ask_rest element s t k j f h r may removes =
      let rest = walked (drop k (values s)) (j - k) f h removes.walks may in
      let n : k + suc (j - k) ≡ suc j = omega (arith, removes.from) in
      let e : drop (suc (j - k)) (drop k (values s)) ≡ drop j (values t) =
      drop-drop (suc (j - k)) k (values s) ∙ ap (λ i. drop i (values s)) n ∙ sym (drop_without s j)
      ∙ ap (λ i. drop j (values (take j s ++ drop i s))) (sym (add-one j)) ∙ ap (λ u. drop j (values u)) (sym removes.kept) in
      subst (λ l. MayAskAll g l h) e rest
