-- Fingers of a chain that changes.
use Rattle.std.proofs.Common.{◌≡◌, ℕ, zero, suc, refl, ◌+◌, ◌-◌, ◌<◌, ◌≤◌, List, [], ◌∷◌, ◌++◌, length, take, drop, slice_get, Some, sym, ap, ◌∙◌, subst, arith, length-append, length-drop}
use Rattle.std.proofs.lemmas.List.{length-take, append-nil}
use Rattle.std.proofs.Math.Seq.{take-append_seam}
use denote.RawPtr.{Ptr}
use Rattle.cordyceps_base.specs.declared.boxes.Address.{Address}
use Rattle.cordyceps_base.specs.Element.{Element}
use Rattle.cordyceps_base.specs.Nodes.{Nodes, spots, IsAt, with_item}
use Rattle.cordyceps_base.proofs.Places.{spot_before, spot_pushed, spot_pulled, spots-with_item, length-with_item}
use Rattle.cordyceps_list.specs.declared.finger.Finger.{Finger}
use Rattle.cordyceps_list.specs.declared.finger.Fingers.{Fingers}
use Rattle.cordyceps_list.specs.Fingers.{FingerFits, FingersFit}
use Rattle.cordyceps_list.specs.Position.{StandsAt}

module _ {X : Type 0} where
  -- the first nodes stay
  pub fits_kept : (c d : Nodes X) (f : Finger) (k : ℕ) (more : Nodes X) → FingerFits c f → f.index < k → k ≤ length c → d ≡ take k c ++ more → FingerFits d f
  fits_kept c d f k more fits before front is =
      λ on_node. subst (λ (e : Nodes X). IsAt e f.index f.address) (sym is) (spot_before c more k f.index f.address.ptr before (fits (omega arith)))

  -- on the node before which others were put in
  pub fits_pushed : (c d more : Nodes X) (f : Finger) (k : ℕ) → d ≡ take k c ++ (more ++ drop k c) → k ≤ length c → f.index ≡ k + length more → (k < length c → IsAt c k f.address) → FingerFits d f
  fits_pushed c d more f k is within here at =
      let long = ap length is ∙ length-append (take k c) (more ++ drop k c) in
      let rest = length-append more (drop k c) in
      let short = length-take k c in
      let left = length-drop k c in
      let address = f.address.ptr in
      λ on_node.
      let there : slice_get (spots (take k c ++ (more ++ drop k c))) (k + length more) ≡ Some address = spot_pushed c more k k address (omega arith) (at (omega arith)) in
      subst (λ (e : Nodes X). slice_get (spots e) f.index ≡ Some address) (sym is) (subst (λ (n : ℕ). slice_get (spots (take k c ++ (more ++ drop k c))) n ≡ Some address) (sym here) there)

  -- on the node that comes where one was taken out
  pub fits_next : (c d : Nodes X) (f : Finger) (k : ℕ) → k < length c → d ≡ take k c ++ drop (k + 1) c → f.index ≡ k → (k + 1 < length c → IsAt c (k + 1) f.address) → FingerFits d f
  fits_next c d f k inside is here next =
      let long = ap length is ∙ length-append (take k c) (drop (k + 1) c) in
      let short = length-take k c in
      let left = length-drop (k + 1) c in
      let address = f.address.ptr in
      λ on_node.
      let there : slice_get (spots (take k c ++ drop (k + 1) c)) (k + 1 - 1) ≡ Some address = spot_pulled c k (k + 1) address (omega arith) (next (omega arith)) in
      subst (λ (e : Nodes X). slice_get (spots e) f.index ≡ Some address) (sym is) (subst (λ (n : ℕ). slice_get (spots (take k c ++ drop (k + 1) c)) n ≡ Some address) (omega arith) there)

  fits_front : (c d : Nodes X) (f : Finger) (k : ℕ) → FingerFits c f → k ≤ length c → d ≡ take k c → FingerFits d f
  fits_front c d f k fits front is =
      let long = ap length is ∙ length-take k c in
      λ on_node. fits_kept c d f k [] fits (omega arith) front (is ∙ sym (append-nil (take k c))) on_node

  -- the front finger is on no node
  pub fit_off : (c : Nodes X) (fs : Fingers) → length c ≤ fs.front.index → FingersFit c fs
  fit_off c fs off = record { front = λ on_node. absurd (omega arith); back = λ on_front on_node. absurd (omega arith) }

  -- the front finger is on a node, and the back one on none
  pub fit_stand : (c : Nodes X) (fs : Fingers) (f : Finger) → fs.front ≡ f → FingerFits c f → length c ≤ fs.back.index → FingersFit c fs
  fit_stand c fs f is fits off = record { front = subst (FingerFits c) (sym is) fits; back = λ on_front on_node. absurd (omega arith) }

  -- the first nodes are left
  pub fit_front : (c d : Nodes X) (fs : Fingers) (k : ℕ) → FingersFit c fs → k ≤ length c → d ≡ take k c → FingersFit d fs
  fit_front c d fs k fit front is =
      let long = ap length is ∙ length-take k c in
      record { front = fits_front c d fs.front k fit.front front is; back = λ on_front. fits_front c d fs.back k (fit.back (omega arith)) front is }

  -- the last node is gone
  pub fit_less : (c d : Nodes X) (n : Ptr × Element X) (fs : Fingers) → FingersFit c fs → c ≡ d ++ n ∷ [] → FingersFit d fs
  fit_less c d n fs fit is =
      let long = ap length is ∙ length-append d (n ∷ []) in
      let front : take (length d) c ≡ d = rw is (take-append_seam d (n ∷ [])) in
      fit_front c d fs (length d) fit (omega arith) (sym front)

  -- a written value moves no node
  fits_written : (c : Nodes X) (k : ℕ) (w : X) (f : Finger) → FingerFits c f → FingerFits (with_item c k w) f
  fits_written c k w f fits =
      let long = length-with_item c k w in
      λ on_node. subst (λ (ps : List Ptr). slice_get ps f.index ≡ Some f.address.ptr) (sym (spots-with_item c k w)) (fits (omega arith))

  pub fit_written : (c : Nodes X) (k : ℕ) (w : X) (fs : Fingers) → FingersFit c fs → FingersFit (with_item c k w) fs
  fit_written c k w fs fit =
      let long = length-with_item c k w in
      record { front = fits_written c k w fs.front fit.front; back = λ on_front. fits_written c k w fs.back (fit.back (omega arith)) }

  -- a cursor stays at its node, before which others were put in
  pub stands_pushed : (c d more : Nodes X) (p : Address) (k : ℕ) → d ≡ take k c ++ (more ++ drop k c) → StandsAt c p k → StandsAt d p (k + length more)
  stands_pushed c d more p k is at =
      record {
        within = omega (arith, at.within, ap length is, length-append (take k c) (more ++ drop k c), length-append more (drop k c), length-take k c, length-drop k c);
        on = fits_pushed c d more (record { address = p; index = k + length more }) k is at.within refl at.on;
      }

  -- after which others are now
  pub stands_kept : (c d more : Nodes X) (p : Address) (k : ℕ) → k < length c → d ≡ take (k + 1) c ++ more → StandsAt c p k → StandsAt d p k
  stands_kept c d more p k inside is at =
      record {
        within = omega (arith, inside, ap length is, length-append (take (k + 1) c) more, length-take (k + 1) c);
        on = fits_kept c d (record { address = p; index = k }) (k + 1) more at.on (omega arith) (omega (arith, inside)) is;
      }

  -- after which none is now
  pub stands_last : (c d : Nodes X) (p : Address) (k : ℕ) → k < length c → d ≡ take (k + 1) c → StandsAt c p k → StandsAt d p k
  stands_last c d p k inside is at = stands_kept c d [] p k inside (is ∙ sym (append-nil (take (k + 1) c))) at

  -- where its node was taken out, it is at the next one
  pub stands_next : (c d : Nodes X) (p : Address) (k : ℕ) → k < length c → d ≡ take k c ++ drop (k + 1) c → (k + 1 < length c → IsAt c (k + 1) p) → StandsAt d p k
  stands_next c d p k inside is next =
      record {
        within = omega (arith, inside, ap length is, length-append (take k c) (drop (k + 1) c), length-take k c);
        on = fits_next c d (record { address = p; index = k }) k inside is refl next;
      }

  spot_first : (c : Nodes X) (k : ℕ) (p : Ptr) → slice_get (spots c) k ≡ Some p → slice_get (spots (drop k c)) 0 ≡ Some p
  spot_first [] zero p at = at
  spot_first [] (suc k) p at = absurd cc
  spot_first (n ∷ c) zero p at = at
  spot_first (n ∷ c) (suc k) p at = spot_first c k p at

  -- its node is the first one now
  pub stands_first : (c d : Nodes X) (p : Address) (k : ℕ) → d ≡ drop k c → StandsAt c p k → StandsAt d p 0
  stands_first c d p k is at =
      let long = ap length is ∙ length-drop k c in
      record {
        within = omega arith;
        on = λ some. subst (λ (e : Nodes X). IsAt e 0 p) (sym is) (spot_first c k p.ptr (at.on (omega arith)));
      }

  -- a written value moves no node
  pub stands_written : (c : Nodes X) (k : ℕ) (w : X) (p : Address) (i : ℕ) → StandsAt c p i → StandsAt (with_item c k w) p i
  stands_written c k w p i at =
      record {
        within = omega (arith, at.within, length-with_item c k w);
        on = fits_written c k w (record { address = p; index = i }) at.on;
      }
