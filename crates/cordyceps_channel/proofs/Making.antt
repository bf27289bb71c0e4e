-- That no two senders of a new channel act under the same name.
use Rattle.std.proofs.Common.{◌≡◌, ℕ, zero, suc, ◌+◌, ◌<◌, List, [], ◌∷◌, ◌++◌, length, get_or, refl, sym, ap, ◌∙◌, subst, arith}
use Rattle.std.proofs.lemmas.List.{length-append}
use Rattle.atomic_table.specs.Seated.{TableId}
use Rattle.cordyceps_shared.specs.Shares.{Name, first_name}
use Rattle.cordyceps_queue.specs.Shared.Calls.{PartyOf, capacity}
use Rattle.cordyceps_channel.specs.Channels.{AreNewSenders, FreshOf, HaveChannel, IsEmptyChannel, IsNewSender, received, rooms_under}
use Rattle.cordyceps_channel.proofs.Registering.{names_differ}

-- a channel with n rooms that has so many senders
pub record HasSenders {E : Type 0} (n many : ℕ) (f : FreshOf E) (us : List (PartyOf E)) : Type 0 where
  pub rooms : capacity f.table ≡ rooms_under n
  pub none : received f.receiver ≡ []
  pub senders : f.senders ≡ length us
  pub count : length us ≡ many
  pub made : AreNewSenders f.table 0 us

module _ {E : Type 0} where
  new_at : (z : TableId) (us : List (PartyOf E)) (n k : ℕ) (d : PartyOf E) → k < length us → AreNewSenders z n us → IsNewSender z (n + k) (get_or us k d)
  new_at z [] n k d h all = absurd (omega (arith, h))
  new_at z (u ∷ us) n zero d h all = subst (λ m. IsNewSender z m u) (omega arith) all.0
  new_at z (u ∷ us) n (suc k) d h all = subst (λ m. IsNewSender z m (get_or us k d)) (omega arith) (new_at z us (suc n) k d (omega (arith, h)) all.1)

  new_more : (z : TableId) (us : List (PartyOf E)) (n : ℕ) (u : PartyOf E) → AreNewSenders z n us → IsNewSender z (n + length us) u → AreNewSenders z n (us ++ u ∷ [])
  new_more z [] n u all last = (subst (λ m. IsNewSender z m u) (omega arith) last, tt)
  new_more z (v ∷ us) n u all last = (all.0, new_more z us (suc n) u all.1 (subst (λ m. IsNewSender z m u) (omega arith) last))

  pub no_senders : (n : ℕ) (f : FreshOf E) → IsEmptyChannel n f → HasSenders n 0 f []
  no_senders n f e = record { rooms = e.rooms; none = e.none; senders = e.senders; count = refl; made = tt }

  pub one_sender_more : (n many : ℕ) (f g : FreshOf E) (us : List (PartyOf E)) (u : PartyOf E) → HasSenders n many f us → IsNewSender f.table f.senders u → g ≡ record f { senders = f.senders + 1 } → HasSenders n (many + 1) g (us ++ u ∷ [])
  one_sender_more n many f g us u h new is =
      let longer = length-append us (u ∷ []) in
      let last : IsNewSender f.table (0 + length us) u = subst (λ m. IsNewSender f.table m u) (omega (arith, h.senders)) new in
      subst (λ (k : FreshOf E). HasSenders n (many + 1) k (us ++ u ∷ [])) (sym is)
      record { rooms = h.rooms; none = h.none; senders = omega (arith, h.senders, longer); count = omega (arith, h.count, longer); made = new_more f.table us 0 u h.made last }

  pub all_senders : (n many : ℕ) (f : FreshOf E) (us : List (PartyOf E)) (w : PartyOf E) → HasSenders n many f us → w ≡ f.receiver → w.table ≡ f.table → HaveChannel n many us w
  all_senders n many f us w h is table = record {
    count = h.count;
    each = λ k d below. let m = new_at f.table us 0 k d below h.made in record { table = table ∙ sym m.table; rooms = ap capacity m.table ∙ h.rooms; unsent = m.unsent; none = ap (λ v. received v) is ∙ h.none };
    apart = λ i j d less below e.
        let a = new_at f.table us 0 i d (omega (arith, less, below)) h.made in
        let b = new_at f.table us 0 j d below h.made in
        names_differ (0 + i) (0 + j) (λ same. omega (arith, less, same)) (sym (ap (λ (s : List Name). first_name s) a.share) ∙ (e ∙ ap (λ (s : List Name). first_name s) b.share));
    none = ap (λ v. received v) is ∙ h.none;
  }
