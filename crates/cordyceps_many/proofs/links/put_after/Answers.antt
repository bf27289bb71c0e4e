use Rattle.std.proofs.Common.{◌≡◌, true, [], ◌∷◌, ◌++◌, sym, subst}
use Rattle.cordyceps_many.specs.Rows.{hook_at}
use Rattle.cordyceps_many.specs.Threads.{is_in, IsOpen, with_after, IsThread, IsParted}
use Rattle.cordyceps_many.proofs.Between.{front_of, back_of, joined_after, parted_after, after_is}
use Rattle.cordyceps_many.proofs.Reached.{all_in}
use Rattle.cordyceps_many.proofs.Threads.{open_goes}
use Rattle.cordyceps_many.proofs.links.put_after.Goals as goal

pub hook_of-requires-clause-there : goal.hook_of-requires-clause-there
hook_of-requires-clause-there g c =
    let (s, w, has) = c.requires.around in
    all_in c.args.row.now.boxes.blocks c.requires.comparable c.args.i c.args.ends s (open_goes (hook_at c.args.row.now.boxes.blocks c.args.i) c.args.ends s c.args.at w) c.address_of-other.result.ptr (subst (λ z. is_in z s ≡ true) (sym c.address_of-other.ensures) has)

pub put_between-requires-clause-around : goal.put_between-requires-clause-around
put_between-requires-clause-around g c =
    let (s, w, has) = c.requires.around in
    let f = hook_at c.args.row.now.boxes.blocks c.args.i in let e = c.args.ends in let p = c.address_of-at.result.ptr in let q = c.address_of-other.result.ptr in
    let there = subst (λ z. is_in z s ≡ true) (sym c.address_of-other.ensures) has in let v = subst (IsOpen f e s) (sym c.address_of-at.ensures) w in
    let front = front_of f e s q w.once w.chain there ++ q ∷ [] in let back = back_of f e s q w.once w.chain there in let is : s ≡ front ++ back = joined_after f e s q w.once w.chain there in
    let d = subst (λ h. IsParted f e front q h.next.ptr back) (sym c.hook_of.ensures) (parted_after f e s q w.once w.chain there) in
    (front, back, subst (λ z. IsOpen f e z p) is v, d)

pub returns-clause-thread : goal.returns-clause-thread
returns-clause-thread g c = λ s w has.
    let f = hook_at c.args.row.now.boxes.blocks c.args.i in let e = c.args.ends in let p = c.address_of-at.result.ptr in let q = c.address_of-other.result.ptr in
    let there = subst (λ z. is_in z s ≡ true) (sym c.address_of-other.ensures) has in let v = subst (IsOpen f e s) (sym c.address_of-at.ensures) w in
    let front = front_of f e s q w.once w.chain there ++ q ∷ [] in let back = back_of f e s q w.once w.chain there in let is : s ≡ front ++ back = joined_after f e s q w.once w.chain there in
    let d = subst (λ h. IsParted f e front q h.next.ptr back) (sym c.hook_of.ensures) (parted_after f e s q w.once w.chain there) in
    let g = hook_at c.put_between.new.row.boxes.blocks c.args.i in let r = c.put_between.result in
    let put = subst (IsThread g r) (after_is f e s q w.once w.chain there p) (c.put_between.ensures.thread front back (subst (λ z. IsOpen f e z p) is v) d) in
    subst (λ z. IsThread g r (with_after c.args.other z s)) c.address_of-at.ensures (subst (λ z. IsThread g r (with_after z p s)) c.address_of-other.ensures put)
