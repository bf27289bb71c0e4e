-- Rotations balance a tree of which one side is too high by two.
use Rattle.std.proofs.Common.{◌≡◌, ℕ, suc, ◌≤◌, ◌<◌, max, Bool, not, arith}
use denote.RawPtr.{Ptr}
use Rattle.cordyceps_tree.specs.Trees.{Shape, join, height, Balanced, turned}
use Rattle.cordyceps_tree.proofs.Trees.{height_join, weighed, unweighed}

-- a balanced tree whose height is n or one more
pub record Fine (t : Shape) (n : ℕ) : Type 0 where
  pub balanced : Balanced t
  pub low : n ≤ height t
  pub high : height t ≤ suc n

-- the outer grandchild is not lower than the inner one
pub once_fine : (d : Bool) (a : Shape) (c : Ptr) (m : Shape) (p : Ptr) (e : Shape) → Balanced (join d a c m) → Balanced e → height (join d a c m) ≡ suc (suc (height e)) → height m ≤ height a → Fine (turned d a c m p e) (max (height (join d a c m)) (height e))
once_fine d a c m p e bx be two le =
    let w = weighed d a c m bx in let hx = height_join d a c m in let hi = height_join d m p e in let ht = height_join d a c (join d m p e) in
    let low = w.low in let high = w.high in
    record {
      balanced = unweighed d a c (join d m p e) (record {
        low = omega (arith, two, hx, hi, le, low, high);
        high = omega (arith, two, hx, hi, le, low, high);
        here = w.here;
        there = unweighed d m p e (record { low = omega (arith, two, hx, le, low, high); high = omega (arith, two, hx, le, low, high); here = w.there; there = be });
      });
      low = omega (arith, two, hx, hi, ht, le, low, high);
      high = omega (arith, two, hx, hi, ht, le, low, high);
    }

-- the inner grandchild, with x and y, is higher: it goes up twice
pub twice_fine : (d : Bool) (a : Shape) (c : Ptr) (y : Shape) (g : Ptr) (x : Shape) (p : Ptr) (e : Shape) → Balanced (join d a c (join (not d) x g y)) → Balanced e → height (join d a c (join (not d) x g y)) ≡ suc (suc (height e)) → height a < height (join (not d) x g y) → Fine (join d (join (not d) y c a) g (join d x p e)) (max (height (join d a c (join (not d) x g y))) (height e))
twice_fine d a c y g x p e bx be two lt =
    let w = weighed d a c (join (not d) x g y) bx in let v = weighed (not d) x g y w.there in
    let hx = height_join d a c (join (not d) x g y) in let hm = height_join (not d) x g y in let h1 = height_join (not d) y c a in let h2 = height_join d x p e in let ht = height_join d (join (not d) y c a) g (join d x p e) in
    let l1 = w.low in let l2 = w.high in let l3 = v.low in let l4 = v.high in
    record {
      balanced = unweighed d (join (not d) y c a) g (join d x p e) (record {
        low = omega (arith, two, hx, hm, h1, h2, lt, l1, l2, l3, l4);
        high = omega (arith, two, hx, hm, h1, h2, lt, l1, l2, l3, l4);
        here = unweighed (not d) y c a (record { low = omega (arith, two, hx, hm, lt, l1, l2, l3, l4); high = omega (arith, two, hx, hm, lt, l1, l2, l3, l4); here = v.there; there = w.here });
        there = unweighed d x p e (record { low = omega (arith, two, hx, hm, lt, l1, l2, l3, l4); high = omega (arith, two, hx, hm, lt, l1, l2, l3, l4); here = v.here; there = be });
      });
      low = omega (arith, two, hx, hm, h1, h2, ht, lt, l1, l2, l3, l4);
      high = omega (arith, two, hx, hm, h1, h2, ht, lt, l1, l2, l3, l4);
    }
