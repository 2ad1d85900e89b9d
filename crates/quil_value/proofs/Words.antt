-- Numbers in 128 bits and back.
use Rattle.std.proofs.Common.{◌≡◌, ◌∙◌, sym, ap, ap₂, ◌≤◌, ◌<◌, ◌^◌, arith, ℕ, SFits, of_z, to_z}
use Rattle.std.specs.Int.{w128}
use Rattle.std.specs.Prelude.{ℤ, pos, negsuc, ◌*ℤ◌, nat_abs}
use Rattle.std.proofs.lemmas.Int.{to_z-of_z, to_z_pos}
use Rattle.qvm_ring.specs.Ring.{Element}
use Rattle.quil_value.specs.Views.{stretched}
use Rattle.quil_value.proofs.RationalQuotients.{product_bound}

fits : (z : ℤ) → nat_abs z ≤ 2 ^ 126 → SFits w128 z
fits (pos n) h = record { sfits = (let l : n < 2 ^ 127 = omega (arith, h) in l) }
fits (negsuc n) h = record { sfits = (let l : n < 2 ^ 127 = omega (arith, h) in l) }

pub wide_again : (z : ℤ) → nat_abs z ≤ 2 ^ 126 → to_z w128 (of_z w128 z) ≡ z
wide_again z h = to_z-of_z w128 z (fits z h)

pub product_again : (x y : ℤ) → nat_abs x ≤ 2 ^ 63 → nat_abs y ≤ 2 ^ 63 → to_z w128 (of_z w128 (to_z w128 (of_z w128 x) *ℤ to_z w128 (of_z w128 y))) ≡ x *ℤ y
product_again x y h k =
    ap (λ (z : ℤ). to_z w128 (of_z w128 z)) (ap₂ (λ (p q : ℤ). p *ℤ q) (wide_again x (omega (arith, h))) (wide_again y (omega (arith, k))))
    ∙ wide_again (x *ℤ y) (product_bound x y h k)

-- p s = q r, by the numbers in 128 bits
pub cross_again : (p q r s : ℤ) → nat_abs p ≤ 2 ^ 63 → nat_abs q ≤ 2 ^ 62 → p *ℤ s ≡ q *ℤ r → to_z w128 (of_z w128 p) *ℤ s ≡ to_z w128 (of_z w128 q) *ℤ r
cross_again p q r s h k e = ap (λ (z : ℤ). z *ℤ s) (wide_again p (omega (arith, h))) ∙ e ∙ sym (ap (λ (z : ℤ). z *ℤ r) (wide_again q (omega (arith, k))))

pub whole_again : (n : ℕ) → n ≤ 2 ^ 62 → to_z w128 n ≡ pos n
whole_again n h = to_z_pos w128 n (let l : n < 2 ^ 127 = omega (arith, h) in l)

-- what is multiplied by p and by q, as it is by the numbers in 128 bits
pub stretched_again : (t v l r : Element) (p : ℤ) (q : ℕ) → l ≡ stretched t (to_z w128 q) → r ≡ stretched v (to_z w128 (of_z w128 p)) → nat_abs p ≤ 2 ^ 63 → q ≤ 2 ^ 62
    → (l ≡ stretched t (pos q)) × (r ≡ stretched v p)
stretched_again t v l r p q e f h k = (e ∙ ap (stretched t) (whole_again q k), f ∙ ap (stretched v) (wide_again p (omega (arith, h))))

pub same_again : (t v l r : Element) (p : ℤ) (q : ℕ) → l ≡ stretched t (to_z w128 q) → r ≡ stretched v (to_z w128 (of_z w128 p)) → nat_abs p ≤ 2 ^ 63 → q ≤ 2 ^ 62
    → l ≡ r → stretched t (pos q) ≡ stretched v p
same_again t v l r p q e f h k i = let s = stretched_again t v l r p q e f h k in sym s.0 ∙ i ∙ s.1

pub other_again : (t v l r : Element) (p : ℤ) (q : ℕ) → l ≡ stretched t (to_z w128 q) → r ≡ stretched v (to_z w128 (of_z w128 p)) → nat_abs p ≤ 2 ^ 63 → q ≤ 2 ^ 62
    → (l ≡ r → ⊥) → stretched t (pos q) ≡ stretched v p → ⊥
other_again t v l r p q e f h k i j = let s = stretched_again t v l r p q e f h k in i (s.0 ∙ j ∙ sym s.1)
