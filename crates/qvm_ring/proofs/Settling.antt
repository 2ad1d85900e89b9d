-- Whether a product is light, step by step.
use Rattle.std.proofs.Common.{◌≡◌, ap, ℕ, ◌+◌, ◌*◌, ◌^◌, ◌<◌, ◌≤◌, arith, add-one}
use Rattle.std.specs.Prelude.{nat_abs}
use Rattle.std.proofs.Math.Nat.{mul-le-mul}
use Rattle.qvm_ring.specs.Ring.{Element, norm_whole}
use Rattle.qvm_ring.specs.Ray.{ray_of, weight, weight_limit}
use Rattle.qvm_ring.proofs.Vectors.{weight_step, weight_room}

square_heavy : (n : ℕ) → 2 ^ 48 ≤ n → 2 ^ 94 < n * n
square_heavy n h = let m : 2 ^ 48 * 2 ^ 48 ≤ n * n = mul-le-mul h h in omega arith

pub heavy_a : (z : Element) → 2 ^ 48 ≤ nat_abs z.a → weight_limit < norm_whole z
heavy_a z h = omega (arith, square_heavy (nat_abs z.a) h)

pub heavy_b : (z : Element) → 2 ^ 48 ≤ nat_abs z.b → weight_limit < norm_whole z
heavy_b z h = omega (arith, square_heavy (nat_abs z.b) h)

pub heavy_c : (z : Element) → 2 ^ 48 ≤ nat_abs z.c → weight_limit < norm_whole z
heavy_c z h = omega (arith, square_heavy (nat_abs z.c) h)

pub heavy_d : (z : Element) → 2 ^ 48 ≤ nat_abs z.d → weight_limit < norm_whole z
heavy_d z h = omega (arith, square_heavy (nat_abs z.d) h)

-- one element is too heavy
pub heavy_one : (n : ℕ) (f : ℕ → Element) (i : ℕ) (z : Element) → i < n → z ≡ f i → weight_limit < norm_whole z → weight_limit < weight (ray_of n f)
heavy_one n f i z h e w = omega (arith, weight_room n f i h, ap norm_whole e, w)

-- the sum so far is too heavy
pub heavy_sum : (n : ℕ) (f : ℕ → Element) (i : ℕ) (z : Element) (total w : ℕ) → i < n → z ≡ f i → total ≡ weight (ray_of i f) → w ≡ norm_whole z → weight_limit < total + w →
    weight_limit < weight (ray_of n f)
heavy_sum n f i z total w h e p q l = omega (arith, weight_room n f i h, ap norm_whole e, p, q, l)

pub total_next : (f : ℕ → Element) (i : ℕ) (z : Element) (total w : ℕ) → z ≡ f i → total ≡ weight (ray_of i f) → w ≡ norm_whole z → total + w ≡ weight (ray_of (i + 1) f)
total_next f i z total w e p q = omega (arith, weight_step i f, ap norm_whole e, p, q, ap (λ (k : ℕ). weight (ray_of k f)) (add-one i))
