-- How large sums and products of ring elements get.
use Rattle.std.proofs.Common.{◌≡◌, refl, sym, ◌∙◌, ap, subst, ℕ, suc, ◌+◌, ◌*◌, ◌<◌, ◌≤◌, arith}
use Rattle.std.specs.Prelude.{ℤ, pos, negsuc, ◌+ℤ◌, ◌-ℤ◌, ◌*ℤ◌, nat_abs}
use Rattle.std.proofs.lemmas.Int.{ints}
use Rattle.std.proofs.Math.Nat.{mul-le-mul}
use Rattle.std.proofs.Math.IntN.{*ℤ-negsuc}
use Rattle.qvm_ring.specs.Ring.{Element, plus, times}
use Rattle.qvm_ring.specs.Views.{IsBelow}
use Rattle.qvm_ring.specs.Multiply.{IsWithin}
use Rattle.qvm_ring.proofs.RingLemmas.{neg_product}
use Rattle.qvm_ring.proofs.Elements.{abs_neg}

abs_pos : (m : ℕ) (y : ℤ) → nat_abs (pos m *ℤ y) ≡ m * nat_abs y
abs_pos m (pos n) = refl
abs_pos m (negsuc n) = ap nat_abs (*ℤ-negsuc (pos m) n) ∙ abs_neg (pos m *ℤ pos (suc n))

abs_product : (x y : ℤ) → nat_abs (x *ℤ y) ≡ nat_abs x * nat_abs y
abs_product (pos m) y = abs_pos m y
abs_product (negsuc m) y = ap nat_abs (neg_product (pos (suc m)) y) ∙ abs_neg (pos (suc m) *ℤ y) ∙ abs_pos (suc m) y

product_within : (m n : ℕ) (x y : ℤ) → nat_abs x < m → nat_abs y < n → nat_abs (x *ℤ y) ≤ m * n
product_within m n x y h k = subst (λ (i : ℕ). i ≤ m * n) (sym (abs_product x y)) (mul-le-mul (omega arith) (omega arith))

sum_within : (x y : ℤ) (m n : ℕ) → nat_abs x ≤ m → nat_abs y ≤ n → nat_abs (x +ℤ y) ≤ m + n
sum_within x y m n h k = omega (arith, ints)

-- four numbers, added or taken away
less_three : (m : ℕ) (p q r s : ℤ) → nat_abs p ≤ m → nat_abs q ≤ m → nat_abs r ≤ m → nat_abs s ≤ m → nat_abs (p -ℤ q -ℤ r -ℤ s) ≤ 4 * m
less_three m p q r s e f g h = omega (arith, ints)

less_two : (m : ℕ) (p q r s : ℤ) → nat_abs p ≤ m → nat_abs q ≤ m → nat_abs r ≤ m → nat_abs s ≤ m → nat_abs (p +ℤ q -ℤ r -ℤ s) ≤ 4 * m
less_two m p q r s e f g h = omega (arith, ints)

less_one : (m : ℕ) (p q r s : ℤ) → nat_abs p ≤ m → nat_abs q ≤ m → nat_abs r ≤ m → nat_abs s ≤ m → nat_abs (p +ℤ q +ℤ r -ℤ s) ≤ 4 * m
less_one m p q r s e f g h = omega (arith, ints)

all_four : (m : ℕ) (p q r s : ℤ) → nat_abs p ≤ m → nat_abs q ≤ m → nat_abs r ≤ m → nat_abs s ≤ m → nat_abs (p +ℤ q +ℤ r +ℤ s) ≤ 4 * m
all_four m p q r s e f g h = omega (arith, ints)

pub times_within : (m n : ℕ) (x y : Element) → IsBelow m x → IsBelow n y → IsWithin (4 * (m * n)) (times x y)
times_within m n x y h k = record {
  a = less_three (m * n) (x.a *ℤ y.a) (x.b *ℤ y.d) (x.c *ℤ y.c) (x.d *ℤ y.b)
      (product_within m n x.a y.a h.a k.a) (product_within m n x.b y.d h.b k.d) (product_within m n x.c y.c h.c k.c) (product_within m n x.d y.b h.d k.b);
  b = less_two (m * n) (x.a *ℤ y.b) (x.b *ℤ y.a) (x.c *ℤ y.d) (x.d *ℤ y.c)
      (product_within m n x.a y.b h.a k.b) (product_within m n x.b y.a h.b k.a) (product_within m n x.c y.d h.c k.d) (product_within m n x.d y.c h.d k.c);
  c = less_one (m * n) (x.a *ℤ y.c) (x.b *ℤ y.b) (x.c *ℤ y.a) (x.d *ℤ y.d)
      (product_within m n x.a y.c h.a k.c) (product_within m n x.b y.b h.b k.b) (product_within m n x.c y.a h.c k.a) (product_within m n x.d y.d h.d k.d);
  d = all_four (m * n) (x.a *ℤ y.d) (x.b *ℤ y.c) (x.c *ℤ y.b) (x.d *ℤ y.a)
      (product_within m n x.a y.d h.a k.d) (product_within m n x.b y.c h.b k.c) (product_within m n x.c y.b h.c k.b) (product_within m n x.d y.a h.d k.a);
}

pub plus_within : (m n : ℕ) (x y : Element) → IsWithin m x → IsWithin n y → IsWithin (m + n) (plus x y)
plus_within m n x y h k = record {
  a = sum_within x.a y.a m n h.a k.a;
  b = sum_within x.b y.b m n h.b k.b;
  c = sum_within x.c y.c m n h.c k.c;
  d = sum_within x.d y.d m n h.d k.d;
}

pub within_more : (m n : ℕ) (x : Element) → m ≤ n → IsWithin m x → IsWithin n x
within_more m n x l h = record { a = omega (arith, h.a); b = omega (arith, h.b); c = omega (arith, h.c); d = omega (arith, h.d) }
