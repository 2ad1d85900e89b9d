-- Whole multiples of ring elements.
use Rattle.std.proofs.Common.{◌≡◌, sym, ◌∙◌, ap, ℕ, ◌*◌, ◌<◌}
use Rattle.qvm_ring.specs.Ring.{Element, whole_number, plus, times, is_zero}
use Rattle.qvm_ring.proofs.Associative.{times_assoc, times_plus}
use Rattle.quil_value.specs.Exact.{scaled_by, is_rational, is_imaginary}
use Rattle.quil_value.proofs.Powers.{times_comm, exchanged, whole_times, cancel_whole}
use Rattle.quil_value.proofs.Spans.{scaled, times_whole}
use Rattle.quil_value.proofs.Settled.{is_zero_scaled, is_rational_scaled, is_imaginary_scaled}

pub scaled_twice : (m n : ℕ) (z : Element) → scaled_by m (scaled_by n z) ≡ scaled_by (m * n) z
scaled_twice m n z = sym (times_assoc (whole_number m) (whole_number n) z) ∙ ap (λ (t : Element). times t z) (whole_times m n)

pub scaled_plus : (n : ℕ) (x y : Element) → scaled_by n (plus x y) ≡ plus (scaled_by n x) (scaled_by n y)
scaled_plus n x y = times_plus (whole_number n) x y

pub scaled_first : (n : ℕ) (x y : Element) → times (scaled_by n x) y ≡ scaled_by n (times x y)
scaled_first n x y = times_assoc (whole_number n) x y

pub scaled_second : (n : ℕ) (x y : Element) → times x (scaled_by n y) ≡ scaled_by n (times x y)
scaled_second n x y = times_comm x (scaled_by n y) ∙ scaled_first n y x ∙ ap (scaled_by n) (times_comm y x)

pub scaled_both : (m n : ℕ) (x y : Element) → times (scaled_by m x) (scaled_by n y) ≡ scaled_by (m * n) (times x y)
scaled_both m n x y = exchanged (whole_number m) x (whole_number n) y ∙ ap (λ (t : Element). times t (times x y)) (whole_times m n)

pub cancel_scaled : (n : ℕ) (x y : Element) → 0 < n → scaled_by n x ≡ scaled_by n y → x ≡ y
cancel_scaled n x y some e = cancel_whole x y n some (times_comm x (whole_number n) ∙ e ∙ times_comm (whole_number n) y)

-- from d z = n x
pub crossed : (d n p q r s t : ℕ) (z x : Element) → scaled_by d z ≡ scaled_by n x → p * q ≡ r * d → r * n ≡ s * t → scaled_by p (scaled_by q z) ≡ scaled_by s (scaled_by t x)
crossed d n p q r s t z x e f g =
    scaled_twice p q z ∙ ap (λ (i : ℕ). scaled_by i z) f ∙ sym (scaled_twice r d z) ∙ ap (scaled_by r) e
    ∙ scaled_twice r n x ∙ ap (λ (i : ℕ). scaled_by i x) g ∙ sym (scaled_twice s t x)

-- ---- what stays

by_whole : (z : Element) (c : ℕ) → scaled_by c z ≡ scaled z c
by_whole z c = times_comm (whole_number c) z ∙ times_whole z c

pub is_zero_by : (z : Element) (c : ℕ) → 0 < c → is_zero (scaled_by c z) ≡ is_zero z
is_zero_by z c some = ap is_zero (by_whole z c) ∙ is_zero_scaled z c some

pub is_rational_by : (z : Element) (c : ℕ) → 0 < c → is_rational (scaled_by c z) ≡ is_rational z
is_rational_by z c some = ap is_rational (by_whole z c) ∙ is_rational_scaled z c some

pub is_imaginary_by : (z : Element) (c : ℕ) → 0 < c → is_imaginary (scaled_by c z) ≡ is_imaginary z
is_imaginary_by z c some = ap is_imaginary (by_whole z c) ∙ is_imaginary_scaled z c some
