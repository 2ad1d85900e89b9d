-- What is settled depends on the fraction alone.
use Rattle.std.proofs.Common.{◌≡◌, refl, sym, ◌∙◌, ap, ap₂, ℕ, ◌*◌, ◌/◌, ◌<◌, ◌==◌, zero, suc, Bool, ◌&&◌, inl, inr, Some, None, Result, Ok, Err, if◌then◌else◌, arith}
use Rattle.std.specs.Prelude.{ℤ, pos, ◌*ℤ◌, nat_abs}
use Rattle.std.specs.Ordering.{int_eq}
use Rattle.std.proofs.lemmas.Int.{unsigned_abs-mul}
use Rattle.std.proofs.lemmas.Bool.{eq-eqb}
use Rattle.std.proofs.lemmas.Bool.Decides.{eqb_tells}
use Rattle.std.proofs.Math.Nat.{mul_comm, mul-pos, mul-div-mul_left}
use Rattle.qvm_ring.specs.Ring.{Element, nought, whole_number, times, is_zero}
use Rattle.qvm_ring.proofs.Associative.{int_assoc}
use Rattle.quil_number.specs.declared.fraction.Fraction.{Fraction}
use Rattle.quil_number.specs.Divisor.{common_divisor}
use Rattle.quil_number.specs.Fraction.{lowest}
use Rattle.quil_number.proofs.Fractions.{common_divisor-scaled}
use Rattle.quil_number.proofs.Meanings.{same_lowest}
use Rattle.quil_value.specs.declared.lack.Lack.{Lack}
use Rattle.quil_value.specs.declared.lack.Lack.TheVariants.{NotExact}
use Rattle.quil_value.specs.Exact.{Exact, Ring, Rational, Pi, ImagPi, least, content, divided_by, exponent_of_two, is_rational, is_imaginary, settled_number, settled_angle, settled, scaled_by}
use Rattle.quil_value.proofs.Contents.{content_positive, divided_times}
use Rattle.quil_value.proofs.Powers.{times_comm, whole_times, cancel_whole}
use Rattle.qvm_ring.proofs.Associative.{times_assoc}
use Rattle.quil_value.proofs.Spans.{scaled, times_whole}

one_scaled : (x : ℤ) (c m k : ℕ) → 0 < c → m ≡ c * k → common_divisor (nat_abs (x *ℤ pos c)) m ≡ c * common_divisor (nat_abs x) k
one_scaled x c m k some e = ap₂ common_divisor (unsigned_abs-mul x (pos c) ∙ mul_comm (nat_abs x) c) e ∙ common_divisor-scaled c (nat_abs x) k some

content_of : (z : Element) (n c : ℕ) → 0 < c → content (scaled z c) (c * n) ≡ c * content z n
content_of z n c some =
    one_scaled z.a c _ _ some (one_scaled z.b c _ _ some (one_scaled z.c c _ _ some (one_scaled z.d c (c * n) n some refl)))

rest_of : (z : Element) (n c : ℕ) → 0 < c → c * n / content (scaled z c) (c * n) ≡ n / content z n
rest_of z n c some = ap (λ (g : ℕ). c * n / g) (content_of z n c some) ∙ mul-div-mul_left n (content z n) some

divided_of : (z : Element) (n c : ℕ) → 0 < c → 0 < n → divided_by (content (scaled z c) (c * n)) (scaled z c) ≡ divided_by (content z n) z
divided_of z n c some up =
    let g = content z n in
    let h = content (scaled z c) (c * n) in
    let e : h ≡ c * g = content_of z n c some in
    let w = divided_by g z in
    cancel_whole (divided_by h (scaled z c)) w h (content_positive (scaled z c) (c * n) (mul-pos some up))
    (divided_times (scaled z c) (c * n) ∙ sym (times_whole z c) ∙ ap (λ (t : Element). times t (whole_number c)) (sym (divided_times z n))
    ∙ times_assoc w (whole_number g) (whole_number c) ∙ ap (times w) (whole_times g c ∙ ap whole_number (mul_comm g c ∙ sym e)))

pub zero_test : (a b : ℕ) → (a ≡ 0 → b ≡ 0) → (b ≡ 0 → a ≡ 0) → (a == 0) ≡ (b == 0)
zero_test a b f g = elim (eqb_tells a 0) [
  | inl e ↦ e.0 ∙ sym (eq-eqb b 0 (f e.1))
  | inr e ↦ e.0 ∙ sym (elim (eqb_tells b 0) [
    | inl i ↦ absurd (e.1 (g i.1))
    | inr i ↦ i.0
  ])
]

pub no_factor : (a c : ℕ) → 0 < c → a * c ≡ 0 → a ≡ 0
no_factor zero c some e = refl
no_factor (suc a) c some e = absurd (let h : 0 < suc a * c = mul-pos (omega arith) some in omega (arith, h, e))

zero_scaled : (x : ℤ) (c : ℕ) → 0 < c → (nat_abs (x *ℤ pos c) == 0) ≡ (nat_abs x == 0)
zero_scaled x c some = ap (λ (n : ℕ). n == 0) (unsigned_abs-mul x (pos c)) ∙ zero_test (nat_abs x * c) (nat_abs x) (no_factor (nat_abs x) c some) (λ e. ap (λ (n : ℕ). n * c) e ∙ (omega arith))

pub is_zero_scaled : (z : Element) (c : ℕ) → 0 < c → is_zero (scaled z c) ≡ is_zero z
is_zero_scaled z c some = ap₂ (λ (s t : Bool). s && t) (ap₂ (λ (s t : Bool). s && t) (ap₂ (λ (s t : Bool). s && t) (zero_scaled z.a c some) (zero_scaled z.b c some)) (zero_scaled z.c c some)) (zero_scaled z.d c some)

pub is_rational_scaled : (z : Element) (c : ℕ) → 0 < c → is_rational (scaled z c) ≡ is_rational z
is_rational_scaled z c some = ap₂ (λ (s t : Bool). s && t) (ap₂ (λ (s t : Bool). s && t) (zero_scaled z.b c some) (zero_scaled z.c c some)) (zero_scaled z.d c some)

pub is_imaginary_scaled : (z : Element) (c : ℕ) → 0 < c → is_imaginary (scaled z c) ≡ is_imaginary z
is_imaginary_scaled z c some = ap₂ (λ (s t : Bool). s && t) (ap₂ (λ (s t : Bool). s && t) (zero_scaled z.a c some) (zero_scaled z.b c some)) (zero_scaled z.d c some)

lowest_scaled : (x : ℤ) (n c : ℕ) → 0 < c → 0 < n → lowest (x *ℤ pos c) (c * n) ≡ lowest x n
lowest_scaled x n c some up = same_lowest (x *ℤ pos c) (c * n) x n (mul-pos some up) up (int_assoc x (pos c) (pos n))

-- what is settled, by all that it depends on
abbrev pub number_of : ℕ → Element → Bool → Fraction → Result Exact Lack
number_of m w is_real x = elim (exponent_of_two m) [
  | Some k ↦ Ok (least w (2 * k))
  | None ↦ if is_real then Ok (Rational x) else Err NotExact
]

number_scaled : (z : Element) (n c : ℕ) → 0 < c → 0 < n → settled_number (scaled z c) (c * n) ≡ settled_number z n
unfolding exponent_of_two
number_scaled z n c some up =
    ap (λ (m : ℕ). number_of m (divided_by (content (scaled z c) (c * n)) (scaled z c)) (is_rational (scaled z c)) (lowest (z.a *ℤ pos c) (c * n))) (rest_of z n c some)
    ∙ ap (λ (w : Element). number_of (n / content z n) w (is_rational (scaled z c)) (lowest (z.a *ℤ pos c) (c * n))) (divided_of z n c some up)
    ∙ ap₂ (number_of (n / content z n) (divided_by (content z n) z)) (is_rational_scaled z c some) (lowest_scaled z.a n c some up)

abbrev angle_of : Bool → Bool → Fraction → Fraction → Result Exact Lack
angle_of is_real is_imag x y = if is_real then Ok (Pi x) else (if is_imag then Ok (ImagPi y) else Err NotExact)

angle_scaled : (z : Element) (n c : ℕ) → 0 < c → 0 < n → settled_angle (scaled z c) (c * n) ≡ settled_angle z n
angle_scaled z n c some up =
    ap₂ (λ (s t : Bool). angle_of s t (lowest (z.a *ℤ pos c) (c * n)) (lowest (z.c *ℤ pos c) (c * n))) (is_rational_scaled z c some) (is_imaginary_scaled z c some)
    ∙ ap₂ (angle_of (is_rational z) (is_imaginary z)) (lowest_scaled z.a n c some up) (lowest_scaled z.c n c some up)

abbrev pub by_kind : Bool → ℤ → Result Exact Lack → Result Exact Lack → Result Exact Lack
by_kind none k number angle = if none then Ok (Ring nought 0) else (if int_eq k (pos 0) then number else (if int_eq k (pos 1) then angle else Err NotExact))

pub settled_scaled : (z : Element) (n c : ℕ) (k : ℤ) → 0 < c → 0 < n → settled (scaled_by c z) (c * n) k ≡ settled z n k
settled_scaled z n c k some up =
    ap (λ (t : Element). settled t (c * n) k) (times_comm (whole_number c) z ∙ times_whole z c)
    ∙ ap (λ (b : Bool). by_kind b k (settled_number (scaled z c) (c * n)) (settled_angle (scaled z c) (c * n))) (is_zero_scaled z c some)
    ∙ ap₂ (by_kind (is_zero z) k) (number_scaled z n c some up) (angle_scaled z n c some up)

pub same_settled : (z : Element) (n : ℕ) (w : Element) (m : ℕ) (k : ℤ) → 0 < n → 0 < m → scaled_by m z ≡ scaled_by n w → settled z n k ≡ settled w m k
same_settled z n w m k some up e =
    sym (settled_scaled z n m k up some) ∙ ap₂ (λ (t : Element) (i : ℕ). settled t i k) e (mul_comm m n) ∙ settled_scaled w m n k some up
