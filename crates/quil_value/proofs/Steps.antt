-- What a division's answer for the rest says of the whole.
use Rattle.std.proofs.Common.{◌≡◌, refl, sym, ◌∙◌, ap, ℕ, suc, ◌^◌, Bool, true, false, ◌&&◌}
use Rattle.std.specs.Bool.{Decides}
use Rattle.std.specs.Ordering.{int_eq}
use Rattle.std.proofs.lemmas.Bool.Decides.{Decides-and, Decides-int_eq}
use Rattle.quil_value.specs.declared.low_end.Digits.{Digits}
use Rattle.quil_value.specs.declared.low_end.Division.{Division}
use Rattle.quil_value.specs.declared.low_end.Division.TheVariants as answer
use Rattle.qvm_ring.specs.Ring.{Element, plus}
use Rattle.qvm_ring.specs.Multiply.{IsWithin}
use Rattle.qvm_ring.proofs.RingLemmas.{same_element}
use Rattle.quil_value.specs.Views.{digit, digits_of}
use Rattle.quil_value.specs.Division.{double, product_with, IsSpanned, IsQuotient, IsFar, IsAnswer, IsAppended}
use Rattle.quil_value.proofs.Turns.{left_of, digits_first, quotient_down, quotient_up, spans_down, base_at, near_at, digit_parts}

-- x is the digits' multiple of 1 + 2w and twice r
abbrev pub Turns : Digits → Element → Element → Element → Type 0
Turns ds w x r = x ≡ plus (product_with (digits_of ds) w) (double r)

pub nothing_up : (ds : Digits) (x w r : Element) (n : ℕ) → Turns ds w x r → ((z : Element) → IsSpanned n z → IsQuotient r w z → ⊥)
    → (z : Element) → IsSpanned (suc n) z → IsQuotient x w z → ⊥
nothing_up ds x w r n e none z s q =
    let k = left_of (digits_of ds) w r z in
    let f : z ≡ plus (digits_of ds) (double k) = digits_first x (digits_of ds) w r z e q in
    none k (record {
      a = spans_down (digit ds.a) z.a k.a n (digit_parts ds.a) (ap (λ (y : Element). y.a) f) s.a;
      b = spans_down (digit ds.b) z.b k.b n (digit_parts ds.b) (ap (λ (y : Element). y.b) f) s.b;
      c = spans_down (digit ds.c) z.c k.c n (digit_parts ds.c) (ap (λ (y : Element). y.c) f) s.c;
      d = spans_down (digit ds.d) z.d k.d n (digit_parts ds.d) (ap (λ (y : Element). y.d) f) s.d;
    }) (quotient_down x (digits_of ds) w r z e q)

pub nothing_last : (ds : Digits) (x w r : Element) → Turns ds w x r → (r ≡ x → ⊥) → (z : Element) → IsSpanned 0 z → IsQuotient x w z → ⊥
nothing_last ds x w r e other z s q =
    let k = left_of (digits_of ds) w r z in
    let f : z ≡ plus (digits_of ds) (double k) = digits_first x (digits_of ds) w r z e q in
    let g : k ≡ z = same_element k z
    (base_at (digit ds.a) z.a k.a (digit_parts ds.a) (ap (λ (y : Element). y.a) f) s.a)
    (base_at (digit ds.b) z.b k.b (digit_parts ds.b) (ap (λ (y : Element). y.b) f) s.b)
    (base_at (digit ds.c) z.c k.c (digit_parts ds.c) (ap (λ (y : Element). y.c) f) s.c)
    (base_at (digit ds.d) z.d k.d (digit_parts ds.d) (ap (λ (y : Element). y.d) f) s.d) in
    other (sym (quotient_down x (digits_of ds) w r z e q) ∙ ap (λ (y : Element). product_with y w) g ∙ q)

near_down : (ds : Digits) (z : Element) → IsWithin (2 ^ 62) (plus (digits_of ds) (double z)) → IsWithin (2 ^ 62) z
near_down ds z h = record {
  a = near_at (digit ds.a) (plus (digits_of ds) (double z)).a z.a (2 ^ 62) (digit_parts ds.a) refl h.a;
  b = near_at (digit ds.b) (plus (digits_of ds) (double z)).b z.b (2 ^ 62) (digit_parts ds.b) refl h.b;
  c = near_at (digit ds.c) (plus (digits_of ds) (double z)).c z.c (2 ^ 62) (digit_parts ds.c) refl h.c;
  d = near_at (digit ds.d) (plus (digits_of ds) (double z)).d z.d (2 ^ 62) (digit_parts ds.d) refl h.d;
}

pub far_up : (ds : Digits) (x w r : Element) → Turns ds w x r → IsFar r w → IsFar x w
far_up ds x w r e f = record {
  quotient = plus (digits_of ds) (double f.quotient);
  product = quotient_up x (digits_of ds) w r f.quotient e f.product;
  far = λ h. f.far (near_down ds f.quotient h);
}

pub appended_answer : (ds : Digits) (x w r z : Element) (n : ℕ) (found : Division) → Turns ds w x r → IsQuotient r w z → IsAppended (plus (digits_of ds) (double z)) found → IsAnswer x w n found
appended_answer ds x w r z n (answer.Exact y) e q h = (ap (λ (t : Element). product_with t w) h.0 ∙ quotient_up x (digits_of ds) w r z e q, h.1)
appended_answer ds x w r z n answer.TooWide e q h = ∣ record { quotient = plus (digits_of ds) (double z); product = quotient_up x (digits_of ds) w r z e q; far = h } ∣₁
appended_answer ds x w r z n answer.Nothing e q h = absurd h

-- the comparison of two numbers
abbrev pub same_test : Element → Element → Bool
same_test x y = int_eq x.a y.a && (int_eq x.b y.b && (int_eq x.c y.c && int_eq x.d y.d))

decides : (x y : Element) → Decides (same_test x y) ((x.a ≡ y.a) × ((x.b ≡ y.b) × ((x.c ≡ y.c) × (x.d ≡ y.d))))
decides x y = Decides-and _ _ (Decides-int_eq x.a y.a) (Decides-and _ _ (Decides-int_eq x.b y.b) (Decides-and _ _ (Decides-int_eq x.c y.c) (Decides-int_eq x.d y.d)))

pub same_if : (x y : Element) → true ≡ same_test x y → x ≡ y
same_if x y e = let h = (decides x y).0 (sym e) in same_element x y h.0 h.1.0 h.1.1.0 h.1.1.1

pub other_if : (x y : Element) → false ≡ same_test x y → x ≡ y → ⊥
other_if x y e f =
    let h : same_test x y ≡ true = (decides x y).1 (ap (λ (z : Element). z.a) f, (ap (λ (z : Element). z.b) f, (ap (λ (z : Element). z.c) f, ap (λ (z : Element). z.d) f))) in
    absurd (let g : false ≡ true = e ∙ h in cc)
