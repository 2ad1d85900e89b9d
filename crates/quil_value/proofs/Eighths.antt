-- Powers of ω, which come again after eight.
use Rattle.std.proofs.Common.{◌≡◌, refl, ◌∙◌, ap, ℕ, zero, suc, ◌+◌, ◌-◌, ◌*◌, ◌/◌, ◌%◌, ◌<◌, arith}
use Rattle.std.specs.Prelude.{ℤ, pos, negsuc, neg_ℤ}
use Rattle.std.specs.Int.{int_rem_euclid}
use Rattle.std.proofs.lemmas.Int.{ints}
use borrow.Author.Differences.{same_in}
use Rattle.qvm_ring.specs.Ring.{Element, times, negated, conjugate}
use Rattle.qvm_ring.proofs.RingLemmas.{same_element}
use Rattle.quil_value.specs.Angles.{power_of_omega, turn}

-- ω
abbrev w : Element
w = record { a = pos 0; b = pos 1; c = pos 0; d = pos 0 }

step : (x : Element) → times w x ≡ record { a = neg_ℤ x.d; b = x.a; c = x.b; d = x.c }
step x = same_element (times w x) (record { a = neg_ℤ x.d; b = x.a; c = x.b; d = x.c }) (same_in _ _ (omega (arith, ints))) (same_in _ _ (omega (arith, ints))) (same_in _ _ (omega (arith, ints))) (same_in _ _ (omega (arith, ints)))

four : (x : Element) → times w (times w (times w (times w x))) ≡ negated x
four x = ap (λ (t : Element). times w (times w (times w t))) (step x) ∙ ap (λ (t : Element). times w (times w t)) (step (record { a = neg_ℤ x.d; b = x.a; c = x.b; d = x.c }))
    ∙ ap (times w) (step (record { a = neg_ℤ x.c; b = neg_ℤ x.d; c = x.a; d = x.b })) ∙ step (record { a = neg_ℤ x.b; b = neg_ℤ x.c; c = neg_ℤ x.d; d = x.a })

twice : (x : Element) → negated (negated x) ≡ x
twice x = same_element (negated (negated x)) x (same_in _ _ (omega (arith, ints))) (same_in _ _ (omega (arith, ints))) (same_in _ _ (omega (arith, ints))) (same_in _ _ (omega (arith, ints)))

eight : (n : ℕ) → power_of_omega (suc (suc (suc (suc (suc (suc (suc (suc n)))))))) ≡ power_of_omega n
eight n = four (times w (times w (times w (times w (power_of_omega n))))) ∙ ap negated (four (power_of_omega n)) ∙ twice (power_of_omega n)

again : (j r : ℕ) → power_of_omega (j * 8 + r) ≡ power_of_omega r
again zero r = let e : 0 * 8 + r ≡ r = omega arith in ap power_of_omega e
again (suc j) r =
    let e : suc j * 8 + r ≡ suc (suc (suc (suc (suc (suc (suc (suc (j * 8 + r)))))))) = omega arith in
    ap power_of_omega e ∙ eight (j * 8 + r) ∙ again j r

rest : (n : ℕ) → power_of_omega n ≡ power_of_omega (n % 8)
rest n = let e : n ≡ n / 8 * 8 + n % 8 = omega arith in ap power_of_omega e ∙ again (n / 8) (n % 8)

back : (m : ℕ) → m < 8 → conjugate (power_of_omega (suc m)) ≡ power_of_omega (7 - m)
back zero h = refl
back (suc zero) h = refl
back (suc (suc zero)) h = refl
back (suc (suc (suc zero))) h = refl
back (suc (suc (suc (suc zero)))) h = refl
back (suc (suc (suc (suc (suc zero))))) h = refl
back (suc (suc (suc (suc (suc (suc zero)))))) h = refl
back (suc (suc (suc (suc (suc (suc (suc zero))))))) h = refl
back (suc (suc (suc (suc (suc (suc (suc (suc m)))))))) h = absurd (omega (arith, h))

pub turn_again : (k : ℤ) → turn k ≡ turn (int_rem_euclid k (pos 8))
turn_again (pos n) = rest n
turn_again (negsuc n) = ap (λ (t : Element). conjugate (times w t)) (rest n) ∙ back (n % 8) (omega arith)
