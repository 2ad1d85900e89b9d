-- Halves of sums, and products with √2.
use Rattle.std.proofs.Common.{◌≡◌, refl, zero, suc, arith}
use Rattle.std.specs.Prelude.{ℤ, pos, negsuc, ◌+ℤ◌, ◌-ℤ◌, neg_ℤ}
use Rattle.std.proofs.lemmas.Int.{ints}
use borrow.Author.Differences.{same_in}
use Rattle.qvm_ring.specs.Ring.{Element, times, root_two, same_parity}
use Rattle.qvm_ring.proofs.RingLemmas.{same_element}

pub less_negated : (x y : ℤ) → x -ℤ neg_ℤ y ≡ x +ℤ y
less_negated x y = same_in _ _ (omega (arith, ints))

pub parity_negated : (x y : ℤ) → same_parity x (neg_ℤ y) ≡ same_parity x y
parity_negated x (pos zero) = refl
parity_negated x (pos (suc n)) = refl
parity_negated x (negsuc n) = refl

pub times_root_two : (z : Element) → times root_two z ≡ record { a = z.b -ℤ z.d; b = z.a +ℤ z.c; c = z.b +ℤ z.d; d = z.c -ℤ z.a }
times_root_two z = same_element _ _ (same_in _ _ (omega (arith, ints))) (same_in _ _ (omega (arith, ints))) (same_in _ _ (omega (arith, ints))) (same_in _ _ (omega (arith, ints)))
