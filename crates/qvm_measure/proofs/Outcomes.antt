-- What an outcome keeps, and the size of the states of the tests.
use Rattle.std.proofs.Common.{◌≡◌, ◌≢◌, refl, sym, ℕ, ◌^◌, ◌<◌, ◌≤◌, Bool, true, false, [], arith}
use Rattle.qvm_ring.specs.Ray.{Ray, IsFiniteMap}
use Rattle.qvm_ring.specs.Measure.{outcome, kept}
use Rattle.qvm_ring.specs.NormViews.{bit_number}

-- the part that an outcome keeps, from the two laws on outcomes
pub outcome_keeps : (ray : Ray) (high q word : ℕ) (b : Bool) → IsFiniteMap 0 high ray → ray ≢ [] → word < 2 ^ 32 → b ≡ outcome ray q word →
    ((r : Ray) (h k w : ℕ) → IsFiniteMap 0 h r → r ≢ [] → outcome r k w ≡ true → kept r k 1 ≢ []) →
    ((r : Ray) (h k w : ℕ) → IsFiniteMap 0 h r → r ≢ [] → w < 2 ^ 32 → outcome r k w ≡ false → kept r k 0 ≢ []) → kept ray q (bit_number b) ≢ []
outcome_keeps ray high q word true m s w e for_one for_zero = for_one ray high q word m s (sym e)
outcome_keeps ray high q word false m s w e for_one for_zero = for_zero ray high q word m s w (sym e)

pub four_amplitudes : (n : ℕ) × (n ≤ 16) × (4 ≡ 2 ^ n)
four_amplitudes = (2, omega arith, refl)
