-- Whether a gate is unitary, as a test that can be computed. By the law `unitarity_is_tested` it holds exactly of the gates of which
-- `IsUnitary` holds.
use Rattle.std.specs.Prelude.{ℕ, zero, suc, ◌^◌, ◌==◌, ℤ, pos, negsuc, Bool, true, false, ◌&&◌}
use Rattle.qvm_ring.specs.Ring.{Element}
use Rattle.qvm_ring.specs.Gate.{Gate, gram_entry, cogram_entry, identity_entry}

-- the test holds at each number below n
abbrev pub each_below : ℕ → (ℕ → Bool) → Bool
each_below zero test = true
each_below (suc n) test = each_below n test && test n

-- equal whole numbers
abbrev pub same_whole : ℤ → ℤ → Bool
same_whole (pos m) (pos n) = m == n
same_whole (negsuc m) (negsuc n) = m == n
same_whole (pos m) (negsuc n) = false
same_whole (negsuc m) (pos n) = false

-- equal elements
abbrev pub same : Element → Element → Bool
same x y = same_whole x.a y.a && same_whole x.b y.b && same_whole x.c y.c && same_whole x.d y.d

-- both products of the gate and its conjugate transpose are the identity at this row and column
abbrev pub has_products : Gate → ℕ → ℕ → Bool
has_products g row column =
    same (gram_entry g row column) (identity_entry g row column) && same (cogram_entry g row column) (identity_entry g row column)

-- and so at each
unfoldable pub is_unitary : Gate → Bool
is_unitary g = each_below (2 ^ g.arity) (λ row. each_below (2 ^ g.arity) (has_products g row))
