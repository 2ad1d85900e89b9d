-- Whole numbers in the ring, and whole numbers times i. Nothing here has a width.
use Rattle.std.specs.Prelude.{ℤ, pos}
use Rattle.qvm_ring.specs.Ring.{Element}

abbrev pub real_number : ℤ → Element
real_number p = record { a = p; b = pos 0; c = pos 0; d = pos 0 }

abbrev pub imaginary_number : ℤ → Element
imaginary_number p = record { a = pos 0; b = pos 0; c = p; d = pos 0 }
