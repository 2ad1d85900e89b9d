use Rattle.qvm_ring.specs.Views.{wide_element}
use Rattle.quil_value.proofs.QuotientBounds.{IsRaised}
use Rattle.quil_value.proofs.ring_quotient.raised.Given as goal

abbrev pub invariant-loop-turn : goal.invariant-loop-turn
invariant-loop-turn l = IsRaised (wide_element l.fn.z) l._turn (wide_element l.number)
