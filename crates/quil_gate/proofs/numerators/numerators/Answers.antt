use Rattle.std.proofs.Common.{refl, ◌^◌}
use Rattle.std.proofs.lemmas.List.Elements.{All-set}
use Rattle.qvm_ring.specs.Views.{element_of}
use Rattle.qvm_ring.specs.Multiply.{IsWithin}
use Rattle.quil_gate.proofs.Numbers.{has_great}
use Rattle.quil_gate.proofs.Paddings.{numerators_push}
use Rattle.quil_gate.proofs.numerators.numerators.Goals as goal

pub returns-in_default-clause-none : goal.returns-in_default-clause-none
returns-in_default-clause-none c = λ e. has_great c.args.m c.args.entries.now c.loop-place.place _ c.loop-place-test.true (c.in_default.ensures.none refl)

pub loop-place-preserved : goal.loop-place-preserved
loop-place-preserved c = record {
  told = numerators_push c.args.m c.args.entries.now c.loop-place.place _ c.loop-place.all c.in-Some.numerator c.loop-place-test.true c.requires c.in-Some.ensures.some c.loop-place.invariant.told;
  small = All-set (λ z. IsWithin (2 ^ 20) (element_of z)) c.loop-place.all c.loop-place.place c.in-Some.numerator c.in-Some.ensures.small c.loop-place.invariant.small;
}
