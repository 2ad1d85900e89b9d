use Rattle.std.proofs.Common.{sym, ◌∙◌, subst, ◌/◌, ◌^◌, arith}
use Rattle.qvm_ring.specs.Multiply.{IsWithin}
use Rattle.qvm_kernel.proofs.Roots.{even_root, odd_root, small_power, whole_within, root_within, whole_stored, root_stored}
use Rattle.qvm_kernel.proofs.root.root_two_to.Goals as goal

pub returns-then-m-eq0-clause-value : goal.returns-then-m-eq0-clause-value
returns-then-m-eq0-clause-value c =
    whole_stored c.args.m c.power_of_two-power.result c.requires c.power_of_two-power.ensures ∙ sym (even_root c.args.m c.if-m-eq0.true)

pub returns-then-m-eq0-clause-bound : goal.returns-then-m-eq0-clause-bound
returns-then-m-eq0-clause-bound c =
    subst (IsWithin (2 ^ 20)) (sym (whole_stored c.args.m c.power_of_two-power.result c.requires c.power_of_two-power.ensures))
    (whole_within (2 ^ (c.args.m / 2)) (small_power c.args.m c.requires))

pub returns-clause-value : goal.returns-clause-value
returns-clause-value c =
    root_stored c.args.m c.power_of_two-power.result c.requires c.power_of_two-power.ensures ∙ sym (odd_root c.args.m (omega (arith, c.if-m-eq0.false)))

pub returns-clause-bound : goal.returns-clause-bound
returns-clause-bound c =
    subst (IsWithin (2 ^ 20)) (sym (root_stored c.args.m c.power_of_two-power.result c.requires c.power_of_two-power.ensures))
    (root_within (2 ^ (c.args.m / 2)) (small_power c.args.m c.requires))
