use Rattle.std.proofs.Common.{sym, subst, ◌^◌}
use Rattle.qvm_ring.specs.Multiply.{IsWithin}
use Rattle.qvm_ring.specs.Views.{wide_element}
use Rattle.quil_value.proofs.RationalQuotients.{root_bound, root_value}
use Rattle.quil_value.proofs.rational_quotient.leveled.Goals as goal

pub returns-else-m-n-clause-value : goal.returns-else-m-n-clause-value
returns-else-m-n-clause-value c = root_value (wide_element c.args.z) (wide_element c.rooted.result) c.args.m c.rooted.ensures.value

pub returns-else-m-n-clause-number : goal.returns-else-m-n-clause-number
returns-else-m-n-clause-number c = subst (IsWithin (2 ^ 63)) (sym c.rooted.ensures.value) (root_bound (wide_element c.args.z) c.requires.number)
