use Rattle.std.proofs.Common.{sym, ◌∙◌}
use Rattle.qvm_ring.specs.Views.{element_of, wide_element}
use Rattle.qvm_ring.proofs.Products.{plus_zero_entry, plus_zero_amplitude}
use Rattle.qvm_kernel.proofs.product.plus_product.Goals as goal

pub returns-then-is_zero-clause-value : goal.returns-then-is_zero-clause-value
returns-then-is_zero-clause-value c = sym (plus_zero_entry (wide_element c.args.so_far) (element_of c.args.entry) (element_of c.args.amplitude) (sym c.is_zero.ensures ∙ c.if-is_zero.true))

pub returns-then-is_zero-2-clause-value : goal.returns-then-is_zero-2-clause-value
returns-then-is_zero-2-clause-value c = sym (plus_zero_amplitude (wide_element c.args.so_far) (element_of c.args.entry) (element_of c.args.amplitude) (sym c.is_zero-2.ensures ∙ c.if-is_zero-2.true))
