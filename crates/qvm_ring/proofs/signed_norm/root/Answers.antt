use Rattle.std.proofs.Common.{sym, subst, rules, ◌≤◌}
use Rattle.std.specs.Prelude.{ℤ, nat_abs}
use Rattle.qvm_ring.specs.Ring.{norm_whole}
use Rattle.qvm_ring.specs.Views.{element_of}
use Rattle.qvm_ring.proofs.Norms.{norm_root_le}
use Rattle.qvm_ring.proofs.NormLoops.{root_parts}
use Rattle.qvm_ring.proofs.signed_norm.root.Goals as goal

pub returns-clause-value : goal.returns-clause-value
returns-clause-value c =
    root_parts (element_of c.args.z) c.product.result c.product-2.result c.sum-first.result c.product-3.result c.product-4.result c.difference-second.result _
    (search rules) (search rules) (search rules) (search rules) (search rules) (search rules) (search rules)

pub returns-clause-bound : goal.returns-clause-bound
returns-clause-bound c = subst (λ (t : ℤ). nat_abs t ≤ norm_whole (element_of c.args.z)) (sym (returns-clause-value c)) (norm_root_le (element_of c.args.z))
