use Rattle.std.proofs.Common.{ℕ, ◌^◌, ◌∙◌, ap}
use Rattle.qvm_ring.specs.Views.{elements_of}
use Rattle.quil_code.specs.StandardGates.{standard}
use Rattle.quil_code.proofs.Matrices.{is_matrix_of_parts, is_gate_of_parts, fine_standard}
use Rattle.quil_code.proofs.matrix.matrix_of.Goals as goal

pub invariant_of-result : goal.invariant_of-result
invariant_of-result c =
    is_matrix_of_parts (standard c.args.gate c.args.eighths) (elements_of c.entries_of-entries.result) c.size_of_arity.result c.arity-2.result c.root_twos.result
    (c.size_of_arity.ensures ∙ ap (λ (n : ℕ). 2 ^ n) c.arity.ensures.value) c.arity-2.ensures.value c.root_twos.ensures c.entries_of-entries.ensures
    (fine_standard c.args.gate c.args.eighths c.requires)

pub returns : goal.returns
returns c =
    is_gate_of_parts (standard c.args.gate c.args.eighths) (elements_of c.entries_of-entries.result) c.size_of_arity.result c.arity-2.result c.root_twos.result
    (c.size_of_arity.ensures ∙ ap (λ (n : ℕ). 2 ^ n) c.arity.ensures.value) c.arity-2.ensures.value c.root_twos.ensures c.entries_of-entries.ensures
