use Rattle.std.proofs.Common.{ℕ, ◌^◌, ◌∙◌, ap}
use Rattle.qvm_ring.specs.Views.{elements_of}
use Rattle.quil_code.specs.Controls.{daggered}
use Rattle.quil_code.specs.Matrices.{matrix_gate}
use Rattle.quil_code.proofs.Matrices.{is_matrix_of_parts, is_gate_of_parts, fine_daggered}
use Rattle.quil_code.proofs.matrix.Matrix.dagger.Goals as goal

pub invariant_of-result : goal.invariant_of-result
invariant_of-result c =
    is_matrix_of_parts (daggered (matrix_gate c.args.self.now)) (elements_of c.daggered_entries-entries.result) c.size_of_arity.result c.arity-2.result c.root_twos.result
    (c.size_of_arity.ensures ∙ ap (λ (n : ℕ). 2 ^ n) c.arity.ensures.value) c.arity-2.ensures.value c.root_twos.ensures.value c.daggered_entries-entries.ensures
    (fine_daggered c.args.self.now c.arity.ensures.form)

pub returns : goal.returns
returns c =
    is_gate_of_parts (daggered (matrix_gate c.args.self.now)) (elements_of c.daggered_entries-entries.result) c.size_of_arity.result c.arity-2.result c.root_twos.result
    (c.size_of_arity.ensures ∙ ap (λ (n : ℕ). 2 ^ n) c.arity.ensures.value) c.arity-2.ensures.value c.root_twos.ensures.value c.daggered_entries-entries.ensures
