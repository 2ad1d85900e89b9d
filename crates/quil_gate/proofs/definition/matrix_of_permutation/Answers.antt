use Rattle.std.proofs.Common.{◌∙◌, inl, length}
use Rattle.quil_gate.proofs.Permutations.{permuted, eight_at_most}
use Rattle.quil_gate.proofs.definition.matrix_of_permutation.Goals as goal

pub returns : goal.returns
returns c =
    inl (c.if_unitary.ensures ∙ permuted c.args.texts.now c.deref.result.now c.in-Some.arity _ c.in-Some.ensures.value (eight_at_most c.in-Some.arity (length c.args.texts.now) c.in-Some.ensures.form.1 c.in-Some.ensures.form.0) (c.deref.ensures.value ∙ c.in_ok-numbers.ensures) c.permutation_entries.ensures.value)
