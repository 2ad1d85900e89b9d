use Rattle.std.proofs.Common.{◌∙◌, ap, refl}
use Rattle.quil_gate.specs.Definitions.{if_unitary}
use Rattle.quil_gate.proofs.Matrices.{if_unitary_yes, if_unitary_no}
use Rattle.quil_gate.proofs.definition.if_unitary.Goals as goal

pub returns-in-Some : goal.returns-in-Some
returns-in-Some c = if_unitary_yes c.in-Some.matrix c.arity-arity.ensures.form.unitary ∙ ap if_unitary c.in-Some.ensures.some

pub returns-in-None : goal.returns-in-None
returns-in-None c = if_unitary_no _ (c.in-None.ensures.none refl)
