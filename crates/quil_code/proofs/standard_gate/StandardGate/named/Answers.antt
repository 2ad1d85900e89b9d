use Rattle.std.proofs.Common.{◌∙◌, refl}
use Rattle.quil_code.specs.StandardGates.{standard_named}
use Rattle.quil_code.proofs.standard_gate.StandardGate.named.Goals as goal

-- the table of the code is the one of the definition
pub returns : goal.returns
unfolding standard_named
returns c = c.gate_among.ensures ∙ refl
