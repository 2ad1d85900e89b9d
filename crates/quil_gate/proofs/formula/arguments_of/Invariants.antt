use Rattle.std.proofs.Common.{◌≡◌, map, take, Ok}
use Rattle.quil_value.specs.declared.worked.Worked.TheVariants.{Plain}
use Rattle.quil_gate.proofs.formula.arguments_of.Given as goal

abbrev pub invariant-loop-value : goal.invariant-loop-value
invariant-loop-value l = l.arguments.items ≡ map (λ x. Ok (Plain x)) (take l.value-index l.values)
