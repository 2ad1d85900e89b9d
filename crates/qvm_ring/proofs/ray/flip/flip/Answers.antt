use Rattle.std.proofs.Common.{sym, ◌∙◌, ap, arith}
use Rattle.std.proofs.lemmas.List.{length-map}
use Rattle.qvm_ring.specs.Ray.{reduced}
use Rattle.qvm_ring.specs.Gate.{applied}
use Rattle.qvm_ring.specs.Views.{element_of, elements_of}
use Rattle.qvm_ring.proofs.States.{light_below, x_some, x_light, IsVector-reduced}
use Rattle.qvm_ring.proofs.ray.flip.flip.Goals as goal

pub exchange-requires-clause-size : goal.exchange-requires-clause-size
exchange-requires-clause-size c = sym (length-map c.args.list.now element_of) ∙ c.requires.vector.size

pub reduce-requires-clause-small : goal.reduce-requires-clause-small
reduce-requires-clause-small c =
    light_below (elements_of c.exchange.new.list) (x_light c.args.qubits c.args.qubit (elements_of c.args.list.now) (elements_of c.exchange.new.list) c.requires.one c.requires.vector c.exchange.ensures.value)

pub reduce-requires-clause-some : goal.reduce-requires-clause-some
reduce-requires-clause-some c =
    x_some c.args.qubits c.args.qubit (elements_of c.args.list.now) (elements_of c.exchange.new.list) c.requires.one c.requires.vector c.exchange.ensures.value

pub returns-clause-value : goal.returns-clause-value
unfolding applied
returns-clause-value c = c.reduce.ensures.value ∙ ap reduced c.exchange.ensures.value

pub returns-clause-vector : goal.returns-clause-vector
returns-clause-vector c =
    IsVector-reduced c.args.qubits (elements_of c.exchange.new.list) (elements_of c.reduce.new.list) c.requires.vector.state.few
    (omega (arith, length-map c.exchange.new.list element_of, c.exchange.ensures.length, length-map c.args.list.now element_of, c.requires.vector.size))
    (omega (arith, length-map c.exchange.new.list element_of, length-map c.reduce.new.list element_of, c.reduce.ensures.length))
    (x_some c.args.qubits c.args.qubit (elements_of c.args.list.now) (elements_of c.exchange.new.list) c.requires.one c.requires.vector c.exchange.ensures.value)
    (x_light c.args.qubits c.args.qubit (elements_of c.args.list.now) (elements_of c.exchange.new.list) c.requires.one c.requires.vector c.exchange.ensures.value)
    c.reduce.ensures.value
