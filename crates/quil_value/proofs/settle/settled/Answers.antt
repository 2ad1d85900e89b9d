use Rattle.std.proofs.Common.{sym, to_z, of_z, w32}
use Rattle.qvm_ring.specs.Views.{wide_element}
use Rattle.quil_value.specs.Value.{exact_of}
use Rattle.quil_value.proofs.SettledForms.{settled_form}
use Rattle.quil_value.proofs.settle.settled.Goals as goal

pub bounded-requires : goal.bounded-requires
bounded-requires c = settled_form (wide_element c.args.z) c.args.n (to_z w32 (of_z w32 c.args.k)) (exact_of c.in_ok-kind.kind) (sym c.in_ok-kind.ensures) c.requires.some
