use Rattle.quil_link.proofs.Marks.{marked_qubits}
use Rattle.quil_link.proofs.numbering.qubits_of.Goals as goal

pub returns : goal.returns
returns c =
    let marks = c.in_ok-marks.ensures in
    marked_qubits c.args.lines.now c.in_ok-marks.marks.items c.deref.result.now c.marked_places.result c.deref.ensures.value marks.size marks.marks c.marked_places.ensures
