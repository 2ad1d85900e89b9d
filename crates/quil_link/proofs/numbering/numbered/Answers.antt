use Rattle.std.proofs.Common.{◌≡◌, ◌≤◌, ◌∙◌, length, map, take, drop, ◌++◌, ap, arith}
use Rattle.std.proofs.lemmas.List.{length-map}
use Rattle.quil_link.specs.Numbered.{numbered_line, qubits_of}
use Rattle.quil_link.proofs.Marks.{written_whole}
use Rattle.quil_link.proofs.Qubits.{numbered_program}
use Rattle.quil_link.proofs.numbering.numbered.Goals as goal

pub new-requires : goal.new-requires
new-requires c =
    let lines = c.args.lines.items in
    let qubits = c.in_ok-qubits.qubits.items in
    let new = c.renumber.new.lines in
    let value : new ≡ map (numbered_line qubits) lines = cc (c.renumber.ensures, c.deref-2.ensures.value, c.deref_mut.ensures.value) in
    let size : length new ≡ length lines = rw length-map at (ap length value) in
    let whole : take c.args.lines.len (new ++ drop (length new) lines) ≡ map (numbered_line qubits) lines = written_whole c.args.lines.len new lines size (cc) ∙ value in
    let same : qubits ≡ qubits_of lines = cc (c.in_ok-qubits.ensures, c.deref.ensures.value) in
    let few : length qubits ≤ 16 = omega (arith, c.len.ensures) in
    rw whole (numbered_program c.args.layout lines qubits c.bits-bits.ensures.kept.few c.requires.fit c.requires.few few same)
