use Rattle.std.proofs.Common.{get_or, arith}
use Rattle.std.proofs.lemmas.List.{get_or_default}
use Rattle.std.proofs.lemmas.List.Edits.{map_over_more}
use Rattle.quil_code.specs.declared.instruction.Instruction.TheVariants as instruction
use Rattle.quil_link.specs.Numbered.{numbered_line}
use Rattle.quil_link.proofs.numbering.renumber.Goals as goal

pub loop-line-preserved : goal.loop-line-preserved
loop-line-preserved c =
    let lines = c.loop-line.lines in
    let i = c.loop-line.line-index in
    let line = get_or lines i (record { number = 0; instruction = instruction.Passive }) in
    rw c.renumbered-line.ensures (map_over_more (numbered_line c.args.qubits.now) c.args.lines.now lines i line c.loop-line-test.true c.loop-line.invariant (get_or_default lines i _ line (omega arith)))
