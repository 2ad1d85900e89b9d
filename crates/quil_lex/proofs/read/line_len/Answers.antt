use Rattle.std.proofs.Common.{arith, sym, ◌∙◌, ap}
use Rattle.std.proofs.lemmas.List.{take_rest}
use Rattle.quil_lex.specs.Line.{end_len}
use Rattle.quil_lex.proofs.LineEnds.{line_more, others_more}
use Rattle.quil_lex.proofs.read.line_len.Goals as goal

pub loop-len-preserved : goal.loop-len-preserved
loop-len-preserved c =
    let none = sym (ap end_len (take_rest c.args.bytes.now c.loop-len.len)) ∙ sym c.end_len.ensures ∙ c.if-end_len-eq0.true in
    record {
      within = omega arith;
      line = line_more c.args.bytes.now c.loop-len.len c.loop-len-test.true none ∙ c.loop-len.invariant.line;
      others = others_more c.args.bytes.now c.loop-len.len c.loop-len-test.true none ∙ c.loop-len.invariant.others;
    }
