use Rattle.std.proofs.Common.{rules}
use Rattle.quil_lex.specs.Reading.{spans_of}
use Rattle.quil_parse.proofs.Programs.{tells, tells_memory}
use Rattle.quil_parse.proofs.program.read.Goals as goal

pub tokens_to_bad_byte-requires : goal.tokens_to_bad_byte-requires
tokens_to_bad_byte-requires c = (search rules)

pub returns-in_err-lexemes : goal.returns-in_err-lexemes
returns-in_err-lexemes c = tells_memory c.args.text.now _ c.from_residual.ensures.1

pub returns : goal.returns
returns c =
    let ok = rw c.deref.ensures.value at c.read_lines.ensures.ok in
    let err = rw c.deref.ensures.value at c.read_lines.ensures.err in
    tells c.args.text.now (spans_of c.in_ok-lexemes.lexemes) c.read_lines.result (search rules) c.in_ok-lexemes.ensures.found ok err
