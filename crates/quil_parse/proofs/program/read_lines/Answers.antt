use Rattle.std.proofs.Common.{map}
use Rattle.quil_lex.specs.Reading.{span_of}
use Rattle.quil_parse.specs.Steps.{so_far}
use Rattle.quil_parse.proofs.Programs.{finish_ok, finish_err}
use Rattle.quil_parse.proofs.program.read_lines.Goals as goal

pub returns-clause-ok : goal.returns-clause-ok
returns-clause-ok c = finish_ok c.finish.result c.read_segments-read.result (so_far c.read_segments-read.new.items) (map span_of c.args.segments.now) c.read_segments-read.ensures.ok c.finish.ensures.ok

pub returns-clause-err : goal.returns-clause-err
returns-clause-err c = finish_err c.finish.result c.read_segments-read.result (map span_of c.args.segments.now) c.read_segments-read.ensures.err c.finish.ensures.err
