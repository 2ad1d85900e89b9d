use Rattle.std.proofs.Common.{refl, sym, ◌∙◌}
use Rattle.quil_lex.specs.Reading.{span_of}
use Rattle.quil_parse.specs.Steps.{so_far}
use Rattle.quil_parse.proofs.Lines.{from_err}
use Rattle.quil_parse.proofs.Programs.{goes_skip, goes_read, goes_refused}
use Rattle.quil_parse.proofs.program.read_segment.Goals as goal

pub returns-then-is_empty-clause-ok : goal.returns-then-is_empty-clause-ok
returns-then-is_empty-clause-ok c = goes_skip c.args.end (so_far c.args.items.now) (so_far c.args.items.now) (span_of c.args.segment.now) (sym c.is_empty.ensures ∙ c.if-is_empty.true) refl

pub returns-in_err-push_line-clause-err : goal.returns-in_err-push_line-clause-err
returns-in_err-push_line-clause-err c =
    from_err _ _ _ c.from_residual.ensures.1
    (goes_refused c.args.end (so_far c.args.items.now) (span_of c.args.segment.now) c.in_err-push_line.field-0.0 (sym c.is_empty.ensures ∙ c.if-is_empty.false) c.in_err-push_line.ensures.err)

pub returns-clause-ok : goal.returns-clause-ok
returns-clause-ok c = goes_read c.args.end c.line_end.result (so_far c.args.items.now) (so_far c.push_line.new.items) (span_of c.args.segment.now) (sym c.is_empty.ensures ∙ c.if-is_empty.false) c.in_ok-push_line.ensures.ok c.line_end.ensures
