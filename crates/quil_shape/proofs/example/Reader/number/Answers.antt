use Rattle.std.proofs.Common.{[], ◌∷◌, ◌++◌, ◌∙◌, ap}
use Rattle.quil_shape.specs.declared.example.Step.TheVariants.{Value}
use Rattle.quil_shape.proofs.NestedReads.{number_exceeds, number_then_range}
use Rattle.quil_shape.proofs.example.Reader.number.Goals as goal

pub returns-then-not-is_range-clause-reads : goal.returns-then-not-is_range-clause-reads
returns-then-not-is_range-clause-reads c = λ todo. number_exceeds _ _ _ todo c.requires c.if-first-ge256.true c.if-not-is_range.ensures

pub returns-then-is_range-clause-reads : goal.returns-then-is_range-clause-reads
returns-then-is_range-clause-reads c = λ todo. number_then_range _ _ _ _ _ _ _ todo _ c.requires c.if-is_range.ensures c.skip.ensures.rest (c.in_ok-push.ensures.items ∙ ap (λ xs. xs ++ Value c.args.first ∷ []) c.skip.ensures.steps) c.range_end.ensures.reads
