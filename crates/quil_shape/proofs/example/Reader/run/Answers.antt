use Rattle.quil_shape.proofs.NestedReads.{unopened_told, error_told, end_told, left_told, begins_told}
use Rattle.quil_shape.proofs.example.Reader.run.Goals as goal

pub returns-then-not-is_next-clause-told : goal.returns-then-not-is_next-clause-told
returns-then-not-is_next-clause-told c = unopened_told _ c.if-not-is_next.ensures

pub returns-in_err-open-clause-told : goal.returns-in_err-open-clause-told
returns-in_err-open-clause-told c = error_told _ _ _ _ _ _ _ _ c.open.result _ (begins_told _ _ _ c.requires.fresh.0 c.requires.fresh.1) c.open.ensures.reads c.in_err-open.was c.from_residual.ensures.1

pub returns-in_err-step-clause-told : goal.returns-in_err-step-clause-told
returns-in_err-step-clause-told c = error_told _ _ _ _ _ _ _ _ c.step.result _ c.loop-self.invariant.reads c.step.ensures.reads c.in_err-step.was c.from_residual-in_err-step.ensures.1

pub returns-then-is_empty-clause-told : goal.returns-then-is_empty-clause-told
returns-then-is_empty-clause-told c = end_told _ _ _ _ _ c.loop-self.invariant.reads c.loop-self-test.false c.if-is_empty.ensures

pub returns-else-is_empty-clause-told : goal.returns-else-is_empty-clause-told
returns-else-is_empty-clause-told c = left_told _ _ _ _ _ c.loop-self.invariant.reads c.loop-self-test.false c.if-is_empty.ensures
