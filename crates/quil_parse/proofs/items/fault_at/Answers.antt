use Rattle.std.proofs.Common.{inl, inr, refl, arith}
use Rattle.quil_parse.proofs.items.fault_at.Goals as goal

pub returns-in-OutOfMemory : goal.returns-in-OutOfMemory
returns-in-OutOfMemory c = rw c.in-OutOfMemory.is refl

pub returns-in-Unexpected : goal.returns-in-Unexpected
returns-in-Unexpected c = rw c.in-Unexpected.is c.refusal.ensures

pub returns-in-Ok : goal.returns-in-Ok
returns-in-Ok c = rw c.in-TooLarge.is (λ some. inr (rw (c.in-Some.ensures.cases.0, c.in-Ok.ensures) refl))

pub returns-in-Err : goal.returns-in-Err
returns-in-Err c = rw c.in-TooLarge.is (λ some. inl refl)

pub returns-in-None : goal.returns-in-None
returns-in-None c = rw c.in-TooLarge.is (λ some. absurd (omega (arith, c.in-None.ensures.cases)))
