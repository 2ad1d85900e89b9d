use Rattle.std.proofs.Common.{◌∙◌, ap, Bool, List, length, arith}
use Rattle.quil_code.specs.declared.quantum.Quantum.{Quantum}
use Rattle.quil_code.specs.Step.{Halts, Waits, Faults}
use Rattle.qvm.specs.Ends.{end_seen}
use Rattle.qvm.specs.declared.run.End.{End}
use Rattle.qvm.proofs.Runs.{Runs-start, Runs-went, after_step, at_limit, ends_as}
use Rattle.qvm.proofs.run.run.Goals as goal

pub loop-done-init : goal.loop-done-init
loop-done-init c = Runs-start _ _ _ _ c.in_ok-machine.ensures.start c.in_ok-machine.ensures.fits

pub advance-requires-clause-fits : goal.advance-requires-clause-fits
advance-requires-clause-fits c = c.loop-done.invariant.fits

pub advance-requires-clause-room : goal.advance-requires-clause-room
advance-requires-clause-room c = omega (arith, c.loop-done.invariant.few, c.loop-done-test.true, c.ranges.limit.fits)

pub returns-in-Halted-clause-run : goal.returns-in-Halted-clause-run
returns-in-Halted-clause-run c = ends_as _ _ _ _ _ (after_step _ _ _ _ _ _ c.loop-done.invariant Halts c.loop-done-test.true c.in-Halted.ensures.answer.0)
    (c.ended.ensures.memory ∙ ap (λ (s : Quantum). s.memory) c.in-Halted.ensures.answer.1) (ap (λ (e : End). end_seen e) c.ended.ensures.end)

pub returns-in-AtWait-clause-run : goal.returns-in-AtWait-clause-run
returns-in-AtWait-clause-run c = ends_as _ _ _ _ _ (after_step _ _ _ _ _ _ c.loop-done.invariant (Waits c.advance.new.machine) c.loop-done-test.true c.in-AtWait.ensures.answer)
    c.ended-in-AtWait.ensures.memory (ap (λ (e : End). end_seen e) c.ended-in-AtWait.ensures.end ∙ c.end_at_wait.ensures)

pub returns-in-Fault-clause-run : goal.returns-in-Fault-clause-run
returns-in-Fault-clause-run c = ends_as _ _ _ _ _ (after_step _ _ _ _ _ _ c.loop-done.invariant (Faults c.in-Fault.fault) c.loop-done-test.true c.in-Fault.ensures.answer.0)
    (c.ended-in-Fault.ensures.memory ∙ ap (λ (s : Quantum). s.memory) c.in-Fault.ensures.answer.1) (ap (λ (e : End). end_seen e) c.ended-in-Fault.ensures.end)

pub loop-done-preserved : goal.loop-done-preserved
loop-done-preserved c = Runs-went _ _ _ _ _ _ c.loop-done.invariant _ _ c.loop-done-test.true c.in-Went.ensures.answer c.advance.ensures.count c.advance.ensures.fits

pub returns-clause-run : goal.returns-clause-run
returns-clause-run c = ends_as _ _ _ _ _ (at_limit _ _ _ _ _ _ c.loop-done.invariant c.loop-done-test.false) c.ended-2.ensures.memory (ap (λ (e : End). end_seen e) c.ended-2.ensures.end)

pub returns-clause-bits : goal.returns-clause-bits
returns-clause-bits c = ap (λ (bits : List Bool). length bits) c.ended-2.ensures.memory ∙ c.loop-done.invariant.fits.memory
