use Rattle.std.proofs.Common.{arith}
use Rattle.qvm_io.proofs.Fronts.{LosesFront-after, OnErr-of}
use Rattle.qvm_io.proofs.transfer.read_all.Goals as goal

pub returns-in_err-read_more-clause-front : goal.returns-in_err-read_more-clause-front
returns-in_err-read_more-clause-front g c =
    OnErr-of _ (LosesFront-after _ _ _ c.loop-text.text.items _ _ c.loop-text.invariant.bytes c.in_err-read_more.ensures.front
    (omega (arith, c.loop-text.text.ok.0, c.len.ensures, c.loop-text-test.true, c.len-in-loop-text.ensures)))
