use Rattle.std.proofs.Common.{length, ◌-◌, ◌≤◌, take}
use Rattle.std.specs.Io.KnownBytes.{Appends}
use Rattle.qvm_io.specs.Causes.{Stays}
use Rattle.qvm_io.proofs.transfer.write_all.Given as goal

-- the sink has taken the piece up to `written`
abbrev pub invariant-loop-written : goal.invariant-loop-written
invariant-loop-written g l = record {
  within : l.written ≤ length l.piece;
  bytes : Appends (g.K.Sink.bytes_taken l.initial.sink) (g.K.Sink.bytes_taken l.sink) (take l.written l.piece);
  steady : Stays (g.K.Sink.faults l.initial.sink) (g.K.Sink.faults l.sink);
}

abbrev pub decreases-loop-written : goal.decreases-loop-written
decreases-loop-written g l = length l.piece - l.written
