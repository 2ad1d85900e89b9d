use Rattle.std.proofs.Common.{◌≡◌, ◌-◌, ◌≤◌, vec_len}
use Rattle.std.specs.Io.KnownBytes.{Consumes}
use Rattle.qvm_io.specs.Causes.{Stays}
use Rattle.qvm_io.proofs.transfer.read_all.Given as goal

-- the text is what the source has lost so far
abbrev pub invariant-loop-text : goal.invariant-loop-text
invariant-loop-text g l = record {
  within : vec_len l.text ≤ l.bound;
  bytes : Consumes (g.S.Source.bytes_left l.initial.source) (g.S.Source.bytes_left l.source) l.text.items;
  no_end : g.S.Source.ends l.source ≡ g.S.Source.ends l.initial.source;
  steady : Stays (g.S.Source.faults l.initial.source) (g.S.Source.faults l.source);
}

abbrev pub decreases-loop-text : goal.decreases-loop-text
decreases-loop-text g l = l.bound - vec_len l.text
