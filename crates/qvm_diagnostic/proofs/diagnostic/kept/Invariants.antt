use Rattle.std.proofs.Common.{◌≡◌, take}
use Rattle.qvm_diagnostic.proofs.diagnostic.kept.Given as goal

abbrev pub invariant-loop-detail : goal.invariant-loop-detail
invariant-loop-detail l = l.list.items ≡ take l.detail-index l.details
