use Rattle.std.proofs.Common.{◌≡◌, ◌++◌, take}
use Rattle.std.specs.List.{flat_map}
use Rattle.qvm_diagnostic.specs.Report.{detail_text}
use Rattle.qvm_diagnostic.specs.Seen.{value_of}
use Rattle.qvm_diagnostic.proofs.diagnostic.push_details.Given as goal

abbrev pub invariant-loop-detail : goal.invariant-loop-detail
invariant-loop-detail l = l.text.items ≡ l.fn.text.items ++ flat_map (λ m. detail_text (m.0.now, value_of m.1)) (take l.detail-index l.details)
