use Rattle.std.proofs.Common.{◌≡◌, ◌++◌}
use Rattle.qvm.specs.RunText.{cell_values, values_text}
use Rattle.qvm.proofs.Texts.{text_from}
use Rattle.qvm.proofs.text.push_values.Given as goal

-- with the values that are left it is the text of all
abbrev pub invariant-loop-index : goal.invariant-loop-index
invariant-loop-index l =
    l.text.items ++ text_from l.memory l.region l.index ≡ l.initial.text.items ++ values_text l.region.kind (cell_values l.memory l.region)
