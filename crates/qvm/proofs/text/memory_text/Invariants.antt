use Rattle.std.proofs.Common.{◌≡◌, ◌++◌, drop}
use Rattle.std.specs.List.{flat_map}
use Rattle.qvm.specs.RunText.{region_text, memory_text}
use Rattle.qvm.proofs.text.memory_text.Given as goal

-- with the regions that are left it is the text of all
abbrev pub invariant-loop-number : goal.invariant-loop-number
invariant-loop-number l = l.text.items ++ flat_map (region_text l.memory) (drop l.number l.layout.regions) ≡ memory_text l.memory l.layout
