use Rattle.std.proofs.Common.{◌≡◌, max, drop}
use Rattle.std.specs.List.{fold}
use Rattle.quil_gate.specs.Definitions.{Entry, greatest_power}
use Rattle.quil_gate.specs.Reading.{entries_of}
use Rattle.quil_gate.proofs.numerators.greatest_power.Given as goal

-- the greatest so far and those of the entries that are left
abbrev pub invariant-loop-entry : goal.invariant-loop-entry
invariant-loop-entry l = fold (λ g (e : Entry). max g e.1) l.greatest (entries_of (drop l.entry-index l.entries)) ≡ greatest_power (entries_of l.entries)
