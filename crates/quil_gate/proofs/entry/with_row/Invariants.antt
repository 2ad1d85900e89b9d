use Rattle.std.proofs.Common.{◌≡◌, ◌++◌, length, Ok}
use Rattle.quil_value.specs.Results.{and_then, each}
use Rattle.quil_gate.specs.Definitions.{entry_at}
use Rattle.quil_gate.specs.Reading.{entries_of}
use Rattle.quil_gate.proofs.entry.with_row.Given as goal

-- the entries so far with those that are left are those of all
abbrev pub invariant-loop-row : goal.invariant-loop-row
invariant-loop-row l =
    and_then (each (entry_at l.values) l.row) (λ es. Ok (entries_of l.entries.items ++ es))
    ≡ and_then (each (entry_at l.values) l.initial.row) (λ es. Ok (entries_of l.initial.entries.items ++ es))

abbrev pub decreases-loop-row : goal.decreases-loop-row
decreases-loop-row l = length l.row
