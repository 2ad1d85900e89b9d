use Rattle.std.proofs.Common.{◌≡◌, ◌++◌, drop, Ok}
use Rattle.std.specs.List.{flat_map}
use Rattle.quil_value.specs.Results.{and_then, each}
use Rattle.quil_gate.specs.Definitions.{entry_at}
use Rattle.quil_gate.specs.Reading.{entries_of}
use Rattle.quil_gate.proofs.entry.entries_of_rows.Given as goal

-- the entries so far with those of the rows that are left are those of all
abbrev pub invariant-loop-row : goal.invariant-loop-row
invariant-loop-row l =
    and_then (each (entry_at l.values) (flat_map (λ r. r) (drop l.row-index l.rows))) (λ es. Ok (entries_of l.entries.items ++ es))
    ≡ each (entry_at l.values) (flat_map (λ r. r) l.rows)
