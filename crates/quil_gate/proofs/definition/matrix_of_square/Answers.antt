use Rattle.std.proofs.Common.{sym, ◌∙◌, ap, length}
use Rattle.quil_gate.proofs.Matrices.{entries_count}
use Rattle.quil_gate.proofs.definition.matrix_of_square.Goals as goal

pub matrix_of_entries-requires-clause-all : goal.matrix_of_entries-requires-clause-all
matrix_of_entries-requires-clause-all c =
    ap length c.deref.ensures.value
    ∙ entries_count c.args.values.now c.args.rows.now c.args.arity c.in_ok-entries.entries.items (sym c.is_square.ensures ∙ c.if-not-is_square.false) c.requires.rows c.in_ok-entries.ensures.ok
