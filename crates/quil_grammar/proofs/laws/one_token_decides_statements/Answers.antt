use Rattle.quil_grammar.proofs.Decided.{decided_top, decided_statement, decided_row, decided_numbers, decided_nowhere, decided_nothing}
use Rattle.quil_grammar.proofs.laws.one_token_decides_statements.Goals as goal

pub returns-clause-top_level : goal.returns-clause-top_level
returns-clause-top_level c = decided_top

pub returns-clause-statement : goal.returns-clause-statement
returns-clause-statement c = decided_statement

pub returns-clause-matrix_row : goal.returns-clause-matrix_row
returns-clause-matrix_row c = decided_row

pub returns-clause-permutation_row : goal.returns-clause-permutation_row
returns-clause-permutation_row c = decided_numbers

pub returns-clause-nowhere : goal.returns-clause-nowhere
returns-clause-nowhere c = decided_nowhere

pub returns-clause-nothing : goal.returns-clause-nothing
returns-clause-nothing c = decided_nothing
