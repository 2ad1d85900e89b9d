-- One token decides each choice in the forms of lines.
use Rattle.std.proofs.Common.{◌≡◌, true, refl}
use Rattle.quil_shape.specs.Condition.{is_decided_by_one_token}
use Rattle.quil_grammar.specs.Grammar.{quil}
use Rattle.quil_grammar.specs.Tables.{tables}
use Rattle.quil_grammar.specs.Statements.{top_level, statement, matrix_row, permutation_row, nowhere, nothing}

pub decided_top : is_decided_by_one_token quil tables top_level ≡ true
unfolding quil tables
decided_top = refl

pub decided_statement : is_decided_by_one_token quil tables statement ≡ true
unfolding quil tables
decided_statement = refl

pub decided_row : is_decided_by_one_token quil tables matrix_row ≡ true
unfolding quil tables
decided_row = refl

pub decided_numbers : is_decided_by_one_token quil tables permutation_row ≡ true
unfolding quil tables
decided_numbers = refl

pub decided_nowhere : is_decided_by_one_token quil tables nowhere ≡ true
unfolding quil tables
decided_nowhere = refl

pub decided_nothing : is_decided_by_one_token quil tables nothing ≡ true
unfolding quil tables
decided_nothing = refl
