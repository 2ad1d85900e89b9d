-- When two sorts are the same.
use Rattle.std.proofs.Common.{◌≡◌, true, eqb-true}
use denote.Enum.Bare.{tag_one}
use Rattle.quil_grammar.specs.declared.sort.Sort.{Sort}
use Rattle.quil_grammar.specs.contracts.sort.Sort.{the_type}
use Rattle.quil_grammar.specs.Sort.{is_sort, number_of}

-- what the test says is the same is the same
pub same_sort : (a b : Sort) → is_sort a b ≡ true → a ≡ b
same_sort a b e = tag_one the_type tt a b (eqb-true (number_of a) (number_of b) e)
