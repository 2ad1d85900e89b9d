use Rattle.std.proofs.Common.{◌∙◌, refl}
use Rattle.quil_grammar.specs.Sort.{word_sort}
use Rattle.quil_grammar.proofs.sort.word_sort.Goals as goal

-- the table of the code is the one of the definition
pub returns : goal.returns
unfolding word_sort
returns c = c.sort_among.ensures ∙ refl
