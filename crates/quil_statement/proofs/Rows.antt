-- Rows of gates, read from the tokens.
use Rattle.std.proofs.Common.{◌≡◌, ℕ, false, List, [], ◌∷◌, map, refl, sym, ◌∙◌, ap}
use Rattle.std.specs.Prelude.{filter_map}
use Rattle.quil_shape.specs.Shape.Shape.{One}
use Rattle.quil_tree.specs.declared.statement.Formula.{Formula}
use Rattle.quil_grammar.specs.declared.class.Class.TheVariants as class
use Rattle.quil_grammar.specs.Token.{Token}
use Rattle.quil_grammar.specs.Written.{Written, formula_of}
use Rattle.quil_grammar.specs.Statements.{formulas}
use Rattle.quil_statement.specs.Meaning.{value_of}
use Rattle.quil_statement.specs.Says.{Reads, SaysRow, SaysNumbers}
use Rattle.quil_statement.specs.Loops.{listed, values, keeping, AreFormulas}
use Rattle.quil_statement.proofs.Said.{kept}

valued : (ws : List Written) → filter_map value_of (values ws) ≡ map formula_of ws
valued [] = refl
valued (w ∷ ws) = ap (λ fs. formula_of w ∷ fs) (valued ws)

pub row_said : (us vs : List Token) (fs : List Formula) → AreFormulas (formulas false) us vs fs → SaysRow us vs fs
row_said us vs fs h = record { parts = values h.written; reads = h.reads; means = valued h.written ∙ sym h.are_meant }

pub numbers_said : (us vs : List Token) (xs : List (List ℕ)) → Reads (listed (One class.Entry)) us vs (keeping xs) → SaysNumbers us vs xs
numbers_said us vs xs r = record { parts = keeping xs; reads = r; means = kept xs }
