-- Where a whole number is all of an operand. Nobody has to believe these: the clause of `value_operand` says what is read.
use Rattle.std.specs.Prelude.{Bool, false, not, ◌&&◌, List, [], ◌∷◌}
use Rattle.quil_grammar.specs.Token.{Token}
use Rattle.quil_grammar.specs.Grammar.{accepts, is_whole_number, is_operator_next}
use Rattle.quil_grammar.specs.declared.class.Class.TheVariants as class

-- a number written by digits alone comes next, and no operator behind it
abbrev pub is_plain_next : List Token → Bool
is_plain_next [] = false
is_plain_next (t ∷ ts) = is_whole_number t && not (is_operator_next ts)

-- a sign comes next, and such a number behind it
abbrev pub is_signed_next : List Token → Bool
is_signed_next [] = false
is_signed_next (t ∷ ts) = accepts class.Sign t.sort && is_plain_next ts
