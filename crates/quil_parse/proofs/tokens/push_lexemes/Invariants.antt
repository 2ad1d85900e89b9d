use Rattle.std.proofs.Common.{◌≡◌, ◌++◌, length, map}
use Rattle.quil_lex.specs.Reading.{lexeme_of}
use Rattle.quil_grammar.specs.Token.{token_in}
use Rattle.quil_parse.specs.Steps.{names_in}
use Rattle.quil_parse.proofs.tokens.push_lexemes.Given as goal

abbrev pub invariant-loop-lexemes : goal.invariant-loop-lexemes
invariant-loop-lexemes l = l.tokens.items ++ map (token_in (names_in l.context)) (map lexeme_of l.lexemes) ≡ l.initial.tokens.items ++ map (token_in (names_in l.context)) (map lexeme_of l.initial.lexemes)

abbrev pub decreases-loop-lexemes : goal.decreases-loop-lexemes
decreases-loop-lexemes l = length l.lexemes
