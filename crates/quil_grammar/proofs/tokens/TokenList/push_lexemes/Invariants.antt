use Rattle.std.proofs.Common.{◌≡◌, ◌++◌, fold, length, map}
use Rattle.quil_lex.specs.Reading.{lexeme_of}
use Rattle.quil_grammar.specs.Token.{tokens_of, names_with}
use Rattle.quil_grammar.proofs.tokens.TokenList.push_lexemes.Given as goal

abbrev pub invariant-loop-lexemes : goal.invariant-loop-lexemes
invariant-loop-lexemes l =
    (l.self.tokens.items ++ tokens_of (map (λ k. k.now) l.self.names.keys) (map lexeme_of l.lexemes) ≡ l.initial.self.tokens.items ++ tokens_of (map (λ k. k.now) l.initial.self.names.keys) (map lexeme_of l.initial.lexemes))
    × (fold names_with (map (λ k. k.now) l.self.names.keys) (map lexeme_of l.lexemes) ≡ fold names_with (map (λ k. k.now) l.initial.self.names.keys) (map lexeme_of l.initial.lexemes))

abbrev pub decreases-loop-lexemes : goal.decreases-loop-lexemes
decreases-loop-lexemes l = length l.lexemes
