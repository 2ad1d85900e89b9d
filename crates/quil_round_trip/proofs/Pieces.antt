-- A stretch of words that is printed for a part of a line, and how it is read.
use Rattle.std.proofs.Common.{◌≡◌, ℕ, true, false, List, ◌∷◌, ◌++◌}
use Rattle.quil_lex.specs.declared.token.Kind.{Kind}
use Rattle.quil_lex.specs.Written.{Word, AreApart, words_bytes}
use Rattle.quil_shape.specs.Shape.{Shape}
use Rattle.quil_shape.specs.Condition.{opens}
use Rattle.quil_shape.specs.Outcome.Outcome.{Made}
use Rattle.quil_shape.specs.Reads.{Reads}
use Rattle.quil_grammar.specs.declared.class.Class.{Class}
use Rattle.quil_grammar.specs.Token.{Token, Context}
use Rattle.quil_grammar.specs.Grammar.{quil, Name, Event, is_operator_next}
use Rattle.quil_grammar.specs.Tables.{tables}
use Rattle.quil_round_trip.proofs.Words.{tok, toks}

-- The words of a text (the first one with a blank before it or without), told from one another; before tokens of which `Behind`
-- holds they are read as the shape, and that makes these things.
pub record Piece (c : Context) (s : Shape Class Event Name) (Behind : List Token → Type 0) (x : List ℕ) (os : List Event) : Type 0 where
  pub kind : Kind
  pub front : List ℕ
  pub rest : List Word
  pub apart : AreApart (record { kind = kind; text = front; blank = false } ∷ rest)
  pub text : front ++ words_bytes rest ≡ x
  pub opened : opens quil tables s (tok c kind front).sort ≡ true
  pub reads : (us : List Token) → Behind us → Reads quil tables s (tok c kind front ∷ (toks c rest ++ us)) (Made os us)

-- what may stand behind
abbrev pub Anything : List Token → Type 0
Anything us = Unit {0}

abbrev pub NoOperator : List Token → Type 0
NoOperator us = is_operator_next us ≡ false
