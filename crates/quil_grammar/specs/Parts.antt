-- What a statement, a header or a row says, part by part.
use Rattle.std.specs.Prelude.{List, [], ◌∷◌, ◌++◌}
use Rattle.quil_grammar.specs.Grammar.{Event, Piece}
use Rattle.quil_grammar.specs.Grammar.Event.{Makes}
use Rattle.quil_grammar.specs.Written.{Written, events}

-- something made outside expressions; or a written expression, which may be a memory reference
pub data Part : Type 0 where
  Made : Piece → Part
  Value : Written → Part

-- what reading it makes
abbrev pub part_events : Part → List Event
part_events (Made p) = Makes p ∷ []
part_events (Value w) = events w

abbrev pub parts_events : List Part → List Event
parts_events [] = []
parts_events (p ∷ ps) = part_events p ++ parts_events ps
