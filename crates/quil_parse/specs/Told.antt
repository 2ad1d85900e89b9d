-- What the reader tells of a text that isn't too long; the clauses of `parse` follow from it.
use Rattle.std.specs.Prelude.{ℕ, List, ◌∷◌, Result, Ok, Err}
use Rattle.quil_tree.specs.declared.item.Item.{Item}
use Rattle.quil_grammar.specs.declared.fault.ReadFault.{ReadFault}
use Rattle.quil_lex.specs.Reading.{Span}
use Rattle.quil_parse.specs.Program.{Goes, IsTreeOf, IsRefused}
use Rattle.quil_parse.specs.Steps.{OrNoMemory}
use Rattle.quil_tree.specs.declared.place.Place.{Place}

-- wherever the spans behind this one go on to from the new items and place, with this one they go on to from the old
pub record GoesOnBehind (p : Place) (is : List Item) (s : Span) (q : Place) (js : List Item) : Type 0 where
  pub goes_on : (ss : List Span) (r : Result (List Item) ReadFault) → Goes q js ss r → Goes p is (s ∷ ss) r

-- the span is refused, whatever stands behind it
pub record RefusesBehind (p : Place) (is : List Item) (s : Span) (f : ReadFault) : Type 0 where
  pub stops : (ss : List Span) → Goes p is (s ∷ ss) (Err f)

abbrev pub Tells : List ℕ → Result (List Item) ReadFault → Type 0
Tells text (Ok tree) = IsTreeOf text tree
Tells text (Err f) = OrNoMemory f (IsRefused text f)
