-- What stands at the top level is printed and read again.
use Rattle.std.proofs.Common.{◌≡◌, List, [], ◌∷◌, map, Some, ap}
use Rattle.quil_shape.specs.Shape.{Shape}
use Rattle.quil_shape.specs.Outcome.Outcome.{Made}
use Rattle.quil_shape.specs.Reads.{Reads}
use Rattle.quil_tree.specs.declared.statement.Line.{Line}
use Rattle.quil_tree.specs.declared.item.Item.TheVariants as item
use Rattle.quil_grammar.specs.declared.class.Class.{Class}
use Rattle.quil_grammar.specs.declared.class.Class.TheVariants as class
use Rattle.quil_grammar.specs.Token.{Token, Context, no_context}
use Rattle.quil_grammar.specs.Grammar.{quil, Name, Event}
use Rattle.quil_grammar.specs.Tables.{tables}
use Rattle.quil_grammar.specs.Grammar.Piece.{Says}
use Rattle.quil_grammar.specs.Parts.{Part}
use Rattle.quil_grammar.specs.Parts.Part.{Made as Maker}
use Rattle.quil_grammar.specs.Statements.{statement, declaration, gate_header, circuit_header, top_level}
use Rattle.quil_statement.specs.Meaning.{line_of, plain, item_of}
use Rattle.quil_statement.proofs.Choices.{plain_item}
use Rattle.quil_round_trip.proofs.Words.{AreFit}
use Rattle.quil_round_trip.proofs.Bare.{bare_part}
use Rattle.quil_round_trip.proofs.Reread.{Reread}
use Rattle.quil_round_trip.proofs.Again.{IsReread, is_reread, LineFits}
use Rattle.quil_round_trip.proofs.Items.{items}
use Rattle.quil_round_trip.proofs.Lines.{lines}
use Rattle.quil_round_trip.proofs.Statements.{either_again, statement_reread}

-- what means a statement means it at the top level: no statement begins with the word of a declaration or a definition
pub item_reread : (c : Context) (s : Shape Class Event Name) (t : Token) (os : List Event) → Reread lines c s t os → Reread items c s t os
item_reread c s t os r =
    let a = r.again in
    record {
      thing = item.Plain r.thing;
      parts = r.parts;
      makes = r.makes;
      means = plain_item r.parts r.thing r.means;
      means_bare = plain_item (map bare_part r.parts) (lines.bare r.thing) r.means_bare;
      again =
          record {
            kind = a.kind;
            front = a.front;
            rest = a.rest;
            apart = a.apart;
            text = a.text;
            parts = a.parts;
            reads = a.reads;
            means = plain_item a.parts (lines.bare r.thing) a.means;
          };
      same = r.same;
    }

-- the first lines of items
abbrev pub IsAgain : Shape Class Event Name → Type 0
IsAgain s = (c : Context) (t : Token) (ts : List Token) (os : List Event) → AreFit c ts → Reads quil tables s (t ∷ ts) (Made os []) → Reread items c s t os

module _ (declaration_again : IsAgain declaration) (gate_header_again : IsAgain gate_header) (circuit_header_again : IsAgain circuit_header) where
  pub top_again : (ts : List Token) (os : List Event) → LineFits no_context ts → Reads quil tables top_level ts (Made os []) → IsReread items no_context top_level os
  top_again [] os f r = absurd f
  top_again (t ∷ ts) os f r =
      let c = no_context in
      is_reread
      (either_again items c _ _ t ts os (declaration_again c t ts os f.1)
      (either_again items c _ _ t ts os (gate_header_again c t ts os f.1)
      (either_again items c _ _ t ts os (circuit_header_again c t ts os f.1)
      (λ i. item_reread c statement t os (statement_reread c t ts os f.0 f.1 i)))) r)
