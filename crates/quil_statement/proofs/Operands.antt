-- The second operand of an instruction.
use Rattle.std.proofs.Common.{◌≡◌, true, false, List, [], ◌∷◌, refl, sym, subst, append-nil}
use Rattle.quil_shape.specs.Shape.Shape.{Rule}
use Rattle.quil_shape.specs.Reads.{Advances, is_barred}
use Rattle.quil_shape.proofs.Reading.{choice_first, choice_not_first}
use Rattle.quil_tree.specs.declared.statement.Reference.{Reference}
use Rattle.quil_tree.specs.declared.statement.Operand.{Operand}
use Rattle.quil_tree.specs.declared.statement.Operand.TheVariants as an_operand
use Rattle.quil_tree.specs.declared.expr.Atom.TheVariants as atom
use Rattle.quil_grammar.specs.declared.class.Class.TheVariants as class
use Rattle.quil_grammar.specs.declared.stop.Stop.{Stop}
use Rattle.quil_grammar.specs.declared.stop.Stop.TheVariants as stop
use Rattle.quil_grammar.specs.Token.{Token}
use Rattle.quil_grammar.specs.Grammar.{quil, OperandSum}
use Rattle.quil_grammar.specs.Tables.{tables}
use Rattle.quil_grammar.specs.Written.{events}
use Rattle.quil_grammar.specs.Written.Written.{Alone}
use Rattle.quil_grammar.specs.Frames.{is_next, StopsFor, IsOperandRead}
use Rattle.quil_grammar.specs.Statements.{address, operand}
use Rattle.quil_statement.specs.Meaning.{cell}
use Rattle.quil_statement.specs.Says.{Reads, IsOperand}
use Rattle.quil_statement.proofs.Tokens.{address_starts}
use Rattle.quil_statement.proofs.Sequences.{stops_in_first}

pub reference_read : (us vs : List Token) (a : Reference) → is_next (class.Region true) us ≡ true → Reads address us vs (cell a ∷ []) → IsOperand us vs (an_operand.Reference a)
reference_read us vs a e r = record { written = Alone a.place (atom.Cell a.address); reads = choice_first (address_starts us e) r; is_meaning = refl }

barred : (us : List Token) → is_next (class.Region true) us ≡ false → is_barred quil tables address us ≡ true
unfolding quil tables
barred [] e = refl
barred (t ∷ us) e = rw e refl

pub value_read : (us vs : List Token) (o : Operand) → is_next (class.Region true) us ≡ false → IsOperandRead us vs o → IsOperand us vs o
value_read us vs o e h =
    record {
      written = h.written;
      reads = subst (λ os. Advances quil tables operand us vs os) (sym (append-nil (events h.written))) (choice_not_first (barred us e) h.advances);
      is_meaning = h.is_meaning;
    }

pub reference_stops : (us vs : List Token) (x : Stop) → is_next (class.Region true) us ≡ true → StopsFor x address us vs → StopsFor x operand us vs
reference_stops us vs x e r = stops_in_first address (Rule OperandSum) us vs x (address_starts us e) r

pub value_stops : (us vs : List Token) (x : Stop) → is_next (class.Region true) us ≡ false → StopsFor x (Rule OperandSum) us vs → StopsFor x operand us vs
value_stops us vs stop.OutOfMemory e r = tt
value_stops us vs stop.Unexpected e r = choice_not_first (barred us e) r
value_stops us vs stop.TooLarge e r = choice_not_first (barred us e) r
