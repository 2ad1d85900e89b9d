-- The first line of an item, before its body is read.
use Rattle.std.proofs.Common.{◌≡◌, List, [], ◌∷◌, Option, Some, None, refl, sym, subst}
use Rattle.quil_tree.specs.declared.place.Place.{Place}
use Rattle.quil_tree.specs.declared.statement.Line.{Line}
use Rattle.quil_tree.specs.declared.item.Form.{Form}
use Rattle.quil_tree.specs.declared.item.Form.TheVariants as form
use Rattle.quil_tree.specs.declared.item.Item.{Item}
use Rattle.quil_tree.specs.declared.item.Item.TheVariants as item
use Rattle.quil_grammar.specs.declared.class.Class.TheVariants as class
use Rattle.quil_grammar.specs.Grammar.Piece.{Says, Names, Takes, Acts, Counts, Keeps}
use Rattle.quil_grammar.specs.Parts.{Part}
use Rattle.quil_grammar.specs.Parts.Part.{Made, Value}
use Rattle.quil_statement.specs.Meaning.{item_of, line_of, plain, declaration_of, gate_definition_of, circuit_definition_of, gate_form}

-- no line of the body has been read
abbrev pub IsFreshForm : Form → Type 0
IsFreshForm (form.Matrix rows) = rows ≡ []
IsFreshForm (form.Permutation xs) = xs ≡ []

abbrev pub IsFresh : Item → Type 0
IsFresh (item.Declare d) = Unit {0}
IsFresh (item.DefGate d) = IsFreshForm d.form
IsFresh (item.DefCircuit d) = d.body ≡ []
IsFresh (item.Plain l) = Unit {0}

plain_fresh : (o : Option Line) (i : Item) → plain o ≡ Some i → IsFresh i
plain_fresh None i e = absurd (cc)
plain_fresh (Some l) i e = let same : item.Plain l ≡ i = cc in subst IsFresh same tt

declaration_fresh : (p : Place) (ps : List Part) (i : Item) → declaration_of p ps ≡ Some i → IsFresh i
declaration_fresh p [] i e = absurd (cc)
declaration_fresh p (Made (Says q c s) ∷ ps) i e = absurd (cc)
declaration_fresh p (Made (Takes n) ∷ ps) i e = absurd (cc)
declaration_fresh p (Made (Acts n) ∷ ps) i e = absurd (cc)
declaration_fresh p (Made (Counts n) ∷ ps) i e = absurd (cc)
declaration_fresh p (Made (Keeps n) ∷ ps) i e = absurd (cc)
declaration_fresh p (Value w ∷ ps) i e = absurd (cc)
declaration_fresh p (Made (Names n) ∷ []) i e = absurd (cc)
declaration_fresh p (Made (Names n) ∷ Made (Names q) ∷ ps) i e = absurd (cc)
declaration_fresh p (Made (Names n) ∷ Made (Takes q) ∷ ps) i e = absurd (cc)
declaration_fresh p (Made (Names n) ∷ Made (Acts q) ∷ ps) i e = absurd (cc)
declaration_fresh p (Made (Names n) ∷ Made (Counts q) ∷ ps) i e = absurd (cc)
declaration_fresh p (Made (Names n) ∷ Made (Keeps q) ∷ ps) i e = absurd (cc)
declaration_fresh p (Made (Names n) ∷ Value w ∷ ps) i e = absurd (cc)
declaration_fresh p (Made (Names n) ∷ Made (Says q c s) ∷ []) i e = absurd (cc)
declaration_fresh p (Made (Names n) ∷ Made (Says q c s) ∷ Made (Says r d u) ∷ ps) i e = absurd (cc)
declaration_fresh p (Made (Names n) ∷ Made (Says q c s) ∷ Made (Names r) ∷ ps) i e = absurd (cc)
declaration_fresh p (Made (Names n) ∷ Made (Says q c s) ∷ Made (Takes r) ∷ ps) i e = absurd (cc)
declaration_fresh p (Made (Names n) ∷ Made (Says q c s) ∷ Made (Acts r) ∷ ps) i e = absurd (cc)
declaration_fresh p (Made (Names n) ∷ Made (Says q c s) ∷ Made (Keeps r) ∷ ps) i e = absurd (cc)
declaration_fresh p (Made (Names n) ∷ Made (Says q c s) ∷ Value w ∷ ps) i e = absurd (cc)
declaration_fresh p (Made (Names n) ∷ Made (Says q c s) ∷ Made (Counts l) ∷ ps) (item.Declare d) e = tt
declaration_fresh p (Made (Names n) ∷ Made (Says q c s) ∷ Made (Counts l) ∷ ps) (item.Plain d) e = tt
declaration_fresh p (Made (Names n) ∷ Made (Says q c s) ∷ Made (Counts l) ∷ ps) (item.DefGate d) e = absurd (cc)
declaration_fresh p (Made (Names n) ∷ Made (Says q c s) ∷ Made (Counts l) ∷ ps) (item.DefCircuit d) e = absurd (cc)

form_fresh : (ps : List Part) → IsFreshForm (gate_form ps)
form_fresh [] = refl
form_fresh (Value w ∷ ps) = refl
form_fresh (Made (Names n) ∷ ps) = refl
form_fresh (Made (Takes n) ∷ ps) = refl
form_fresh (Made (Acts n) ∷ ps) = refl
form_fresh (Made (Counts n) ∷ ps) = refl
form_fresh (Made (Keeps n) ∷ ps) = refl
form_fresh (Made (Says p class.Number s) ∷ ps) = refl
form_fresh (Made (Says p class.Imaginary s) ∷ ps) = refl
form_fresh (Made (Says p class.Pi s) ∷ ps) = refl
form_fresh (Made (Says p class.I s) ∷ ps) = refl
form_fresh (Made (Says p class.Parameter s) ∷ ps) = refl
form_fresh (Made (Says p (class.Region b) s) ∷ ps) = refl
form_fresh (Made (Says p class.Index s) ∷ ps) = refl
form_fresh (Made (Says p class.Function s) ∷ ps) = refl
form_fresh (Made (Says p class.Additive s) ∷ ps) = refl
form_fresh (Made (Says p class.Sign s) ∷ ps) = refl
form_fresh (Made (Says p class.Multiplicative s) ∷ ps) = refl
form_fresh (Made (Says p class.Caret s) ∷ ps) = refl
form_fresh (Made (Says p class.Parenthesis s) ∷ ps) = refl
form_fresh (Made (Says p class.ArgumentBegins s) ∷ ps) = refl
form_fresh (Made (Says p class.ParenthesisEnds s) ∷ ps) = refl
form_fresh (Made (Says p class.IndexBegins s) ∷ ps) = refl
form_fresh (Made (Says p class.IndexEnds s) ∷ ps) = refl
form_fresh (Made (Says p class.Declare s) ∷ ps) = refl
form_fresh (Made (Says p class.CellType s) ∷ ps) = refl
form_fresh (Made (Says p class.Length s) ∷ ps) = refl
form_fresh (Made (Says p class.Sharing s) ∷ ps) = refl
form_fresh (Made (Says p class.Offset s) ∷ ps) = refl
form_fresh (Made (Says p class.OffsetCount s) ∷ ps) = refl
form_fresh (Made (Says p class.Named s) ∷ ps) = refl
form_fresh (Made (Says p class.DefGate s) ∷ ps) = refl
form_fresh (Made (Says p class.As s) ∷ ps) = refl
form_fresh (Made (Says p class.Matrix s) ∷ ps) = refl
form_fresh (Made (Says p class.Permutation s) ∷ []) = refl
form_fresh (Made (Says p class.Permutation s) ∷ q ∷ ps) = refl
form_fresh (Made (Says p class.LeftOutForm s) ∷ ps) = refl
form_fresh (Made (Says p class.DefCircuit s) ∷ ps) = refl
form_fresh (Made (Says p class.Colon s) ∷ ps) = refl
form_fresh (Made (Says p class.Comma s) ∷ ps) = refl
form_fresh (Made (Says p class.ListBegins s) ∷ ps) = refl
form_fresh (Made (Says p class.ListEnds s) ∷ ps) = refl
form_fresh (Made (Says p class.TakenParameter s) ∷ ps) = refl
form_fresh (Made (Says p class.Entry s) ∷ ps) = refl
form_fresh (Made (Says p class.Modifier s) ∷ ps) = refl
form_fresh (Made (Says p class.Forked s) ∷ ps) = refl
form_fresh (Made (Says p class.FifthForked s) ∷ ps) = refl
form_fresh (Made (Says p class.Gate s) ∷ ps) = refl
form_fresh (Made (Says p class.Qubit s) ∷ ps) = refl
form_fresh (Made (Says p class.Measure s) ∷ ps) = refl
form_fresh (Made (Says p class.Reset s) ∷ ps) = refl
form_fresh (Made (Says p class.Bare s) ∷ ps) = refl
form_fresh (Made (Says p class.Pragma s) ∷ ps) = refl
form_fresh (Made (Says p class.Any s) ∷ ps) = refl
form_fresh (Made (Says p class.LabelWord s) ∷ ps) = refl
form_fresh (Made (Says p class.JumpIf s) ∷ ps) = refl
form_fresh (Made (Says p class.Label s) ∷ ps) = refl
form_fresh (Made (Says p class.UnaryWord s) ∷ ps) = refl
form_fresh (Made (Says p class.PairWord s) ∷ ps) = refl
form_fresh (Made (Says p class.BinaryWord s) ∷ ps) = refl
form_fresh (Made (Says p class.Load s) ∷ ps) = refl
form_fresh (Made (Says p class.Store s) ∷ ps) = refl
form_fresh (Made (Says p class.CompareWord s) ∷ ps) = refl
form_fresh (Made (Says p class.LeftOut s) ∷ ps) = refl
form_fresh (Made (Says p class.Nothing s) ∷ ps) = refl
form_fresh (Made (Says p class.OperandNumber s) ∷ ps) = refl
form_fresh (Made (Says p class.OperandSign s) ∷ ps) = refl

gate_fresh : (p : Place) (ps : List Part) (i : Item) → gate_definition_of p ps ≡ Some i → IsFresh i
gate_fresh p [] i e = absurd (cc)
gate_fresh p (Made (Says q c s) ∷ ps) i e = absurd (cc)
gate_fresh p (Made (Takes n) ∷ ps) i e = absurd (cc)
gate_fresh p (Made (Acts n) ∷ ps) i e = absurd (cc)
gate_fresh p (Made (Counts n) ∷ ps) i e = absurd (cc)
gate_fresh p (Made (Keeps n) ∷ ps) i e = absurd (cc)
gate_fresh p (Value w ∷ ps) i e = absurd (cc)
gate_fresh p (Made (Names n) ∷ ps) (item.DefGate d) e = let same : gate_form ps ≡ d.form = cc in subst IsFreshForm same (form_fresh ps)
gate_fresh p (Made (Names n) ∷ ps) (item.Declare d) e = tt
gate_fresh p (Made (Names n) ∷ ps) (item.Plain d) e = tt
gate_fresh p (Made (Names n) ∷ ps) (item.DefCircuit d) e = absurd (cc)

circuit_fresh : (p : Place) (ps : List Part) (i : Item) → circuit_definition_of p ps ≡ Some i → IsFresh i
circuit_fresh p [] i e = absurd (cc)
circuit_fresh p (Made (Says q c s) ∷ ps) i e = absurd (cc)
circuit_fresh p (Made (Takes n) ∷ ps) i e = absurd (cc)
circuit_fresh p (Made (Acts n) ∷ ps) i e = absurd (cc)
circuit_fresh p (Made (Counts n) ∷ ps) i e = absurd (cc)
circuit_fresh p (Made (Keeps n) ∷ ps) i e = absurd (cc)
circuit_fresh p (Value w ∷ ps) i e = absurd (cc)
circuit_fresh p (Made (Names n) ∷ ps) (item.DefCircuit d) e = let same : [] ≡ d.body = cc in sym same
circuit_fresh p (Made (Names n) ∷ ps) (item.Declare d) e = tt
circuit_fresh p (Made (Names n) ∷ ps) (item.Plain d) e = tt
circuit_fresh p (Made (Names n) ∷ ps) (item.DefGate d) e = absurd (cc)

pub fresh : (ps : List Part) (i : Item) → item_of ps ≡ Some i → IsFresh i
fresh [] i e = plain_fresh (line_of []) i e
fresh (Value w ∷ ps) i e = plain_fresh (line_of (Value w ∷ ps)) i e
fresh (Made (Names n) ∷ ps) i e = plain_fresh (line_of (Made (Names n) ∷ ps)) i e
fresh (Made (Takes n) ∷ ps) i e = plain_fresh (line_of (Made (Takes n) ∷ ps)) i e
fresh (Made (Acts n) ∷ ps) i e = plain_fresh (line_of (Made (Acts n) ∷ ps)) i e
fresh (Made (Counts n) ∷ ps) i e = plain_fresh (line_of (Made (Counts n) ∷ ps)) i e
fresh (Made (Keeps n) ∷ ps) i e = plain_fresh (line_of (Made (Keeps n) ∷ ps)) i e
fresh (Made (Says p class.Number s) ∷ ps) i e = plain_fresh (line_of (Made (Says p class.Number s) ∷ ps)) i e
fresh (Made (Says p class.Imaginary s) ∷ ps) i e = plain_fresh (line_of (Made (Says p class.Imaginary s) ∷ ps)) i e
fresh (Made (Says p class.Pi s) ∷ ps) i e = plain_fresh (line_of (Made (Says p class.Pi s) ∷ ps)) i e
fresh (Made (Says p class.I s) ∷ ps) i e = plain_fresh (line_of (Made (Says p class.I s) ∷ ps)) i e
fresh (Made (Says p class.Parameter s) ∷ ps) i e = plain_fresh (line_of (Made (Says p class.Parameter s) ∷ ps)) i e
fresh (Made (Says p (class.Region b) s) ∷ ps) i e = plain_fresh (line_of (Made (Says p (class.Region b) s) ∷ ps)) i e
fresh (Made (Says p class.Index s) ∷ ps) i e = plain_fresh (line_of (Made (Says p class.Index s) ∷ ps)) i e
fresh (Made (Says p class.Function s) ∷ ps) i e = plain_fresh (line_of (Made (Says p class.Function s) ∷ ps)) i e
fresh (Made (Says p class.Additive s) ∷ ps) i e = plain_fresh (line_of (Made (Says p class.Additive s) ∷ ps)) i e
fresh (Made (Says p class.Sign s) ∷ ps) i e = plain_fresh (line_of (Made (Says p class.Sign s) ∷ ps)) i e
fresh (Made (Says p class.Multiplicative s) ∷ ps) i e = plain_fresh (line_of (Made (Says p class.Multiplicative s) ∷ ps)) i e
fresh (Made (Says p class.Caret s) ∷ ps) i e = plain_fresh (line_of (Made (Says p class.Caret s) ∷ ps)) i e
fresh (Made (Says p class.Parenthesis s) ∷ ps) i e = plain_fresh (line_of (Made (Says p class.Parenthesis s) ∷ ps)) i e
fresh (Made (Says p class.ArgumentBegins s) ∷ ps) i e = plain_fresh (line_of (Made (Says p class.ArgumentBegins s) ∷ ps)) i e
fresh (Made (Says p class.ParenthesisEnds s) ∷ ps) i e = plain_fresh (line_of (Made (Says p class.ParenthesisEnds s) ∷ ps)) i e
fresh (Made (Says p class.IndexBegins s) ∷ ps) i e = plain_fresh (line_of (Made (Says p class.IndexBegins s) ∷ ps)) i e
fresh (Made (Says p class.IndexEnds s) ∷ ps) i e = plain_fresh (line_of (Made (Says p class.IndexEnds s) ∷ ps)) i e
fresh (Made (Says p class.Declare s) ∷ ps) i e = declaration_fresh p ps i e
fresh (Made (Says p class.CellType s) ∷ ps) i e = plain_fresh (line_of (Made (Says p class.CellType s) ∷ ps)) i e
fresh (Made (Says p class.Length s) ∷ ps) i e = plain_fresh (line_of (Made (Says p class.Length s) ∷ ps)) i e
fresh (Made (Says p class.Sharing s) ∷ ps) i e = plain_fresh (line_of (Made (Says p class.Sharing s) ∷ ps)) i e
fresh (Made (Says p class.Offset s) ∷ ps) i e = plain_fresh (line_of (Made (Says p class.Offset s) ∷ ps)) i e
fresh (Made (Says p class.OffsetCount s) ∷ ps) i e = plain_fresh (line_of (Made (Says p class.OffsetCount s) ∷ ps)) i e
fresh (Made (Says p class.Named s) ∷ ps) i e = plain_fresh (line_of (Made (Says p class.Named s) ∷ ps)) i e
fresh (Made (Says p class.DefGate s) ∷ ps) i e = gate_fresh p ps i e
fresh (Made (Says p class.As s) ∷ ps) i e = plain_fresh (line_of (Made (Says p class.As s) ∷ ps)) i e
fresh (Made (Says p class.Matrix s) ∷ ps) i e = plain_fresh (line_of (Made (Says p class.Matrix s) ∷ ps)) i e
fresh (Made (Says p class.Permutation s) ∷ ps) i e = plain_fresh (line_of (Made (Says p class.Permutation s) ∷ ps)) i e
fresh (Made (Says p class.LeftOutForm s) ∷ ps) i e = plain_fresh (line_of (Made (Says p class.LeftOutForm s) ∷ ps)) i e
fresh (Made (Says p class.DefCircuit s) ∷ ps) i e = circuit_fresh p ps i e
fresh (Made (Says p class.Colon s) ∷ ps) i e = plain_fresh (line_of (Made (Says p class.Colon s) ∷ ps)) i e
fresh (Made (Says p class.Comma s) ∷ ps) i e = plain_fresh (line_of (Made (Says p class.Comma s) ∷ ps)) i e
fresh (Made (Says p class.ListBegins s) ∷ ps) i e = plain_fresh (line_of (Made (Says p class.ListBegins s) ∷ ps)) i e
fresh (Made (Says p class.ListEnds s) ∷ ps) i e = plain_fresh (line_of (Made (Says p class.ListEnds s) ∷ ps)) i e
fresh (Made (Says p class.TakenParameter s) ∷ ps) i e = plain_fresh (line_of (Made (Says p class.TakenParameter s) ∷ ps)) i e
fresh (Made (Says p class.Entry s) ∷ ps) i e = plain_fresh (line_of (Made (Says p class.Entry s) ∷ ps)) i e
fresh (Made (Says p class.Modifier s) ∷ ps) i e = plain_fresh (line_of (Made (Says p class.Modifier s) ∷ ps)) i e
fresh (Made (Says p class.Forked s) ∷ ps) i e = plain_fresh (line_of (Made (Says p class.Forked s) ∷ ps)) i e
fresh (Made (Says p class.FifthForked s) ∷ ps) i e = plain_fresh (line_of (Made (Says p class.FifthForked s) ∷ ps)) i e
fresh (Made (Says p class.Gate s) ∷ ps) i e = plain_fresh (line_of (Made (Says p class.Gate s) ∷ ps)) i e
fresh (Made (Says p class.Qubit s) ∷ ps) i e = plain_fresh (line_of (Made (Says p class.Qubit s) ∷ ps)) i e
fresh (Made (Says p class.Measure s) ∷ ps) i e = plain_fresh (line_of (Made (Says p class.Measure s) ∷ ps)) i e
fresh (Made (Says p class.Reset s) ∷ ps) i e = plain_fresh (line_of (Made (Says p class.Reset s) ∷ ps)) i e
fresh (Made (Says p class.Bare s) ∷ ps) i e = plain_fresh (line_of (Made (Says p class.Bare s) ∷ ps)) i e
fresh (Made (Says p class.Pragma s) ∷ ps) i e = plain_fresh (line_of (Made (Says p class.Pragma s) ∷ ps)) i e
fresh (Made (Says p class.Any s) ∷ ps) i e = plain_fresh (line_of (Made (Says p class.Any s) ∷ ps)) i e
fresh (Made (Says p class.LabelWord s) ∷ ps) i e = plain_fresh (line_of (Made (Says p class.LabelWord s) ∷ ps)) i e
fresh (Made (Says p class.JumpIf s) ∷ ps) i e = plain_fresh (line_of (Made (Says p class.JumpIf s) ∷ ps)) i e
fresh (Made (Says p class.Label s) ∷ ps) i e = plain_fresh (line_of (Made (Says p class.Label s) ∷ ps)) i e
fresh (Made (Says p class.UnaryWord s) ∷ ps) i e = plain_fresh (line_of (Made (Says p class.UnaryWord s) ∷ ps)) i e
fresh (Made (Says p class.PairWord s) ∷ ps) i e = plain_fresh (line_of (Made (Says p class.PairWord s) ∷ ps)) i e
fresh (Made (Says p class.BinaryWord s) ∷ ps) i e = plain_fresh (line_of (Made (Says p class.BinaryWord s) ∷ ps)) i e
fresh (Made (Says p class.Load s) ∷ ps) i e = plain_fresh (line_of (Made (Says p class.Load s) ∷ ps)) i e
fresh (Made (Says p class.Store s) ∷ ps) i e = plain_fresh (line_of (Made (Says p class.Store s) ∷ ps)) i e
fresh (Made (Says p class.CompareWord s) ∷ ps) i e = plain_fresh (line_of (Made (Says p class.CompareWord s) ∷ ps)) i e
fresh (Made (Says p class.LeftOut s) ∷ ps) i e = plain_fresh (line_of (Made (Says p class.LeftOut s) ∷ ps)) i e
fresh (Made (Says p class.Nothing s) ∷ ps) i e = plain_fresh (line_of (Made (Says p class.Nothing s) ∷ ps)) i e
fresh (Made (Says p class.OperandNumber s) ∷ ps) i e = plain_fresh (line_of (Made (Says p class.OperandNumber s) ∷ ps)) i e
fresh (Made (Says p class.OperandSign s) ∷ ps) i e = plain_fresh (line_of (Made (Says p class.OperandSign s) ∷ ps)) i e
