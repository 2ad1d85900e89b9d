-- Repetitions as the reader goes through them. Nobody has to believe these: the clauses of the public functions say what is read.
use Rattle.std.specs.Prelude.{◌||◌, if◌then◌else◌, filter_map, Option, Some, ◌≡◌, ℕ, zero, suc, ◌-◌, Bool, true, false, List, [], ◌∷◌, ◌++◌, map}
use Rattle.quil_shape.specs.Shape.{Shape}
use Rattle.quil_shape.specs.Shape.Shape.{One, Seq, Many, Rule}
use Rattle.quil_shape.specs.Outcome.{Outcome, after}
use Rattle.quil_shape.specs.Reads.{Reads as Comes}
use Rattle.quil_tree.specs.declared.place.Place.{Place}
use Rattle.quil_tree.specs.declared.statement.Name.{Name as Called}
use Rattle.quil_tree.specs.declared.statement.Qubit.{Qubit}
use Rattle.quil_tree.specs.declared.statement.Modifier.{Modifier}
use Rattle.quil_tree.specs.declared.statement.Formula.{Formula}
use Rattle.quil_tree.specs.declared.statement.Gate.{Gate}
use Rattle.quil_tree.specs.declared.expr.Whole.{Whole}
use Rattle.quil_tree.specs.declared.item.Form.{Form}
use Rattle.quil_tree.specs.declared.item.Form.TheVariants as a_form
use Rattle.quil_tree.specs.declared.item.Offset.{Offset}
use Rattle.quil_tree.specs.declared.item.Sharing.{Sharing}
use Rattle.quil_grammar.specs.declared.sort.Sort.{Sort}
use Rattle.quil_grammar.specs.declared.class.Class.{Class}
use Rattle.quil_grammar.specs.declared.class.Class.TheVariants as class
use Rattle.quil_grammar.specs.Token.{Token}
use Rattle.quil_grammar.specs.Grammar.{quil, Name, Event, Sum}
use Rattle.quil_grammar.specs.Tables.{tables}
use Rattle.quil_grammar.specs.Grammar.Piece.{Says, Names, Takes, Acts, Counts, Keeps}
use Rattle.quil_grammar.specs.Written.{Written, formula_of}
use Rattle.quil_grammar.specs.Frames.{is_next}
use Rattle.quil_grammar.specs.Statements.{maybe, behind_name, named, modified, modified_gate, offset, sharing, gate_shape}
use Rattle.quil_grammar.specs.Parts.{Part, parts_events}
use Rattle.quil_grammar.specs.Parts.Part.{Made, Value}
use Rattle.quil_statement.specs.Meaning.{modification_of, worded, gate_of, type_name_of, offsets_of, sharing_of, gate_form, taken_of}
use Rattle.quil_statement.specs.Says.{Reads}

-- where reading the first shape comes to the second, these parts have been read
pub record Leads (s : Shape Class Event Name) (ts : List Token) (r : Shape Class Event Name) (us : List Token) (ps : List Part) : Type 0 where
  pub goes_on : (out : Outcome Event Token) → Comes quil tables r us out → Comes quil tables s ts (after (parts_events ps) out)

-- some parts of the repetition have been read
abbrev pub Repeats : Shape Class Event Name → List Token → List Token → List Part → Type 0
Repeats a ts us ps = Leads (Many a) ts (Many a) us ps

abbrev pub acting : List Qubit → List Part
acting qs = map (λ q. Made (Acts q)) qs

abbrev pub naming : List Called → List Part
naming ns = map (λ n. Made (Names n)) ns

abbrev pub taking : List Called → List Part
taking ns = map (λ n. Made (Takes n)) ns

abbrev pub keeping : List (List ℕ) → List Part
keeping xs = map (λ x. Made (Keeps x)) xs

abbrev pub values : List Written → List Part
values ws = map (λ w. Value w) ws

-- a word as it stands
pub record Word : Type 0 where
  pub place : Place
  pub class : Class
  pub sort : Sort

abbrev pub word_part : Word → Part
word_part w = Made (Says w.place w.class w.sort)

abbrev pub saying : List Word → List Part
saying ws = map word_part ws

abbrev pub modifier_at : Word → Modifier
modifier_at w = record { place = w.place; kind = modification_of w.sort }

-- one, and more behind commas
abbrev pub listed : Shape Class Event Name → Shape Class Event Name
listed x = Seq x (Many (Seq (One class.Comma) x))

-- one has been read, and some more behind commas
abbrev pub ListSoFar : Shape Class Event Name → List Token → List Token → List Part → Type 0
ListSoFar x ts us ps = Leads (listed x) ts (Many (Seq (One class.Comma) x)) us ps

-- expressions have been read
pub record FormulasSoFar (refs : Bool) (ts us : List Token) (fs : List Formula) : Type 0 where
  pub written : List Written
  pub so_far : ListSoFar (Rule (Sum refs)) ts us (values written)
  pub are_meant : fs ≡ map formula_of written

pub record AreFormulas (s : Shape Class Event Name) (ts us : List Token) (fs : List Formula) : Type 0 where
  pub written : List Written
  pub reads : Reads s ts us (values written)
  pub are_meant : fs ≡ map formula_of written

-- modifiers are read behind others, none of them FORKED
pub record ModifiersSoFar (ts us : List Token) (old new : List Modifier) : Type 0 where
  pub words : List Word
  pub repeats : Repeats (One class.Modifier) ts us (saying words)
  pub are_meant : new ≡ old ++ map modifier_at words

pub record AreModifiers (ts us : List Token) (old new : List Modifier) : Type 0 where
  pub words : List Word
  pub reads : Reads (Many (One class.Modifier)) ts us (saying words)
  pub are_meant : new ≡ old ++ map modifier_at words

-- FORKED behind other modifiers, where so many more may stand
abbrev pub forked : ℕ → Shape Class Event Name
forked zero = One class.FifthForked
forked (suc n) = Seq (One class.Forked) (modified n)

-- a gate is read behind its name
pub record IsCalled (ms : List Modifier) (n : Called) (ts us : List Token) (g : Gate) : Type 0 where
  pub written : List Written
  pub qubits : List Qubit
  pub reads : Reads behind_name ts us (values written ++ acting qubits)
  pub is_meant : g ≡ record { modifiers = ms; name = n; parameters = map formula_of written; qubits = qubits }

-- a gate is read behind its modifiers
pub record IsNamed (ms : List Modifier) (ts us : List Token) (g : Gate) : Type 0 where
  pub name : Called
  pub written : List Written
  pub qubits : List Qubit
  pub reads : Reads named ts us (Made (Names name) ∷ (values written ++ acting qubits))
  pub is_meant : g ≡ record { modifiers = ms; name = name; parameters = map formula_of written; qubits = qubits }

-- more modifiers are read: up to the name, or up to one more FORKED and with it
pub record Forks (forks : ℕ) (ts us : List Token) (old new : List Modifier) (is_named : Bool) : Type 0 where
  pub words : List Word
  pub are_meant : new ≡ old ++ map modifier_at words
  pub up_to_name : is_named ≡ true → Leads (modified forks) ts named us (saying words)
  pub up_to_fork : is_named ≡ false → Leads (modified forks) ts (modified (forks - 1)) us (saying words)

-- the modifiers so far
pub record ModifiedSoFar (forks : ℕ) (ts us : List Token) (p : Place) (ms : List Modifier) : Type 0 where
  pub first : Word
  pub more : List Word
  pub is_modifier : (s : Sort) (ps all : List Part) → worded first.class s ps all ≡ gate_of all
  pub leads : Leads modified_gate ts (modified forks) us (saying (first ∷ more))
  pub is_place : p ≡ first.place
  pub are_meant : ms ≡ map modifier_at (first ∷ more)

-- a number of cells with their type is read
pub record IsOffset (ts us : List Token) (o : Offset) : Type 0 where
  pub count : Whole
  pub place : Place
  pub sort : Sort
  pub reads : Reads offset ts us (Made (Counts count) ∷ Made (Says place class.CellType sort) ∷ [])
  pub is_meant : o ≡ record { count = count; kind = type_name_of sort }

pub record OffsetsSoFar (ts us : List Token) (os : List Offset) : Type 0 where
  pub parts : List Part
  pub leads : Leads (Seq offset (Many offset)) ts (Many offset) us parts
  pub means : (qs : List Part) → offsets_of (parts ++ qs) ≡ os ++ offsets_of qs

pub record AreOffsets (s : Shape Class Event Name) (ts us : List Token) (os : List Offset) : Type 0 where
  pub parts : List Part
  pub reads : Reads s ts us parts
  pub means : offsets_of parts ≡ os

pub record IsSharing (ts us : List Token) (s : Sharing) : Type 0 where
  pub parts : List Part
  pub reads : Reads sharing ts us parts
  pub means : sharing_of parts ≡ Some s

pub record MaybeShares (ts us : List Token) (s : Option Sharing) : Type 0 where
  pub parts : List Part
  pub reads : Reads (maybe sharing) ts us parts
  pub means : sharing_of parts ≡ s

-- the form of a gate's definition is read
pub record IsForm (s : Shape Class Event Name) (ts us : List Token) (is_permutation : Bool) : Type 0 where
  pub parts : List Part
  pub reads : Reads s ts us parts
  pub form : gate_form parts ≡ (if is_permutation then a_form.Permutation [] else a_form.Matrix [])
  pub takes_none : filter_map taken_of parts ≡ []

-- the parameters and the form of a gate's definition are read
pub record IsShape (ts us : List Token) (parameters : List Called) (f : Form) : Type 0 where
  pub parts : List Part
  pub reads : Reads gate_shape ts us parts
  pub form : gate_form parts ≡ f
  pub takes : filter_map taken_of parts ≡ parameters

-- an instruction on classical memory comes next
abbrev pub begins_classical : List Token → Bool
begins_classical ts = is_next class.UnaryWord ts || (is_next class.PairWord ts || (is_next class.BinaryWord ts || (is_next class.Load ts || (is_next class.Store ts || is_next class.CompareWord ts))))
