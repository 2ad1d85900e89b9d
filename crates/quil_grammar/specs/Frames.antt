-- What the reader of expressions has still to read, and what it holds. The records at the end say what the readers of
-- expressions and operands tell; `parse_expr` and `parse` are told by other words, so nobody has to believe these for them.
use Rattle.std.specs.Prelude.{◌≡◌, Bool, true, false, List, [], ◌∷◌, ◌++◌, Result, Ok, Err}
use Rattle.quil_shape.specs.Shape.{Shape}
use Rattle.quil_shape.specs.Shape.Shape.{One, Emit, Seq, Rule}
use Rattle.quil_shape.specs.Reads.{GoesOn, Advances, Halts, Exceeds, first_passes}
use Rattle.quil_tree.specs.declared.place.Place.{Place}
use Rattle.quil_tree.specs.declared.expr.Operator.{Operator}
use Rattle.quil_tree.specs.declared.expr.Step.{Step}
use Rattle.quil_tree.specs.declared.statement.Formula.{Formula}
use Rattle.quil_tree.specs.declared.statement.Operand.{Operand as AnOperand}
use Rattle.quil_tree.specs.Expression.{postfix}
use Rattle.quil_grammar.specs.Token.{Token}
use Rattle.quil_grammar.specs.Grammar.{quil, accepts, Name, Sum, OperandSum, Unary, Event, Around, more_terms, more_factors, exponent}
use Rattle.quil_grammar.specs.Tables.{tables}
use Rattle.quil_grammar.specs.Grammar.Around.{Signed, Parenthesized, Argument}
use Rattle.quil_grammar.specs.Grammar.Event.{Between, Joined, Opens, Closes}
use Rattle.quil_grammar.specs.Written.{Written, events, meaning, start, formula_of, operand_of}
use Rattle.quil_grammar.specs.declared.class.Class.{Class}
use Rattle.quil_grammar.specs.declared.class.Class.TheVariants as class
use Rattle.quil_grammar.specs.declared.reader.Reader.{Reader}
use Rattle.quil_grammar.specs.declared.reader.Todo.{Todo}
use Rattle.quil_grammar.specs.declared.reader.Todo.TheVariants as todo
use Rattle.quil_grammar.specs.declared.stop.Stop.{Stop}
use Rattle.quil_grammar.specs.declared.stop.Stop.TheVariants as stop

-- a token may stand in the place, and it comes next
abbrev pub is_next : Class → List Token → Bool
is_next c ts = first_passes quil (accepts c) ts

-- what is still to read, with what was read before it
pub data Frame : Type 0 where
  MoreTerms : Frame
  MoreFactors : Frame
  AnExponent : Frame
  Operand : Operator → Written → Frame
  Rest : Around → Frame

-- the rest of an expression with something round it
abbrev pub rest_of : Around → Shape Class Event Name
rest_of (Signed p s) = Emit Closes
rest_of (Parenthesized p) = Seq (One class.ParenthesisEnds) (Emit Closes)
rest_of (Argument p f) = Seq (One class.ParenthesisEnds) (Emit Closes)

abbrev pub shape_of : Bool → Frame → Shape Class Event Name
shape_of refs MoreTerms = more_terms refs
shape_of refs MoreFactors = more_factors refs
shape_of refs AnExponent = exponent refs
shape_of refs (Operand o a) = Emit Joined
shape_of refs (Rest m) = rest_of m

abbrev pub around_todo : Around → Todo
around_todo (Signed p s) = todo.Signed p s
around_todo (Parenthesized p) = todo.Parenthesized p
around_todo (Argument p f) = todo.Argument p f

abbrev pub todo_of : Frame → Todo
todo_of MoreTerms = todo.Terms
todo_of MoreFactors = todo.Factors
todo_of AnExponent = todo.Exponent
todo_of (Operand o a) = todo.Operand o (start a)
todo_of (Rest m) = around_todo m

-- what was made up to a frame and with it, and the steps of it
abbrev pub held_behind : List Event → Frame → List Event
held_behind os MoreTerms = os
held_behind os MoreFactors = os
held_behind os AnExponent = os
held_behind os (Operand o a) = (os ++ events a) ++ Between o ∷ []
held_behind os (Rest m) = os ++ Opens m ∷ []

abbrev pub kept_behind : List Step → Frame → List Step
kept_behind ss MoreTerms = ss
kept_behind ss MoreFactors = ss
kept_behind ss AnExponent = ss
kept_behind ss (Operand o a) = ss ++ postfix (meaning a)
kept_behind ss (Rest m) = ss

-- the same of frames, the innermost first
abbrev pub shapes : Bool → List Frame → List (Shape Class Event Name)
shapes refs [] = []
shapes refs (f ∷ fs) = shape_of refs f ∷ shapes refs fs

abbrev pub todos : List Frame → List Todo
todos [] = []
todos (f ∷ fs) = todos fs ++ todo_of f ∷ []

abbrev pub held : List Frame → List Event
held [] = []
held (f ∷ fs) = held_behind (held fs) f

abbrev pub kept : List Frame → List Step
kept [] = []
kept (f ∷ fs) = kept_behind (kept fs) f

-- an operand is to be read next
pub record Wants (refs : Bool) (ts us : List Token) (to_do : List Todo) (steps : List Step) : Type 0 where
  pub frames : List Frame
  pub is_to_do : to_do ≡ todos frames
  pub is_kept : steps ≡ kept frames
  pub goes_on : GoesOn quil tables (Rule (Sum refs) ∷ []) ts [] (Rule (Unary refs) ∷ shapes refs frames) us (held frames)

-- an operand that begins here was read last
pub record Holds (refs : Bool) (ts us : List Token) (to_do : List Todo) (steps : List Step) (begin : Place) : Type 0 where
  pub frames : List Frame
  pub operand : Written
  pub is_to_do : to_do ≡ todos frames
  pub is_kept : steps ≡ kept frames ++ postfix (meaning operand)
  pub is_begin : begin ≡ start operand
  pub goes_on : GoesOn quil tables (Rule (Sum refs) ∷ []) ts [] (shapes refs frames) us (held frames ++ events operand)

-- how the reader stands, behind these tokens
abbrev pub Stands : Bool → List Token → Reader → Type 0
Stands true ts reader = Wants reader.references ts reader.rest.now reader.todo.items reader.steps.items
Stands false ts reader = Holds reader.references ts reader.rest.now reader.todo.items reader.steps.items reader.start

-- reading the shape stopped before these tokens
abbrev pub StopsFor : Stop → Shape Class Event Name → List Token → List Token → Type 0
StopsFor stop.Unexpected s ts us = Halts quil tables s ts us
StopsFor stop.TooLarge s ts us = Exceeds quil tables s ts us
StopsFor stop.OutOfMemory s ts us = Unit {0}

-- the reader stands so, or reading the expression stopped
abbrev pub GoesToStand : List Token → Result Bool Stop → Reader → Type 0
GoesToStand ts (Ok wants) reader = Stands wants ts reader
GoesToStand ts (Err e) reader = StopsFor e (Rule (Sum reader.references)) ts reader.rest.now

-- these are the steps of an expression that is read from the first tokens up to the second
pub record IsRead (refs : Bool) (ts us : List Token) (steps : List Step) : Type 0 where
  pub written : Written
  pub advances : Advances quil tables (Rule (Sum refs)) ts us (events written)
  pub is_meaning : steps ≡ postfix (meaning written)

-- the same with its place
pub record IsFormulaRead (refs : Bool) (ts us : List Token) (f : Formula) : Type 0 where
  pub written : Written
  pub advances : Advances quil tables (Rule (Sum refs)) ts us (events written)
  pub is_meaning : f ≡ formula_of written

-- this operand, no address, is read from the first tokens up to the second
pub record IsOperandRead (ts us : List Token) (o : AnOperand) : Type 0 where
  pub written : Written
  pub advances : Advances quil tables (Rule OperandSum) ts us (events written)
  pub is_meaning : o ≡ operand_of written
