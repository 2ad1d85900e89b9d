-- What an answer of the example's reader means, in terms of what is still to read.
use Rattle.std.specs.Prelude.{◌≡◌, ◌<◌, ◌≤◌, ℕ, List, Result, Ok, Err, Vec, length, drop}
use Rattle.quil_shape.specs.Shape.{Shape}
use Rattle.quil_shape.specs.Reads.{Ending, ReadsOn}
use Rattle.quil_shape.specs.Reads.Ending.{Went, Halted, Exceeded, Unknown}
use Rattle.quil_shape.specs.Verdict.{Verdict, IsRefusedAt, IsTooLargeAt, IsOnlyVerdict}
use Rattle.quil_shape.specs.Verdict.Verdict.{Read, Refused, TooLarge}
use Rattle.quil_shape.specs.Nested.{nested, tables, list, pending, Class, Name}
use Rattle.quil_shape.specs.declared.example.Reader.{Reader}
use Rattle.quil_shape.specs.declared.example.Token.{Token}
use Rattle.quil_shape.specs.declared.example.Step.{Step}
use Rattle.quil_shape.specs.declared.example.Fault.{Fault}
use Rattle.quil_shape.specs.declared.example.Fault.TheVariants.{OutOfMemory, Unexpected, TooLarge as OutOfSize}
use Rattle.quil_shape.specs.declared.example.Stop.{Stop}
use Rattle.quil_shape.specs.declared.example.Stop.TheVariants.{OutOfMemory as NoMemory, Unexpected as Misplaced, TooLarge as Oversized}

-- how a function of the reader ended
abbrev pub ending_of : Result (Unit {0}) Stop → Ending
ending_of (Ok done) = Went
ending_of (Err NoMemory) = Unknown
ending_of (Err Misplaced) = Halted
ending_of (Err Oversized) = Exceeded

-- with these shapes to read, the reader came from one state to the other, where those shapes are to be read
abbrev pub Moves : List (Shape Class Step Name) → Reader → List (Shape Class Step Name) → Reader → Result (Unit {0}) Stop → Type 0
Moves todo old left new result = ReadsOn nested tables todo old.rest.now old.steps.items left new.rest.now new.steps.items (ending_of result)

-- what is still to read in this state
abbrev pub pending_in : Reader → List (Shape Class Step Name)
pending_in reader = pending reader.behind_item reader.depth

-- what the reader left at these tokens says of all tokens
abbrev pub IsTold : List Token → List Token → List Step → Result (Unit {0}) Stop → Type 0
IsTold ts rest os (Ok done) = IsOnlyVerdict nested list ts (Read os)
IsTold ts rest os (Err NoMemory) = Unit {0}
IsTold ts rest os (Err Misplaced) = IsOnlyVerdict nested list ts (Refused rest)
IsTold ts rest os (Err Oversized) = IsOnlyVerdict nested list ts (TooLarge rest)

-- the fault says where the tokens are refused, or where one is too large
abbrev pub IsTrueFault : List Token → Fault → Type 0
IsTrueFault ts OutOfMemory = Unit {0}
IsTrueFault ts (Unexpected place) = (place ≤ length ts) × IsRefusedAt nested list ts (drop place ts)
IsTrueFault ts (OutOfSize place) = (place < length ts) × IsTooLargeAt nested list ts (drop place ts)

-- the answer is this verdict, or there was no memory
abbrev pub Tells : {A : Type 0} → List Token → Verdict Step Token → Result (Vec Step A) Fault → Type 0
Tells ts v (Ok steps) = v ≡ Read steps.items
Tells ts v (Err OutOfMemory) = Unit {0}
Tells ts v (Err (Unexpected place)) = v ≡ Refused (drop place ts)
Tells ts v (Err (OutOfSize place)) = v ≡ TooLarge (drop place ts)

-- the fault of a stop
abbrev pub fault_at : ℕ → Stop → Fault
fault_at place NoMemory = OutOfMemory
fault_at place Misplaced = Unexpected place
fault_at place Oversized = OutOfSize place
