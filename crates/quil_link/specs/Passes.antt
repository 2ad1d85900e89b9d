-- Passes that follow one another: the first fault is what they give.
use Rattle.std.specs.Prelude.{◌≡◌, ◌⊎◌, List, [], ◌∷◌, Option, Some, None, Result, Err}
use Rattle.std.specs.Option.{option_or}
use Rattle.quil_code.specs.declared.load_fault.LoadFault.{LoadFault}
use Rattle.quil_code.specs.declared.load_fault.LoadFault.TheVariants as fault

-- what follows a pass that does no more than find a fault
abbrev pub unless : {A F : Type 0} → Option F → Result A F → Result A F
unless None r = r
unless (Some e) r = Err e

-- the first fault of an element
abbrev pub first_of : {A F : Type 0} → (A → Option F) → List A → Option F
first_of f [] = None
first_of f (x ∷ xs) = option_or (f x) (first_of f xs)

-- the answer is this, or memory ran out
abbrev pub Loads : {A : Type 0} → Result A LoadFault → Result A LoadFault → Type 0
Loads answer want = (answer ≡ want) ⊎ (answer ≡ Err fault.OutOfMemory)
