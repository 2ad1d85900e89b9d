-- Shapes that the condition refuses, over the tokens of the example.
use Rattle.quil_shape.specs.Shape.{Shape}
use Rattle.quil_shape.specs.Shape.Shape.{One, Empty, Seq, Or, Many, Rule}
use Rattle.quil_shape.specs.Nested.{Class, Separator, LastNumber, Name, Item}
use Rattle.quil_shape.specs.declared.example.Step.{Step}

-- numbers, each with a comma behind it
abbrev pub with_commas : Shape Class Step Name
with_commas = Many (Seq (One LastNumber) (One Separator))

-- a number, with or without a comma before it
abbrev pub maybe_comma : Shape Class Step Name
maybe_comma = Or (One LastNumber) (Seq (One Separator) (One LastNumber))

-- a repetition that may be followed by itself
abbrev pub twice_repeated : Shape Class Step Name
twice_repeated = Seq with_commas with_commas

-- a repetition of a part that may be empty
abbrev pub empty_repeated : Shape Class Step Name
empty_repeated = Many with_commas

-- a choice whose members begin alike
abbrev pub alike : Shape Class Step Name
alike = Or (One LastNumber) (Rule Item)

-- a choice whose members may both be empty
abbrev pub both_empty : Shape Class Step Name
both_empty = Or with_commas Empty

-- a choice of nothing before what its other member begins with
abbrev pub nothing_before : Shape Class Step Name
nothing_before = Seq (Or (One Separator) Empty) (One Separator)
