-- The example: nested lists of numbers and ranges of numbers, as `[1, [2, 300 .. 400], []]`.
use Rattle.std.specs.Prelude.{◌≡◌, ℕ, zero, suc, Bool, true, false, not, ◌&&◌, ◌||◌, List, [], ◌∷◌, Option, Some, None, slice_get, refl, nat_lt, ◌==◌}
use Rattle.quil_shape.specs.Shape.{Shape, Grammar}
use Rattle.quil_shape.specs.Shape.Shape.{One, Emit, Empty, Seq, Or, Many, Rule}
use Rattle.quil_shape.specs.Condition.{Tables}
use Rattle.quil_shape.specs.declared.example.Token.{Token}
use Rattle.quil_shape.specs.declared.example.Step.{Step}
use Rattle.quil_shape.specs.declared.example.Token.TheVariants.{Open, Close, Comma, Dots, Number}
use Rattle.quil_shape.specs.declared.example.Step.TheVariants.{Begin, Value, Range, End}

-- kinds of tokens
pub data Kind : Type 0 where
  OpenMark CloseMark CommaMark DotsMark Digits : Kind

-- classes of tokens: each kind, but a number first in its place may be a range's
pub data Class : Type 0 where
  Opening Closing Separator Between FirstNumber LastNumber : Class

-- rules
pub data Name : Type 0 where
  Nest Item : Name

abbrev pub kind_of : Token → Kind
kind_of Open = OpenMark
kind_of Close = CloseMark
kind_of Comma = CommaMark
kind_of Dots = DotsMark
kind_of (Number n) = Digits

abbrev pub place_of : Kind → ℕ
place_of OpenMark = 0
place_of CloseMark = 1
place_of CommaMark = 2
place_of DotsMark = 3
place_of Digits = 4

-- the kind that a class accepts
abbrev pub kind_wanted : Class → Kind
kind_wanted Opening = OpenMark
kind_wanted Closing = CloseMark
kind_wanted Separator = CommaMark
kind_wanted Between = DotsMark
kind_wanted FirstNumber = Digits
kind_wanted LastNumber = Digits

abbrev pub number_steps : Token → List Step
number_steps (Number n) = Value n ∷ []
number_steps _ = []

-- the steps that a token makes
abbrev pub value_of : Class → Token → List Step
value_of Opening t = Begin ∷ []
value_of Closing t = End ∷ []
value_of Separator t = []
value_of Between t = []
value_of FirstNumber t = number_steps t
value_of LastNumber t = number_steps t

abbrev pub is_small : Token → Bool
is_small (Number n) = nat_lt n 256
is_small _ = true

abbrev pub is_range_next : List Token → Bool
is_range_next [] = false
is_range_next (t ∷ ts) = place_of (kind_of t) == 3

-- a number alone is below 256; the ends of a range may be any
abbrev pub is_too_large : Class → Token → List Token → Bool
is_too_large FirstNumber t behind = not (is_small t) && not (is_range_next behind)
is_too_large _ t behind = false

-- what makes a number a range
abbrev pub range_end : Shape Class Step Name
range_end = Seq (One Between) (Seq (One LastNumber) (Emit Range))

-- a number, or a range
abbrev pub number : Shape Class Step Name
number = Seq (One FirstNumber) (Or range_end Empty)

-- what follows an item in its list
abbrev pub more_items : Shape Class Step Name
more_items = Many (Seq (One Separator) (Rule Item))

-- what a list may hold
abbrev pub items : Shape Class Step Name
items = Or (Seq (Rule Item) more_items) Empty

abbrev pub body_of : Name → Shape Class Step Name
body_of Nest = Seq (One Opening) (Seq items (One Closing))
body_of Item = Or number (Rule Nest)

unfoldable pub nested : Grammar Class Step Name Kind Token
nested = record { kind = kind_of; accepts = λ c k. place_of (kind_wanted c) == place_of k; value = value_of; is_large = is_too_large; body = body_of }

abbrev pub kinds : List Kind
kinds = OpenMark ∷ CloseMark ∷ CommaMark ∷ DotsMark ∷ Digits ∷ []

pub kind_is_listed : (k : Kind) → slice_get kinds (place_of k) ≡ Some k
kind_is_listed OpenMark = refl
kind_is_listed CloseMark = refl
kind_is_listed CommaMark = refl
kind_is_listed DotsMark = refl
kind_is_listed Digits = refl

abbrev pub names : List Name
names = Nest ∷ Item ∷ []

abbrev pub rank_of : Name → ℕ
rank_of Nest = 0
rank_of Item = 1

pub name_is_listed : (r : Name) → slice_get names (rank_of r) ≡ Some r
name_is_listed Nest = refl
name_is_listed Item = refl

abbrev pub opens_rule : Name → Kind → Bool
opens_rule Nest k = place_of k == 0
opens_rule Item k = place_of k == 0 || place_of k == 4

abbrev pub follows_rule : Name → Kind → Bool
follows_rule r k = place_of k == 1 || place_of k == 2

-- the tables of the example, by which its condition is computed
unfoldable pub tables : Tables Name Kind
tables =
    record {
      kinds = record { items = kinds; place = place_of; is_listed = kind_is_listed };
      rules = record { items = names; place = rank_of; is_listed = name_is_listed };
      opens = opens_rule;
      skippable = λ r. false;
      follow = follows_rule;
      rank = rank_of;
    }

-- the list of lists
abbrev pub list : Shape Class Step Name
list = Rule Nest

-- what is still to read inside so many lists, behind an item or at the beginning of the innermost list
abbrev pub pending : Bool → ℕ → List (Shape Class Step Name)
pending behind_item zero = []
pending true (suc depth) = more_items ∷ One Closing ∷ pending true depth
pending false (suc depth) = items ∷ One Closing ∷ pending true depth

-- the number that stands next
abbrev pub number_next : List Token → Option ℕ
number_next (Number n ∷ ts) = Some n
number_next _ = None

-- an item's first token comes next
abbrev pub opens_item : List Token → Bool
opens_item [] = false
opens_item (t ∷ ts) = opens_rule Item (kind_of t)
