-- The tables by which one token decides each choice in the grammar: all sorts and all rules, the sorts that may open a rule and
-- that may follow one, and ranks of rules. They are checked by the condition that is computed from them, so no claim on a text
-- rests on what they say.
use Rattle.std.specs.Prelude.{◌≡◌, ℕ, Bool, true, false, ◌||◌, List, [], ◌∷◌, Some, slice_get, if◌then◌else◌, refl}
use Rattle.quil_shape.specs.Condition.{Tables}
use Rattle.quil_grammar.specs.declared.sort.Sort.{Sort}
use Rattle.quil_grammar.specs.declared.sort.Sort.TheVariants as sort
use Rattle.quil_grammar.specs.declared.class.Class.TheVariants as class
use Rattle.quil_grammar.specs.Sort.{number_of}
use Rattle.quil_grammar.specs.Grammar.{Name, Sum, Product, Unary, Power, Primary, OperandSum, OperandProduct, OperandUnary, OperandPower, OperandPrimary, accepts}

-- all sorts, as they are declared
abbrev pub sorts : List Sort
sorts = sort.Name ∷ sort.LeftOut ∷ sort.LeftOutForm ∷ sort.Formal ∷ sort.Declare ∷ sort.Bit ∷ sort.Octet ∷ sort.Integer
    ∷ sort.Real ∷ sort.Sharing ∷ sort.Offset ∷ sort.DefGate ∷ sort.As ∷ sort.Matrix ∷ sort.Permutation ∷ sort.DefCircuit
    ∷ sort.Controlled ∷ sort.Dagger ∷ sort.Forked ∷ sort.Measure ∷ sort.Reset ∷ sort.Wait ∷ sort.Nop ∷ sort.Halt
    ∷ sort.Pragma ∷ sort.LabelWord ∷ sort.Jump ∷ sort.JumpWhen ∷ sort.JumpUnless ∷ sort.Not ∷ sort.Neg ∷ sort.Exchange
    ∷ sort.Convert ∷ sort.Move ∷ sort.Add ∷ sort.Sub ∷ sort.Mul ∷ sort.Div ∷ sort.And ∷ sort.Ior
    ∷ sort.Xor ∷ sort.Load ∷ sort.Store ∷ sort.Eq ∷ sort.Gt ∷ sort.Ge ∷ sort.Lt ∷ sort.Le
    ∷ sort.Pi ∷ sort.I ∷ sort.Sqrt ∷ sort.Sin ∷ sort.Cos ∷ sort.Cis ∷ sort.Exp ∷ sort.Zero
    ∷ sort.Whole ∷ sort.Decimal ∷ sort.Imaginary ∷ sort.Str ∷ sort.Parameter ∷ sort.Unknown ∷ sort.Label ∷ sort.LeftParenthesis
    ∷ sort.RightParenthesis ∷ sort.LeftBracket ∷ sort.RightBracket ∷ sort.Comma ∷ sort.Colon ∷ sort.Plus ∷ sort.Minus ∷ sort.Star
    ∷ sort.Slash ∷ sort.Caret ∷ sort.Semicolon ∷ sort.Bad ∷ []

pub sort_is_listed : (s : Sort) → slice_get sorts (number_of s) ≡ Some s
sort_is_listed sort.Name = refl
sort_is_listed sort.LeftOut = refl
sort_is_listed sort.LeftOutForm = refl
sort_is_listed sort.Formal = refl
sort_is_listed sort.Declare = refl
sort_is_listed sort.Bit = refl
sort_is_listed sort.Octet = refl
sort_is_listed sort.Integer = refl
sort_is_listed sort.Real = refl
sort_is_listed sort.Sharing = refl
sort_is_listed sort.Offset = refl
sort_is_listed sort.DefGate = refl
sort_is_listed sort.As = refl
sort_is_listed sort.Matrix = refl
sort_is_listed sort.Permutation = refl
sort_is_listed sort.DefCircuit = refl
sort_is_listed sort.Controlled = refl
sort_is_listed sort.Dagger = refl
sort_is_listed sort.Forked = refl
sort_is_listed sort.Measure = refl
sort_is_listed sort.Reset = refl
sort_is_listed sort.Wait = refl
sort_is_listed sort.Nop = refl
sort_is_listed sort.Halt = refl
sort_is_listed sort.Pragma = refl
sort_is_listed sort.LabelWord = refl
sort_is_listed sort.Jump = refl
sort_is_listed sort.JumpWhen = refl
sort_is_listed sort.JumpUnless = refl
sort_is_listed sort.Not = refl
sort_is_listed sort.Neg = refl
sort_is_listed sort.Exchange = refl
sort_is_listed sort.Convert = refl
sort_is_listed sort.Move = refl
sort_is_listed sort.Add = refl
sort_is_listed sort.Sub = refl
sort_is_listed sort.Mul = refl
sort_is_listed sort.Div = refl
sort_is_listed sort.And = refl
sort_is_listed sort.Ior = refl
sort_is_listed sort.Xor = refl
sort_is_listed sort.Load = refl
sort_is_listed sort.Store = refl
sort_is_listed sort.Eq = refl
sort_is_listed sort.Gt = refl
sort_is_listed sort.Ge = refl
sort_is_listed sort.Lt = refl
sort_is_listed sort.Le = refl
sort_is_listed sort.Pi = refl
sort_is_listed sort.I = refl
sort_is_listed sort.Sqrt = refl
sort_is_listed sort.Sin = refl
sort_is_listed sort.Cos = refl
sort_is_listed sort.Cis = refl
sort_is_listed sort.Exp = refl
sort_is_listed sort.Zero = refl
sort_is_listed sort.Whole = refl
sort_is_listed sort.Decimal = refl
sort_is_listed sort.Imaginary = refl
sort_is_listed sort.Str = refl
sort_is_listed sort.Parameter = refl
sort_is_listed sort.Unknown = refl
sort_is_listed sort.Label = refl
sort_is_listed sort.LeftParenthesis = refl
sort_is_listed sort.RightParenthesis = refl
sort_is_listed sort.LeftBracket = refl
sort_is_listed sort.RightBracket = refl
sort_is_listed sort.Comma = refl
sort_is_listed sort.Colon = refl
sort_is_listed sort.Plus = refl
sort_is_listed sort.Minus = refl
sort_is_listed sort.Star = refl
sort_is_listed sort.Slash = refl
sort_is_listed sort.Caret = refl
sort_is_listed sort.Semicolon = refl
sort_is_listed sort.Bad = refl

-- all rules
abbrev pub names : List Name
names = Primary false ∷ Power false ∷ Unary false ∷ Product false ∷ Sum false ∷ Primary true ∷ Power true ∷ Unary true ∷ Product true ∷ Sum true
    ∷ OperandPrimary ∷ OperandPower ∷ OperandUnary ∷ OperandProduct ∷ OperandSum ∷ []

abbrev pub name_number : Name → ℕ
name_number (Primary refs) = if refs then 5 else 0
name_number (Power refs) = if refs then 6 else 1
name_number (Unary refs) = if refs then 7 else 2
name_number (Product refs) = if refs then 8 else 3
name_number (Sum refs) = if refs then 9 else 4
name_number OperandPrimary = 10
name_number OperandPower = 11
name_number OperandUnary = 12
name_number OperandProduct = 13
name_number OperandSum = 14

pub name_is_listed : (r : Name) → slice_get names (name_number r) ≡ Some r
name_is_listed (Primary true) = refl
name_is_listed (Primary false) = refl
name_is_listed (Power true) = refl
name_is_listed (Power false) = refl
name_is_listed (Unary true) = refl
name_is_listed (Unary false) = refl
name_is_listed (Product true) = refl
name_is_listed (Product false) = refl
name_is_listed (Sum true) = refl
name_is_listed (Sum false) = refl
name_is_listed OperandPrimary = refl
name_is_listed OperandPower = refl
name_is_listed OperandUnary = refl
name_is_listed OperandProduct = refl
name_is_listed OperandSum = refl

-- a rule begins with rules of less rank
abbrev pub rank_of : Name → ℕ
rank_of (Primary refs) = 0
rank_of (Power refs) = 1
rank_of (Unary refs) = 2
rank_of (Product refs) = 3
rank_of (Sum refs) = 4
rank_of OperandPrimary = 0
rank_of OperandPower = 1
rank_of OperandUnary = 2
rank_of OperandProduct = 3
rank_of OperandSum = 4

-- the sorts that may open a primary
abbrev pub opens_primary : Bool → Sort → Bool
opens_primary refs s = accepts class.Number s || (accepts class.Imaginary s || (accepts class.Pi s || (accepts class.I s || (accepts class.Parameter s
    || (accepts (class.Region refs) s || (accepts class.Function s || accepts class.Parenthesis s))))))

-- which sorts may open a rule; this, and what may follow it, need only cover the truth, and the condition checks that they do
abbrev pub opens_rule : Name → Sort → Bool
opens_rule (Primary refs) s = opens_primary refs s
opens_rule (Power refs) s = opens_primary refs s
opens_rule (Unary refs) s = opens_primary refs s || accepts class.Sign s
opens_rule (Product refs) s = opens_primary refs s || accepts class.Sign s
opens_rule (Sum refs) s = opens_primary refs s || accepts class.Sign s
opens_rule OperandPrimary s = opens_primary false s
opens_rule OperandPower s = opens_primary false s
opens_rule OperandUnary s = opens_primary false s || accepts class.Sign s
opens_rule OperandProduct s = opens_primary false s || accepts class.Sign s
opens_rule OperandSum s = opens_primary false s || accepts class.Sign s

abbrev pub follows_rule : Name → Sort → Bool
follows_rule (Sum refs) s = accepts class.ParenthesisEnds s || accepts class.Comma s
follows_rule (Product refs) s = accepts class.ParenthesisEnds s || (accepts class.Comma s || (accepts class.Additive s))
follows_rule (Unary refs) s = accepts class.ParenthesisEnds s || (accepts class.Comma s || ((accepts class.Additive s || accepts class.Multiplicative s)))
follows_rule (Power refs) s = accepts class.ParenthesisEnds s || (accepts class.Comma s || ((accepts class.Additive s || accepts class.Multiplicative s)))
follows_rule (Primary refs) s = accepts class.ParenthesisEnds s || (accepts class.Comma s || ((accepts class.Additive s || (accepts class.Multiplicative s || accepts class.Caret s))))
follows_rule OperandSum s = false
follows_rule OperandProduct s = accepts class.Additive s
follows_rule OperandUnary s = accepts class.Additive s || accepts class.Multiplicative s
follows_rule OperandPower s = accepts class.Additive s || accepts class.Multiplicative s
follows_rule OperandPrimary s = accepts class.Additive s || (accepts class.Multiplicative s || accepts class.Caret s)

unfoldable pub tables : Tables Name Sort
tables =
    record {
      kinds = record { items = sorts; place = number_of; is_listed = sort_is_listed };
      rules = record { items = names; place = name_number; is_listed = name_is_listed };
      opens = opens_rule;
      skippable = λ r. false;
      follow = follows_rule;
      rank = rank_of;
    }
