-- What a refusal or a fault says, and its text on one line.
use Rattle.std.specs.Prelude.{ℕ, ℤ, Bool, true, ◌&&◌, List, [], ◌∷◌, ◌++◌, codes}
use Rattle.std.specs.Ordering.{is_lt, nat_cmp}
use Rattle.std.specs.Cmp.Lexicographic.{slice_cmp}
use Rattle.std.specs.Fmt.{decimal, signed_decimal}
use Rattle.std.specs.List.{flat_map}

-- a whole number, or a word of the text that was refused
pub data Value : Type 0 where
  Number : ℤ → Value
  Word : List ℕ → Value

pub record Report : Type 0 where
  pub code : ℕ
  pub name : List ℕ
  -- keys with their values
  pub details : List (List ℕ × Value)

-- the keys rise in the order of their bytes, from behind this key
abbrev pub keys_rise_behind : List ℕ → List (List ℕ × Value) → Bool
keys_rise_behind key [] = true
keys_rise_behind key (d ∷ ds) = is_lt (slice_cmp nat_cmp key d.0) && keys_rise_behind d.0 ds

-- no key stands twice, since a key is at least one byte
abbrev pub keys_rise : List (List ℕ × Value) → Bool
keys_rise details = keys_rise_behind [] details

abbrev pub value_text : Value → List ℕ
value_text (Number n) = signed_decimal n
value_text (Word w) = w

abbrev pub detail_text : List ℕ × Value → List ℕ
detail_text d = codes " " ++ d.0 ++ codes "=" ++ value_text d.1

-- the code, the name, and ` key=value` for each detail
abbrev pub text_of : Report → List ℕ
text_of r = decimal r.code ++ codes " " ++ r.name ++ flat_map detail_text r.details
