-- What the words behind the program's name ask for. A word is a list of bytes.
use Rattle.std.specs.Prelude.{ℕ, ◌+◌, ◌*◌, ◌^◌, Bool, ◌&&◌, ◌||◌, nat_le, ◌==◌, List, [], ◌∷◌, length, take, drop, map, filter, position, slice_index, codes, bytes_eq, Option, Some, None, option_map, option_and_then, if◌then◌else◌}
use Rattle.std.specs.List.{list_all, range_with_len}
use Rattle.std.specs.Char.{digit_value, is_digit}
use Rattle.std.specs.Str.Parse.{digits_value}
use Rattle.qvm_step.specs.Words.{zero_seed}
use Rattle.qvm.specs.declared.command.Command.{Command}
use Rattle.qvm.specs.declared.command.Command.TheVariants.{Run}
use Rattle.qvm.specs.declared.command.RunOptions.{RunOptions}

-- ---- values

-- byte i of the bytes that hexadecimal digits are: its upper half is digit 2i, and its lower half the next
abbrev pub byte_of_digits : List ℕ → ℕ → ℕ
byte_of_digits digits i = digit_value (slice_index digits (2 * i)) * 16 + digit_value (slice_index digits (2 * i + 1))

-- 64 hexadecimal digits of either case are a seed of 32 bytes
unfoldable pub seed_of : List ℕ → Option (List ℕ)
seed_of text = if length text == 64 && list_all (λ c. is_digit c 16) text then Some (map (byte_of_digits text) (range_with_len 0 32)) else None

-- at most 20 decimal digits are a number, and a limit is one from 1 to 2^32
unfoldable pub limit_of : List ℕ → Option ℕ
limit_of text =
    if (nat_le (length text) 20 && list_all (λ c. is_digit c 10) text) && (nat_le 1 (digits_value 10 text) && nat_le (digits_value 10 text) (2 ^ 32))
    then Some (digits_value 10 text) else None

-- ---- options

-- an option as it is given
pub record Choice : Type 0 where
  pub name : List ℕ
  pub value : List ℕ

-- a word cut at its first `=`, where it has one
unfoldable pub cut : List ℕ → Option Choice
cut word = option_map (λ i. record { name = take i word; value = drop (i + 1) word }) (position (λ b. b == 61) word)

-- the options that words are, each `--name=value` in one word or `--name value` in two
abbrev pub choices_of : List (List ℕ) → Option (List Choice)
choices_of [] = Some []
choices_of (word ∷ []) = option_map (λ c. c ∷ []) (cut word)
choices_of (word ∷ value ∷ words) = elim (cut word) [
  | Some c ↦ option_map (λ cs. c ∷ cs) (choices_of (value ∷ words))
  | None ↦ option_map (λ cs. record { name = word; value = value } ∷ cs) (choices_of words)
]

abbrev pub has_name : List ℕ → Choice → Bool
has_name name c = bytes_eq c.name name

-- the values given under a name
abbrev pub values_of : List ℕ → List Choice → List (List ℕ)
values_of name choices = map (λ c. c.value) (filter (has_name name) choices)

-- what the values given under one name come to: with none the default, and more than one is wrong
abbrev pub chosen : {A : Type 0} → A → (List ℕ → Option A) → List (List ℕ) → Option A
chosen default read [] = Some default
chosen default read (value ∷ []) = read value
chosen default read (value ∷ other ∷ values) = None

-- ---- commands

abbrev pub seed_name : List ℕ
seed_name = codes "--seed"

abbrev pub limit_name : List ℕ
limit_name = codes "--max-steps"

abbrev pub default_limit : ℕ
default_limit = 1000000

-- a run has a seed, by default all zeros, and a limit of steps, by default a million, and no other option
abbrev pub run_options : List Choice → Option RunOptions
run_options choices =
    if list_all (λ c. has_name seed_name c || has_name limit_name c) choices
    then option_and_then (λ seed. option_map (λ limit. record { seed = seed; limit = limit }) (chosen default_limit limit_of (values_of limit_name choices)))
    (chosen zero_seed seed_of (values_of seed_name choices))
    else None

-- the command that words are: the word `run`, and its options
unfoldable pub command_of : List (List ℕ) → Option Command
command_of [] = None
command_of (word ∷ words) = if bytes_eq word (codes "run") then option_map Run (option_and_then run_options (choices_of words)) else None
