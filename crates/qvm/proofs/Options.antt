-- Options, one at a time.
use Rattle.std.proofs.Common.{◌≡◌, refl, sym, ◌∙◌, ap, ℕ, ◌+◌, ◌<◌, Bool, true, false, ◌&&◌, ◌||◌, cond, List, [], ◌∷◌, length, map, filter, take, drop, Bor, arith}
use Rattle.std.specs.Prelude.{String, string_bytes, Option, Some, None, MatchOption, option_map, option_and_then, is_none, bytes_eq, ◌==◌, codes, if◌then◌else◌}
use Rattle.std.specs.List.{list_all, position_or_len, before_first, after_first}
use Rattle.std.specs.declared.alloc.Global.{Global}
use Rattle.std.proofs.lemmas.Bool.{le-ltb, lt-ltb, both_ways}
use Rattle.std.proofs.lemmas.Slice.Eq.{bytes_eq-Decides}
use Rattle.qvm_step.specs.Words.{zero_seed}
use Rattle.qvm.specs.declared.command.Command.{Command}
use Rattle.qvm.specs.declared.command.Command.TheVariants.{Run}
use Rattle.qvm.specs.declared.command.Given.{Given}
use Rattle.qvm.specs.declared.command.RunOptions.{RunOptions}
use Rattle.qvm.specs.Command.{Choice, cut, choices_of, has_name, values_of, chosen, seed_name, limit_name, default_limit, seed_of, limit_of, run_options, command_of}
use Rattle.qvm.specs.Given.{with_option}

-- ---- the first option of some words

choice : List ℕ → List ℕ → Choice
choice name value = record { name = name; value = value }

cut_at : Bool → ℕ → List ℕ → Option Choice
cut_at b i word = option_map (λ (j : ℕ). choice (take j word) (drop (j + 1) word)) (cond b (Some i) None)

-- a word with no `=`, and one with a first
cut_none : (word : List ℕ) → position_or_len (λ b. b == 61) word ≡ length word → cut word ≡ None
unfolding cut cut_at choice
cut_none word e = ap (λ (b : Bool). cut_at b (position_or_len (λ b. b == 61) word) word) (le-ltb (position_or_len (λ b. b == 61) word) (length word) (omega (arith, e)))

cut_some : (word name value : List ℕ) → position_or_len (λ b. b == 61) word < length word → name ≡ before_first (λ b. b == 61) word → value ≡ after_first (λ b. b == 61) word →
    cut word ≡ Some (record { name = name; value = value })
unfolding cut cut_at choice
cut_some word name value h n v =
    ap (λ (b : Bool). cut_at b (position_or_len (λ b. b == 61) word) word) (lt-ltb (position_or_len (λ b. b == 61) word) (length word) h)
    ∙ ap (λ (t : List ℕ). Some (choice t (after_first (λ b. b == 61) word))) (sym n) ∙ ap (λ (t : List ℕ). Some (choice name t)) (sym v)

pub cut_is : (word : List ℕ) (r : Option (Bor (List ℕ) × Bor (List ℕ))) →
    MatchOption r (position_or_len (λ b. b == 61) word ≡ length word)
    (λ x. (position_or_len (λ b. b == 61) word < length word) × (x.0.now ≡ before_first (λ b. b == 61) word) × (x.1.now ≡ after_first (λ b. b == 61) word)) →
    MatchOption r (cut word ≡ None) (λ x. cut word ≡ Some (record { name = x.0.now; value = x.1.now }))
cut_is word None h = cut_none word h
cut_is word (Some x) h = cut_some word x.0.now x.1.now h.0 h.1 h.2

-- the options of words whose first is cut so
by_cut : Option Choice → List ℕ → List ℕ → List (List ℕ) → Option (List Choice)
by_cut o word value words = elim o [
  | Some c ↦ option_map (λ (cs : List Choice). c ∷ cs) (choices_of (value ∷ words))
  | None ↦ option_map (λ (cs : List Choice). choice word value ∷ cs) (choices_of words)
]

pub choices_joined : (word : List ℕ) (words : List (List ℕ)) (c : Choice) → cut word ≡ Some c → choices_of (word ∷ words) ≡ option_map (λ cs. c ∷ cs) (choices_of words)
unfolding by_cut choice
choices_joined word [] c e = ap (λ (o : Option Choice). option_map (λ (d : Choice). d ∷ []) o) e
choices_joined word (value ∷ words) c e = ap (λ (o : Option Choice). by_cut o word value words) e

choices_two : (word value : List ℕ) (words : List (List ℕ)) → cut word ≡ None → choices_of (word ∷ value ∷ words) ≡ option_map (λ cs. record { name = word; value = value } ∷ cs) (choices_of words)
unfolding by_cut choice
choices_two word value words e = ap (λ (o : Option Choice). by_cut o word value words) e

pub choices_first : (word value : List ℕ) (words behind : List (String Global)) (first : String Global) → cut word ≡ None → words ≡ first ∷ behind → value ≡ string_bytes first →
    choices_of (word ∷ map string_bytes words) ≡ option_map (λ cs. record { name = word; value = value } ∷ cs) (choices_of (map string_bytes behind))
unfolding choice
choices_first word value words behind first e f v =
    ap (λ (ws : List (String Global)). choices_of (word ∷ map string_bytes ws)) f
    ∙ choices_two word (string_bytes first) (map string_bytes behind) e
    ∙ ap (λ (t : List ℕ). option_map (λ (cs : List Choice). choice word t ∷ cs) (choices_of (map string_bytes behind))) (sym v)

pub choices_one : (word : List ℕ) → cut word ≡ None → choices_of (word ∷ []) ≡ None
choices_one word e = ap (λ (o : Option Choice). option_map (λ (d : Choice). d ∷ []) o) e

-- ---- options behind those that were read

-- what the values given under one name come to, where one may have been read before
abbrev pub left : {A : Type 0} → Option A → A → (List ℕ → Option A) → List (List ℕ) → Option A
left None default read values = chosen default read values
left (Some x) default read [] = Some x
left (Some x) default read (value ∷ values) = None

abbrev pub both : Option (List ℕ) → Option ℕ → Option RunOptions
both seeds limits = option_and_then (λ seed. option_map (λ limit. record { seed = seed; limit = limit }) limits) seeds

abbrev pub known : Choice → Bool
known c = has_name seed_name c || has_name limit_name c

-- the options of a run, of which some have been read
abbrev pub rest_of : Given → List Choice → Option RunOptions
rest_of g choices = if list_all known choices then both (left g.seed zero_seed seed_of (values_of seed_name choices)) (left g.limit default_limit limit_of (values_of limit_name choices)) else None

first_value : {A : Type 0} → Option A → Option A → Option A
first_value o r = if is_none o then r else None

and_then_some : {A : Type 0} (o : Option A) → o ≡ option_and_then (λ x. Some x) o
and_then_some None = refl
and_then_some (Some x) = refl

and_then_none : {A B : Type 0} (o : Option A) → ◌≡◌ {A = Option B} None (option_and_then (λ x. None) o)
and_then_none None = refl
and_then_none (Some x) = refl

left-cons : {A : Type 0} (o : Option A) (d : A) (read : List ℕ → Option A) (v : List ℕ) (vs : List (List ℕ)) → left o d read (v ∷ vs) ≡ option_and_then (λ x. left (Some x) d read vs) (first_value o (read v))
unfolding first_value
left-cons (Some x) d read v vs = refl
left-cons None d read v [] = and_then_some (read v)
left-cons None d read v (w ∷ ws) = and_then_none (read v)

seed_step : (a : Bool) (q : Option (List ℕ)) (l : List ℕ → Option (List ℕ)) (limits : Option ℕ) → (if a then both (option_and_then l q) limits else None) ≡ option_and_then (λ x. if a then both (l x) limits else None) q
seed_step a (Some x) l limits = refl
seed_step true None l limits = refl
seed_step false None l limits = refl

limit_step : (a : Bool) (q : Option ℕ) (l : ℕ → Option ℕ) (seeds : Option (List ℕ)) → (if a then both seeds (option_and_then l q) else None) ≡ option_and_then (λ x. if a then both seeds (l x) else None) q
limit_step a (Some x) l seeds = refl
limit_step false None l seeds = refl
limit_step true None l None = refl
limit_step true None l (Some s) = refl

-- an option that is read and then gone on with
pushed : {A : Type 0} (n : Bool) (m : A → Given) (r : Option A) (go : Given → Option RunOptions) →
    option_and_then go (if n then option_map m r else None) ≡ option_and_then (λ x. go (m x)) (if n then r else None)
pushed true m None go = refl
pushed true m (Some x) go = refl
pushed false m r go = refl

-- a name is not both
one_name : (name : List ℕ) → bytes_eq name seed_name ≡ true → bytes_eq name limit_name ≡ false
one_name name e = ap (λ (n : List ℕ). bytes_eq n limit_name) ((bytes_eq-Decides name seed_name).0 e)

-- the options that are left, with tests in the place of the first one's name
rest_by : (b d a : Bool) → Given → List ℕ → List (List ℕ) → List (List ℕ) → Option RunOptions
rest_by b d a g value seeds limits =
    if (b || d) && a then both (left g.seed zero_seed seed_of (if b then value ∷ seeds else seeds)) (left g.limit default_limit limit_of (if d then value ∷ limits else limits)) else None

with_by : (b d : Bool) → Given → List ℕ → Option Given
with_by b d g value =
    if b then (if is_none g.seed then option_map (λ s. record g { seed = Some s }) (seed_of value) else None)
    else (if d then (if is_none g.limit then option_map (λ l. record g { limit = Some l }) (limit_of value) else None) else None)

-- the options that are left behind it
behind : (a : Bool) → List (List ℕ) → List (List ℕ) → Given → Option RunOptions
behind a seeds limits g = if a then both (left g.seed zero_seed seed_of seeds) (left g.limit default_limit limit_of limits) else None

step_by : (b d a : Bool) (g : Given) (value : List ℕ) (seeds limits : List (List ℕ)) → (b ≡ true → d ≡ false) →
    rest_by b d a g value seeds limits ≡ option_and_then (behind a seeds limits) (with_by b d g value)
unfolding rest_by with_by behind first_value
step_by true true a g value seeds limits h = absurd (both_ways true (h refl) refl)
step_by true false a g value seeds limits h =
    ap (λ (o : Option (List ℕ)). if a then both o (left g.limit default_limit limit_of limits) else None) (left-cons g.seed zero_seed seed_of value seeds)
    ∙ seed_step a (first_value g.seed (seed_of value)) (λ x. left (Some x) zero_seed seed_of seeds) (left g.limit default_limit limit_of limits)
    ∙ sym (pushed (is_none g.seed) (λ s. record g { seed = Some s }) (seed_of value) (behind a seeds limits))
step_by false true a g value seeds limits h =
    ap (λ (o : Option ℕ). if a then both (left g.seed zero_seed seed_of seeds) o else None) (left-cons g.limit default_limit limit_of value limits)
    ∙ limit_step a (first_value g.limit (limit_of value)) (λ x. left (Some x) default_limit limit_of limits) (left g.seed zero_seed seed_of seeds)
    ∙ sym (pushed (is_none g.limit) (λ l. record g { limit = Some l }) (limit_of value) (behind a seeds limits))
step_by false false a g value seeds limits h = refl

values-cons : (b : Bool) (c : Choice) (cs : List Choice) → map (λ (x : Choice). x.value) (if b then c ∷ cs else cs) ≡ (if b then c.value ∷ map (λ (x : Choice). x.value) cs else map (λ (x : Choice). x.value) cs)
values-cons true c cs = refl
values-cons false c cs = refl

-- one option, and those behind it
step : (g : Given) (c : Choice) (cs : List Choice) → rest_of g (c ∷ cs) ≡ option_and_then (λ g'. rest_of g' cs) (with_option g c.name c.value)
unfolding rest_by with_by behind
step g c cs =
    ap (λ (vs : List (List ℕ)). if list_all known (c ∷ cs) then both (left g.seed zero_seed seed_of vs) (left g.limit default_limit limit_of (values_of limit_name (c ∷ cs))) else None) (values-cons (has_name seed_name c) c (filter (has_name seed_name) cs))
    ∙ ap (λ (vs : List (List ℕ)). if list_all known (c ∷ cs) then both (left g.seed zero_seed seed_of (if has_name seed_name c then c.value ∷ values_of seed_name cs else values_of seed_name cs)) (left g.limit default_limit limit_of vs) else None) (values-cons (has_name limit_name c) c (filter (has_name limit_name) cs))
    ∙ step_by (has_name seed_name c) (has_name limit_name c) (list_all known cs) g c.value (values_of seed_name cs) (values_of limit_name cs) (one_name c.name)

-- what words are, where some options have been read
abbrev pub rest_of_words : Given → List (String Global) → Option RunOptions
rest_of_words g words = option_and_then (rest_of g) (choices_of (map string_bytes words))

went : (g : Given) (c : Choice) (o : Option (List Choice)) → option_and_then (rest_of g) (option_map (λ cs. c ∷ cs) o) ≡ option_and_then (λ g'. option_and_then (rest_of g') o) (with_option g c.name c.value)
went g c (Some cs) = step g c cs
went g c None = and_then_none (with_option g c.name c.value)

-- words whose first option was read
pub option_read : (g : Given) (words behind rest : List (String Global)) (first : String Global) (word name value : List ℕ) (r : Option Given) (whole : Option RunOptions) →
    words ≡ first ∷ behind → word ≡ string_bytes first → choices_of (word ∷ map string_bytes behind) ≡ option_map (λ cs. record { name = name; value = value } ∷ cs) (choices_of (map string_bytes rest)) →
    r ≡ with_option g name value → rest_of_words g words ≡ whole → option_and_then (λ g'. rest_of_words g' rest) r ≡ whole
unfolding choice
option_read g words behind rest first word name value r whole e w o f all =
    ap (λ (q : Option Given). option_and_then (λ g'. rest_of_words g' rest) q) f
    ∙ sym (went g (choice name value) (choices_of (map string_bytes rest)))
    ∙ sym (ap (λ (q : Option (List Choice)). option_and_then (rest_of g) q) o)
    ∙ ap (λ (t : List ℕ). option_and_then (rest_of g) (choices_of (t ∷ map string_bytes behind))) w
    ∙ sym (ap (rest_of_words g) e)
    ∙ all

-- ---- commands

command_with : Bool → List (List ℕ) → Option Command
command_with b words = if b then option_map Run (option_and_then run_options (choices_of words)) else None

pub no_command : (words : List (String Global)) → length words ≡ 0 → None ≡ command_of (map string_bytes words)
unfolding command_of
no_command [] e = refl
no_command (w ∷ ws) e = absurd (omega (arith, e))

-- words whose first is compared with `run`
command_by : (words behind : List (String Global)) (first : String Global) (word : List ℕ) (b : Bool) → words ≡ first ∷ behind → word ≡ string_bytes first → b ≡ bytes_eq word (codes "run") →
    command_with b (map string_bytes behind) ≡ command_of (map string_bytes words)
unfolding command_of command_with
command_by words behind first word b e w t =
    ap (λ (c : Bool). command_with c (map string_bytes behind)) (t ∙ ap (λ (x : List ℕ). bytes_eq x (codes "run")) w)
    ∙ sym (ap (λ (ws : List (String Global)). command_of (map string_bytes ws)) e)

pub other_command : (words behind : List (String Global)) (first : String Global) (word : List ℕ) (b : Bool) → words ≡ first ∷ behind → word ≡ string_bytes first → b ≡ bytes_eq word (codes "run") →
    b ≡ false → None ≡ command_of (map string_bytes words)
unfolding command_with
other_command words behind first word b e w t f = sym (ap (λ (c : Bool). command_with c (map string_bytes behind)) f) ∙ command_by words behind first word b e w t

pub run_command : (words behind : List (String Global)) (first : String Global) (word : List ℕ) (b : Bool) → words ≡ first ∷ behind → word ≡ string_bytes first → b ≡ bytes_eq word (codes "run") →
    b ≡ true → (r : Option RunOptions) → r ≡ option_and_then run_options (choices_of (map string_bytes behind)) → option_map Run r ≡ command_of (map string_bytes words)
unfolding command_with
run_command words behind first word b e w t f r o =
    ap (λ (q : Option RunOptions). option_map Run q) o ∙ sym (ap (λ (c : Bool). command_with c (map string_bytes behind)) f) ∙ command_by words behind first word b e w t
