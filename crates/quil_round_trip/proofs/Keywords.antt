-- The words of statements as they are printed: each is read as the sort that it was printed for.
use Rattle.std.proofs.Common.{◌≡◌, ℕ, inl, inr, Bool, true, ◌||◌, List, ◌++◌, refl, sym, append_assoc, subst, codes}
use Rattle.std.proofs.lemmas.Bool.{or_cases}
use Rattle.quil_lex.specs.declared.token.Kind.TheVariants as kind
use Rattle.quil_lex.specs.Written.{IsLineToken}
use Rattle.quil_tree.specs.declared.statement.Name.{Name as Called}
use Rattle.quil_tree.specs.declared.statement.Reference.{Reference}
use Rattle.quil_tree.specs.declared.statement.Operand.{Operand}
use Rattle.quil_tree.specs.Printed.{reference_text, operand_text, statement_text}
use Rattle.quil_grammar.specs.declared.sort.Sort.{Sort}
use Rattle.quil_grammar.specs.declared.sort.Sort.TheVariants as sort
use Rattle.quil_grammar.specs.declared.class.Class.TheVariants as class
use Rattle.quil_grammar.specs.Sort.{is_sort, word_sort}
use Rattle.quil_grammar.specs.Token.{Context}
use Rattle.quil_grammar.specs.Grammar.{accepts}
use Rattle.quil_grammar.proofs.Sorts.{same_sort}
use Rattle.quil_round_trip.specs.Unplaced.{bare_name, bare_reference, bare_operand, bare_statement}
use Rattle.quil_statement.specs.Meaning.{bare_of, label_of, jump_of, unary_of, pair_of, binary_of, compare_of}
use Rattle.quil_round_trip.proofs.Words.{tok}
use Rattle.quil_round_trip.proofs.Chunks.{blank}

-- a word that is read as this sort, wherever it stands
pub record Keyword (s : Sort) (x : List ℕ) : Type 0 where
  pub is_token : IsLineToken kind.Name x
  pub same : (c : Context) → (tok c kind.Name x).sort ≡ s

pub record BareWord (s : Sort) : Type 0 where
  pub word : List ℕ
  pub keyword : Keyword s word
  pub text : (names : List (List ℕ)) → statement_text names (bare_of s) ≡ word
  pub bare : bare_statement (bare_of s) ≡ bare_of s

pub record LabelWord (s : Sort) : Type 0 where
  pub word : List ℕ
  pub keyword : Keyword s word
  pub text : (names : List (List ℕ)) (n : Called) → statement_text names (label_of s n) ≡ word ++ blank n.text
  pub bare : (n : Called) → bare_statement (label_of s n) ≡ label_of s (bare_name n)

pub record JumpWord (s : Sort) : Type 0 where
  pub word : List ℕ
  pub keyword : Keyword s word
  pub text : (names : List (List ℕ)) (n : Called) (a : Reference) → statement_text names (jump_of s n a) ≡ word ++ (blank n.text ++ blank (reference_text a))
  pub bare : (n : Called) (a : Reference) → bare_statement (jump_of s n a) ≡ jump_of s (bare_name n) (bare_reference a)

pub record UnaryWord (s : Sort) : Type 0 where
  pub word : List ℕ
  pub keyword : Keyword s word
  pub text : (names : List (List ℕ)) (a : Reference) → statement_text names (unary_of s a) ≡ word ++ blank (reference_text a)
  pub bare : (a : Reference) → bare_statement (unary_of s a) ≡ unary_of s (bare_reference a)

pub record PairWord (s : Sort) : Type 0 where
  pub word : List ℕ
  pub keyword : Keyword s word
  pub text : (names : List (List ℕ)) (a b : Reference) → statement_text names (pair_of s a b) ≡ word ++ (blank (reference_text a) ++ blank (reference_text b))
  pub bare : (a b : Reference) → bare_statement (pair_of s a b) ≡ pair_of s (bare_reference a) (bare_reference b)

pub record BinaryWord (s : Sort) : Type 0 where
  pub word : List ℕ
  pub keyword : Keyword s word
  pub text : (names : List (List ℕ)) (a : Reference) (x : Operand) → statement_text names (binary_of s a x) ≡ word ++ (blank (reference_text a) ++ blank (operand_text names x))
  pub bare : (a : Reference) (x : Operand) → bare_statement (binary_of s a x) ≡ binary_of s (bare_reference a) (bare_operand x)

pub record CompareWord (s : Sort) : Type 0 where
  pub word : List ℕ
  pub keyword : Keyword s word
  pub text : (names : List (List ℕ)) (r a : Reference) (x : Operand) → statement_text names (compare_of s r a x) ≡ word ++ (blank (reference_text r) ++ (blank (reference_text a) ++ blank (operand_text names x)))
  pub bare : (r a : Reference) (x : Operand) → bare_statement (compare_of s r a x) ≡ compare_of s (bare_reference r) (bare_reference a) (bare_operand x)

pub keyword : (s : Sort) (x : List ℕ) → IsLineToken kind.Name x → ((c : Context) → (tok c kind.Name x).sort ≡ s) → Keyword s x
keyword s x h e = record { is_token = h; same = e }

-- either of the sorts
pub either_sort : (P : Sort → Type 0) (s a : Sort) (b : Bool) → P a → (b ≡ true → P s) → (is_sort s a || b) ≡ true → P s
either_sort P s a b p q h = elim (or_cases (is_sort s a) b h) [ inl e ↦ subst P (sym (same_sort s a e)) p | inr e ↦ q e ]

pub last_sort : (P : Sort → Type 0) (s a : Sort) → P a → is_sort s a ≡ true → P s
last_sort P s a p e = subst P (sym (same_sort s a e)) p

-- blanks between words
two_operands : (w a x : List ℕ) → w ++ codes " " ++ a ++ codes " " ++ x ≡ w ++ (blank a ++ blank x)
two_operands w a x = simp append_assoc refl

three_operands : (w r a x : List ℕ) → (w ++ codes " " ++ r ++ codes " " ++ a) ++ codes " " ++ x ≡ w ++ (blank r ++ (blank a ++ blank x))
three_operands w r a x = simp append_assoc refl

bare_wait : BareWord sort.Wait
unfolding word_sort
bare_wait = record { word = codes "WAIT"; keyword = keyword sort.Wait (codes "WAIT") (record { token = refl; one_line = refl }) (λ c. refl); text = λ names. refl; bare = refl }

bare_nop : BareWord sort.Nop
unfolding word_sort
bare_nop = record { word = codes "NOP"; keyword = keyword sort.Nop (codes "NOP") (record { token = refl; one_line = refl }) (λ c. refl); text = λ names. refl; bare = refl }

bare_halt : BareWord sort.Halt
unfolding word_sort
bare_halt = record { word = codes "HALT"; keyword = keyword sort.Halt (codes "HALT") (record { token = refl; one_line = refl }) (λ c. refl); text = λ names. refl; bare = refl }

pub bare_word : (s : Sort) → accepts class.Bare s ≡ true → BareWord s
bare_word s h = either_sort BareWord s sort.Wait (is_sort s sort.Nop || (is_sort s sort.Halt)) bare_wait (either_sort BareWord s sort.Nop (is_sort s sort.Halt) bare_nop (last_sort BareWord s sort.Halt bare_halt)) h

label_labelword : LabelWord sort.LabelWord
unfolding word_sort
label_labelword = record { word = codes "LABEL"; keyword = keyword sort.LabelWord (codes "LABEL") (record { token = refl; one_line = refl }) (λ c. refl); text = λ names n. refl; bare = λ n. refl }

label_jump : LabelWord sort.Jump
unfolding word_sort
label_jump = record { word = codes "JUMP"; keyword = keyword sort.Jump (codes "JUMP") (record { token = refl; one_line = refl }) (λ c. refl); text = λ names n. refl; bare = λ n. refl }

pub label_word : (s : Sort) → accepts class.LabelWord s ≡ true → LabelWord s
label_word s h = either_sort LabelWord s sort.LabelWord (is_sort s sort.Jump) label_labelword (last_sort LabelWord s sort.Jump label_jump) h

jump_jumpwhen : JumpWord sort.JumpWhen
unfolding word_sort
jump_jumpwhen = record { word = codes "JUMP-WHEN"; keyword = keyword sort.JumpWhen (codes "JUMP-WHEN") (record { token = refl; one_line = refl }) (λ c. refl); text = λ names n a. two_operands (codes "JUMP-WHEN") n.text (reference_text a); bare = λ n a. refl }

jump_jumpunless : JumpWord sort.JumpUnless
unfolding word_sort
jump_jumpunless = record { word = codes "JUMP-UNLESS"; keyword = keyword sort.JumpUnless (codes "JUMP-UNLESS") (record { token = refl; one_line = refl }) (λ c. refl); text = λ names n a. two_operands (codes "JUMP-UNLESS") n.text (reference_text a); bare = λ n a. refl }

pub jump_word : (s : Sort) → accepts class.JumpIf s ≡ true → JumpWord s
jump_word s h = either_sort JumpWord s sort.JumpWhen (is_sort s sort.JumpUnless) jump_jumpwhen (last_sort JumpWord s sort.JumpUnless jump_jumpunless) h

unary_not : UnaryWord sort.Not
unfolding word_sort
unary_not = record { word = codes "NOT"; keyword = keyword sort.Not (codes "NOT") (record { token = refl; one_line = refl }) (λ c. refl); text = λ names a. refl; bare = λ a. refl }

unary_neg : UnaryWord sort.Neg
unfolding word_sort
unary_neg = record { word = codes "NEG"; keyword = keyword sort.Neg (codes "NEG") (record { token = refl; one_line = refl }) (λ c. refl); text = λ names a. refl; bare = λ a. refl }

pub unary_word : (s : Sort) → accepts class.UnaryWord s ≡ true → UnaryWord s
unary_word s h = either_sort UnaryWord s sort.Not (is_sort s sort.Neg) unary_not (last_sort UnaryWord s sort.Neg unary_neg) h

pair_exchange : PairWord sort.Exchange
unfolding word_sort
pair_exchange = record { word = codes "EXCHANGE"; keyword = keyword sort.Exchange (codes "EXCHANGE") (record { token = refl; one_line = refl }) (λ c. refl); text = λ names a b. two_operands (codes "EXCHANGE") (reference_text a) (reference_text b); bare = λ a b. refl }

pair_convert : PairWord sort.Convert
unfolding word_sort
pair_convert = record { word = codes "CONVERT"; keyword = keyword sort.Convert (codes "CONVERT") (record { token = refl; one_line = refl }) (λ c. refl); text = λ names a b. two_operands (codes "CONVERT") (reference_text a) (reference_text b); bare = λ a b. refl }

pub pair_word : (s : Sort) → accepts class.PairWord s ≡ true → PairWord s
pair_word s h = either_sort PairWord s sort.Exchange (is_sort s sort.Convert) pair_exchange (last_sort PairWord s sort.Convert pair_convert) h

binary_move : BinaryWord sort.Move
unfolding word_sort
binary_move = record { word = codes "MOVE"; keyword = keyword sort.Move (codes "MOVE") (record { token = refl; one_line = refl }) (λ c. refl); text = λ names a x. two_operands (codes "MOVE") (reference_text a) (operand_text names x); bare = λ a x. refl }

binary_add : BinaryWord sort.Add
unfolding word_sort
binary_add = record { word = codes "ADD"; keyword = keyword sort.Add (codes "ADD") (record { token = refl; one_line = refl }) (λ c. refl); text = λ names a x. two_operands (codes "ADD") (reference_text a) (operand_text names x); bare = λ a x. refl }

binary_sub : BinaryWord sort.Sub
unfolding word_sort
binary_sub = record { word = codes "SUB"; keyword = keyword sort.Sub (codes "SUB") (record { token = refl; one_line = refl }) (λ c. refl); text = λ names a x. two_operands (codes "SUB") (reference_text a) (operand_text names x); bare = λ a x. refl }

binary_mul : BinaryWord sort.Mul
unfolding word_sort
binary_mul = record { word = codes "MUL"; keyword = keyword sort.Mul (codes "MUL") (record { token = refl; one_line = refl }) (λ c. refl); text = λ names a x. two_operands (codes "MUL") (reference_text a) (operand_text names x); bare = λ a x. refl }

binary_div : BinaryWord sort.Div
unfolding word_sort
binary_div = record { word = codes "DIV"; keyword = keyword sort.Div (codes "DIV") (record { token = refl; one_line = refl }) (λ c. refl); text = λ names a x. two_operands (codes "DIV") (reference_text a) (operand_text names x); bare = λ a x. refl }

binary_and : BinaryWord sort.And
unfolding word_sort
binary_and = record { word = codes "AND"; keyword = keyword sort.And (codes "AND") (record { token = refl; one_line = refl }) (λ c. refl); text = λ names a x. two_operands (codes "AND") (reference_text a) (operand_text names x); bare = λ a x. refl }

binary_ior : BinaryWord sort.Ior
unfolding word_sort
binary_ior = record { word = codes "IOR"; keyword = keyword sort.Ior (codes "IOR") (record { token = refl; one_line = refl }) (λ c. refl); text = λ names a x. two_operands (codes "IOR") (reference_text a) (operand_text names x); bare = λ a x. refl }

binary_xor : BinaryWord sort.Xor
unfolding word_sort
binary_xor = record { word = codes "XOR"; keyword = keyword sort.Xor (codes "XOR") (record { token = refl; one_line = refl }) (λ c. refl); text = λ names a x. two_operands (codes "XOR") (reference_text a) (operand_text names x); bare = λ a x. refl }

pub binary_word : (s : Sort) → accepts class.BinaryWord s ≡ true → BinaryWord s
binary_word s h = either_sort BinaryWord s sort.Move (is_sort s sort.Add || (is_sort s sort.Sub || (is_sort s sort.Mul || (is_sort s sort.Div || (is_sort s sort.And || (is_sort s sort.Ior || (is_sort s sort.Xor))))))) binary_move (either_sort BinaryWord s sort.Add (is_sort s sort.Sub || (is_sort s sort.Mul || (is_sort s sort.Div || (is_sort s sort.And || (is_sort s sort.Ior || (is_sort s sort.Xor)))))) binary_add (either_sort BinaryWord s sort.Sub (is_sort s sort.Mul || (is_sort s sort.Div || (is_sort s sort.And || (is_sort s sort.Ior || (is_sort s sort.Xor))))) binary_sub (either_sort BinaryWord s sort.Mul (is_sort s sort.Div || (is_sort s sort.And || (is_sort s sort.Ior || (is_sort s sort.Xor)))) binary_mul (either_sort BinaryWord s sort.Div (is_sort s sort.And || (is_sort s sort.Ior || (is_sort s sort.Xor))) binary_div (either_sort BinaryWord s sort.And (is_sort s sort.Ior || (is_sort s sort.Xor)) binary_and (either_sort BinaryWord s sort.Ior (is_sort s sort.Xor) binary_ior (last_sort BinaryWord s sort.Xor binary_xor))))))) h

compare_eq : CompareWord sort.Eq
unfolding word_sort
compare_eq = record { word = codes "EQ"; keyword = keyword sort.Eq (codes "EQ") (record { token = refl; one_line = refl }) (λ c. refl); text = λ names r a x. three_operands (codes "EQ") (reference_text r) (reference_text a) (operand_text names x); bare = λ r a x. refl }

compare_gt : CompareWord sort.Gt
unfolding word_sort
compare_gt = record { word = codes "GT"; keyword = keyword sort.Gt (codes "GT") (record { token = refl; one_line = refl }) (λ c. refl); text = λ names r a x. three_operands (codes "GT") (reference_text r) (reference_text a) (operand_text names x); bare = λ r a x. refl }

compare_ge : CompareWord sort.Ge
unfolding word_sort
compare_ge = record { word = codes "GE"; keyword = keyword sort.Ge (codes "GE") (record { token = refl; one_line = refl }) (λ c. refl); text = λ names r a x. three_operands (codes "GE") (reference_text r) (reference_text a) (operand_text names x); bare = λ r a x. refl }

compare_lt : CompareWord sort.Lt
unfolding word_sort
compare_lt = record { word = codes "LT"; keyword = keyword sort.Lt (codes "LT") (record { token = refl; one_line = refl }) (λ c. refl); text = λ names r a x. three_operands (codes "LT") (reference_text r) (reference_text a) (operand_text names x); bare = λ r a x. refl }

compare_le : CompareWord sort.Le
unfolding word_sort
compare_le = record { word = codes "LE"; keyword = keyword sort.Le (codes "LE") (record { token = refl; one_line = refl }) (λ c. refl); text = λ names r a x. three_operands (codes "LE") (reference_text r) (reference_text a) (operand_text names x); bare = λ r a x. refl }

pub compare_word : (s : Sort) → accepts class.CompareWord s ≡ true → CompareWord s
compare_word s h = either_sort CompareWord s sort.Eq (is_sort s sort.Gt || (is_sort s sort.Ge || (is_sort s sort.Lt || (is_sort s sort.Le)))) compare_eq (either_sort CompareWord s sort.Gt (is_sort s sort.Ge || (is_sort s sort.Lt || (is_sort s sort.Le))) compare_gt (either_sort CompareWord s sort.Ge (is_sort s sort.Lt || (is_sort s sort.Le)) compare_ge (either_sort CompareWord s sort.Lt (is_sort s sort.Le) compare_lt (last_sort CompareWord s sort.Le compare_le)))) h
