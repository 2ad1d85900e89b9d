-- What the tokens of an expression say of its atoms: which texts they are, and that they are read as such again.
use Rattle.std.proofs.Common.{◌≡◌, ℕ, ◌+◌, ◌⊎◌, inl, inr, Bool, true, false, not, cond, ◌||◌, List, [], ◌∷◌, ◌++◌, Some, refl, sym, ◌∙◌, ap, subst, if◌then◌else◌, suc, arith}
use Rattle.std.specs.Prelude.{bytes_eq, slice_get, ◌==◌}
use Rattle.std.specs.List.{list_any, position_or_len}
use Rattle.std.proofs.lemmas.Bool.{and_parts, or_cases}
use Rattle.std.proofs.lemmas.Slice.Eq.{bytes_eq-Decides}
use Rattle.quil_lex.specs.declared.token.Kind.{Kind}
use Rattle.quil_lex.specs.declared.token.Kind.TheVariants as kind
use Rattle.quil_lex.specs.Written.{IsLineToken}
use Rattle.quil_tree.specs.declared.expr.Whole.{Whole}
use Rattle.quil_tree.specs.declared.expr.Address.{Address}
use Rattle.quil_tree.specs.declared.expr.Atom.{Atom}
use Rattle.quil_tree.specs.declared.expr.Atom.TheVariants as atom
use Rattle.quil_tree.specs.Expression.{Expression, postfix}
use Rattle.quil_tree.specs.declared.statement.Operand.{Operand}
use Rattle.quil_tree.specs.declared.statement.Operand.TheVariants as operand
use Rattle.quil_tree.specs.Expression.Expression.{Leaf, Signed as SignedTree, Applied, Called}
use Rattle.quil_grammar.specs.declared.sort.Sort.{Sort}
use Rattle.quil_grammar.specs.declared.sort.Sort.TheVariants as sort
use Rattle.quil_grammar.specs.Sort.{is_sort, is_name, is_whole}
use Rattle.quil_grammar.specs.Token.{Token, Context}
use Rattle.quil_grammar.specs.Grammar.{accepts, value_of, whole_of, is_wide, is_too_large, Event}
use Rattle.quil_grammar.specs.Grammar.Event.{Stands, Region, Index, Between, Joined, Opens, Closes, Makes}
use Rattle.quil_grammar.specs.declared.class.Class.{Class}
use Rattle.quil_grammar.specs.declared.class.Class.TheVariants as class
use Rattle.quil_grammar.proofs.Sorts.{same_sort}
use Rattle.quil_grammar.proofs.Heads.{no_region}
use Rattle.quil_round_trip.proofs.Words.{tok, Fits, sort_class, kind_at, kind_of_class}

-- a text of this kind is read as a token of this class
pub record IsRead (c : Context) (k : Class) (l : Kind) (x : List ℕ) : Type 0 where
  pub text : IsLineToken l x
  pub accepted : accepts k (tok c l x).sort ≡ true

pub record IsParameter (c : Context) (n : ℕ) : Type 0 where
  pub name : List ℕ
  pub read : IsRead c class.Parameter kind.Parameter name
  pub number : (tok c kind.Parameter name).number ≡ n
  pub named : slice_get c.parameters n ≡ Some name

-- a number of a cell or of cells, below 2^64
pub record IsIndex (c : Context) (k : Class) (w : Whole) : Type 0 where
  pub read : IsRead c k kind.Whole w.digits
  pub small : is_wide (tok c kind.Whole w.digits) ≡ false
  pub value : w ≡ whole_of w.digits

pub record IsCell (refs : Bool) (c : Context) (a : Address) : Type 0 where
  pub taken : refs ≡ true
  pub region : IsRead c (class.Region true) kind.Name a.region
  pub index : IsIndex c class.Index a.index

abbrev pub IsAtom : Bool → Context → Atom → Type 0
IsAtom refs c (atom.Number x) = (IsRead c class.Number kind.Whole x) ⊎ (IsRead c class.Number kind.Decimal x)
IsAtom refs c (atom.Imaginary x) = IsRead c class.Imaginary kind.Imaginary x
IsAtom refs c atom.Pi = Unit {0}
IsAtom refs c atom.I = Unit {0}
IsAtom refs c (atom.Parameter n) = IsParameter c n
IsAtom refs c (atom.Cell a) = IsCell refs c a

abbrev pub IsExpression : Bool → Context → Expression → Type 0
IsExpression refs c (Leaf p a) = IsAtom refs c a
IsExpression refs c (SignedTree p s a) = IsExpression refs c a
IsExpression refs c (Applied p o a b) = IsExpression refs c a × IsExpression refs c b
IsExpression refs c (Called p f a) = IsExpression refs c a

-- ---- tokens

read_as : (c : Context) (t : Token) (f : Fits c t) (k : Class) (n : ℕ) → accepts k t.sort ≡ true → sort_class t.sort ≡ n → (n == 7) ≡ false → IsRead c k (kind_at n) t.text
read_as c t f k n a e h =
    let same = kind_of_class c t f n e h in
    record { text = subst (λ l. IsLineToken l t.text) same f.text; accepted = subst (λ l. accepts k (tok c l t.text).sort ≡ true) same (subst (λ u. accepts k u.sort ≡ true) f.is a) }

sorted : (s s' : Sort) (n : ℕ) → is_sort s s' ≡ true → sort_class s' ≡ n → sort_class s ≡ n
sorted s s' n e h = ap sort_class (same_sort s s' e) ∙ h

whole_class : (s : Sort) → is_whole s ≡ true → sort_class s ≡ 1
whole_class s h = elim (or_cases (is_sort s sort.Zero) (is_sort s sort.Whole) h) [ inl e ↦ sorted s sort.Zero 1 e refl | inr e ↦ sorted s sort.Whole 1 e refl ]

number_class : (s : Sort) → accepts class.Number s ≡ true → (sort_class s ≡ 1) ⊎ (sort_class s ≡ 2)
number_class s h =
    elim (or_cases (is_sort s sort.Zero) (is_sort s sort.Whole || is_sort s sort.Decimal) h) [
      | inl e ↦ inl (sorted s sort.Zero 1 e refl)
      | inr g ↦ elim (or_cases (is_sort s sort.Whole) (is_sort s sort.Decimal) g) [ inl e ↦ inl (sorted s sort.Whole 1 e refl) | inr e ↦ inr (sorted s sort.Decimal 2 e refl) ]
    ]

pub name_class : (s : Sort) → is_name s ≡ true → sort_class s ≡ 0
name_class s h =
    elim (or_cases (is_sort s sort.Name) (is_sort s sort.LeftOut || (is_sort s sort.LeftOutForm || is_sort s sort.Formal)) h) [
      | inl e ↦ sorted s sort.Name 0 e refl
      | inr g ↦ elim (or_cases (is_sort s sort.LeftOut) (is_sort s sort.LeftOutForm || is_sort s sort.Formal) g) [
        | inl e ↦ sorted s sort.LeftOut 0 e refl
        | inr g' ↦ elim (or_cases (is_sort s sort.LeftOutForm) (is_sort s sort.Formal) g') [ inl e ↦ sorted s sort.LeftOutForm 0 e refl | inr e ↦ sorted s sort.Formal 0 e refl ]
      ]
    ]

-- ---- parameters

next_name : (y x : List ℕ) (names : List (List ℕ)) (n : ℕ) → slice_get names n ≡ Some x → slice_get (y ∷ names) (1 + n) ≡ Some x
next_name y x names n h = let e : suc n ≡ 1 + n = omega arith in subst (λ k. slice_get (y ∷ names) k ≡ Some x) e h

name_at : (x : List ℕ) (names : List (List ℕ)) → list_any (bytes_eq x) names ≡ true → slice_get names (position_or_len (bytes_eq x) names) ≡ Some x
name_at x [] h = absurd (cc)
name_at x (y ∷ names) h = by (bytes_eq x y) refl h (name_at x names)
  where
    by : (b : Bool) → bytes_eq x y ≡ b → (b || list_any (bytes_eq x) names) ≡ true → (list_any (bytes_eq x) names ≡ true → slice_get names (position_or_len (bytes_eq x) names) ≡ Some x) → slice_get (y ∷ names) (cond (not b) (1 + position_or_len (bytes_eq x) names) 0) ≡ Some x
    by true e h rest = ap Some (sym ((bytes_eq-Decides x y).0 e))
    by false e h rest = next_name y x names (position_or_len (bytes_eq x) names) (rest h)

known : (b : Bool) → is_sort (if b then sort.Parameter else sort.Unknown) sort.Parameter ≡ true → b ≡ true
known true h = refl
known false h = absurd (cc)

-- ---- what the tokens of an expression make

-- the classes of an expression's tokens
pub data Allowed (refs : Bool) : Class → Type 0 where
  number : Allowed refs class.Number
  imaginary : Allowed refs class.Imaginary
  pi : Allowed refs class.Pi
  i : Allowed refs class.I
  parameter : Allowed refs class.Parameter
  without_region : Allowed refs (class.Region false)
  region : refs ≡ true → Allowed refs (class.Region true)
  index : Allowed refs class.Index
  function : Allowed refs class.Function
  additive : Allowed refs class.Additive
  sign : Allowed refs class.Sign
  multiplicative : Allowed refs class.Multiplicative
  caret : Allowed refs class.Caret
  parenthesis : Allowed refs class.Parenthesis
  argument_begins : Allowed refs class.ArgumentBegins
  parenthesis_ends : Allowed refs class.ParenthesisEnds
  index_begins : Allowed refs class.IndexBegins
  index_ends : Allowed refs class.IndexEnds
  operand_number : Allowed refs class.OperandNumber
  operand_sign : Allowed refs class.OperandSign

-- an event of atoms of which this holds
abbrev pub IsSound : Bool → Context → Event → Type 0
IsSound refs c (Stands p a) = IsAtom refs c a
IsSound refs c (Region p x) = (refs ≡ true) × IsRead c (class.Region true) kind.Name x
IsSound refs c (Index w) = IsIndex c class.Index w
IsSound refs c (Between o) = Unit {0}
IsSound refs c Joined = Unit {0}
IsSound refs c (Opens m) = Unit {0}
IsSound refs c Closes = Unit {0}
IsSound refs c (Makes p) = Unit {0}

abbrev pub AreSound : Bool → Context → List Event → Type 0
AreSound refs c [] = Unit {0}
AreSound refs c (o ∷ os) = IsSound refs c o × AreSound refs c os

pub sound_append : (refs : Bool) (c : Context) (os ps : List Event) → AreSound refs c os → AreSound refs c ps → AreSound refs c (os ++ ps)
sound_append refs c [] ps h k = k
sound_append refs c (o ∷ os) ps h k = (h.0, sound_append refs c os ps h.1 k)

pub sound_split : (refs : Bool) (c : Context) (os ps : List Event) → AreSound refs c (os ++ ps) → AreSound refs c os × AreSound refs c ps
sound_split refs c [] ps h = (tt, h)
sound_split refs c (o ∷ os) ps h = let p = sound_split refs c os ps h.1 in ((h.0, p.0), p.1)

number_atom : (refs : Bool) (c : Context) (t : Token) → Fits c t → accepts class.Number t.sort ≡ true → IsAtom refs c (atom.Number t.text)
number_atom refs c t f a = elim (number_class t.sort a) [ inl e ↦ inl (read_as c t f class.Number 1 a e refl) | inr e ↦ inr (read_as c t f class.Number 2 a e refl) ]

parameter_atom : (refs : Bool) (c : Context) (t : Token) → Fits c t → accepts class.Parameter t.sort ≡ true → IsAtom refs c (atom.Parameter t.number)
parameter_atom refs c t f a =
    let r = read_as c t f class.Parameter 5 a (sorted t.sort sort.Parameter 5 a refl) refl in
    let same : f.kind ≡ kind.Parameter = kind_of_class c t f 5 (sorted t.sort sort.Parameter 5 a refl) refl in
    let number : (tok c kind.Parameter t.text).number ≡ t.number = sym (ap (λ u. u.number) f.is ∙ ap (λ l. (tok c l t.text).number) same) in
    let is_known = known (list_any (bytes_eq t.text) c.parameters) r.accepted in
    record { name = t.text; read = r; number = number; named = subst (λ n. slice_get c.parameters n ≡ Some t.text) number (name_at t.text c.parameters is_known) }

pub one_sound : (refs : Bool) (c : Context) (k : Class) (t : Token) (us : List Token) → Allowed refs k → Fits c t → accepts k t.sort ≡ true → is_too_large k t us ≡ false → AreSound refs c (value_of k t)
one_sound refs c _ t us Allowed.number f a s = (number_atom refs c t f a, tt)
one_sound refs c _ t us Allowed.operand_number f a s = (number_atom refs c t f a, tt)
one_sound refs c _ t us Allowed.imaginary f a s = (read_as c t f class.Imaginary 3 a (sorted t.sort sort.Imaginary 3 a refl) refl, tt)
one_sound refs c _ t us Allowed.pi f a s = (tt, tt)
one_sound refs c _ t us Allowed.i f a s = (tt, tt)
one_sound refs c _ t us Allowed.parameter f a s = (parameter_atom refs c t f a, tt)
one_sound refs c _ t us Allowed.without_region f a s = absurd (no_region _ a)
one_sound refs c _ t us (Allowed.region r) f a s = ((r, read_as c t f (class.Region true) 0 a (name_class t.sort (and_parts _ _ a).0) refl), tt)
one_sound refs c _ t us Allowed.index f a s = (record { read = read_as c t f class.Index 1 a (whole_class t.sort a) refl; small = s; value = refl }, tt)
one_sound refs c _ t us Allowed.function f a s = (tt, tt)
one_sound refs c _ t us Allowed.additive f a s = (tt, tt)
one_sound refs c _ t us Allowed.sign f a s = (tt, tt)
one_sound refs c _ t us Allowed.multiplicative f a s = (tt, tt)
one_sound refs c _ t us Allowed.caret f a s = (tt, tt)
one_sound refs c _ t us Allowed.parenthesis f a s = (tt, tt)
one_sound refs c _ t us Allowed.argument_begins f a s = tt
one_sound refs c _ t us Allowed.parenthesis_ends f a s = tt
one_sound refs c _ t us Allowed.index_begins f a s = tt
one_sound refs c _ t us Allowed.index_ends f a s = tt
one_sound refs c _ t us Allowed.operand_sign f a s = (tt, tt)

-- an operand, as it is known of one that was read
abbrev pub IsSoundOperand : Context → Operand → Type 0
IsSoundOperand c (operand.Reference r) = IsCell true c r.address
IsSoundOperand c (operand.Literal p s w) = IsIndex c class.Number w
IsSoundOperand c (operand.Formula f) = (e : Expression) × (f.expr ≡ postfix e) × IsExpression false c e
