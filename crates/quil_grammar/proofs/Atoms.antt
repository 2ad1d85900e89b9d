-- What stands alone, read from the tokens.
use Rattle.std.proofs.Common.{◌≡◌, ℕ, ◌<◌, ◌≤◌, ◌^◌, ◌||◌, ◌&&◌, not, Bool, true, false, List, [], ◌∷◌, ◌⊎◌, inl, inr, refl, sym, subst}
use Rattle.std.specs.Prelude.{nat_lt}
use Rattle.quil_shape.specs.Shape.Shape.{Rule}
use Rattle.quil_shape.specs.Reads.{Advances, Halts, Exceeds}
use Rattle.quil_shape.proofs.Reading.{reading, barred_halts, choice_first, choice_not_first, emit_advances, token_then_advances, token_advances, token_then_halts, token_then_exceeds, token_exceeds, end_halts, token_halts, seq_halts_first, seq_exceeds_first}
use Rattle.quil_tree.specs.declared.place.Place.{Place}
use Rattle.quil_tree.specs.declared.expr.Atom.TheVariants as atom
use Rattle.quil_grammar.specs.declared.sort.Sort.{Sort}
use Rattle.quil_grammar.specs.declared.sort.Sort.TheVariants as sort
use Rattle.quil_grammar.specs.declared.class.Class.TheVariants as class
use Rattle.quil_grammar.specs.Sort.{is_sort, is_name}
use Rattle.quil_grammar.specs.Token.{Token}
use Rattle.quil_grammar.proofs.Sorts.{same_sort}
use Rattle.quil_grammar.specs.Grammar.{quil, accepts, index, whole_of, value_behind, Primary}
use Rattle.quil_grammar.specs.Tables.{tables}
use Rattle.quil_grammar.specs.Grammar.Event.{Stands, Region, Index}
use Rattle.quil_grammar.specs.Written.{events_of_atom}
use Rattle.quil_grammar.specs.Frames.{is_next, StopsFor}
use Rattle.quil_grammar.specs.declared.stop.Stop.{Stop}
use Rattle.quil_grammar.specs.declared.stop.Stop.TheVariants as stop
use Rattle.quil_tree.specs.declared.expr.Whole.{Whole}
use Rattle.quil_grammar.proofs.Values.{fits, exceeds}

pub either : (a b : Bool) → (a || b) ≡ true → (a ≡ true) ⊎ (b ≡ true)
either true b e = inl refl
either false b e = inr e

-- what holds of each sort that a place takes
same_as : (P : Sort → Type 0) (s b : Sort) → P b → is_sort s b ≡ true → P s
same_as P s b p e = subst P (sym (same_sort s b e)) p

pub name_cases : (P : Sort → Type 0) → P sort.Name → P sort.LeftOut → P sort.LeftOutForm → P sort.Formal → (s : Sort) → is_name s ≡ true → P s
name_cases P p q r u s a =
    elim (either (is_sort s sort.Name) (is_sort s sort.LeftOut || (is_sort s sort.LeftOutForm || is_sort s sort.Formal)) a) [
      | inl e ↦ same_as P s sort.Name p e
      | inr b ↦ elim (either (is_sort s sort.LeftOut) (is_sort s sort.LeftOutForm || is_sort s sort.Formal) b) [
        | inl e ↦ same_as P s sort.LeftOut q e
        | inr c ↦ elim (either (is_sort s sort.LeftOutForm) (is_sort s sort.Formal) c) [ inl e ↦ same_as P s sort.LeftOutForm r e | inr e ↦ same_as P s sort.Formal u e ]
      ]
    ]

pub number_cases : (P : Sort → Type 0) → P sort.Zero → P sort.Whole → P sort.Decimal → (s : Sort) → accepts class.Number s ≡ true → P s
number_cases P p q r s a =
    elim (either (is_sort s sort.Zero) (is_sort s sort.Whole || is_sort s sort.Decimal) a) [
      | inl e ↦ same_as P s sort.Zero p e
      | inr b ↦ elim (either (is_sort s sort.Whole) (is_sort s sort.Decimal) b) [ inl e ↦ same_as P s sort.Whole q e | inr e ↦ same_as P s sort.Decimal r e ]
    ]

pub function_cases : (P : Sort → Type 0) → P sort.Sqrt → P sort.Sin → P sort.Cos → P sort.Cis → P sort.Exp → (s : Sort) → accepts class.Function s ≡ true → P s
function_cases P p q r u v s a =
    elim (either (is_sort s sort.Sqrt) (is_sort s sort.Sin || (is_sort s sort.Cos || (is_sort s sort.Cis || is_sort s sort.Exp))) a) [
      | inl e ↦ same_as P s sort.Sqrt p e
      | inr b ↦ elim (either (is_sort s sort.Sin) (is_sort s sort.Cos || (is_sort s sort.Cis || is_sort s sort.Exp)) b) [
        | inl e ↦ same_as P s sort.Sin q e
        | inr c ↦ elim (either (is_sort s sort.Cos) (is_sort s sort.Cis || is_sort s sort.Exp) c) [
          | inl e ↦ same_as P s sort.Cos r e
          | inr d ↦ elim (either (is_sort s sort.Cis) (is_sort s sort.Exp) d) [ inl e ↦ same_as P s sort.Cis u e | inr e ↦ same_as P s sort.Exp v e ]
        ]
      ]
    ]

-- a token of this sort
abbrev pub token : Sort → List ℕ → Place → ℕ → Token
token s x p n = record { sort = s; text = x; place = p; number = n }

zero_stands : (refs : Bool) (x : List ℕ) (p : Place) (n : ℕ) (us : List Token) → Advances quil tables (Rule (Primary refs)) (token sort.Zero x p n ∷ us) us (Stands p (atom.Number x) ∷ [])
unfolding quil tables
zero_stands refs x p n us = search reading depth 12

whole_stands : (refs : Bool) (x : List ℕ) (p : Place) (n : ℕ) (us : List Token) → Advances quil tables (Rule (Primary refs)) (token sort.Whole x p n ∷ us) us (Stands p (atom.Number x) ∷ [])
unfolding quil tables
whole_stands refs x p n us = search reading depth 12

decimal_stands : (refs : Bool) (x : List ℕ) (p : Place) (n : ℕ) (us : List Token) → Advances quil tables (Rule (Primary refs)) (token sort.Decimal x p n ∷ us) us (Stands p (atom.Number x) ∷ [])
unfolding quil tables
decimal_stands refs x p n us = search reading depth 12

imaginary_stands : (refs : Bool) (x : List ℕ) (p : Place) (n : ℕ) (us : List Token) → Advances quil tables (Rule (Primary refs)) (token sort.Imaginary x p n ∷ us) us (Stands p (atom.Imaginary x) ∷ [])
unfolding quil tables
imaginary_stands refs x p n us = search reading depth 12

imaginary_at : (refs : Bool) (t : Token) (us : List Token) → t.sort ≡ sort.Imaginary → Advances quil tables (Rule (Primary refs)) (t ∷ us) us (Stands t.place (atom.Imaginary t.text) ∷ [])
imaginary_at refs t us e = subst (λ s. Advances quil tables (Rule (Primary refs)) (token s t.text t.place t.number ∷ us) us (Stands t.place (atom.Imaginary t.text) ∷ [])) (sym e) (imaginary_stands refs t.text t.place t.number us)

pi_stands : (refs : Bool) (x : List ℕ) (p : Place) (n : ℕ) (us : List Token) → Advances quil tables (Rule (Primary refs)) (token sort.Pi x p n ∷ us) us (Stands p atom.Pi ∷ [])
unfolding quil tables
pi_stands refs x p n us = search reading depth 12

pi_at : (refs : Bool) (t : Token) (us : List Token) → t.sort ≡ sort.Pi → Advances quil tables (Rule (Primary refs)) (t ∷ us) us (Stands t.place atom.Pi ∷ [])
pi_at refs t us e = subst (λ s. Advances quil tables (Rule (Primary refs)) (token s t.text t.place t.number ∷ us) us (Stands t.place atom.Pi ∷ [])) (sym e) (pi_stands refs t.text t.place t.number us)

i_stands : (refs : Bool) (x : List ℕ) (p : Place) (n : ℕ) (us : List Token) → Advances quil tables (Rule (Primary refs)) (token sort.I x p n ∷ us) us (Stands p atom.I ∷ [])
unfolding quil tables
i_stands refs x p n us = search reading depth 12

i_at : (refs : Bool) (t : Token) (us : List Token) → t.sort ≡ sort.I → Advances quil tables (Rule (Primary refs)) (t ∷ us) us (Stands t.place atom.I ∷ [])
i_at refs t us e = subst (λ s. Advances quil tables (Rule (Primary refs)) (token s t.text t.place t.number ∷ us) us (Stands t.place atom.I ∷ [])) (sym e) (i_stands refs t.text t.place t.number us)

parameter_stands : (refs : Bool) (x : List ℕ) (p : Place) (n : ℕ) (us : List Token) → Advances quil tables (Rule (Primary refs)) (token sort.Parameter x p n ∷ us) us (Stands p (atom.Parameter n) ∷ [])
unfolding quil tables
parameter_stands refs x p n us = search reading depth 12

parameter_at : (refs : Bool) (t : Token) (us : List Token) → t.sort ≡ sort.Parameter → Advances quil tables (Rule (Primary refs)) (t ∷ us) us (Stands t.place (atom.Parameter t.number) ∷ [])
parameter_at refs t us e = subst (λ s. Advances quil tables (Rule (Primary refs)) (token s t.text t.place t.number ∷ us) us (Stands t.place (atom.Parameter t.number) ∷ [])) (sym e) (parameter_stands refs t.text t.place t.number us)

number_at : (refs : Bool) (t : Token) (us : List Token) → accepts class.Number t.sort ≡ true → Advances quil tables (Rule (Primary refs)) (t ∷ us) us (Stands t.place (atom.Number t.text) ∷ [])
number_at refs t us a =
    number_cases (λ s. Advances quil tables (Rule (Primary refs)) (token s t.text t.place t.number ∷ us) us (Stands t.place (atom.Number t.text) ∷ []))
    (zero_stands refs t.text t.place t.number us) (whole_stands refs t.text t.place t.number us) (decimal_stands refs t.text t.place t.number us) t.sort a

-- the same of the parts that the reader made
pub number_read : (refs : Bool) (us vs : List Token) (t : Token) (p : Place) (x : List ℕ) → us ≡ t ∷ vs → accepts class.Number t.sort ≡ true → p ≡ t.place → x ≡ t.text → Advances quil tables (Rule (Primary refs)) us vs (events_of_atom p (atom.Number x))
number_read refs us vs t p x e a f g = rw (e, f, g) (number_at refs t vs a)

pub imaginary_read : (refs : Bool) (us vs : List Token) (t : Token) (p : Place) (x : List ℕ) → us ≡ t ∷ vs → accepts class.Imaginary t.sort ≡ true → p ≡ t.place → x ≡ t.text → Advances quil tables (Rule (Primary refs)) us vs (events_of_atom p (atom.Imaginary x))
imaginary_read refs us vs t p x e a f g = rw (e, f, g) (imaginary_at refs t vs (same_sort t.sort sort.Imaginary a))

pub pi_read : (refs : Bool) (us vs : List Token) (t : Token) (p : Place) → us ≡ t ∷ vs → accepts class.Pi t.sort ≡ true → p ≡ t.place → Advances quil tables (Rule (Primary refs)) us vs (events_of_atom p atom.Pi)
pi_read refs us vs t p e a f = rw (e, f) (pi_at refs t vs (same_sort t.sort sort.Pi a))

pub i_read : (refs : Bool) (us vs : List Token) (t : Token) (p : Place) → us ≡ t ∷ vs → accepts class.I t.sort ≡ true → p ≡ t.place → Advances quil tables (Rule (Primary refs)) us vs (events_of_atom p atom.I)
i_read refs us vs t p e a f = rw (e, f) (i_at refs t vs (same_sort t.sort sort.I a))

pub parameter_read : (refs : Bool) (us vs : List Token) (t : Token) (p : Place) (n : ℕ) → us ≡ t ∷ vs → accepts class.Parameter t.sort ≡ true → p ≡ t.place → n ≡ t.number → Advances quil tables (Rule (Primary refs)) us vs (events_of_atom p (atom.Parameter n))
parameter_read refs us vs t p n e a f g = rw (e, f, g) (parameter_at refs t vs (same_sort t.sort sort.Parameter a))

-- a cell is read where its index is
name_stands : (x : List ℕ) (p : Place) (n : ℕ) (us vs : List Token) (w : Whole) → Advances quil tables index us vs (Index w ∷ []) → Advances quil tables (Rule (Primary true)) (token sort.Name x p n ∷ us) vs (Region p x ∷ Index w ∷ [])
unfolding quil tables
name_stands x p n us vs w h = search reading depth 12

name_halts : (x : List ℕ) (p : Place) (n : ℕ) (us vs : List Token) → Halts quil tables index us vs → Halts quil tables (Rule (Primary true)) (token sort.Name x p n ∷ us) vs
unfolding quil tables
name_halts x p n us vs h = search reading depth 12

name_exceeds : (x : List ℕ) (p : Place) (n : ℕ) (us vs : List Token) → Exceeds quil tables index us vs → Exceeds quil tables (Rule (Primary true)) (token sort.Name x p n ∷ us) vs
unfolding quil tables
name_exceeds x p n us vs h = search reading depth 12

left_out_stands : (x : List ℕ) (p : Place) (n : ℕ) (us vs : List Token) (w : Whole) → Advances quil tables index us vs (Index w ∷ []) → Advances quil tables (Rule (Primary true)) (token sort.LeftOut x p n ∷ us) vs (Region p x ∷ Index w ∷ [])
unfolding quil tables
left_out_stands x p n us vs w h = search reading depth 12

left_out_halts : (x : List ℕ) (p : Place) (n : ℕ) (us vs : List Token) → Halts quil tables index us vs → Halts quil tables (Rule (Primary true)) (token sort.LeftOut x p n ∷ us) vs
unfolding quil tables
left_out_halts x p n us vs h = search reading depth 12

left_out_exceeds : (x : List ℕ) (p : Place) (n : ℕ) (us vs : List Token) → Exceeds quil tables index us vs → Exceeds quil tables (Rule (Primary true)) (token sort.LeftOut x p n ∷ us) vs
unfolding quil tables
left_out_exceeds x p n us vs h = search reading depth 12

form_stands : (x : List ℕ) (p : Place) (n : ℕ) (us vs : List Token) (w : Whole) → Advances quil tables index us vs (Index w ∷ []) → Advances quil tables (Rule (Primary true)) (token sort.LeftOutForm x p n ∷ us) vs (Region p x ∷ Index w ∷ [])
unfolding quil tables
form_stands x p n us vs w h = search reading depth 12

form_halts : (x : List ℕ) (p : Place) (n : ℕ) (us vs : List Token) → Halts quil tables index us vs → Halts quil tables (Rule (Primary true)) (token sort.LeftOutForm x p n ∷ us) vs
unfolding quil tables
form_halts x p n us vs h = search reading depth 12

form_exceeds : (x : List ℕ) (p : Place) (n : ℕ) (us vs : List Token) → Exceeds quil tables index us vs → Exceeds quil tables (Rule (Primary true)) (token sort.LeftOutForm x p n ∷ us) vs
unfolding quil tables
form_exceeds x p n us vs h = search reading depth 12

formal_stands : (x : List ℕ) (p : Place) (n : ℕ) (us vs : List Token) (w : Whole) → Advances quil tables index us vs (Index w ∷ []) → Advances quil tables (Rule (Primary true)) (token sort.Formal x p n ∷ us) vs (Region p x ∷ Index w ∷ [])
unfolding quil tables
formal_stands x p n us vs w h = search reading depth 12

formal_halts : (x : List ℕ) (p : Place) (n : ℕ) (us vs : List Token) → Halts quil tables index us vs → Halts quil tables (Rule (Primary true)) (token sort.Formal x p n ∷ us) vs
unfolding quil tables
formal_halts x p n us vs h = search reading depth 12

formal_exceeds : (x : List ℕ) (p : Place) (n : ℕ) (us vs : List Token) → Exceeds quil tables index us vs → Exceeds quil tables (Rule (Primary true)) (token sort.Formal x p n ∷ us) vs
unfolding quil tables
formal_exceeds x p n us vs h = search reading depth 12

-- a region stands only where references are taken
refs_taken : (b refs : Bool) → (b && refs) ≡ true → (b ≡ true) × (refs ≡ true)
refs_taken true true e = (refl, refl)
refs_taken true false e = absurd (cc)
refs_taken false refs e = absurd (cc)

pub cell_read : (refs : Bool) (us vs ws : List Token) (t : Token) (p : Place) (x : List ℕ) (w : Whole) → us ≡ t ∷ vs → accepts (class.Region refs) t.sort ≡ true → p ≡ t.place → x ≡ t.text → Advances quil tables index vs ws (Index w ∷ []) → Advances quil tables (Rule (Primary refs)) us ws (events_of_atom p (atom.Cell (record { region = x; index = w })))
cell_read refs us vs ws t p x w e a f g h =
    let both = refs_taken (is_name t.sort) refs a in
    rw (e, f, g, both.1) (name_cases (λ s. Advances quil tables (Rule (Primary true)) (token s t.text t.place t.number ∷ vs) ws (Region t.place t.text ∷ Index w ∷ [])) (name_stands t.text t.place t.number vs ws w h) (left_out_stands t.text t.place t.number vs ws w h) (form_stands t.text t.place t.number vs ws w h) (formal_stands t.text t.place t.number vs ws w h) t.sort both.0)

pub cell_stops : (refs : Bool) (us vs ws : List Token) (t : Token) (e : Stop) → us ≡ t ∷ vs → accepts (class.Region refs) t.sort ≡ true → StopsFor e index vs ws → StopsFor e (Rule (Primary refs)) us ws
cell_stops refs us vs ws t stop.OutOfMemory e a h = tt
cell_stops refs us vs ws t stop.Unexpected e a h =
    let both = refs_taken (is_name t.sort) refs a in
    rw (e, both.1) (name_cases (λ s. Halts quil tables (Rule (Primary true)) (token s t.text t.place t.number ∷ vs) ws) (name_halts t.text t.place t.number vs ws h) (left_out_halts t.text t.place t.number vs ws h) (form_halts t.text t.place t.number vs ws h) (formal_halts t.text t.place t.number vs ws h) t.sort both.0)
cell_stops refs us vs ws t stop.TooLarge e a h =
    let both = refs_taken (is_name t.sort) refs a in
    rw (e, both.1) (name_cases (λ s. Exceeds quil tables (Rule (Primary true)) (token s t.text t.place t.number ∷ vs) ws) (name_exceeds t.text t.place t.number vs ws h) (left_out_exceeds t.text t.place t.number vs ws h) (form_exceeds t.text t.place t.number vs ws h) (formal_exceeds t.text t.place t.number vs ws h) t.sort both.0)

-- where no primary begins, none is read
pub no_primary : (refs : Bool) (us : List Token) → is_next class.Number us ≡ false → is_next class.Imaginary us ≡ false → is_next class.Pi us ≡ false → is_next class.I us ≡ false → is_next class.Parameter us ≡ false → is_next (class.Region refs) us ≡ false → is_next class.Function us ≡ false → is_next class.Parenthesis us ≡ false → Halts quil tables (Rule (Primary refs)) us us
unfolding quil tables
no_primary refs [] a b c d e f g h = barred_halts refl
no_primary refs (t ∷ us) a b c d e f g h = barred_halts (rw (a, b, c, d, e, f, g, h) refl)

-- no bracket, no index: it is 0
none_at : (us : List Token) → is_next class.IndexBegins us ≡ false → Advances quil tables index us us (Index (whole_of (48 ∷ [])) ∷ [])
unfolding quil tables
none_at [] e = choice_not_first refl emit_advances
none_at (t ∷ us) e = choice_not_first (rw e refl) emit_advances

pub no_index : (us vs : List Token) (digits : List ℕ) → is_next class.IndexBegins us ≡ false → vs ≡ us → digits ≡ 48 ∷ [] → Advances quil tables index us vs (Index (record { digits = digits; value = 0 }) ∷ [])
no_index us vs digits e f g = rw (f, g) (none_at us e)

-- an index in brackets
bracketed_at : (a b c : Token) (us : List Token) → accepts class.IndexBegins a.sort ≡ true → accepts class.Index b.sort ≡ true → accepts class.IndexEnds c.sort ≡ true → not (nat_lt (value_behind 0 b.text) (2 ^ 64)) ≡ false
    → Advances quil tables index (a ∷ b ∷ c ∷ us) us (Index (whole_of b.text) ∷ [])
unfolding quil tables
bracketed_at a b c us e f g small =
    choice_first (rw e refl) (token_then_advances e refl (token_then_advances f small (token_advances g refl)))

in_bracket_halts : (a : Token) (us : List Token) → accepts class.IndexBegins a.sort ≡ true → is_next class.Index us ≡ false → Halts quil tables index (a ∷ us) us
unfolding quil tables
in_bracket_halts a [] e f = choice_first (rw e refl) (token_then_halts e refl (seq_halts_first end_halts))
in_bracket_halts a (t ∷ us) e f = choice_first (rw e refl) (token_then_halts e refl (seq_halts_first (token_halts f)))

in_bracket_exceeds : (a b : Token) (us : List Token) → accepts class.IndexBegins a.sort ≡ true → accepts class.Index b.sort ≡ true → not (nat_lt (value_behind 0 b.text) (2 ^ 64)) ≡ true → Exceeds quil tables index (a ∷ b ∷ us) (b ∷ us)
unfolding quil tables
in_bracket_exceeds a b us e f large = choice_first (rw e refl) (token_then_exceeds e refl (seq_exceeds_first (token_exceeds f large)))

open_bracket_halts : (a b : Token) (us : List Token) → accepts class.IndexBegins a.sort ≡ true → accepts class.Index b.sort ≡ true → not (nat_lt (value_behind 0 b.text) (2 ^ 64)) ≡ false → is_next class.IndexEnds us ≡ false → Halts quil tables index (a ∷ b ∷ us) us
unfolding quil tables
open_bracket_halts a b [] e f small g = choice_first (rw e refl) (token_then_halts e refl (token_then_halts f small end_halts))
open_bracket_halts a b (t ∷ us) e f small g = choice_first (rw e refl) (token_then_halts e refl (token_then_halts f small (token_halts g)))

-- the same of the parts that the reader made
pub index_read : (us vs ws xs : List Token) (a b c : Token) (digits : List ℕ) (value : ℕ) → us ≡ a ∷ vs → accepts class.IndexBegins a.sort ≡ true → vs ≡ b ∷ ws → accepts class.Index b.sort ≡ true → ws ≡ c ∷ xs → accepts class.IndexEnds c.sort ≡ true
    → value ≡ value_behind 0 b.text → value < 2 ^ 64 → digits ≡ b.text → Advances quil tables index us xs (Index (record { digits = digits; value = value }) ∷ [])
index_read us vs ws xs a b c digits value e f g h i j k small d =
    rw (e, g, i, k, d) (bracketed_at a b c xs f h j (fits (value_behind 0 b.text) (subst (λ n. n < 2 ^ 64) k small)))

pub no_number : (us vs : List Token) (a : Token) → us ≡ a ∷ vs → accepts class.IndexBegins a.sort ≡ true → is_next class.Index vs ≡ false → Halts quil tables index us vs
no_number us vs a e f g = rw e (in_bracket_halts a vs f g)

pub number_too_large : (us vs ws : List Token) (a b : Token) → us ≡ a ∷ vs → accepts class.IndexBegins a.sort ≡ true → vs ≡ b ∷ ws → accepts class.Index b.sort ≡ true → 2 ^ 64 ≤ value_behind 0 b.text → Exceeds quil tables index us vs
number_too_large us vs ws a b e f g h large = rw (e, g) (in_bracket_exceeds a b ws f h (exceeds (value_behind 0 b.text) large))

pub no_end : (us vs ws : List Token) (a b : Token) (value : ℕ) → us ≡ a ∷ vs → accepts class.IndexBegins a.sort ≡ true → vs ≡ b ∷ ws → accepts class.Index b.sort ≡ true → value ≡ value_behind 0 b.text → value < 2 ^ 64 → is_next class.IndexEnds ws ≡ false → Halts quil tables index us ws
no_end us vs ws a b value e f g h k small i = rw (e, g) (open_bracket_halts a b ws f h (fits (value_behind 0 b.text) (subst (λ n. n < 2 ^ 64) k small)) i)
