-- Pragmas that were read are printed and read again.
use Rattle.std.proofs.Common.{◌≡◌, ℕ, ◌⊎◌, inl, inr, Bool, true, false, not, List, [], ◌∷◌, ◌++◌, map, Some, refl, sym, ◌∙◌, ap, ap₂, subst, append_assoc, append-nil, codes, if◌then◌else◌}
use Rattle.std.specs.Prelude.{bytes_eq, filter_map}
use Rattle.std.specs.Char.{is_ascii_digit}
use Rattle.std.specs.List.{list_all}
use Rattle.std.proofs.lemmas.Bool.{and_parts, or_cases}
use Rattle.std.proofs.lemmas.Slice.Eq.{bytes_eq-Decides}
use Rattle.quil_lex.specs.declared.token.Kind.{Kind}
use Rattle.quil_lex.specs.declared.token.Kind.TheVariants as kind
use Rattle.quil_lex.specs.Token.{begins_more, is_closed, is_digits, IsDecimal, IsToken}
use Rattle.quil_lex.specs.Written.{Word, IsLineToken, IsApartFrom, AreApart, words_bytes}
use Rattle.quil_shape.specs.Shape.Shape.{One, Seq, Many}
use Rattle.quil_shape.specs.Outcome.Outcome.{Made}
use Rattle.quil_shape.specs.Reads.{Reads}
use Rattle.quil_tree.specs.declared.statement.Name.{Name as Called}
use Rattle.quil_tree.specs.declared.statement.Statement.TheVariants as statement
use Rattle.quil_tree.specs.Printed.{is_joined, is_mark_behind, is_mark_before, pragma_text}
use Rattle.quil_grammar.specs.declared.sort.Sort.TheVariants as sort
use Rattle.quil_grammar.specs.declared.class.Class.TheVariants as class
use Rattle.quil_grammar.specs.Sort.{word_sort}
use Rattle.quil_grammar.specs.Token.{Token, Context}
use Rattle.quil_grammar.specs.Grammar.{quil, accepts, name_at, Event}
use Rattle.quil_grammar.specs.Tables.{tables}
use Rattle.quil_grammar.specs.Grammar.Piece.{Says, Names, Keeps}
use Rattle.quil_grammar.specs.Grammar.Event.{Makes}
use Rattle.quil_grammar.specs.Parts.{Part, parts_events}
use Rattle.quil_grammar.specs.Parts.Part.{Made as Maker}
use Rattle.quil_grammar.specs.Statements.{pragma}
use Rattle.quil_grammar.proofs.Sorts.{same_sort}
use Rattle.quil_round_trip.specs.Unplaced.{origin, bare_name}
use Rattle.quil_statement.specs.Meaning.{kept_of, line_of}
use Rattle.quil_statement.specs.Loops.{keeping}
use Rattle.quil_statement.proofs.Said.{kept as all_kept}
use Rattle.quil_round_trip.proofs.Inversion.{Chain, many}
use Rattle.quil_round_trip.proofs.Words.{tok, AreFit, toks}
use Rattle.quil_round_trip.proofs.Chunks.{Chunk, AtEnd, blank, first, both}
use Rattle.quil_round_trip.proofs.Bare.{bare_part}
use Rattle.quil_round_trip.proofs.Reread.{Reread, head, word_then}
use Rattle.quil_round_trip.proofs.Lines.{lines}

-- ---- marks

is_text : (x y : List ℕ) → bytes_eq x y ≡ true → begins_more y ≡ false → begins_more x ≡ false
is_text x y e h = subst (λ z. begins_more z ≡ false) (sym ((bytes_eq-Decides x y).0 e)) h

-- a mark before which no blank stands goes on no name and no number
mark_behind : (x : List ℕ) → is_mark_behind x ≡ true → begins_more x ≡ false
mark_behind x h =
    elim (or_cases _ _ h) [
      | inl e ↦ is_text x (codes ",") e refl
      | inr i ↦
          elim (or_cases _ _ i) [
            | inl e ↦ is_text x (codes "(") e refl
            | inr j ↦
                elim (or_cases _ _ j) [
                  | inl e ↦ is_text x (codes ")") e refl
                  | inr k ↦
                      elim (or_cases _ _ k) [
                        | inl e ↦ is_text x (codes "[") e refl
                        | inr l ↦
                            elim (or_cases _ _ l) [
                              | inl e ↦ is_text x (codes "]") e refl
                              | inr e ↦ is_text x (codes ":") e refl
                            ]
                      ]
                ]
          ]
    ]

digit_first : (b : ℕ) (x y : List ℕ) → b ∷ [] ≡ x ++ y → is_digits x ≡ true → is_ascii_digit b ≡ true
digit_first b [] y e h = absurd (cc)
digit_first b (d ∷ x) y e h = let same : b ≡ d = cc in subst (λ n. is_ascii_digit n ≡ true) (sym same) (and_parts (is_ascii_digit d) (list_all is_ascii_digit x) h).0

decimal_first : (b : ℕ) (x y : List ℕ) → b ∷ [] ≡ x ++ y → IsDecimal x → is_ascii_digit b ≡ true
decimal_first b x y e d = digit_first b d.whole ((d.fraction ++ d.exponent) ++ y) (e ∙ ap (λ z. z ++ y) d.split ∙ append_assoc d.whole (d.fraction ++ d.exponent) y) d.digits

no_digit : (b : ℕ) → is_ascii_digit b ≡ false → is_ascii_digit b ≡ true → ⊥
no_digit b h e = absurd (cc)

-- a token that is such a mark is one of the kind of marks
closed_parenthesis : (k : Kind) → IsToken k (40 ∷ []) → is_closed k ≡ true
closed_parenthesis kind.Name h = absurd (cc)
closed_parenthesis kind.Whole h = absurd (cc)
closed_parenthesis kind.Decimal h = absurd (no_digit 40 refl (decimal_first 40 (40 ∷ []) [] refl h))
closed_parenthesis kind.Imaginary h =
    absurd
    (elim h.real [
      | inl d ↦ no_digit 40 refl (digit_first 40 h.number (105 ∷ []) h.split d)
      | inr d ↦ no_digit 40 refl (decimal_first 40 h.number (105 ∷ []) h.split d)
    ])
closed_parenthesis kind.Str h = refl
closed_parenthesis kind.Parameter h = absurd (cc)
closed_parenthesis kind.Label h = absurd (cc)
closed_parenthesis (kind.Mark m) h = refl

closed_bracket : (k : Kind) → IsToken k (91 ∷ []) → is_closed k ≡ true
closed_bracket kind.Name h = absurd (cc)
closed_bracket kind.Whole h = absurd (cc)
closed_bracket kind.Decimal h = absurd (no_digit 91 refl (decimal_first 91 (91 ∷ []) [] refl h))
closed_bracket kind.Imaginary h =
    absurd
    (elim h.real [
      | inl d ↦ no_digit 91 refl (digit_first 91 h.number (105 ∷ []) h.split d)
      | inr d ↦ no_digit 91 refl (decimal_first 91 h.number (105 ∷ []) h.split d)
    ])
closed_bracket kind.Str h = refl
closed_bracket kind.Parameter h = absurd (cc)
closed_bracket kind.Label h = absurd (cc)
closed_bracket (kind.Mark m) h = refl

closed_before : (k : Kind) (x : List ℕ) → IsToken k x → is_mark_before x ≡ true → is_closed k ≡ true
closed_before k x h m =
    elim (or_cases _ _ m) [
      | inl e ↦ closed_parenthesis k (subst (λ y. IsToken k y) ((bytes_eq-Decides x (codes "(")).0 e) h)
      | inr e ↦ closed_bracket k (subst (λ y. IsToken k y) ((bytes_eq-Decides x (codes "[")).0 e) h)
    ]

-- ---- the tokens behind the name

-- the word of a token that stands behind another
abbrev behind : Word → Kind → List ℕ → Word
behind before k x = record { kind = k; text = x; blank = not (is_joined before.text x) }

told : (before : Word) (k : Kind) (x : List ℕ) (ws : List Word) → IsToken before.kind before.text → IsApartFrom before (behind before k x ∷ ws)
told before k x ws h = by (is_joined before.text x) refl
  where
    by : (b : Bool) → is_joined before.text x ≡ b → (not b ≡ true) ⊎ ((is_closed before.kind ≡ true) ⊎ (begins_more x ≡ false))
    by false e = inl refl
    by true e = elim (or_cases (is_mark_behind x) (is_mark_before before.text) (and_parts _ _ e).1) [ inl f ↦ inr (inr (mark_behind x f)) | inr f ↦ inr (inl (closed_before before.kind before.text h f)) ]

spaced : (b : Bool) (x : List ℕ) → (if not b then 32 ∷ x else x) ≡ (if b then [] else codes " ") ++ x
spaced true x = refl
spaced false x = refl

pub record Kept (c : Context) (before : Word) (os : List Event) : Type 0 where
  pub texts : List (List ℕ)
  pub makes : os ≡ parts_events (keeping texts)
  pub words : List Word
  pub told : IsApartFrom before words
  pub apart : AreApart words
  pub text : words_bytes words ≡ pragma_text before.text texts
  pub reads : Reads quil tables (Many (One class.Any)) (toks c words) (Made (parts_events (keeping texts)) [])

kept : (c : Context) (before : Word) {ts us : List Token} {os : List Event} → IsToken before.kind before.text → Chain quil tables (One class.Any) ts os us → AreFit c ts → Kept c before os
unfolding quil tables
kept c before h Chain.done f = record { texts = []; makes = refl; words = []; told = tt; apart = tt; text = refl; reads = Reads.none refl }
kept c before h (Chain.link r rs) f =
    let t = first c r f in
    let w = behind before t.fits.kind t.token.text in
    let k = kept c w t.fits.text.token rs t.rest in
    let accepted : accepts class.Any (tok c t.fits.kind t.token.text).sort ≡ true = subst (λ u. accepts class.Any u.sort ≡ true) t.fits.is t.accepted in
    record {
      texts = t.token.text ∷ k.texts;
      makes = ap₂ (λ x y. x ++ y) t.makes k.makes;
      words = w ∷ k.words;
      told = told before t.fits.kind t.token.text k.words h;
      apart = (t.fits.text, k.told, k.apart);
      text = ap₂ (λ x y. x ++ y) (spaced (is_joined before.text t.token.text) t.token.text) k.text;
      reads = Reads.more accepted (Reads.one accepted refl) k.reads;
    }

pragma_line : (p : _) (n : Called) (xs : List (List ℕ)) (s : _) → line_of (Maker (Says p class.Pragma s) ∷ Maker (Names n) ∷ keeping xs) ≡ Some (record { place = p; statement = statement.Pragma n xs })
pragma_line p n xs s = ap (λ ys. Some (record { place = p; statement = statement.Pragma n ys })) (all_kept xs)

keeping_bare : (xs : List (List ℕ)) → map bare_part (keeping xs) ≡ keeping xs
keeping_bare [] = refl
keeping_bare (x ∷ xs) = ap (λ ps. Maker (Keeps x) ∷ ps) (keeping_bare xs)

pragma_placed : (p : _) (n : Called) (xs : List (List ℕ)) (s : _) → line_of (map bare_part (Maker (Says p class.Pragma s) ∷ Maker (Names n) ∷ keeping xs)) ≡ Some (record { place = origin; statement = statement.Pragma (bare_name n) xs })
pragma_placed p n xs s = ap (λ ps. line_of (Maker (Says origin class.Pragma s) ∷ Maker (Names (bare_name n)) ∷ ps)) (keeping_bare xs) ∙ pragma_line origin (bare_name n) xs s

-- the name and the tokens behind it
abbrev Named : Context → List ℕ → List (List ℕ) → Type 0
Named c x xs = Chunk c (Seq (One class.Named) (Many (One class.Any))) AtEnd (blank x ++ pragma_text x xs) (Makes (Names (record { place = origin; text = x })) ∷ parts_events (keeping xs))

named_kept : (c : Context) (w : Word) (os : List Event) → w.blank ≡ true → IsLineToken w.kind w.text → accepts class.Named (tok c w.kind w.text).sort ≡ true → (k : Kept c w os) → Named c w.text k.texts
unfolding quil tables
named_kept c w os b l a k =
    record {
      words = w ∷ k.words;
      apart = (l, k.told, k.apart);
      free = inl b;
      text = ap₂ (λ x y. (if x then 32 ∷ w.text else w.text) ++ y) b k.text;
      reads = λ us e. subst (λ vs. Reads quil tables (Seq (One class.Named) (Many (One class.Any))) (toks c (w ∷ k.words) ++ vs) (Made (Makes (Names (record { place = origin; text = w.text })) ∷ parts_events (keeping k.texts)) vs)) (sym e)
          (Reads.seq (Reads.one a refl) (subst (λ vs. Reads quil tables (Many (One class.Any)) vs (Made (parts_events (keeping k.texts)) [])) (sym (append-nil (toks c k.words))) k.reads));
    }

-- the pragma of a name and such tokens
named_pragma : (c : Context) (t : Token) (os rs : List Event) (n : Called) (w : Word) (k : Kept c w rs) → n.text ≡ w.text → w.blank ≡ true → IsLineToken w.kind w.text → accepts class.Named (tok c w.kind w.text).sort ≡ true → accepts class.Pragma t.sort ≡ true
    → os ≡ Makes (Says t.place class.Pragma t.sort) ∷ (Makes (Names n) ∷ rs) → Reread lines c pragma t os
unfolding word_sort
named_pragma c t os rs n w k e b l a p m =
    word_then lines c class.Pragma (Seq (One class.Named) (Many (One class.Any))) t os (record { place = t.place; statement = statement.Pragma n k.texts })
    (Maker (Says t.place class.Pragma t.sort) ∷ Maker (Names n) ∷ keeping k.texts)
    (m ∙ ap (λ xs. Makes (Says t.place class.Pragma t.sort) ∷ (Makes (Names n) ∷ xs)) k.makes) (pragma_line t.place n k.texts t.sort) (pragma_placed t.place n k.texts t.sort)
    (codes "PRAGMA") (blank n.text ++ pragma_text n.text k.texts) (Makes (Names (bare_name n)) ∷ parts_events (keeping k.texts))
    (Maker (Says origin class.Pragma sort.Pragma) ∷ Maker (Names (bare_name n)) ∷ keeping k.texts)
    (record { token = refl; one_line = refl }) (sym (same_sort t.sort sort.Pragma p)) p (λ us. refl)
    (subst (λ x. Named c x k.texts) (sym e) (named_kept c w rs b l a k)) refl refl (pragma_line origin (bare_name n) k.texts sort.Pragma)

pub pragma_again : (c : Context) (t : Token) (ts : List Token) (os : List Event) → AreFit c ts → Reads quil tables pragma (t ∷ ts) (Made os []) → Reread lines c pragma t os
pragma_again c t ts os f r =
    let h = head class.Pragma (Seq (One class.Named) (Many (One class.Any))) t ts os r in
    let b = both c h.reads f in
    let n = first c b.one f in
    let w : Word = record { kind = n.fits.kind; text = n.token.text; blank = true } in
    named_pragma c t os b.second_os (name_at n.token) w (kept c w n.fits.text.token (many quil tables b.two) b.fits) (refl {a = n.token.text}) (refl {a = true}) n.fits.text (subst (λ u. accepts class.Named u.sort ≡ true) n.fits.is n.accepted) h.accepted
    (h.makes ∙ ap (λ xs. Makes (Says t.place class.Pragma t.sort) ∷ xs) (b.makes ∙ ap (λ xs. xs ++ b.second_os) n.makes))
