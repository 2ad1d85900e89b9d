-- The first line of some bytes, and the others.
use Rattle.std.proofs.Common.{◌≡◌, ℕ, ◌+◌, ◌<◌, ◌≤◌, true, false, inl, inr, List, [], ◌∷◌, ◌++◌, length, length-drop, take, drop, get_or, refl, sym, ap, ◌∙◌, append_assoc, arith}
use Rattle.std.specs.Prelude.{◌==◌}
use Rattle.std.proofs.lemmas.Bool.Decides.{nat_tests}
use Rattle.std.proofs.lemmas.List.{drop_more, take_more}
use Rattle.quil_lex.proofs.Fronts.{bool_cases}
use Rattle.quil_lex.specs.Line.{end_len, first_line, other_lines}

pub line_cons : (b : ℕ) (bs : List ℕ) → end_len (b ∷ bs) ≡ 0 → first_line (b ∷ bs) ≡ b ∷ first_line bs
line_cons b bs h = let t : (end_len (b ∷ bs) == 0) ≡ true = grind (arith, nat_tests, h) in rw t refl

pub others_cons : (b : ℕ) (bs : List ℕ) → end_len (b ∷ bs) ≡ 0 → other_lines (b ∷ bs) ≡ other_lines bs
others_cons b bs h = let t : (end_len (b ∷ bs) == 0) ≡ true = grind (arith, nat_tests, h) in rw t refl

module _ (bs : List ℕ) (n : ℕ) (inside : n < length bs) (none : end_len (drop n bs) ≡ 0) where
  here : end_len (get_or bs n 0 ∷ drop (n + 1) bs) ≡ 0
  here = sym (ap end_len (drop_more bs n 0 inside)) ∙ none

  pub line_more : take (n + 1) bs ++ first_line (drop (n + 1) bs) ≡ take n bs ++ first_line (drop n bs)
  line_more = ap (λ l. l ++ first_line (drop (n + 1) bs)) (take_more bs n 0 inside) ∙ append_assoc (take n bs) (get_or bs n 0 ∷ []) (first_line (drop (n + 1) bs))
      ∙ ap (λ l. take n bs ++ l) (sym (line_cons (get_or bs n 0) (drop (n + 1) bs) here)) ∙ ap (λ l. take n bs ++ first_line l) (sym (drop_more bs n 0 inside))

  pub others_more : other_lines (drop (n + 1) bs) ≡ other_lines (drop n bs)
  others_more = sym (others_cons (get_or bs n 0) (drop (n + 1) bs) here) ∙ ap other_lines (sym (drop_more bs n 0 inside))

some_end : (n : ℕ) (bs : List ℕ) → (n == 0) ≡ false → 0 < length bs → length (drop n bs) < length bs
some_end n bs h some = rw length-drop (grind (arith, nat_tests))

-- the lines are no longer than the text, and what stands behind the first is shorter
pub lines_size : (bs : List ℕ) → length (first_line bs) + length (other_lines bs) ≤ length bs
lines_size [] = omega arith
lines_size (b ∷ bs) =
    elim (bool_cases (end_len (b ∷ bs) == 0)) [
      | inl t ↦ rw t (omega (arith, lines_size bs))
      | inr t ↦ rw t (omega (arith, length-drop (end_len (b ∷ bs)) (b ∷ bs)))
    ]

pub others_size : (bs : List ℕ) → 0 < length bs → length (other_lines bs) < length bs
others_size [] some = absurd (omega arith)
others_size (b ∷ bs) some =
    elim (bool_cases (end_len (b ∷ bs) == 0)) [
      | inl t ↦ rw t (omega (arith, lines_size bs))
      | inr t ↦ rw t (some_end (end_len (b ∷ bs)) (b ∷ bs) t some)
    ]
