-- The numbers of a program's qubits.
use Rattle.std.proofs.Common.{◌≡◌, ◌≢◌, ℕ, zero, suc, ◌+◌, ◌<◌, ◌≤◌, ◌^◌, ◌||◌, Bool, true, false, not, cond, nat_eq, nat_lt, List, [], ◌∷◌, length, get_or, map, refl, sym, ap, ◌∙◌, subst, arith}
use Rattle.std.specs.Prelude.{Some, None}
use Rattle.std.specs.List.{filter, range_with_len, list_any, position_or_len, AllByRecursion}
use Rattle.std.specs.List.Sorted.{IsStrictlyIncreasing}
use Rattle.std.proofs.lemmas.List.{length-map}
use Rattle.std.proofs.lemmas.List.Kept.{IsStrictlyIncreasing-filter}
use Rattle.std.proofs.lemmas.List.FromFn.{get_or-range_with_len, length-range_with_len}
use Rattle.std.proofs.lemmas.Bool.Decides.{nat_tests}
use Rattle.quil_memory.specs.Layout.{Regions, most_bits}
use Rattle.quil_code.specs.declared.instruction.Instruction.{Instruction}
use Rattle.quil_code.specs.declared.instruction.Instruction.TheVariants as instruction
use Rattle.quil_code.specs.declared.instruction.Line.{Line}
use Rattle.quil_code.specs.Program.{Fits, IsProgram, most_qubits}
use Rattle.quil_link.specs.Built.{qubit_limit}
use Rattle.quil_link.specs.Numbered.{is_on, is_used, qubit_place, qubits_below, qubits_of, renumbered, numbered_line}
use Rattle.quil_link.specs.Steps.{AreLinked}

-- ---- qubits rise

range_rises : (a n : ℕ) → IsStrictlyIncreasing (range_with_len a n)
range_rises a n = λ k h.
    let size = length-range_with_len a n in
    let one = get_or-range_with_len a n k 0 (omega arith) in
    let two = get_or-range_with_len a n (k + 1) 0 (omega arith) in
    omega arith

qubits_rise : (n : ℕ) (lines : List Line) → IsStrictlyIncreasing (qubits_below n lines)
qubits_rise n lines = IsStrictlyIncreasing-filter (is_used lines) (range_with_len 0 n) (range_rises 0 n)

-- ---- a qubit that is used has a number

-- a qubit stands in the list
abbrev pub is_among : List ℕ → ℕ → Bool
is_among qs q = list_any (λ p. nat_eq p q) qs

or_right : (b c : Bool) → c ≡ true → (b || c) ≡ true
or_right true c e = refl
or_right false c e = e

or_left : (b c : Bool) → b ≡ true → (b || c) ≡ true
or_left true c e = refl
or_left false c e = cc

same_is_eq : (q : ℕ) → nat_eq q q ≡ true
same_is_eq q = grind (arith, nat_tests)

eq_is_same : (p q : ℕ) → nat_eq p q ≡ true → p ≡ q
eq_is_same p q e = grind (arith, nat_tests)

ne_is_other : (p q : ℕ) → nat_eq p q ≡ false → p ≢ q
ne_is_other p q e = grind (arith, nat_tests)

among_rest : (b : Bool) (a q : ℕ) (qs : List ℕ) → is_among qs q ≡ true → is_among (cond b (a ∷ qs) qs) q ≡ true
among_rest true a q qs h = or_right (nat_eq a q) (is_among qs q) h
among_rest false a q qs h = h

among_first : (b : Bool) (a q : ℕ) (qs : List ℕ) → nat_eq a q ≡ true → b ≡ true → is_among (cond b (a ∷ qs) qs) q ≡ true
among_first true a q qs e h = or_left (nat_eq a q) (is_among qs q) e
among_first false a q qs e h = cc

among_step : (t : ℕ → Bool) (a q : ℕ) (qs : List ℕ) (b : Bool) → nat_eq a q ≡ b → t q ≡ true → (nat_eq a q ≡ false → is_among qs q ≡ true) → is_among (cond (t a) (a ∷ qs) qs) q ≡ true
among_step t a q qs true e h rest = among_first (t a) a q qs e (ap t (eq_is_same a q e) ∙ h)
among_step t a q qs false e h rest = among_rest (t a) a q qs (rest e)

among_filter : (t : ℕ → Bool) (a n q : ℕ) → t q ≡ true → a ≤ q → q < a + n → is_among (filter t (range_with_len a n)) q ≡ true
among_filter t a zero q e low high = absurd (omega arith)
among_filter t a (suc n) q e low high =
    among_step t a q (filter t (range_with_len (a + 1) n)) (nat_eq a q) refl e (λ other.
    let differ = ne_is_other a q other in
    among_filter t (a + 1) n q e (omega arith) (omega arith))

used_among : (lines : List Line) (n q : ℕ) → is_used lines q ≡ true → q < n → is_among (qubits_below n lines) q ≡ true
used_among lines n q e h = among_filter (is_used lines) 0 n q e (omega arith) (omega arith)

-- it is the qubit at this place
record StandsAt (qs : List ℕ) (q i : ℕ) : Type 0 where
  below : i < length qs
  here : get_or qs i 0 ≡ q

stands_first : (p q : ℕ) (qs : List ℕ) (b : Bool) → nat_eq p q ≡ b → (is_among qs q ≡ true → StandsAt qs q (position_or_len (λ r. nat_eq r q) qs)) → (b || is_among qs q) ≡ true
    → StandsAt (p ∷ qs) q (cond (not b) (1 + position_or_len (λ r. nat_eq r q) qs) 0)
stands_first p q qs true e rest h = record { below = omega arith; here = eq_is_same p q e }
stands_first p q qs false e rest h =
    let behind = rest h in
    let next : 1 + position_or_len (λ r. nat_eq r q) qs ≡ suc (position_or_len (λ r. nat_eq r q) qs) = omega arith in
    record { below = omega (arith, behind.below); here = rw next behind.here }

stands_at_position : (qs : List ℕ) (q : ℕ) → is_among qs q ≡ true → StandsAt qs q (position_or_len (λ r. nat_eq r q) qs)
stands_at_position [] q h = cc
stands_at_position (p ∷ qs) q h = stands_first p q qs (nat_eq p q) refl (stands_at_position qs q) h

stands_at_place : (qs : List ℕ) (q : ℕ) → is_among qs q ≡ true → StandsAt qs q (qubit_place qs q)
stands_at_place qs q h =
    let at = stands_at_position qs q h in
    let within : nat_lt (position_or_len (λ r. nat_eq r q) qs) (length qs) ≡ true = grind (arith, nat_tests, at.below) in
    rw within at

-- ---- what fits with the qubits of the text fits with their numbers

numbered_fits : (i : Instruction) (qs : List ℕ) (limit bits : ℕ) → Fits i limit bits → ((q : ℕ) → is_on q i ≡ true → q < limit → is_among qs q ≡ true) → Fits (renumbered qs i) (length qs) bits
numbered_fits instruction.Passive qs limit bits fit among = fit
numbered_fits instruction.Nop qs limit bits fit among = fit
numbered_fits instruction.Wait qs limit bits fit among = fit
numbered_fits instruction.Halt qs limit bits fit among = fit
numbered_fits (instruction.X q) qs limit bits fit among = (stands_at_place qs q (among q (same_is_eq q) fit)).below
numbered_fits (instruction.H q) qs limit bits fit among = (stands_at_place qs q (among q (same_is_eq q) fit)).below
numbered_fits (instruction.Cnot c t) qs limit bits fit among =
    let first = stands_at_place qs c (among c (or_left (nat_eq c c) (nat_eq t c) (same_is_eq c)) fit.0) in
    let second = stands_at_place qs t (among t (or_right (nat_eq c t) (nat_eq t t) (same_is_eq t)) fit.1) in
    (first.below, second.below, λ e. fit.2 (sym first.here ∙ ap (λ i. get_or qs i 0) e ∙ second.here))
numbered_fits (instruction.Measure q b) qs limit bits fit among = ((stands_at_place qs q (among q (same_is_eq q) fit.0)).below, fit.1)
numbered_fits (instruction.Reset None) qs limit bits fit among = fit
numbered_fits (instruction.Reset (Some q)) qs limit bits fit among = (stands_at_place qs q (among q (same_is_eq q) fit)).below
numbered_fits (instruction.Classic c) qs limit bits fit among = fit

lines_fit : (lines : List Line) (qs : List ℕ) (limit bits : ℕ) → AllByRecursion (λ l. Fits l.instruction limit bits) lines → ((q : ℕ) → is_used lines q ≡ true → q < limit → is_among qs q ≡ true)
    → AllByRecursion (λ l. Fits l.instruction (length qs) bits) (map (numbered_line qs) lines)
lines_fit [] qs limit bits fit among = fit
lines_fit (l ∷ ls) qs limit bits fit among = (
  numbered_fits l.instruction qs limit bits fit.0 (λ q h k. among q (or_left (is_on q l.instruction) (is_used ls q) h) k),
  lines_fit ls qs limit bits fit.1 (λ q h k. among q (or_right (is_on q l.instruction) (is_used ls q) h) k),
)

program_below : (n : ℕ) (layout : Regions) (lines : List Line) (qs : List ℕ) → layout.bits ≤ most_bits → AllByRecursion (λ l. Fits l.instruction n layout.bits) lines → length lines < 2 ^ 32 → length qs ≤ most_qubits → qs ≡ qubits_below n lines
    → IsProgram (record { layout = layout; qubits = qs; lines = map (numbered_line qs) lines })
program_below n layout lines qs bits fit few small e = record {
  few_bits = bits;
  few_qubits = small;
  rising = subst IsStrictlyIncreasing (sym e) (qubits_rise n lines);
  few_lines = rw length-map few;
  fit = lines_fit lines qs n layout.bits fit (λ q h k. subst (λ (xs : List ℕ). is_among xs q ≡ true) (sym e) (used_among lines n q h k));
}

-- what `numbered` makes of linked lines is a program
pub numbered_program : (layout : Regions) (lines : List Line) (qs : List ℕ) → layout.bits ≤ most_bits → AreLinked lines layout.bits → length lines < 2 ^ 32 → length qs ≤ most_qubits → qs ≡ qubits_of lines
    → IsProgram (record { layout = layout; qubits = qs; lines = map (numbered_line qs) lines })
unfolding qubits_of
numbered_program layout lines qs bits fit few small e = program_below qubit_limit layout lines qs bits fit few small e
