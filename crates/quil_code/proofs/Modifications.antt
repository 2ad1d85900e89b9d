-- Modifiers are controls over the gate or its conjugate transpose.
use Rattle.std.proofs.Common.{◌≡◌, refl, ◌∙◌, ap, ℕ, zero, suc, ◌-◌, ◌^◌, ◌==◌, Bool, true, false, List, [], ◌∷◌, arith}
use Rattle.std.specs.Prelude.{if◌then◌else◌, nat_lt, not, neg_ℤ}
use Rattle.std.proofs.lemmas.Int.{ints}
use Rattle.std.proofs.lemmas.Bool.Decides.{nat_tests}
use borrow.Author.Differences.{same_in}
use Rattle.std.proofs.Math.IntN.{neg_ℤ-neg_ℤ}
use Rattle.qvm_ring.specs.Ring.{Element, nought, root_two, times, conjugate}
use Rattle.qvm_ring.specs.Gate.{Gate}
use Rattle.quil_code.specs.Controls.{root_two_to, idle, daggered, forked, controlled, Modification, Controlled, Daggered, Forked, first_half, second_half, modified, controls_of, is_dagger_of, daggered_if, under}
use Rattle.qvm_ring.proofs.RingLemmas.{same_element}

pub same_gate : (g h : Gate) → g.arity ≡ h.arity → g.root_twos ≡ h.root_twos → ((r c : ℕ) → g.entry r c ≡ h.entry r c) → g ≡ h
same_gate g h p q e i = record { arity = p i; root_twos = q i; entry = λ r c. e r c i }

pub conjugate_twice : (z : Element) → conjugate (conjugate z) ≡ z
conjugate_twice z = same_element (conjugate (conjugate z)) z refl (neg_ℤ-neg_ℤ z.b) (neg_ℤ-neg_ℤ z.c) (neg_ℤ-neg_ℤ z.d)

pub daggered_twice : (g : Gate) → daggered (daggered g) ≡ g
daggered_twice g = same_gate (daggered (daggered g)) g refl refl (λ r c. conjugate_twice (g.entry r c))

test_sym : (m n : ℕ) → (m == n) ≡ (n == m)
test_sym m n = grind (arith, nat_tests)

-- √2 times a real number is real
conjugate_root_two : (z : Element) → conjugate z ≡ z → conjugate (times root_two z) ≡ times root_two z
conjugate_root_two z h =
    let p : neg_ℤ z.d ≡ z.b = ap (λ (y : Element). y.b) h in
    let q : neg_ℤ z.c ≡ z.c = ap (λ (y : Element). y.c) h in
    same_element (conjugate (times root_two z)) (times root_two z) refl
    (same_in _ _ (omega (arith, ints, p, q))) (same_in _ _ (omega (arith, ints, p, q))) (same_in _ _ (omega (arith, ints, p, q)))

pub conjugate_root_two_to : (n : ℕ) → conjugate (root_two_to n) ≡ root_two_to n
conjugate_root_two_to zero = refl
conjugate_root_two_to (suc n) = conjugate_root_two (root_two_to n) (conjugate_root_two_to n)

conjugate_choice : (b : Bool) (x y : Element) → conjugate (if b then x else y) ≡ (if b then conjugate x else conjugate y)
conjugate_choice true x y = refl
conjugate_choice false x y = refl

pub daggered_idle : (g : Gate) → daggered (idle g) ≡ idle (daggered g)
daggered_idle g = same_gate (daggered (idle g)) (idle (daggered g)) refl refl (λ r c.
    conjugate_choice (c == r) (root_two_to g.root_twos) nought
    ∙ ap (λ (z : Element). if c == r then z else nought) (conjugate_root_two_to g.root_twos)
    ∙ ap (λ (b : Bool). if b then root_two_to g.root_twos else nought) (test_sym c r))

four_ways : (a b : Bool) (x y z w : Element) → conjugate (if a then (if b then x else nought) else (if b then nought else y)) ≡ (if b then (if a then conjugate x else nought) else (if a then nought else conjugate y))
four_ways true true x y z w = refl
four_ways true false x y z w = refl
four_ways false true x y z w = refl
four_ways false false x y z w = refl

pub daggered_forked : (g h : Gate) → daggered (forked g h) ≡ forked (daggered g) (daggered h)
daggered_forked g h = same_gate (daggered (forked g h)) (forked (daggered g) (daggered h)) refl refl (λ r c.
    four_ways (nat_lt c (2 ^ g.arity)) (nat_lt r (2 ^ g.arity)) (g.entry c r) (h.entry (c - 2 ^ g.arity) (r - 2 ^ g.arity)) nought nought)

daggered_controlled : (g : Gate) → daggered (controlled g) ≡ controlled (daggered g)
daggered_controlled g = daggered_forked (idle g) g ∙ ap (λ (k : Gate). forked k (daggered g)) (daggered_idle g)

daggered_not : (b : Bool) (g : Gate) → daggered (daggered_if b g) ≡ daggered_if (not b) g
daggered_not true g = daggered_twice g
daggered_not false g = refl

-- DAGGER goes through the controls
daggered_under : (cs : List Bool) (b : Bool) (f : List ℕ → Gate) (xs : List ℕ) →
    daggered (under cs (λ ys. daggered_if b (f ys)) xs) ≡ under cs (λ ys. daggered_if (not b) (f ys)) xs
daggered_under [] b f xs = daggered_not b (f xs)
daggered_under (true ∷ cs) b f xs = daggered_controlled (under cs (λ ys. daggered_if b (f ys)) xs) ∙ ap controlled (daggered_under cs b f xs)
daggered_under (false ∷ cs) b f xs =
    daggered_forked (under cs (λ ys. daggered_if b (f ys)) (first_half xs)) (under cs (λ ys. daggered_if b (f ys)) (second_half xs))
    ∙ ap (λ (g : Gate). forked g (daggered (under cs (λ ys. daggered_if b (f ys)) (second_half xs)))) (daggered_under cs b f (first_half xs))
    ∙ ap (forked (under cs (λ ys. daggered_if (not b) (f ys)) (first_half xs))) (daggered_under cs b f (second_half xs))

pub modified_is_under : (ms : List Modification) (f : List ℕ → Gate) (xs : List ℕ) → modified ms f xs ≡ under (controls_of ms) (λ ys. daggered_if (is_dagger_of ms) (f ys)) xs
modified_is_under [] f xs = refl
modified_is_under (Controlled ∷ ms) f xs = ap controlled (modified_is_under ms f xs)
modified_is_under (Daggered ∷ ms) f xs = ap daggered (modified_is_under ms f xs) ∙ daggered_under (controls_of ms) (is_dagger_of ms) f xs
modified_is_under (Forked ∷ ms) f xs =
    ap (λ (g : Gate). forked g (modified ms f (second_half xs))) (modified_is_under ms f (first_half xs))
    ∙ ap (forked (under (controls_of ms) (λ ys. daggered_if (is_dagger_of ms) (f ys)) (first_half xs))) (modified_is_under ms f (second_half xs))
