-- The numbers that FORKED halves.
use Rattle.std.proofs.Common.{◌≡◌, refl, sym, ◌∙◌, ap, subst, ℕ, zero, suc, ◌+◌, ◌*◌, ◌%◌, ◌^◌, ◌<◌, ◌≤◌, inl, inr, List, [], ◌∷◌, ◌++◌, length, map, All, arith, rules}
use Rattle.std.specs.Prelude.{ℤ, pos, negsuc, slice_index_or}
use Rattle.std.specs.List.{range_with_len}
use Rattle.std.proofs.Math.Nat.{mod-lt}
use Rattle.std.proofs.Math.Pow.{pow_mono}
use Rattle.std.proofs.lemmas.List.Elements.{All-cons, All-map}
use Rattle.quil_code.specs.declared.standard_gate.StandardGate.{StandardGate}
use Rattle.quil_code.specs.declared.gate_code.Base.{Base}
use Rattle.quil_code.specs.declared.gate_code.Base.TheVariants.{Standard, Defined}
use Rattle.quil_code.specs.StandardGates.{form_of}
use Rattle.quil_code.specs.Controls.{IsFamily}
use Rattle.quil_code.specs.Matrices.{Matrix}
use Rattle.quil_code.specs.GateCodes.{GateCode, IsGateCode, AreMatrices, base_arity, base_root_twos, base_angles, base_numbers, base_gate, by_16, forks}
use Rattle.quil_code.proofs.Blocks.{same_arity, same_root_twos}
use Rattle.qvm_ring.proofs.Bits.{power_positive}
use Rattle.quil_gate.specs.Pieces.{leaf_gate, number_limit, AreNumbers}

range_more : (a n : ℕ) → range_with_len a (suc n) ≡ range_with_len a n ++ (a + n) ∷ []
range_more a zero = ap (λ (k : ℕ). k ∷ []) (omega arith)
range_more a (suc n) = ap (λ (ks : List ℕ). a ∷ ks) (range_more (a + 1) n ∙ ap (λ (k : ℕ). range_with_len (a + 1) n ++ k ∷ []) (omega arith))

pub range_from_0 : (n : ℕ) → range_with_len 0 (n + 1) ≡ range_with_len 0 n ++ n ∷ []
range_from_0 n = ap (range_with_len 0) (let e : n + 1 ≡ suc n = omega arith in e) ∙ range_more 0 n ∙ ap (λ (k : ℕ). range_with_len 0 n ++ k ∷ []) (let e : 0 + n ≡ n = omega arith in e)

range_below : (a n b : ℕ) → a + n ≤ b → All (λ k. k < b) (range_with_len a n)
range_below a zero b h = λ i d l. absurd (omega arith)
range_below a (suc n) b h = All-cons (λ k. k < b) a (range_with_len (a + 1) n) (omega (arith, h)) (range_below (a + 1) n b (omega (arith, h)))

pub below_16 : (k : ℤ) → by_16 k < 16
below_16 (pos n) = mod-lt n (omega arith)
below_16 (negsuc n) = omega arith

pub are_numbers : (b : Base) (ks : List ℤ) → AreNumbers b (base_numbers b ks)
are_numbers (Standard g) ks = All-map (λ x. x < 16) by_16 ks (λ i d l. below_16 _)
are_numbers (Defined ms) ks = range_below 0 (length ms) (length ms) (omega arith)

-- ---- at most 16

few_lists : (n : ℕ) → n ≤ 4 → 2 ^ n ≤ 16
few_lists n h = pow_mono {i = n} {j = 4} h

one_angle : (g : StandardGate) → (form_of g).angles ≤ 1
one_angle g = search rules

pub three_qubits : (g : StandardGate) → (form_of g).arity ≤ 3
three_qubits g = search rules

at_most : (a n : ℕ) → a ≤ 1 → n ≤ 16 → a * n ≤ 16
at_most zero n h l = omega arith
at_most (suc zero) n h l = omega (arith, l)
at_most (suc (suc a)) n h l = absurd (omega (arith, h))

few_base_angles : (b : Base) → base_angles b ≤ 1
few_base_angles (Standard g) = one_angle g
few_base_angles (Defined ms) = omega arith

module _ (g : GateCode) (form : IsGateCode g) where
  pub few_pieces : 2 ^ forks g.controls ≤ 16
  few_pieces = few_lists (forks g.controls) form.few_forks

  pub few_angles : length g.angles ≤ 16
  few_angles = omega (arith, form.angles, at_most (base_angles g.base) (2 ^ forks g.controls) (few_base_angles g.base) few_pieces)

limits : (b : Base) (n : ℕ) → AreMatrices b n → n ≤ 16 → number_limit b ≤ 16
limits (Standard g) n m h = omega arith
limits (Defined ms) n m h = omega (arith, m.0, h)

some_limit : (b : Base) (n : ℕ) → AreMatrices b n → 0 < n → 0 < number_limit b
some_limit (Standard g) n m h = omega arith
some_limit (Defined ms) n m h = omega (arith, m.0, h)

module _ (g : GateCode) (form : IsGateCode g) where
  pub few_numbers : number_limit g.base ≤ 16
  few_numbers = limits g.base (2 ^ forks g.controls) form.matrices (few_pieces g form)

  pub some_number : 0 < number_limit g.base
  some_number = some_limit g.base (2 ^ forks g.controls) form.matrices (power_positive (forks g.controls))

-- ---- one form

index_all : (P : Matrix → Type 0) (xs : List Matrix) (d : Matrix) (k : ℕ) → All P xs → P d → P (slice_index_or xs k d)
index_all P [] d k h p = p
index_all P (x ∷ xs) d zero h p = h 0 d (omega arith)
index_all P (x ∷ xs) d (suc k) h p = index_all P xs d k (λ i e l. h (suc i) e (omega (arith, l))) p

base_arity_is : (b : Base) (n : ℕ) → AreMatrices b n → 0 < n → (xs : List ℕ) → (base_gate b xs).arity ≡ base_arity b
base_arity_is (Standard g) n m h xs = refl
base_arity_is (Defined []) n m h xs = absurd (omega (arith, m.0, h))
base_arity_is (Defined (x ∷ ms)) n m h xs = index_all (λ y. y.arity ≡ x.arity) (x ∷ ms) x (slice_index_or xs 0 0) m.1.arity refl

base_root_twos_is : (b : Base) (n : ℕ) → AreMatrices b n → 0 < n → (xs : List ℕ) → (base_gate b xs).root_twos ≡ base_root_twos b
base_root_twos_is (Standard g) n m h xs = refl
base_root_twos_is (Defined []) n m h xs = absurd (omega (arith, m.0, h))
base_root_twos_is (Defined (x ∷ ms)) n m h xs = index_all (λ y. y.root_twos ≡ x.root_twos) (x ∷ ms) x (slice_index_or xs 0 0) m.1.root_twos refl

pub leaf_family : (g : GateCode) → IsGateCode g → IsFamily (base_arity g.base) (base_root_twos g.base) (leaf_gate g)
leaf_family g form =
    let some = power_positive (forks g.controls) in
    record {
      arity = λ xs. same_arity g.is_dagger (base_gate g.base xs) ∙ base_arity_is g.base (2 ^ forks g.controls) form.matrices some xs;
      root_twos = λ xs. same_root_twos g.is_dagger (base_gate g.base xs) ∙ base_root_twos_is g.base (2 ^ forks g.controls) form.matrices some xs;
    }
