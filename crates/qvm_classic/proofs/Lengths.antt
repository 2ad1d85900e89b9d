-- An instruction keeps the number of bits, and its fault keeps them all.
use Rattle.std.proofs.Common.{◌≡◌, ℕ, suc, ◌+◌, ◌*◌, ◌≤◌, Bool, true, false, ◌&&◌, List, length, ℤ, pos, negsuc, refl, ap, arith, ◌∙◌}
use Rattle.std.proofs.Math.Nat.{mul-le-mul_right}
use Rattle.std.specs.Prelude.{Result, Ok, Err, int_le, int_lt, nat_abs, if◌then◌else◌}
use Rattle.std.proofs.lemmas.Bool.{leb-true}
use Rattle.std.proofs.lemmas.Grind.{common_steps}
use Rattle.quil_memory.specs.declared.cell_type.CellType.{CellType}
use Rattle.quil_memory.specs.declared.cell_type.CellType.TheVariants as cell_type
use Rattle.quil_memory.specs.CellTypes.{size}
use Rattle.quil_memory.specs.Cells.{with_word, with_value, word_of, value_at}
use Rattle.quil_memory.proofs.Runs.{length-bits_of}
use Rattle.quil_code.specs.declared.classic.Classic.{Classic}
use Rattle.quil_code.specs.declared.classic.Classic.TheVariants as classic
use Rattle.quil_code.specs.declared.classic.ProductOperation.TheVariants.{Mul, Div}
use Rattle.quil_code.specs.declared.fault.ClassicFault.{ClassicFault}
use Rattle.quil_code.specs.Operands.{arithmetic_type, bitwise_type}
use Rattle.quil_code.specs.Program.{ClassicFits}
use Rattle.quil_code.specs.Classic.{Effect, effect, span_bit}
use Rattle.qvm_classic.specs.Places.{Does}

pub length-with_word : (kind : CellType) (first n : ℕ) (bits : List Bool) → first + size kind ≤ length bits → length (with_word kind first n bits) ≡ length bits
length-with_word kind first n bits h = grind (arith, common_steps, length-bits_of (size kind) n)

kept_ok : (x new : List Bool) (n : ℕ) → ◌≡◌ {A = Effect} (Ok x) (Ok new) → length x ≡ n → length new ≡ n
kept_ok x new n e h = let q : x ≡ new = cc in rw (← q) h

kept_if : (b : Bool) (x new : List Bool) (f : ClassicFault) (n : ℕ) → (if b then Ok x else Err f) ≡ Ok new → (b ≡ true → length x ≡ n) → length new ≡ n
kept_if true x new f n e h = kept_ok x new n e (h refl)
kept_if false x new f n e h = cc

kept_unless : (b d : Bool) (x new : List Bool) (f g : ClassicFault) (n : ℕ) → (if b then Err f else (if d then Ok x else Err g)) ≡ Ok new → length x ≡ n → length new ≡ n
kept_unless true d x new f g n e h = cc
kept_unless false d x new f g n e h = kept_if d x new g n e (λ t. h)

both : (a b : Bool) → (a && b) ≡ true → b ≡ true
both true b h = h
both false b h = absurd (cc)

-- a cell of a span lies within it
within : (i : ℤ) (first width count bits : ℕ) → (int_le (pos 0) i && int_lt i (pos count)) ≡ true → first + count * width ≤ bits → (first + nat_abs i * width) + width ≤ bits
within (pos k) first width count bits t h = let b = mul-le-mul_right width (leb-true (suc k) count (both (int_le (pos 0) (pos k)) (int_lt (pos k) (pos count)) t)) in omega (arith, b)
within (negsuc k) first width count bits t h = cc

two : (kind : CellType) (a b m n : ℕ) (bits : List Bool) → a + size kind ≤ length bits → b + size kind ≤ length bits → length (with_word kind b m (with_word kind a n bits)) ≡ length bits
two kind a b m n bits h k =
    let e = length-with_word kind a n bits h in
    length-with_word kind b m (with_word kind a n bits) (rw e k) ∙ e

pub length-effect : (line : ℕ) (i : Classic) (bits new : List Bool) → ClassicFits i (length bits) → effect line i bits ≡ Ok new → length new ≡ length bits
length-effect line (classic.Move kind target source) bits new f e = kept_ok _ new (length bits) e (length-with_word kind target.first _ bits f.0)
length-effect line (classic.Exchange kind one other) bits new f e = kept_ok _ new (length bits) e (two kind one.first other.first _ _ bits f.0 f.1)
length-effect line (classic.Sum operation kind target source) bits new f e = kept_if _ _ new _ (length bits) e (λ t. length-with_word (arithmetic_type kind) target.first _ bits f.0)
length-effect line (classic.Product Mul target source) bits new f e = kept_if _ _ new _ (length bits) e (λ t. length-with_word cell_type.Integer target.first _ bits f.0)
length-effect line (classic.Product Div target source) bits new f e = kept_unless _ _ _ new _ _ (length bits) e (length-with_word cell_type.Integer target.first _ bits f.0)
length-effect line (classic.Neg kind target) bits new f e = kept_if _ _ new _ (length bits) e (λ t. length-with_word (arithmetic_type kind) target.first _ bits f)
length-effect line (classic.Not kind target) bits new f e = kept_ok _ new (length bits) e (length-with_word (bitwise_type kind) target.first _ bits f)
length-effect line (classic.Bits operation kind target source) bits new f e = kept_ok _ new (length bits) e (length-with_word (bitwise_type kind) target.first _ bits f.0)
length-effect line (classic.Convert kind target from source) bits new f e = kept_if _ _ new _ (length bits) e (λ t. length-with_word (bitwise_type kind) target.first _ bits f.0)
length-effect line (classic.Load kind target span index) bits new f e = kept_if _ _ new _ (length bits) e (λ t. length-with_word kind target.first _ bits f.0)
length-effect line (classic.Store kind span index source) bits new f e =
    let i = value_at cell_type.Integer index.first bits in
    kept_if _ _ new _ (length bits) e (λ t. length-with_word kind (span_bit kind span i) _ bits (within i span.first (size kind) span.length (length bits) t f.0))
length-effect line (classic.Compare comparison kind target left right) bits new f e = kept_ok _ new (length bits) e (length-with_word cell_type.Bit target.first _ bits f.0)

pub kept : (result : Result (Unit {0}) ClassicFault) (line : ℕ) (i : Classic) (old new : List Bool) → ClassicFits i (length old) → Does result (effect line i old) old new → length new ≡ length old
kept (Ok d) line i old new f h = length-effect line i old new f h
kept (Err x) line i old new f h = ap length h.1

pub length_of_value : (kind : CellType) (first : ℕ) (z : ℤ) (bits : List Bool) → first + size kind ≤ length bits → length (with_value kind first z bits) ≡ length bits
length_of_value kind first z bits h = length-with_word kind first (word_of z) bits h
