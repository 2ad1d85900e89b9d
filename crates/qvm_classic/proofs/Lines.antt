-- The line at a place of a program fits it.
use Rattle.std.proofs.Common.{◌≡◌, ℕ, zero, suc, ◌<◌, List, [], ◌∷◌, length, get_or, subst, arith}
use Rattle.std.specs.Prelude.{Some, slice_get}
use Rattle.std.specs.List.{AllByRecursion}
use Rattle.std.proofs.lemmas.Option.{slice_get_within, get_or_from_slice_get}
use Rattle.quil_code.specs.declared.classic.Classic.{Classic}
use Rattle.quil_code.specs.declared.instruction.Instruction.{Instruction}
use Rattle.quil_code.specs.declared.instruction.Instruction.TheVariants as instruction
use Rattle.quil_code.specs.declared.instruction.Line.{Line}
use Rattle.quil_code.specs.Program.{Program, IsProgram, Fits, ClassicFits}

all_at : (P : Line → Type 0) (ls : List Line) (at : ℕ) (d : Line) → AllByRecursion P ls → at < length ls → P (get_or ls at d)
all_at P [] at d f h = absurd (omega arith)
all_at P (l ∷ ls) zero d f h = f.0
all_at P (l ∷ ls) (suc at) d f h = all_at P ls at d f.1 (omega arith)

pub classic_fits : (p : Program) (at : ℕ) (l : Line) (c : Classic) (n : ℕ) → IsProgram p → slice_get p.lines at ≡ Some l → l.instruction ≡ instruction.Classic c → n ≡ p.layout.bits → ClassicFits c n
classic_fits p at l c n k e i b =
    let f = all_at (λ (m : Line). Fits m.instruction (length p.qubits) p.layout.bits) p.lines at l k.fit (slice_get_within p.lines at l e) in
    let g : Fits l.instruction (length p.qubits) p.layout.bits = subst (λ (m : Line). Fits m.instruction (length p.qubits) p.layout.bits) (get_or_from_slice_get p.lines at l l e) f in
    let h : ClassicFits c p.layout.bits = subst (λ (j : Instruction). Fits j (length p.qubits) p.layout.bits) i g in
    rw b h
