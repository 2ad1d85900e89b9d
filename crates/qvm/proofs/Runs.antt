-- Runs step by step.
use Rattle.std.proofs.Common.{◌≡◌, refl, sym, ◌∙◌, ap, subst, ℕ, suc, ◌+◌, ◌-◌, ◌<◌, ◌≤◌, Bool, true, false, List, arith}
use Rattle.std.specs.Prelude.{if◌then◌else◌}
use Rattle.std.proofs.Math.Nat.{sub-zero}
use Rattle.quil_code.specs.declared.quantum.Quantum.{Quantum}
use Rattle.quil_code.specs.Program.{Program}
use Rattle.quil_code.specs.Step.{Next, Goes, Waits, Halts, Faults, step, needs_word, FitsProgram}
use Rattle.qvm_step.specs.Words.{draw}
use Rattle.qvm_step.specs.Run.{End, Halted, StepLimit, Fault, Finished, end_at_wait, finished, start}
use Rattle.qvm.specs.Ends.{EndsAs, end_seen}
use Rattle.qvm.specs.declared.run.Finish.{Finish}

-- a run that has ended
abbrev ended : Quantum → ℕ → End → Finished
ended m draws e = record { machine = m; draws = draws; end = e }

abbrev after : ℕ → List ℕ → Program → Quantum → ℕ → Next → Finished
after n seed program m draws next = elim next [
  | Goes moved ↦ finished n program seed moved (if needs_word program m then draws + 1 else draws)
  | Waits moved ↦ ended moved draws (end_at_wait n)
  | Halts ↦ ended m draws Halted
  | Faults f ↦ ended m draws (Fault f)
]

finished_suc : (n : ℕ) (seed : List ℕ) (program : Program) (m : Quantum) (draws : ℕ) → finished (suc n) program seed m draws ≡ after n seed program m draws (step program m (draw seed draws))
unfolding finished
finished_suc n seed program m draws = refl

finished_zero : (seed : List ℕ) (program : Program) (m : Quantum) (draws : ℕ) → finished 0 program seed m draws ≡ ended m draws StepLimit
unfolding finished
finished_zero seed program m draws = refl

-- the whole run
abbrev run_of : List ℕ → Program → ℕ → Finished
run_of seed program limit = finished limit program seed (start program) 0

-- what a loop over the steps keeps: the run that is left ends as the whole run
pub record Runs (seed : List ℕ) (program : Program) (limit done : ℕ) (m : Quantum) (draws : ℕ) : Type 0 where
  pub left : finished (limit - done) program seed m draws ≡ run_of seed program limit
  pub fits : FitsProgram program m
  pub few : draws ≤ done

pub Runs-start : (seed : List ℕ) (program : Program) (limit : ℕ) (m : Quantum) → m ≡ start program → FitsProgram program m → Runs seed program limit 0 m 0
Runs-start seed program limit m e f = record {
  left = ap (λ (n : ℕ). finished n program seed m 0) (sub-zero limit) ∙ ap (λ (n : Quantum). finished limit program seed n 0) e;
  fits = f;
  few = omega arith;
}

count_le : (b : Bool) (draws done : ℕ) → draws ≤ done → (if b then draws + 1 else draws) ≤ done + 1
count_le true draws done h = omega arith
count_le false draws done h = omega arith

-- a finish with the memory and the end of a run ends as the run
pub ends_as : (finish : Finish) (m : Quantum) (draws : ℕ) (e : End) (g : Finished) → ended m draws e ≡ g → finish.memory ≡ m.memory → end_seen finish.end ≡ e → EndsAs finish g
ends_as finish m draws e g is memory end = record {
  memory = memory ∙ ap (λ (h : Finished). h.machine.memory) is;
  end = end ∙ ap (λ (h : Finished). h.end) is;
}

module _ (seed : List ℕ) (program : Program) (limit done : ℕ) (m : Quantum) (draws : ℕ) (r : Runs seed program limit done m draws) where
  -- at the limit
  pub at_limit : limit ≤ done → ended m draws StepLimit ≡ run_of seed program limit
  at_limit h =
      let e : limit - done ≡ 0 = omega arith in
      sym (ap (λ (n : ℕ). finished n program seed m draws) e ∙ finished_zero seed program m draws) ∙ r.left

  -- by what the next step does
  pub after_step : (next : Next) → done < limit → step program m (draw seed draws) ≡ next → after (limit - done - 1) seed program m draws next ≡ run_of seed program limit
  after_step next h e =
      let one : limit - done ≡ suc (limit - done - 1) = omega arith in
      sym (ap (λ (n : ℕ). finished n program seed m draws) one ∙ finished_suc (limit - done - 1) seed program m draws ∙ ap (after (limit - done - 1) seed program m draws) e) ∙ r.left

  pub Runs-went : (m' : Quantum) (draws' : ℕ) → done < limit → step program m (draw seed draws) ≡ Goes m' → draws' ≡ (if needs_word program m then draws + 1 else draws) → FitsProgram program m'
      → Runs seed program limit (done + 1) m' draws'
  Runs-went m' draws' h e c f = record {
    left =
        let fewer : limit - (done + 1) ≡ limit - done - 1 = omega arith in
        ap (λ (n : ℕ). finished n program seed m' draws') fewer ∙ ap (finished (limit - done - 1) program seed m') c ∙ after_step (Goes m') h e;
    fits = f;
    few = subst (λ (n : ℕ). n ≤ done + 1) (sym c) (count_le (needs_word program m) draws done r.few);
  }
