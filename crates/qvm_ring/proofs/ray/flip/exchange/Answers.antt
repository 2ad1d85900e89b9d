use Rattle.std.proofs.Common.{◌≡◌, sym, ◌∙◌, ap, subst, ℕ, ◌+◌, ◌*◌, ◌%◌, ◌^◌, ◌<◌, List, arith}
use Rattle.std.proofs.lemmas.Nat.{one_shl}
use Rattle.std.proofs.lemmas.List.{length-map}
use Rattle.qvm_ring.specs.declared.amp.Amp.{Amp}
use Rattle.qvm_ring.specs.Gate.{bit_of}
use Rattle.qvm_ring.specs.Views.{element_of, elements_of}
use Rattle.qvm_ring.proofs.Flips.{Exchanges, Exchanges-skip, Exchanges-swap, Exchanges-end, high_is, high_below}
use Rattle.qvm_ring.proofs.ray.flip.exchange.Goals as goal
use Rattle.qvm_ring.proofs.ray.flip.exchange.Goals.{then-bit_of-eq0, else-bit_of-eq0}

pub swap-requires-clause-b_in_bounds : goal.swap-requires-clause-b_in_bounds
swap-requires-clause-b_in_bounds c =
    let few : c.args.qubit < 64 = omega (arith, c.requires.one, c.requires.few) in
    let room = high_below c.args.qubits c.args.qubit c.loop-basis.basis c.requires.one (sym c.bit_of.ensures ∙ c.if-bit_of-eq0.true) (omega (arith, c.loop-basis-test.true, c.requires.size)) in
    omega (arith, one_shl c.args.qubit 64 few, room, c.loop-basis.invariant.0, c.requires.size)

pub loop-basis-preserved : goal.loop-basis-preserved
loop-basis-preserved c = elim c.if-bit_of-eq0.branch [
  | then-bit_of-eq0 w ↦
      let few : c.args.qubit < 64 = omega (arith, c.requires.one, c.requires.few) in
      let low : bit_of c.loop-basis.basis c.args.qubit ≡ 0 = sym c.bit_of.ensures ∙ w.if-bit_of-eq0.true in
      let room = high_below c.args.qubits c.args.qubit c.loop-basis.basis c.requires.one low (omega (arith, c.loop-basis-test.true, c.requires.size)) in (
        omega (arith, c.if-bit_of-eq0.auto.list, c.loop-basis.invariant.0),
        subst (λ (l : List Amp). Exchanges c.args.qubit (elements_of c.args.list.now) (elements_of l) (c.loop-basis.basis + 1)) (sym w.list-is)
            (Exchanges-swap c.args.qubit (elements_of c.args.list.now) c.loop-basis.list w.swap.new.self c.loop-basis.basis (c.loop-basis.basis + 1 * 2 ^ c.args.qubit % 2 ^ 64)
            w.swap.ensures.len w.swap.ensures.by_index low
            (ap (λ (n : ℕ). c.loop-basis.basis + n) (one_shl c.args.qubit 64 few) ∙ high_is c.args.qubit c.loop-basis.basis low)
            (omega (arith, c.loop-basis-test.true, c.loop-basis.invariant.0))
            (omega (arith, one_shl c.args.qubit 64 few, room, c.loop-basis.invariant.0, c.requires.size))
            c.loop-basis.invariant.1),
      )
  | else-bit_of-eq0 w ↦ (
    omega (arith, c.if-bit_of-eq0.auto.list, c.loop-basis.invariant.0),
    subst (λ (l : List Amp). Exchanges c.args.qubit (elements_of c.args.list.now) (elements_of l) (c.loop-basis.basis + 1)) (sym w.list-is)
        (Exchanges-skip c.args.qubit (elements_of c.args.list.now) (elements_of c.loop-basis.list) c.loop-basis.basis (λ f. w.if-bit_of-eq0.false (c.bit_of.ensures ∙ f)) c.loop-basis.invariant.1),
  )
]

pub returns-clause-value : goal.returns-clause-value
returns-clause-value c =
    Exchanges-end c.args.qubits c.args.qubit (elements_of c.args.list.now) (elements_of c.loop-basis.list) c.loop-basis.basis c.requires.one
    (length-map c.args.list.now element_of ∙ c.requires.size) (omega (arith, c.loop-basis-test.false, c.loop-basis.auto.basis-end, c.requires.size)) c.loop-basis.invariant.1
