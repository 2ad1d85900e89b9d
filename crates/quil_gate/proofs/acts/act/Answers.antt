use Rattle.std.proofs.Common.{◌≡◌, refl, sym, ◌∙◌, ap, subst, ℕ, ◌+◌, ◌-◌, ◌^◌, ◌≤◌, List, [], length, take, drop, length-drop, arith}
use Rattle.quil_code.specs.declared.act.Piece.{Piece}
use Rattle.quil_code.specs.declared.gate_code.Base.{Base}
use Rattle.quil_code.specs.declared.gate_code.Control.{Control}
use Rattle.quil_code.specs.Acts.{Act, act_gate, IsAct}
use Rattle.quil_code.specs.GateCodes.{gate_at, base_arity, base_root_twos, base_numbers, forks}
use Rattle.quil_code.specs.Matrices.{IsGate}
use Rattle.quil_gate.specs.Pieces.{leaf_gate, number_limit, AreNumbers, AddsPieces}
use Rattle.quil_gate.proofs.Forks.{few_pieces, few_angles, few_numbers, are_numbers}
use Rattle.quil_gate.proofs.Made.{made_gate, made_act}
use Rattle.quil_gate.proofs.acts.act.Goals as goal

pub base_numbers-numbers-requires-clause-angles : goal.base_numbers-numbers-requires-clause-angles
base_numbers-numbers-requires-clause-angles c = omega (arith, c.requires.angles, few_angles c.args.gate.now c.requires.form)

pub base_numbers-numbers-requires-clause-matrices : goal.base_numbers-numbers-requires-clause-matrices
base_numbers-numbers-requires-clause-matrices c = subst (λ (b : Base). number_limit b ≤ 16) (sym c.base-base.ensures) (few_numbers c.args.gate.now c.requires.form)

pub add_pieces-requires-clause-room : goal.add_pieces-requires-clause-room
add_pieces-requires-clause-room c =
    let none : length c.new-pieces.result.items ≡ 0 = ap length c.new-pieces.ensures in
    let forked : 2 ^ forks c.controls-controls.result.now ≡ 2 ^ forks c.args.gate.now.controls = ap (λ (cs : List Control). 2 ^ forks cs) c.controls-controls.ensures in
    omega (arith, none, forked, few_pieces c.args.gate.now c.requires.form)

pub add_pieces-requires-clause-numbers : goal.add_pieces-requires-clause-numbers
add_pieces-requires-clause-numbers c =
    subst (AreNumbers c.args.gate.now.base) (sym (c.as_slice.ensures.value ∙ c.base_numbers-numbers.ensures ∙ ap (λ (b : Base). base_numbers b c.args.angles.now) c.base-base.ensures))
    (are_numbers c.args.gate.now.base c.args.angles.now)

pub listed-requires-2 : goal.listed-requires-2
listed-requires-2 c =
    let few : base_arity c.args.gate.now.base ≤ 3 = subst (λ (b : Base). base_arity b ≤ 3) c.base-base.ensures c.base_root_twos-root_twos.ensures.few in
    let back : length c.split_at.result.1.now ≡ length c.qubits.result.now - length c.controls-controls.result.now =
    ap length c.split_at.ensures.back ∙ length-drop (length c.controls-controls.result.now) c.qubits.result.now
    in
    let controls : length c.controls-controls.result.now ≡ length c.args.gate.now.controls = ap length c.controls-controls.ensures in
    let qubits : length c.qubits.result.now ≡ length c.args.gate.now.qubits = ap length c.qubits.ensures in
    (omega arith, (let b : length c.split_at.result.1.now ≤ 3 = omega (arith, few, back, controls, qubits, c.requires.form.qubits) in b))

pub new-requires : goal.new-requires
new-requires c =
    let g = c.args.gate.now in
    made_act g c.requires.form (base_numbers g.base c.args.angles.now) c.listed.result.items c.listed-2.result.items c.base_root_twos-root_twos.result c.add_pieces.new.pieces.items
    (c.listed.ensures ∙ c.split_at.ensures.front ∙ ap (λ (n : ℕ). take n c.qubits.result.now) (ap length c.controls-controls.ensures) ∙ ap (take (length g.controls)) c.qubits.ensures)
    (c.listed-2.ensures ∙ c.split_at.ensures.back ∙ ap (λ (n : ℕ). drop n c.qubits.result.now) (ap length c.controls-controls.ensures) ∙ ap (drop (length g.controls)) c.qubits.ensures)
    (c.base_root_twos-root_twos.ensures.value ∙ ap base_root_twos c.base-base.ensures)
    (subst (λ (old : List Piece). AddsPieces (leaf_gate g) g.controls 0 (base_numbers g.base c.args.angles.now) old c.add_pieces.new.pieces.items) c.new-pieces.ensures
    (subst (λ (cs : List Control). AddsPieces (leaf_gate g) cs 0 (base_numbers g.base c.args.angles.now) c.new-pieces.result.items c.add_pieces.new.pieces.items) c.controls-controls.ensures
    (subst (λ (xs : List ℕ). AddsPieces (leaf_gate g) c.controls-controls.result.now 0 xs c.new-pieces.result.items c.add_pieces.new.pieces.items)
    (c.as_slice.ensures.value ∙ c.base_numbers-numbers.ensures ∙ ap (λ (b : Base). base_numbers b c.args.angles.now) c.base-base.ensures) c.add_pieces.ensures)))
    c.requires.few c.base_root_twos-root_twos.ensures.light

pub returns-clause-ok : goal.returns-clause-ok
returns-clause-ok c =
    let g = c.args.gate.now in
    subst (λ (a : Act). IsGate (gate_at g c.args.angles.now) (act_gate a)) (sym c.new.ensures)
    (made_gate g c.requires.form (base_numbers g.base c.args.angles.now) c.listed.result.items c.listed-2.result.items c.base_root_twos-root_twos.result c.add_pieces.new.pieces.items
    (c.listed.ensures ∙ c.split_at.ensures.front ∙ ap (λ (n : ℕ). take n c.qubits.result.now) (ap length c.controls-controls.ensures) ∙ ap (take (length g.controls)) c.qubits.ensures)
    (c.listed-2.ensures ∙ c.split_at.ensures.back ∙ ap (λ (n : ℕ). drop n c.qubits.result.now) (ap length c.controls-controls.ensures) ∙ ap (drop (length g.controls)) c.qubits.ensures)
    (c.base_root_twos-root_twos.ensures.value ∙ ap base_root_twos c.base-base.ensures)
    (subst (λ (old : List Piece). AddsPieces (leaf_gate g) g.controls 0 (base_numbers g.base c.args.angles.now) old c.add_pieces.new.pieces.items) c.new-pieces.ensures
    (subst (λ (cs : List Control). AddsPieces (leaf_gate g) cs 0 (base_numbers g.base c.args.angles.now) c.new-pieces.result.items c.add_pieces.new.pieces.items) c.controls-controls.ensures
    (subst (λ (xs : List ℕ). AddsPieces (leaf_gate g) c.controls-controls.result.now 0 xs c.new-pieces.result.items c.add_pieces.new.pieces.items)
    (c.as_slice.ensures.value ∙ c.base_numbers-numbers.ensures ∙ ap (λ (b : Base). base_numbers b c.args.angles.now) c.base-base.ensures) c.add_pieces.ensures))))
