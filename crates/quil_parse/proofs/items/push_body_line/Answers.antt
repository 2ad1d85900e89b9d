use Rattle.std.proofs.Common.{[], ◌∷◌, ◌++◌, true, ap, inl, refl, ◌∙◌}
use Rattle.std.proofs.lemmas.Result.{IfOk-at_ok}
use Rattle.quil_parse.proofs.Lines.{from_err, statement_refused, statement_added, gate_added, misplaced_at, no_body}
use Rattle.quil_parse.proofs.items.push_body_line.Goals as goal

pub returns-in_err-gate-in-DefGate-clause-err : goal.returns-in_err-gate-in-DefGate-clause-err
returns-in_err-gate-in-DefGate-clause-err c = from_err _ _ _ c.from_residual.ensures.1 (rw c.in-DefGate.is (rw c.replace-form.ensures.value at c.in_err-gate-in-DefGate.ensures.err))

pub returns-in_err-line-in-DefCircuit-clause-err : goal.returns-in_err-line-in-DefCircuit-clause-err
returns-in_err-line-in-DefCircuit-clause-err c =
    from_err _ _ _ c.from_residual-in_err-line-in-DefCircuit.ensures.1
    (rw c.in-DefCircuit.is (statement_refused c.args.tokens.now c.read_statement-found.result.1.now c.args.end c.read_statement-found.result.0 c.in_err-line-in-DefCircuit.field-0.0 c.read_statement-found.ensures.ok c.read_statement-found.ensures.err c.in_err-line-in-DefCircuit.ensures.err))

pub returns-in_err-circuit-in-DefCircuit-clause-err : goal.returns-in_err-circuit-in-DefCircuit-clause-err
returns-in_err-circuit-in-DefCircuit-clause-err c = from_err _ _ _ c.from_residual-in_err-circuit-in-DefCircuit.ensures.1 (inl refl)

pub returns-in_ok-gate-in-DefGate-clause-ok : goal.returns-in_ok-gate-in-DefGate-clause-ok
returns-in_ok-gate-in-DefGate-clause-ok c = rw c.in-DefGate.is (gate_added c.in-DefGate.gate c.in_ok-gate-in-DefGate.field-0 c.args.tokens.now (rw c.replace-form.ensures.value at c.in_ok-gate-in-DefGate.ensures.ok))

pub returns-in_ok-circuit-in-DefCircuit-clause-ok : goal.returns-in_ok-circuit-in-DefCircuit-clause-ok
returns-in_ok-circuit-in-DefCircuit-clause-ok c =
    let ok = c.in_ok-line-in-DefCircuit.ensures.ok in
    rw c.in-DefCircuit.is
    (statement_added c.in-DefCircuit.circuit c.in_ok-circuit-in-DefCircuit.field-0 c.args.tokens.now c.read_statement-found.result.1.now c.in_ok-line-in-DefCircuit.line (IfOk-at_ok _ ok.0 c.read_statement-found.ensures.ok) ok.1
    (c.in_ok-circuit-in-DefCircuit.ensures ∙ ap (λ ls. ls ++ c.in_ok-line-in-DefCircuit.line ∷ []) c.replace-body.ensures.value))

pub returns-in_default-clause-err : goal.returns-in_default-clause-err
returns-in_default-clause-err c = misplaced_at (c.args.item.now ∷ []) true c.args.tokens.now c.args.end c.misplaced.result c.fault_at.result (no_body c.args.item.now c.in_default.not-DefGate c.in_default.not-DefCircuit) c.misplaced.ensures c.fault_at.ensures
