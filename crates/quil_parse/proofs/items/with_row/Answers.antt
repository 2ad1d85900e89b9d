use Rattle.std.proofs.Common.{◌≡◌, ◌<◌, false, length, inl, refl, sym, ◌∙◌, ap, arith, eqb-true, []}
use Rattle.std.specs.Prelude.{◌==◌}
use Rattle.std.proofs.lemmas.Bool.Decides.{nat_tests}
use Rattle.std.proofs.lemmas.List.{nil_from_length}
use Rattle.std.proofs.lemmas.Result.{IfOk-from_err, IfOk-at_ok}
use Rattle.quil_parse.proofs.Lines.{from_err, row_refused, row_added, numbers_refused, numbers_added, second_row}
use Rattle.quil_parse.proofs.items.with_row.Goals as goal

pub returns-in_err-row-in-Matrix-clause-ok : goal.returns-in_err-row-in-Matrix-clause-ok
returns-in_err-row-in-Matrix-clause-ok c = IfOk-from_err _ _ c.from_residual.ensures.0

pub returns-in_err-row-in-Matrix-clause-err : goal.returns-in_err-row-in-Matrix-clause-err
returns-in_err-row-in-Matrix-clause-err c =
    from_err _ _ _ c.from_residual.ensures.1
    (rw c.in-Matrix.is (row_refused c.in-Matrix.rows c.args.tokens.now c.read_row-found.result.1.now c.args.end c.read_row-found.result.0 c.in_err-row-in-Matrix.field-0.0 c.read_row-found.ensures.ok c.read_row-found.ensures.err c.in_err-row-in-Matrix.ensures.err))

pub same-rows : goal.same-rows
same-rows c = refl

pub returns-in_err-pushed-in-Matrix-clause-ok : goal.returns-in_err-pushed-in-Matrix-clause-ok
returns-in_err-pushed-in-Matrix-clause-ok c = IfOk-from_err _ _ c.from_residual-in_err-pushed-in-Matrix.ensures.0

pub returns-in_err-pushed-in-Matrix-clause-err : goal.returns-in_err-pushed-in-Matrix-clause-err
returns-in_err-pushed-in-Matrix-clause-err c = from_err _ _ _ c.from_residual-in_err-pushed-in-Matrix.ensures.1 (inl refl)

pub returns-then-not-is_empty-clause-err : goal.returns-then-not-is_empty-clause-err
returns-then-not-is_empty-clause-err c =
    let some : 0 < length c.in-Permutation.numbers =
    let test : (length c.in-Permutation.numbers == 0) ≡ false = ap (λ xs. length xs == 0) (sym c.as_slice.ensures) ∙ sym c.is_empty.ensures ∙ c.if-not-is_empty.true in
    grind (arith, nat_tests, test)
    in
    rw c.in-Permutation.is (second_row c.in-Permutation.numbers c.args.tokens.now c.args.end c.refusal.result some c.refusal.ensures)

pub returns-in_err-numbers-in-Permutation-clause-ok : goal.returns-in_err-numbers-in-Permutation-clause-ok
returns-in_err-numbers-in-Permutation-clause-ok c = IfOk-from_err _ _ c.from_residual-in_err-numbers-in-Permutation.ensures.0

pub returns-in_err-numbers-in-Permutation-clause-err : goal.returns-in_err-numbers-in-Permutation-clause-err
returns-in_err-numbers-in-Permutation-clause-err c =
    let none : c.in-Permutation.numbers ≡ [] = nil_from_length c.in-Permutation.numbers (eqb-true (length c.in-Permutation.numbers) 0 (ap (λ xs. length xs == 0) (sym c.as_slice.ensures) ∙ sym c.is_empty.ensures ∙ c.if-not-is_empty.false)) in
    from_err _ _ _ c.from_residual-in_err-numbers-in-Permutation.ensures.1
    (rw c.in-Permutation.is (numbers_refused c.in-Permutation.numbers c.args.tokens.now c.read_numbers-found.result.1.now c.args.end c.read_numbers-found.result.0 c.in_err-numbers-in-Permutation.field-0.0 none c.read_numbers-found.ensures.ok c.read_numbers-found.ensures.err c.in_err-numbers-in-Permutation.ensures.err))

pub returns-in_ok-pushed-in-Matrix-clause-ok : goal.returns-in_ok-pushed-in-Matrix-clause-ok
returns-in_ok-pushed-in-Matrix-clause-ok c =
    let ok = c.in_ok-row-in-Matrix.ensures.ok in
    rw c.in-Matrix.is
    (row_added c.in-Matrix.rows c.in_ok-pushed-in-Matrix.field-0 c.args.tokens.now c.read_row-found.result.1.now c.in_ok-row-in-Matrix.row (IfOk-at_ok _ ok.0 c.read_row-found.ensures.ok) ok.1 c.in_ok-pushed-in-Matrix.ensures)

pub returns-in_ok-numbers-in-Permutation-clause-ok : goal.returns-in_ok-numbers-in-Permutation-clause-ok
returns-in_ok-numbers-in-Permutation-clause-ok c =
    let ok = c.in_ok-numbers-in-Permutation.ensures.ok in
    let none : c.in-Permutation.numbers ≡ [] = nil_from_length c.in-Permutation.numbers (eqb-true (length c.in-Permutation.numbers) 0 (ap (λ xs. length xs == 0) (sym c.as_slice.ensures) ∙ sym c.is_empty.ensures ∙ c.if-not-is_empty.false)) in
    rw c.in-Permutation.is
    (numbers_added c.in-Permutation.numbers c.in_ok-numbers-in-Permutation.numbers c.args.tokens.now c.read_numbers-found.result.1.now none (IfOk-at_ok _ ok.0 c.read_numbers-found.ensures.ok) ok.1)
