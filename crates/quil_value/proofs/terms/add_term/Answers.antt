use Rattle.std.proofs.Common.{◌≡◌, Some, None, sym, rules}
use Rattle.std.specs.Prelude.{position}
use Rattle.std.proofs.lemmas.Result.{IfOk-weaker, err_from_is_err_and}
use Rattle.quil_value.specs.Sums.{is_same_cell}
use Rattle.quil_value.proofs.CellTerms.{limited_new, new_form, known_limited, known_fault, set_form}
use Rattle.quil_value.proofs.terms.add_term.Goals as goal

pub returns-in_default-clause-ok : goal.returns-in_default-clause-ok
returns-in_default-clause-ok c =
    let none : position (λ u. is_same_cell u.cell c.args.term.cell) c.args.terms.now.items ≡ None = cc (c.place_of.ensures, c.in_default.is, c.deref.ensures.value) in
    rw (limited_new c.args.terms.now.items c.args.term none) c.push_new.ensures.ok

pub returns-in_default-clause-form : goal.returns-in_default-clause-form
returns-in_default-clause-form c =
    let none : position (λ u. is_same_cell u.cell c.args.term.cell) c.args.terms.now.items ≡ None = cc (c.place_of.ensures, c.in_default.is, c.deref.ensures.value) in
    IfOk-weaker c.push_new.result _ _ (λ u e. new_form c.args.terms.now.items c.push_new.new.terms.items c.args.term none e c.requires.terms c.requires.factor) c.push_new.ensures.ok

pub returns-in_default-clause-err : goal.returns-in_default-clause-err
returns-in_default-clause-err c =
    let none : position (λ u. is_same_cell u.cell c.args.term.cell) c.args.terms.now.items ≡ None = cc (c.place_of.ensures, c.in_default.is, c.deref.ensures.value) in
    rw (limited_new c.args.terms.now.items c.args.term none) c.push_new.ensures.err

pub returns-in_err-factor-clause-err : goal.returns-in_err-factor-clause-err
returns-in_err-factor-clause-err c =
    let there : position (λ u. is_same_cell u.cell c.args.term.cell) c.args.terms.now.items ≡ Some c.in-Some.place = cc (c.place_of.ensures, c.in-Some.is, c.deref.ensures.value) in
    let p = err_from_is_err_and c.from_residual.result c.from_residual.ensures.1 in
    rw (p.1, p.2) (known_fault c.args.terms.now.items c.args.term c.in-Some.place c.index-known.result.now _ there c.index-known.ensures (sym c.in_err-factor.ensures.value))

pub returns-clause-ok : goal.returns-clause-ok
returns-clause-ok c =
    let there : position (λ u. is_same_cell u.cell c.args.term.cell) c.args.terms.now.items ≡ Some c.in-Some.place = cc (c.place_of.ensures, c.in-Some.is, c.deref.ensures.value) in
    known_limited c.args.terms.now.items c.args.term c.in-Some.place c.index-known.result.now c.in_ok-factor.factor there c.index-known.ensures (search (rules, c.in_ok-factor.ensures.value)) c.requires.terms.most

pub returns-clause-form : goal.returns-clause-form
returns-clause-form c = set_form c.args.terms.now.items c.in-Some.place c.index-known.result.now c.in_ok-factor.factor (search rules) c.index-known.ensures c.requires.terms c.in_ok-factor.ensures.form
