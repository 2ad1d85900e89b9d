use Rattle.std.proofs.Common.{rules, ◌≡◌, [], map, inr, sym, ◌∙◌, subst, arith, Ok, Err}
use Rattle.std.proofs.lemmas.List.{nil_from_length}
use Rattle.quil_lex.specs.Reading.{span_of}
use Rattle.quil_grammar.specs.declared.fault.ReadFault.TheVariants as fault
use Rattle.quil_parse.specs.Program.{Goes, ends, lacks_body, beginning}
use Rattle.quil_parse.specs.Steps.{so_far}
use Rattle.quil_parse.proofs.Lines.{from_err}
use Rattle.quil_parse.proofs.Programs.{first_and_rest, first_refused}
use Rattle.quil_parse.proofs.program.read_segments.Goals as goal

pub loop-segments-init : goal.loop-segments-init
loop-segments-init c = record {
  goes_on = λ r g. subst (λ is. Goes beginning is (map span_of c.args.segments.now) r) c.requires g;
  context = rw c.requires (search rules);
}

pub loop-segments-preserved : goal.loop-segments-preserved
loop-segments-preserved c = record {
  goes_on = λ r g.
      c.loop-segments.invariant.goes_on r
      (subst (λ xs. Goes c.loop-segments.end (so_far c.loop-segments.items) (map span_of xs) r) (sym (first_and_rest c.loop-segments.segments.now c.segment-item.result c.in-len1-up.len_at_least c.segment-item.is))
      (c.in_ok-end.ensures.ok.goes_on _ r g));
  context = search rules;
}

pub returns-in_err-end-clause-err : goal.returns-in_err-end-clause-err
returns-in_err-end-clause-err c =
    from_err _ _ _ c.from_residual.ensures.1
    (first_refused c.loop-segments.end (so_far c.loop-segments.items) c.segment-item.result _ c.loop-segments.segments.now c.in_err-end.field-0.0 (Goes beginning [] (map span_of c.args.segments.now) (Err c.in_err-end.field-0.0))
    (first_and_rest c.loop-segments.segments.now c.segment-item.result c.in-len1-up.len_at_least c.segment-item.is) c.in_err-end.ensures.err (λ g. c.loop-segments.invariant.goes_on _ g))

pub returns-then-wants_body-clause-err : goal.returns-then-wants_body-clause-err
returns-then-wants_body-clause-err c =
    let none : c.loop-segments.segments.now ≡ [] = nil_from_length c.loop-segments.segments.now (omega (arith, c.in_default.len_below)) in
    inr (c.loop-segments.invariant.goes_on _
    (subst (λ xs. Goes c.loop-segments.end (so_far c.loop-segments.items) (map span_of xs) (Err (fault.Unexpected c.loop-segments.end.line c.loop-segments.end.column))) (sym none)
    (lacks_body (sym c.wants_body.ensures ∙ c.if-wants_body.true))))

pub returns-clause-ok : goal.returns-clause-ok
returns-clause-ok c =
    let none : c.loop-segments.segments.now ≡ [] = nil_from_length c.loop-segments.segments.now (omega (arith, c.in_default.len_below)) in
    c.loop-segments.invariant.goes_on _
    (subst (λ xs. Goes c.loop-segments.end (so_far c.loop-segments.items) (map span_of xs) (Ok (so_far c.loop-segments.items))) (sym none)
    (ends (sym c.wants_body.ensures ∙ c.if-wants_body.false)))
