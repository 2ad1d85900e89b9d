use Rattle.std.proofs.Common.{◌++◌, map, is_ok, ap, sym, ◌∙◌, subst, append_assoc}
use Rattle.std.proofs.ResultArms.{chosen}
use Rattle.std.proofs.lemmas.List.{map_push}
use Rattle.quil_lex.specs.Reading.{span_of, Lexes, line_at, lexemes_of, AreSlices}
use Rattle.quil_lex.proofs.Readings.{same_lexes}
use Rattle.quil_lex.proofs.Slices.{reading_slices}
use Rattle.quil_lex.proofs.read.tokens_to_bad_byte.Goals as goal

pub loop-segments-preserved : goal.loop-segments-preserved
loop-segments-preserved c =
    let pushed = chosen _ _ _ _ c.push.ensures.items (ap is_ok c.in_ok-push.was) in
    let step = rw c.in-Some.is at c.in_ok-segment.ensures in
    λ spans l. subst (λ s. Lexes (line_at 1 c.args.text.now) s) (sym (ap (λ s. s ++ spans) (ap (map span_of) pushed ∙ map_push span_of _ _) ∙ append_assoc _ _ spans)) (c.loop-segments.invariant _ (step.1 spans l))

pub returns-in-None-clause-only : goal.returns-in-None-clause-only
returns-in-None-clause-only c =
    let pushed = chosen _ _ _ _ c.push.ensures.items (ap is_ok c.in_ok-push.was) in
    let last = rw c.in-None.is at c.in_ok-segment.ensures in
    λ spans r. ap (map span_of) pushed ∙ map_push span_of _ _ ∙ same_lexes (c.loop-segments.invariant _ last) r

pub returns-in-None-clause-slices : goal.returns-in-None-clause-slices
returns-in-None-clause-slices c =
    let pushed = chosen _ _ _ _ c.push.ensures.items (ap is_ok c.in_ok-push.was) in
    let last = rw c.in-None.is at c.in_ok-segment.ensures in
    subst (λ s. AreSlices c.args.text.now (lexemes_of s)) (sym (ap (map span_of) pushed ∙ map_push span_of _ _)) (reading_slices c.args.text.now _ (c.loop-segments.invariant _ last))
