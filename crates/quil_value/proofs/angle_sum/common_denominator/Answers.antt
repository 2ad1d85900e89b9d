use Rattle.std.proofs.Common.{arith, drop, Bool, Some, None, sym, ap}
use Rattle.std.specs.Prelude.{if◌then◌else◌, fold}
use Rattle.std.proofs.lemmas.List.Elements.{All-drop}
use Rattle.quil_value.specs.SumForms.{IsRatio}
use Rattle.quil_value.specs.AngleSums.{common_multiple}
use Rattle.quil_value.proofs.Denominators.{above_bound}
use Rattle.quil_value.proofs.angle_sum.common_denominator.Goals as goal

pub returns-then-common-gt-MOST_COMMON-clause-value : goal.returns-then-common-gt-MOST_COMMON-clause-value
returns-then-common-gt-MOST_COMMON-clause-value c =
    let rest = drop c.loop-term.term-index c.args.terms.now in
    let n = fold (λ q t. common_multiple q t.factor.q) c.args.start c.args.terms.now in
    let over = above_bound rest c.args.terms.now c.loop-term.common c.args.start 1048576 c.loop-term.invariant.0 (omega arith) (All-drop (λ t. IsRatio t.factor) c.loop-term.term-index c.args.terms.now c.requires.terms) in
    sym (ap (λ (b : Bool). if b then Some n else None) over)
