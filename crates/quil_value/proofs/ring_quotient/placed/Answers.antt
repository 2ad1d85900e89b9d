use Rattle.std.proofs.Common.{◌∙◌, sym, ap, refl, Result, Ok}
use Rattle.qvm_ring.specs.Views.{wide_element}
use Rattle.quil_value.specs.declared.lack.Lack.{Lack}
use Rattle.quil_value.specs.Exact.{Exact, bounded}
use Rattle.quil_value.proofs.QuotientBounds.{least_lowered, placed_near, placed_far}
use Rattle.quil_value.proofs.ring_quotient.placed.Goals as goal

pub returns-then-up-down : goal.returns-then-up-down
returns-then-up-down c =
    c.judged.ensures ∙ ap (λ (w : Exact). bounded (Ok w)) (sym (least_lowered (wide_element c.args.z) c.args.up c.args.down c.if-up-down.true c.requires.least))

pub returns-in-Some : goal.returns-in-Some
returns-in-Some c =
    ap (λ (w : Exact). (let r : Result Exact Lack = Ok w in r)) c.new.ensures
    ∙ placed_near (wide_element c.args.z) (wide_element c.in-Some.num) c.args.up c.args.down c.if-up-down.false c.in-Some.ensures.value c.in-Some.ensures.bound

pub returns-in-None : goal.returns-in-None
returns-in-None c = placed_far (wide_element c.args.z) c.args.up c.args.down c.if-up-down.false (c.in-None.ensures.none refl)
