use Rattle.std.proofs.Common.{◌≡◌, ◌∙◌, ap₂, ◌&&◌, false}
use Rattle.quil_value.specs.Exact.{quotient_of}
use Rattle.quil_value.specs.Views.{is_ring}
use Rattle.quil_value.proofs.Lones.{other_kind, apart_left, apart_right}
use Rattle.quil_value.proofs.value_quotient.quotient.Goals.{in_default-via-in-Ring+in_default, in_default-via-in_default}
use Rattle.quil_value.proofs.value_quotient.quotient.Goals as goal

pub returns-in-Ring-Ring : goal.returns-in-Ring-Ring
returns-in-Ring-Ring c = c.ring_quotient.ensures ∙ ap₂ quotient_of c.in-Ring-Ring.ensures.value c.in-Ring-Ring.ensures'.value

pub returns-in_default : goal.returns-in_default
returns-in_default c =
    let x = c.args.x.now in
    let y = c.args.y.now in
    let apart : (is_ring x && is_ring y) ≡ false = elim c.in_default.branch [
      | in_default-via-in-Ring+in_default w ↦ apart_right (is_ring x) (is_ring y) (other_kind c.kind-2.result y c.kind-2.ensures.value w.in_default.not-Ring-1)
      | in_default-via-in_default w ↦ apart_left (is_ring x) (is_ring y) (other_kind c.kind.result x c.kind.ensures.value w.in_default.not-Ring-0)
    ] in
    c.parts_quotient.ensures x y c.parts_of.ensures.parts c.parts_of-in_default.ensures.parts apart
