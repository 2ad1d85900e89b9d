use Rattle.std.proofs.Common.{◌≡◌, ◌++◌, drop, length}
use Rattle.std.specs.Prelude.{option_map}
use Rattle.quil_code.specs.Angles.{angles_at}
use Rattle.quil_code.proofs.angle.angles_at.Given as goal

-- the angles so far, before those to come
abbrev pub invariant-loop-angle : goal.invariant-loop-angle
invariant-loop-angle l =
    (option_map (λ ks. l.eighths.items ++ ks) (angles_at l.memory (drop l.angle-index l.angles)) ≡ angles_at l.memory l.angles) × (length l.eighths.items ≡ l.angle-index)
