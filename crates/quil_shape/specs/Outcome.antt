-- What reading from left to right comes to.
use Rattle.std.specs.Prelude.{List, [], ◌∷◌, ◌++◌}
use Rattle.quil_shape.specs.Verdict.{Verdict}
use Rattle.quil_shape.specs.Verdict.Verdict.{Read, Refused, TooLarge}

-- things made, and the tokens that are left; the tokens where no front goes on; the tokens from one that is too large
pub data Outcome (O T : Type 0) : Type 0 where
  Made : List O → List T → Outcome O T
  Stuck : List T → Outcome O T
  Large : List T → Outcome O T

-- the outcome where `os` was made before
abbrev pub after : {O T : Type 0} → List O → Outcome O T → Outcome O T
after os (Made ps us) = Made (os ++ ps) us
after os (Stuck us) = Stuck us
after os (Large us) = Large us

-- the verdict that an outcome means, where nothing may follow
abbrev pub verdict_of : {O T : Type 0} → Outcome O T → Verdict O T
verdict_of (Made os []) = Read os
verdict_of (Made os (t ∷ us)) = Refused (t ∷ us)
verdict_of (Stuck us) = Refused us
verdict_of (Large us) = TooLarge us
