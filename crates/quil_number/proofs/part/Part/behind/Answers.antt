use Rattle.std.proofs.Common.{[], ◌∷◌, refl, arith}
use Rattle.quil_number.proofs.Tenths.{longer}
use Rattle.quil_number.proofs.part.Part.behind.Goals as goal

pub invariant_of-result : goal.invariant_of-result
invariant_of-result c =
    let x = longer c.args.digit _ _ _ _ c.requires c.from.ensures c.args.self.below_one c.gcd-divisor.ensures.greatest in
    record { lowest = x.lowest; below_one = x.below; narrow = omega arith }

pub returns-then-q-divisor-le-BOUND : goal.returns-then-q-divisor-le-BOUND
returns-then-q-divisor-le-BOUND c =
    (longer c.args.digit _ _ _ _ c.requires c.from.ensures c.args.self.below_one c.gcd-divisor.ensures.greatest).fraction

pub returns-else-q-divisor-le-BOUND : goal.returns-else-q-divisor-le-BOUND
returns-else-q-divisor-le-BOUND c ds f =
    let x = longer c.args.digit _ _ _ _ c.requires c.from.ensures c.args.self.below_one c.gcd-divisor.ensures.greatest in
    record { front = []; last = c.args.digit ∷ ds; split = refl; p = _; q = _; equal = x.fraction ds f; lowest = x.lowest; wide = omega arith }
