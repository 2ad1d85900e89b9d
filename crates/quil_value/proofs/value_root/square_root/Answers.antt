use Rattle.std.proofs.Common.{◌≡◌, ◌*◌, ◌≤◌, ◌<◌, ◌^◌, nat_abs, arith, rules, FitsSigned}
use Rattle.std.specs.Int.{w128}
use Rattle.std.proofs.lemmas.Int.{to_z-of_z}
use Rattle.quil_value.proofs.RationalValues.{near_ratio}
use Rattle.quil_value.proofs.SquareRoots.{root_small, lowest_small}
use Rattle.quil_value.proofs.value_root.square_root.Goals as goal

pub real_number-requires : goal.real_number-requires
real_number-requires c =
    let near = near_ratio c.in-Some.x c.in-Some.ensures.form in
    let small = root_small c.in-Some.x.p c.in-Some.x.q c.in-Some-fraction_root.r c.in-Some.ensures.form.form.some c.in-Some-fraction_root.ensures in
    let fits : FitsSigned w128 c.in-Some-fraction_root.r.p = search rules in
    rw (to_z-of_z w128 c.in-Some-fraction_root.r.p fits) (omega (arith, near.numerator, small.numerator))

pub settled-requires-clause-some : goal.settled-requires-clause-some
settled-requires-clause-some c = (root_small c.in-Some.x.p c.in-Some.x.q c.in-Some-fraction_root.r c.in-Some.ensures.form.form.some c.in-Some-fraction_root.ensures).some

pub settled-requires-clause-bound : goal.settled-requires-clause-bound
settled-requires-clause-bound c =
    let near = near_ratio c.in-Some.x c.in-Some.ensures.form in
    let small = root_small c.in-Some.x.p c.in-Some.x.q c.in-Some-fraction_root.r c.in-Some.ensures.form.form.some c.in-Some-fraction_root.ensures in
    omega (arith, near.denominator, small.denominator)

pub real_number-requires-in-Some-fraction_root-2 : goal.real_number-requires-in-Some-fraction_root-2
real_number-requires-in-Some-fraction_root-2 c =
    let near = near_ratio c.in-Some.x c.in-Some.ensures.form in
    let whole : FitsSigned w128 c.in-Some.x.p = search rules in
    let half = lowest_small c.in-Some.x.p (2 * c.in-Some.x.q) c.lowest-half.result (rw (to_z-of_z w128 c.in-Some.x.p whole) at c.lowest-half.ensures) (omega (arith, c.in-Some.ensures.form.form.some)) in
    let small = root_small c.lowest-half.result.p c.lowest-half.result.q c.in-Some-fraction_root-2.r half.some c.in-Some-fraction_root-2.ensures in
    let fits : FitsSigned w128 c.in-Some-fraction_root-2.r.p = search rules in
    rw (to_z-of_z w128 c.in-Some-fraction_root-2.r.p fits) (omega (arith, near.numerator, half.numerator, small.numerator))

pub settled-requires-in-Some-fraction_root-2-clause-some : goal.settled-requires-in-Some-fraction_root-2-clause-some
settled-requires-in-Some-fraction_root-2-clause-some c =
    let whole : FitsSigned w128 c.in-Some.x.p = search rules in
    let half = lowest_small c.in-Some.x.p (2 * c.in-Some.x.q) c.lowest-half.result (rw (to_z-of_z w128 c.in-Some.x.p whole) at c.lowest-half.ensures) (omega (arith, c.in-Some.ensures.form.form.some)) in
    (root_small c.lowest-half.result.p c.lowest-half.result.q c.in-Some-fraction_root-2.r half.some c.in-Some-fraction_root-2.ensures).some

pub settled-requires-in-Some-fraction_root-2-clause-bound : goal.settled-requires-in-Some-fraction_root-2-clause-bound
settled-requires-in-Some-fraction_root-2-clause-bound c =
    let near = near_ratio c.in-Some.x c.in-Some.ensures.form in
    let whole : FitsSigned w128 c.in-Some.x.p = search rules in
    let half = lowest_small c.in-Some.x.p (2 * c.in-Some.x.q) c.lowest-half.result (rw (to_z-of_z w128 c.in-Some.x.p whole) at c.lowest-half.ensures) (omega (arith, c.in-Some.ensures.form.form.some)) in
    let small = root_small c.lowest-half.result.p c.lowest-half.result.q c.in-Some-fraction_root-2.r half.some c.in-Some-fraction_root-2.ensures in
    omega (arith, near.denominator, half.denominator, small.denominator)
