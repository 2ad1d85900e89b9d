use Rattle.std.proofs.Common.{◌≡◌, ◌^◌, ◌*◌, ◌≤◌, rules, arith}
use Rattle.std.specs.Prelude.{pos, ◌*ℤ◌, nat_abs}
use Rattle.std.proofs.lemmas.Int.{ints}
use Rattle.qvm_measure.proofs.Signs.{subtracted, multiple_size}
use Rattle.qvm_measure.proofs.sign.scaled_difference.Goals as goal

second : (c : goal.After-multiple-2) → c.multiple-2.result ≡ pos c.args.word *ℤ c.args.all
second c = search rules

first_size : (c : goal.After-multiple-2) → nat_abs c.multiple.result ≤ 2 ^ 32 * 2 ^ 94
first_size c = multiple_size (2 ^ 32) c.args.one c.multiple.result c.requires.part (search rules)

second_size : (c : goal.After-multiple-2) → nat_abs c.multiple-2.result ≤ c.args.word * 2 ^ 94
second_size c = multiple_size c.args.word c.args.all c.multiple-2.result c.requires.whole (second c)

pub overflow_sub-result : goal.overflow_sub-result
overflow_sub-result c = omega (arith, ints, first_size c, second_size c)

pub returns-clause-value : goal.returns-clause-value
returns-clause-value c = subtracted c.multiple.result c.multiple-2.result (pos (2 ^ 32) *ℤ c.args.one) (pos c.args.word *ℤ c.args.all)
    (omega (arith, first_size c)) (omega (arith, second_size c)) (search rules) (second c)
