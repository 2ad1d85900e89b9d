use Rattle.std.proofs.Common.{sym, inl, ap, Err, rules, arith}
use Rattle.quil_parse.proofs.Programs.{found, only_tree, refused, only_fault, no_tree, long_fault}
use Rattle.quil_parse.proofs.program.parse.Goals as goal

pub returns-then-text-gt-MOST_BYTES-clause-only : goal.returns-then-text-gt-MOST_BYTES-clause-only
returns-then-text-gt-MOST_BYTES-clause-only c = λ tree x. absurd (no_tree c.args.text.now tree (search rules) x)

pub returns-then-text-gt-MOST_BYTES-clause-refused : goal.returns-then-text-gt-MOST_BYTES-clause-refused
returns-then-text-gt-MOST_BYTES-clause-refused c = (search rules)

pub returns-then-text-gt-MOST_BYTES-clause-only_fault : goal.returns-then-text-gt-MOST_BYTES-clause-only_fault
returns-then-text-gt-MOST_BYTES-clause-only_fault c = λ f some x. inl (ap (λ y. Err y) (sym (long_fault c.args.text.now f (search rules) some x)))

pub returns-then-text-gt-MOST_BYTES-clause-too_long : goal.returns-then-text-gt-MOST_BYTES-clause-too_long
returns-then-text-gt-MOST_BYTES-clause-too_long c = (search rules)

pub read-requires : goal.read-requires
read-requires c = (search rules)

pub returns-clause-found : goal.returns-clause-found
returns-clause-found c = found c.args.text.now c.read.result c.read.ensures

pub returns-clause-only : goal.returns-clause-only
returns-clause-only c = λ tree x. only_tree c.args.text.now c.read.result tree c.read.ensures x

pub returns-clause-refused : goal.returns-clause-refused
returns-clause-refused c = refused c.args.text.now c.read.result c.read.ensures

pub returns-clause-only_fault : goal.returns-clause-only_fault
returns-clause-only_fault c = λ f some x. only_fault c.args.text.now c.read.result f c.read.ensures (search rules) some x

pub returns-clause-too_long : goal.returns-clause-too_long
returns-clause-too_long c = λ long. absurd (omega arith)
