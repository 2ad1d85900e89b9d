use Rattle.std.proofs.Common.{sym, inl, ap, Err, rules}
use Rattle.quil_grammar.proofs.Verdicts.{only_found, only_fault, long_fault}
use Rattle.quil_grammar.proofs.parse.parse_expr.Goals as goal

pub returns-then-text-gt-MOST_BYTES-clause-only_fault : goal.returns-then-text-gt-MOST_BYTES-clause-only_fault
returns-then-text-gt-MOST_BYTES-clause-only_fault c = λ f some x. inl (ap (λ y. Err y) (sym (long_fault c.args.text.now f (search rules) some x)))

pub returns-clause-only : goal.returns-clause-only
returns-clause-only c = λ steps x. only_found c.args.text.now c.read.result steps c.read.ensures x

pub returns-clause-only_fault : goal.returns-clause-only_fault
returns-clause-only_fault c = λ f some x. only_fault c.args.text.now c.read.result f c.read.ensures (search rules) some x
