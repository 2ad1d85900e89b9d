use Rattle.std.proofs.Common.{rules, refl, inr, arith}
use Rattle.qvm.proofs.local.run.Goals as goal

-- a text was read and no memory was left for its reply: the text is the front that was taken
pub returns-clause-ends : goal.returns-clause-ends
returns-clause-ends g c = inr (inr (
  record {
    front = (c.in-Ok.text.items, omega (arith, c.in-Ok.text.ok.0, c.in-Ok.ensures.within), c.in-Ok.ensures.bytes);
    steady = c.in-Ok.ensures.steady;
  },
  search rules,
  refl,
))
