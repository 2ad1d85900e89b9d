use Rattle.qvm.proofs.Replies.{some_reply_by, one_reply_by}
use Rattle.qvm.proofs.laws.one_reply.Goals as goal

pub returns-clause-some : goal.returns-clause-some
returns-clause-some c = some_reply_by c.tree_or_fault.ensures

pub returns-clause-only : goal.returns-clause-only
returns-clause-only c = one_reply_by c.one_program.ensures
