use Rattle.qvm.proofs.Replies.{refused}
use Rattle.qvm.proofs.answer.answer.Goals as goal

pub returns-in-Err-clause-reply : goal.returns-in-Err-clause-reply
returns-in-Err-clause-reply c = refused c.args.options.limit c.args.options.seed c.args.text.now c.in-Err.fault c.refusal.result c.in-Err.ensures.refused c.refusal.ensures.known c.refusal.ensures.reply
