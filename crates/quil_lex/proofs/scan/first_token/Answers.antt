use Rattle.std.proofs.Common.{sym, ◌∙◌}
use Rattle.quil_lex.proofs.FirstToken.{first_none, first_some, first_len}
use Rattle.quil_lex.proofs.scan.first_token.Goals as goal

pub returns-in_err-kind : goal.returns-in_err-kind
returns-in_err-kind c = rw c.from_residual.ensures (first_none c.args.bytes.now (sym c.scan.ensures ∙ c.in_err-kind.was))

pub split_at-requires : goal.split_at-requires
split_at-requires c = first_len c.args.bytes.now c.in_ok-kind.kind c.in_ok-kind.len (sym c.scan.ensures ∙ c.in_ok-kind.was)

pub returns : goal.returns
returns c = first_some c.args.bytes.now c.in_ok-kind.kind c.in_ok-kind.len _ _ (sym c.scan.ensures ∙ c.in_ok-kind.was) c.split_at.ensures.front c.split_at.ensures.back
