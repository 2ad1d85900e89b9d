use Rattle.std.proofs.Common.{◌∙◌, ap, List, ℕ, ◌++◌, sym, append-nil}
use Rattle.qvm.proofs.Texts.{text_all, text_none, text_step, append_part}
use Rattle.qvm.proofs.text.push_values.Goals as goal

pub loop-index-init : goal.loop-index-init
loop-index-init c = ap (λ (t : List ℕ). c.args.text.now.items ++ t) (text_all c.args.memory.now c.args.region.now)

pub loop-index-preserved : goal.loop-index-preserved
loop-index-preserved c = append_part _ _ _ _ _ _ (text_step _ _ _ c.loop-index-test.true) c.in_ok-push_cell.ensures c.loop-index.invariant

pub returns : goal.returns
returns c =
    sym (append-nil c.loop-index.text.items)
    ∙ sym (ap (λ (t : List ℕ). c.loop-index.text.items ++ t) (text_none c.args.memory.now c.args.region.now c.loop-index.index c.loop-index-test.false)) ∙ c.loop-index.invariant
