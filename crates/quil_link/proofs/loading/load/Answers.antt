use Rattle.quil_link.proofs.Loads.{only_of_tree, only_of_fault}
use Rattle.quil_link.proofs.loading.load.Goals as goal

pub returns-in-Ok-clause-only : goal.returns-in-Ok-clause-only
returns-in-Ok-clause-only c = λ r h.
    only_of_tree c.args.text.now c.in-Ok.tree c.load_tree.result r c.in-Ok.ensures.only c.in-Ok.ensures.only_fault (rw c.as_slice.ensures at c.load_tree.ensures) h

pub returns-in-Err-clause-only : goal.returns-in-Err-clause-only
returns-in-Err-clause-only c = λ r h.
    only_of_fault c.args.text.now c.in-Err.fault c.of_reading.result r c.in-Err.ensures.only c.in-Err.ensures.only_fault c.of_reading.ensures.value h
