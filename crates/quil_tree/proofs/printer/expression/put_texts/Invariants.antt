use Rattle.std.proofs.Common.{◌≡◌, ◌++◌, length}
use Rattle.quil_tree.specs.Tasks.{from_expression, texts_on_top}
use Rattle.quil_tree.proofs.printer.expression.put_texts.Given as goal

abbrev pub invariant-loop-task : goal.invariant-loop-task
invariant-loop-task l =
    record {
      written : texts_on_top l.tasks ++ l.written ≡ texts_on_top l.initial.tasks ++ l.initial.written;
      tasks : from_expression l.tasks ≡ from_expression l.initial.tasks;
    }

abbrev pub decreases-loop-task : goal.decreases-loop-task
decreases-loop-task l = length l.tasks
