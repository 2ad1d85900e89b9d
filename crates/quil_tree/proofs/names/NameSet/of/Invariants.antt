use Rattle.std.proofs.Common.{◌≡◌, fold, length}
use Rattle.quil_tree.specs.Names.{distinct, texts_of, with_name}
use Rattle.quil_tree.proofs.names.NameSet.of.Given as goal

abbrev pub invariant-loop-names : goal.invariant-loop-names
invariant-loop-names l = fold with_name l.set (texts_of l.names) ≡ distinct (texts_of l.initial.names)

abbrev pub decreases-loop-names : goal.decreases-loop-names
decreases-loop-names l = length l.names
