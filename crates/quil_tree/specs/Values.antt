-- How many values an action takes from the stack. Only the tests cite this page.
use Rattle.std.specs.Prelude.{ℕ}
use Rattle.quil_tree.specs.declared.expr.Action.{Action}
use Rattle.quil_tree.specs.declared.expr.Action.TheVariants as action

abbrev pub values_taken : Action → ℕ
values_taken (action.Push a) = 0
values_taken (action.Sign s) = 1
values_taken (action.Apply o) = 2
values_taken (action.Call f) = 1
