-- How the printer goes over the steps of an expression, from the last one to the first. Only private contracts and proofs
-- cite this page, so nobody has to believe it: what is printed is said in Printed.antt.
use Rattle.std.specs.Prelude.{ℕ, Bool, true, false, List, [], ◌∷◌, ◌++◌, Option, Some, None, codes}
use Rattle.quil_tree.specs.declared.expr.Action.{Action}
use Rattle.quil_tree.specs.declared.expr.Action.TheVariants as action
use Rattle.quil_tree.specs.declared.printer.tasks.Task.{Task}
use Rattle.quil_tree.specs.declared.printer.tasks.Task.TheVariants as task
use Rattle.quil_tree.specs.Printed.{sign_text, operator_text, function_text, atom_text}

-- tasks, with this one on top; no task has none on top
abbrev pub with_top : Option Task → List Task → List Task
with_top None ts = []
with_top (Some t) ts = t ∷ ts

abbrev pub with_expression : Option Bool → List Task → List Task
with_expression None ts = []
with_expression (Some is_operand) ts = task.Expression is_operand ∷ ts

-- the text of a task that is no expression
abbrev pub task_text : Task → List ℕ
task_text (task.Expression is_operand) = []
task_text task.Open = codes "("
task_text (task.Sign s) = codes "(" ++ sign_text s
task_text (task.Operator o) = operator_text o
task_text (task.Function f) = function_text f ++ codes "("

abbrev pub is_expression : Task → Bool
is_expression (task.Expression is_operand) = true
is_expression t = false

-- the texts on top of the first expression, and the tasks from that expression on
abbrev pub texts_on_top : List Task → List ℕ
texts_on_top [] = []
texts_on_top (task.Expression is_operand ∷ ts) = []
texts_on_top (t ∷ ts) = texts_on_top ts ++ task_text t

abbrev pub from_expression : List Task → List Task
from_expression [] = []
from_expression (task.Expression is_operand ∷ ts) = task.Expression is_operand ∷ ts
from_expression (t ∷ ts) = from_expression ts

abbrev pub closing : Bool → List ℕ
closing true = codes ")"
closing false = []

abbrev pub opening : Bool → List Task
opening true = task.Open ∷ []
opening false = []

-- the last part of the text of an expression with this last step, and the tasks before that part
abbrev pub last_text : List (List ℕ) → Bool → Action → List ℕ
last_text names is_operand (action.Push a) = atom_text names a
last_text names is_operand (action.Sign s) = codes ")"
last_text names is_operand (action.Apply o) = closing is_operand
last_text names is_operand (action.Call f) = codes ")"

abbrev pub tasks_before : Bool → Action → List Task
tasks_before is_operand (action.Push a) = []
tasks_before is_operand (action.Sign s) = task.Expression true ∷ task.Sign s ∷ []
tasks_before is_operand (action.Apply o) = task.Expression true ∷ task.Operator o ∷ task.Expression true ∷ opening is_operand
tasks_before is_operand (action.Call f) = task.Expression false ∷ task.Function f ∷ []
