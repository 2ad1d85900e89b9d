-- What an expression comes to is the value of the one tree that its steps are those of.
use Rattle.std.proofs.Common.{◌≡◌, List, [], ◌∷◌, map, Result, Ok, Err, ◌∙◌, sym, ap, subst}
use Rattle.quil_tree.specs.Expression.{Expression, IsPostfix, postfix, trees}
use Rattle.quil_tree.specs.declared.expr.Step.{Step}
use Rattle.quil_tree.specs.declared.statement.Formula.{Formula}
use Rattle.quil_tree.proofs.Postfix.{trees_of_postfix}
use Rattle.quil_value.specs.declared.lack.Lack.TheVariants.{NotExact}
use Rattle.quil_value.specs.declared.stop.Stop.{Stop}
use Rattle.quil_value.specs.declared.stop.Stop.TheVariants.{Whole}
use Rattle.quil_value.specs.declared.work_fault.WorkFault.{WorkFault}
use Rattle.quil_value.specs.declared.work_fault.WorkFault.TheVariants as fault
use Rattle.quil_value.specs.declared.worked.Worked.TheVariants.{Plain}
use Rattle.quil_value.specs.Exact.{Exact}
use Rattle.quil_value.specs.Worked.{Answer, value, IsFaultOf}
use Rattle.quil_gate.specs.Definitions.{formula_value}

one_tree_left : (t : Expression) (ss : List Step) → ss ≡ postfix t → trees ss [] ≡ t ∷ []
one_tree_left t ss e = ap (λ xs. trees xs []) e ∙ trees_of_postfix t

pub value_of_steps : (values : List Exact) (args : List Answer) (f : Formula) → args ≡ map (λ x. Ok (Plain x)) values → IsPostfix f.expr → (r : Result Exact Stop) →
    ((t : Expression) → f.expr ≡ postfix t → value args t ≡ r) → r ≡ formula_value values f
value_of_steps values args f same p r h =
    subst (λ (ts : List Expression). r ≡ (elim ts [ [] ↦ Err (Whole NotExact) | t ∷ us ↦ value (map (λ x. Ok (Plain x)) values) t ]))
    (sym (one_tree_left p.tree f.expr p.steps_of_tree))
    (sym (h p.tree p.steps_of_tree) ∙ ap (λ (xs : List Answer). value xs p.tree) same)

pub fault_of_steps : (values : List Exact) (args : List Answer) (f : Formula) → args ≡ map (λ x. Ok (Plain x)) values → IsPostfix f.expr → (w : WorkFault) (s : Stop) → w ≡ fault.Stop s →
    ((t : Expression) → f.expr ≡ postfix t → IsFaultOf w (value args t)) → Err s ≡ formula_value values f
fault_of_steps values args f same p w s e h =
    value_of_steps values args f same p (Err s) (subst (λ (x : WorkFault). (t : Expression) → f.expr ≡ postfix t → IsFaultOf x (value args t)) e h)
