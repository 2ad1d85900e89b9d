-- The tasks of a printer, the trees whose steps are unread, and what is written make the whole text of an expression.
use Rattle.std.proofs.Common.{◌≡◌, ℕ, Bool, true, false, List, [], ◌∷◌, ◌++◌, Option, Some, None, reverse, refl, sym, ◌∙◌, ap, subst, append_assoc, append-nil, length, arith}
use Rattle.std.proofs.lemmas.List.{reverse-append, reverse-reverse}
use Rattle.quil_tree.specs.Expression.{Expression, IsPostfix, postfix, trees}
use Rattle.quil_tree.specs.Expression.Expression.{Leaf, Signed, Applied, Called}
use Rattle.quil_tree.specs.declared.expr.Action.TheVariants as action
use Rattle.quil_tree.specs.declared.expr.Step.{Step}
use Rattle.quil_tree.specs.declared.printer.tasks.Task.{Task}
use Rattle.quil_tree.specs.declared.printer.tasks.Task.TheVariants as task
use Rattle.quil_tree.specs.Printed.{expression_text, first_text, steps_text}
use Rattle.quil_tree.specs.Tasks.{with_expression, task_text, texts_on_top, from_expression, last_text, tasks_before}
use Rattle.quil_tree.proofs.Postfix.{trees_of_postfix}

-- the steps of trees, of which the last one stands first
abbrev pub steps_of : List Expression → List Step
steps_of [] = []
steps_of (e ∷ es) = steps_of es ++ postfix e

-- a tree for each task that is an expression
abbrev pub Matches : List Task → List Expression → Type 0
Matches [] [] = Unit
Matches [] (e ∷ es) = ⊥
Matches (task.Expression m ∷ ts) [] = ⊥
Matches (task.Expression m ∷ ts) (e ∷ es) = Matches ts es
Matches (task.Open ∷ ts) es = Matches ts es
Matches (task.Sign s ∷ ts) es = Matches ts es
Matches (task.Operator o ∷ ts) es = Matches ts es
Matches (task.Function f ∷ ts) es = Matches ts es

-- the text of tasks whose expressions are these trees
abbrev pub text_of : List (List ℕ) → List Task → List Expression → List ℕ
text_of names [] es = []
text_of names (task.Expression m ∷ ts) [] = []
text_of names (task.Expression m ∷ ts) (e ∷ es) = text_of names ts es ++ expression_text names m e
text_of names (task.Open ∷ ts) es = text_of names ts es ++ task_text task.Open
text_of names (task.Sign s ∷ ts) es = text_of names ts es ++ task_text (task.Sign s)
text_of names (task.Operator o ∷ ts) es = text_of names ts es ++ task_text (task.Operator o)
text_of names (task.Function f ∷ ts) es = text_of names ts es ++ task_text (task.Function f)

-- what a printer keeps at each step
pub record IsPlanned (names : List (List ℕ)) (steps : List Step) (ts : List Task) (written whole : List ℕ) : Type 0 where
  pub unread : List Expression
  pub steps_left : steps ≡ steps_of unread
  pub matched : Matches ts unread
  pub text : text_of names ts unread ++ written ≡ whole

-- the last step of a tree, and the trees of the steps before it
abbrev last_step : Expression → Step
last_step (Leaf p a) = record { place = p; action = action.Push a }
last_step (Signed p s a) = record { place = p; action = action.Sign s }
last_step (Applied p o a b) = record { place = p; action = action.Apply o }
last_step (Called p f a) = record { place = p; action = action.Call f }

abbrev before_last : Expression → List Expression
before_last (Leaf p a) = []
before_last (Signed p s a) = a ∷ []
before_last (Applied p o a b) = b ∷ a ∷ []
before_last (Called p f a) = a ∷ []

steps_without_last : (e : Expression) (es : List Expression) → steps_of (before_last e ++ es) ++ last_step e ∷ [] ≡ steps_of es ++ postfix e
steps_without_last (Leaf p a) es = refl
steps_without_last (Signed p s a) es = simp append_assoc
steps_without_last (Applied p o a b) es = simp append_assoc
steps_without_last (Called p f a) es = simp append_assoc

text_without_last : (names : List (List ℕ)) (m : Bool) (e : Expression) (ts : List Task) (es : List Expression) → text_of names (tasks_before m (last_step e).action ++ ts) (before_last e ++ es) ++ last_text names m (last_step e).action ≡ text_of names ts es ++ expression_text names m e
text_without_last names m (Leaf p a) ts es = refl
text_without_last names m (Signed p s a) ts es = simp append_assoc
text_without_last names true (Applied p o a b) ts es = simp append_assoc
text_without_last names false (Applied p o a b) ts es = simp (append_assoc, append-nil)
text_without_last names m (Called p f a) ts es = simp append_assoc

matched_without_last : (m : Bool) (e : Expression) (ts : List Task) (es : List Expression) → Matches ts es → Matches (tasks_before m (last_step e).action ++ ts) (before_last e ++ es)
matched_without_last m (Leaf p a) ts es h = h
matched_without_last m (Signed p s a) ts es h = h
matched_without_last true (Applied p o a b) ts es h = h
matched_without_last false (Applied p o a b) ts es h = h
matched_without_last m (Called p f a) ts es h = h

record SameFrontAndLast {A : Type 0} (xs ys : List A) (x y : A) : Type 0 where
  front : xs ≡ ys
  last : x ≡ y

same_front_and_last : {A : Type 0} (xs ys : List A) (x y : A) → xs ++ x ∷ [] ≡ ys ++ y ∷ [] → SameFrontAndLast xs ys x y
same_front_and_last {A} xs ys x y e =
    let turned : x ∷ reverse xs ≡ y ∷ reverse ys = sym (reverse-append xs (x ∷ [])) ∙ ap reverse e ∙ reverse-append ys (y ∷ []) in
    let fronts : reverse xs ≡ reverse ys = cc in
    record { front = sym (reverse-reverse xs) ∙ ap reverse fronts ∙ reverse-reverse ys; last = cc }

-- ---- the laws of a printer's loop

pub planned_at_first : (names : List (List ℕ)) (steps : List Step) → IsPostfix steps → IsPlanned names steps (task.Expression false ∷ []) [] (steps_text names steps)
planned_at_first names steps h =
    record {
      unread = h.tree ∷ [];
      steps_left = h.steps_of_tree;
      matched = tt;
      text = append-nil (expression_text names false h.tree) ∙ sym (ap (first_text names) (ap (λ ss. trees ss []) h.steps_of_tree ∙ trees_of_postfix h.tree));
    }

text_of_texts : (names : List (List ℕ)) (ts : List Task) (es : List Expression) → text_of names ts es ≡ text_of names (from_expression ts) es ++ texts_on_top ts
text_of_texts names [] es = refl
text_of_texts names (task.Expression m ∷ ts) es = sym (append-nil (text_of names (task.Expression m ∷ ts) es))
text_of_texts names (task.Open ∷ ts) es = ap (λ x. x ++ task_text task.Open) (text_of_texts names ts es) ∙ append_assoc (text_of names (from_expression ts) es) (texts_on_top ts) (task_text task.Open)
text_of_texts names (task.Sign s ∷ ts) es = ap (λ x. x ++ task_text (task.Sign s)) (text_of_texts names ts es) ∙ append_assoc (text_of names (from_expression ts) es) (texts_on_top ts) (task_text (task.Sign s))
text_of_texts names (task.Operator o ∷ ts) es = ap (λ x. x ++ task_text (task.Operator o)) (text_of_texts names ts es) ∙ append_assoc (text_of names (from_expression ts) es) (texts_on_top ts) (task_text (task.Operator o))
text_of_texts names (task.Function f ∷ ts) es = ap (λ x. x ++ task_text (task.Function f)) (text_of_texts names ts es) ∙ append_assoc (text_of names (from_expression ts) es) (texts_on_top ts) (task_text (task.Function f))

matched_from_expression : (ts : List Task) (es : List Expression) → Matches ts es → Matches (from_expression ts) es
matched_from_expression [] es h = h
matched_from_expression (task.Expression m ∷ ts) es h = h
matched_from_expression (task.Open ∷ ts) es h = matched_from_expression ts es h
matched_from_expression (task.Sign s ∷ ts) es h = matched_from_expression ts es h
matched_from_expression (task.Operator o ∷ ts) es h = matched_from_expression ts es h
matched_from_expression (task.Function f ∷ ts) es h = matched_from_expression ts es h

-- the texts on top are written
planned_from_expression : (names : List (List ℕ)) (steps : List Step) (ts us : List Task) (written after whole : List ℕ) → IsPlanned names steps ts written whole → after ≡ texts_on_top ts ++ written → from_expression ts ≡ us → IsPlanned names steps us after whole
planned_from_expression names steps ts us written after whole h text same =
    record {
      unread = h.unread;
      steps_left = h.steps_left;
      matched = subst (λ vs. Matches vs h.unread) same (matched_from_expression ts h.unread h.matched);
      text =
          ap (λ x. text_of names us h.unread ++ x) text
          ∙ ap (λ vs. text_of names vs h.unread ++ (texts_on_top ts ++ written)) (sym same)
          ∙ sym (append_assoc (text_of names (from_expression ts) h.unread) (texts_on_top ts) written)
          ∙ ap (λ x. x ++ written) (sym (text_of_texts names ts h.unread)) ∙ h.text;
    }

-- the last step is read
planned_without_last : (names : List (List ℕ)) (steps : List Step) (s : Step) (m : Bool) (ts us : List Task) (written after whole : List ℕ) → IsPlanned names (steps ++ s ∷ []) (task.Expression m ∷ ts) written whole → us ≡ tasks_before m s.action ++ ts → after ≡ last_text names m s.action ++ written → IsPlanned names steps us after whole
planned_without_last names steps s m ts us written after whole h same text = by h.unread h.steps_left h.matched h.text
  where
    by : (es : List Expression) → steps ++ s ∷ [] ≡ steps_of es → Matches (task.Expression m ∷ ts) es → text_of names (task.Expression m ∷ ts) es ++ written ≡ whole → IsPlanned names steps us after whole
    by [] left matched whole_text = absurd matched
    by (e ∷ es) left matched whole_text =
        let parts = same_front_and_last steps (steps_of (before_last e ++ es)) s (last_step e) (left ∙ sym (steps_without_last e es)) in
        let tasks : us ≡ tasks_before m (last_step e).action ++ ts = same ∙ ap (λ (x : Step). tasks_before m x.action ++ ts) parts.last in
        let texts : after ≡ last_text names m (last_step e).action ++ written = text ∙ ap (λ (x : Step). last_text names m x.action ++ written) parts.last in
        record {
          unread = before_last e ++ es;
          steps_left = parts.front;
          matched = subst (λ vs. Matches vs (before_last e ++ es)) (sym tasks) (matched_without_last m e ts es matched);
          text =
              ap (λ vs. text_of names vs (before_last e ++ es) ++ after) tasks
              ∙ ap (λ x. text_of names (tasks_before m (last_step e).action ++ ts) (before_last e ++ es) ++ x) texts
              ∙ sym (append_assoc (text_of names (tasks_before m (last_step e).action ++ ts) (before_last e ++ es)) (last_text names m (last_step e).action) written)
              ∙ ap (λ x. x ++ written) (text_without_last names m e ts es) ∙ whole_text;
        }

no_steps : (e : Expression) (es : List Expression) → [] ≡ steps_of (e ∷ es) → ⊥
no_steps e es h =
    let turned : [] ≡ last_step e ∷ reverse (steps_of (before_last e ++ es)) = ap reverse (h ∙ sym (steps_without_last e es)) ∙ reverse-append (steps_of (before_last e ++ es)) (last_step e ∷ []) in
    cc

-- the texts on top are written, and then the last step is read
pub planned_next : (names : List (List ℕ)) (all steps : List Step) (s : Step) (m : Bool) (ts us vs : List Task) (written between after whole : List ℕ) → IsPlanned names all ts written whole → all ≡ steps ++ s ∷ [] → between ≡ texts_on_top ts ++ written → from_expression ts ≡ task.Expression m ∷ us → vs ≡ tasks_before m s.action ++ us → after ≡ last_text names m s.action ++ between → IsPlanned names steps vs after whole
planned_next names all steps s m ts us vs written between after whole h last texts top tasks text =
    planned_without_last names steps s m us vs between after whole
    (planned_from_expression names (steps ++ s ∷ []) ts (task.Expression m ∷ us) written between whole (subst (λ ss. IsPlanned names ss ts written whole) last h) texts top) tasks text

-- a step is left, so an expression is
planned_with_expression : (names : List (List ℕ)) (steps : List Step) (s : Step) (written whole : List ℕ) → IsPlanned names (steps ++ s ∷ []) [] written whole → ⊥
planned_with_expression names steps s written whole h = by h.unread h.steps_left h.matched
  where
    by : (es : List Expression) → steps ++ s ∷ [] ≡ steps_of es → Matches [] es → ⊥
    by [] left matched =
        let turned : s ∷ reverse steps ≡ [] = sym (reverse-append steps (s ∷ [])) ∙ ap reverse left in
        cc
    by (e ∷ es) left matched = matched

pub planned_some : (names : List (List ℕ)) (all steps : List Step) (s : Step) (ts : List Task) (written between whole : List ℕ) → IsPlanned names all ts written whole → all ≡ steps ++ s ∷ [] → between ≡ texts_on_top ts ++ written → from_expression ts ≡ [] → ⊥
planned_some names all steps s ts written between whole h last texts none =
    planned_with_expression names steps s between whole (planned_from_expression names (steps ++ s ∷ []) ts [] written between whole (subst (λ ss. IsPlanned names ss ts written whole) last h) texts none)

-- no step is left, so all is written
planned_at_last : (names : List (List ℕ)) (steps : List Step) (top : Option Bool) (ts : List Task) (written whole : List ℕ) → length steps ≡ 0 → IsPlanned names steps (with_expression top ts) written whole → written ≡ whole
planned_at_last names (s ∷ steps) top ts written whole none h = absurd (omega arith)
planned_at_last names [] top ts written whole none h = by h.unread h.steps_left top h.matched h.text
  where
    by : (es : List Expression) → [] ≡ steps_of es → (t : Option Bool) → Matches (with_expression t ts) es → text_of names (with_expression t ts) es ++ written ≡ whole → written ≡ whole
    by (e ∷ es) left t matched text = absurd (no_steps e es left)
    by [] left None matched text = text
    by [] left (Some m) matched text = absurd matched

pub planned_whole : (names : List (List ℕ)) (steps : List Step) (top : Option Bool) (ts us : List Task) (written after whole : List ℕ) → IsPlanned names steps ts written whole → length steps ≡ 0 → after ≡ texts_on_top ts ++ written → from_expression ts ≡ with_expression top us → after ≡ whole
planned_whole names steps top ts us written after whole h none texts tasks =
    planned_at_last names steps top us after whole none (planned_from_expression names steps ts (with_expression top us) written after whole h texts tasks)
