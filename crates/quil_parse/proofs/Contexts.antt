-- A line of a body leaves the names of its definition as they are.
use Rattle.std.proofs.Common.{◌≡◌, true, List, [], ◌∷◌, ◌++◌, refl, subst, Option, Some, None}
use Rattle.quil_tree.specs.declared.statement.Line.{Line}
use Rattle.quil_tree.specs.declared.item.Item.{Item}
use Rattle.quil_tree.specs.declared.item.Item.TheVariants as item
use Rattle.quil_grammar.specs.Token.{Token}
use Rattle.quil_grammar.specs.Parts.{Part}
use Rattle.quil_statement.specs.Meaning.{line_of}
use Rattle.quil_parse.specs.Program.{body_context, with_row, with_statement, with_line, with_parts, added as added_to}
use Rattle.quil_parse.specs.Steps.{IsAdded}

-- a line of a body leaves the names of the definition as they are
item_context : (i j : Item) (is : List Item) (ps : List Part) → with_line i ps ≡ Some j → body_context (j ∷ is) ≡ body_context (i ∷ is)
item_context (item.Declare d) j is ps e = absurd (cc)
item_context (item.Plain l) j is ps e = absurd (cc)
item_context (item.DefGate d) j is ps e = let same : item.DefGate (record d { form = with_row d.form ps }) ≡ j = cc in subst (λ i. body_context (i ∷ is) ≡ body_context (item.DefGate d ∷ is)) same refl
item_context (item.DefCircuit d) j is ps e = by_line (line_of ps) e where
  by_line : (o : Option Line) → with_statement d o ≡ Some j → body_context (j ∷ is) ≡ body_context (item.DefCircuit d ∷ is)
  by_line None e = absurd (cc)
  by_line (Some l) e = let same : item.DefCircuit (record d { body = d.body ++ l ∷ [] }) ≡ j = cc in subst (λ i. body_context (i ∷ is) ≡ body_context (item.DefCircuit d ∷ is)) same refl

pub context_kept : (is js : List Item) (ts : List Token) → IsAdded true is ts js → body_context js ≡ body_context is
context_kept [] js ts h = absurd (no_line h.is_sum) where
  no_line : with_parts true [] h.parts ≡ Some js → ⊥
  no_line e = absurd (cc)
context_kept (i ∷ is) js ts h = by_item (with_line i h.parts) refl h.is_sum where
  by_item : (o : Option Item) → with_line i h.parts ≡ o → added_to o is ≡ Some js → body_context js ≡ body_context (i ∷ is)
  by_item None e f = absurd (cc)
  by_item (Some j) e f = let same : j ∷ is ≡ js = cc in subst (λ ks. body_context ks ≡ body_context (i ∷ is)) same (item_context i j is h.parts e)
