use Rattle.std.proofs.Common.{◌≡◌, ℕ, List, ◌++◌, codes, ap, ◌∙◌, append_assoc}
use Rattle.std.specs.List.{flat_map}
use Rattle.std.proofs.lemmas.Result.{on_ok_weaker}
use Rattle.quil_tree.specs.Names.{distinct, texts_of}
use Rattle.quil_tree.specs.Printed.{body_line, listed, statement_text}
use Rattle.quil_tree.specs.declared.statement.Line.{Line}
use Rattle.quil_tree.specs.declared.statement.Name.{Name}
use Rattle.quil_tree.proofs.printer.definition.push_circuit_definition.Goals as goal

joined : (t a b x d t1 t2 t3 t4 : List ℕ) → t1 ≡ t ++ a → t2 ≡ t1 ++ b → t3 ≡ t2 ++ x → t4 ≡ t3 ++ d → t4 ≡ t ++ (a ++ b ++ x ++ d)
joined t a b x d t1 t2 t3 t4 e1 e2 e3 e4 = e4 ∙ ap (λ y. y ++ d) (e3 ∙ ap (λ y. y ++ x) (e2 ∙ ap (λ y. y ++ b) e1)) ∙ simp append_assoc

abbrev body : List (List ℕ) → List Line → List ℕ
body names lines = flat_map (λ l. body_line (statement_text names l.statement)) lines

pub returns : goal.returns
returns c =
    let d = c.args.definition.now in
    let names : c.in_ok-names.names ≡ distinct (texts_of d.parameters) = c.in_ok-names.ensures ∙ ap (λ (ns : List Name). distinct (texts_of ns)) c.as_slice.ensures in
    let head : c.push_head.new.text.items ≡ c.args.text.now.items ++ (codes "DEFCIRCUIT " ++ d.name.text ++ listed (texts_of d.parameters)) =
    c.in_ok-push_head.ensures ∙ ap (λ (ns : List Name). c.args.text.now.items ++ (codes "DEFCIRCUIT " ++ d.name.text ++ listed (texts_of ns))) c.as_slice-2.ensures in
    let qubits : c.push_formal_qubits.new.text.items ≡ c.push_head.new.text.items ++ flat_map (λ q. codes " " ++ q.text) d.qubits =
    c.in_ok-push_formal_qubits.ensures ∙ ap (λ (ns : List Name). c.push_head.new.text.items ++ flat_map (λ q. codes " " ++ q.text) ns) c.as_slice-3.ensures in
    let colon : c.extend_from_slice.new.self.items ≡ c.push_formal_qubits.new.text.items ++ codes ":\n" = cc (c.in_ok-extend_from_slice.ensures.items) in
    let lines : body c.in_ok-names.names c.as_slice-4.result.now ≡ body (distinct (texts_of d.parameters)) d.body = ap (λ (ns : List (List ℕ)). body ns c.as_slice-4.result.now) names ∙ ap (λ (ls : List Line). body (distinct (texts_of d.parameters)) ls) c.as_slice-4.ensures in
    on_ok_weaker c.push_body.result (λ e. joined _ _ _ _ _ _ _ _ _ head qubits colon (e ∙ ap (λ x. c.extend_from_slice.new.self.items ++ x) lines)) c.push_body.ensures
