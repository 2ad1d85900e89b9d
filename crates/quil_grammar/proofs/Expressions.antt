-- The beginning and the end of an expression.
use Rattle.std.proofs.Common.{◌≡◌, Bool, List, [], ◌∷◌, ◌++◌, refl, sym, ◌∙◌, ap, subst, length, ◌≤◌}
use Rattle.std.specs.Prelude.{Result, Err}
use Rattle.std.specs.Result.{IsErrAnd}
use Rattle.std.proofs.lemmas.Result.{err_from_is_err_and}
use Rattle.quil_shape.specs.Shape.Shape.{Rule}
use Rattle.quil_shape.specs.Reads.{GoesOn}
use Rattle.quil_shape.proofs.Stops.{leaves_within}
use Rattle.quil_shape.proofs.Reading.{goes_then, goes_rule, goes_seq, goes_to_end}
use Rattle.quil_shape.proofs.Expected.{not_empty}
use Rattle.quil_tree.specs.declared.place.Place.{Place}
use Rattle.quil_tree.specs.declared.expr.Step.{Step}
use Rattle.quil_tree.specs.declared.statement.Formula.{Formula}
use Rattle.quil_tree.specs.Expression.{postfix}
use Rattle.quil_grammar.specs.declared.reader.Reader.{Reader}
use Rattle.quil_grammar.specs.declared.reader.Todo.{Todo}
use Rattle.quil_grammar.specs.declared.reader.Todo.TheVariants as todo
use Rattle.quil_grammar.specs.declared.stop.Stop.{Stop}
use Rattle.quil_grammar.specs.Token.{Token}
use Rattle.quil_grammar.specs.Grammar.{quil, Sum, Unary}
use Rattle.quil_grammar.specs.Tables.{tables}
use Rattle.quil_grammar.specs.Written.{Written, events, meaning, start}
use Rattle.quil_grammar.specs.Frames.{Frame, MoreTerms, MoreFactors, shapes, held, kept, todos, todo_of, Wants, Holds, IsRead, IsFormulaRead, StopsFor, GoesToStand}

begun : (refs : Bool) (ts : List Token) → GoesOn quil tables (Rule (Sum refs) ∷ []) ts [] (Rule (Unary refs) ∷ shapes refs (MoreFactors ∷ MoreTerms ∷ [])) ts []
unfolding quil
begun refs ts = goes_then goes_rule (goes_then goes_seq (goes_then goes_rule goes_seq))

-- an expression begins with an operand, and more factors and terms may follow it
pub begins : (refs : Bool) (ts us : List Token) (k : List Todo) (ss : List Step) → us ≡ ts → k ≡ todo.Terms ∷ todo.Factors ∷ [] → ss ≡ [] → Wants refs ts us k ss
begins refs ts us k ss e f g = rw (e, f, g) (record { frames = MoreFactors ∷ MoreTerms ∷ []; is_to_do = refl; is_kept = refl; goes_on = begun refs ts })

end_frames : (refs : Bool) (ts us : List Token) (ss : List Step) (p : Place) (fs : List Frame) (w : Written)
    → [] ≡ todos fs → ss ≡ kept fs ++ postfix (meaning w) → p ≡ start w → GoesOn quil tables (Rule (Sum refs) ∷ []) ts [] (shapes refs fs) us (held fs ++ events w) → IsFormulaRead refs ts us (record { place = p; expr = ss })
end_frames refs ts us ss p [] w e f h g = record { written = w; advances = goes_to_end g; is_meaning = rw (f, h) refl }
end_frames refs ts us ss p (a ∷ fs) w e f h g = absurd (not_empty (todos fs) (todo_of a) (sym e))

-- where nothing is left to be read, the operand is the expression
pub is_read : (refs same : Bool) (ts us : List Token) (k : List Todo) (ss : List Step) (p : Place) → Holds same ts us k ss p → k ≡ [] → same ≡ refs → IsFormulaRead refs ts us (record { place = p; expr = ss })
is_read refs same ts us k ss p h e f = subst (λ r. IsFormulaRead r ts us (record { place = p; expr = ss })) f (end_frames same ts us ss p h.frames h.operand (sym e ∙ h.is_to_do) h.is_kept h.is_begin h.goes_on)

-- its steps
pub steps_read : (refs : Bool) (ts us : List Token) (f : Formula) → IsFormulaRead refs ts us f → IsRead refs ts us f.expr
steps_read refs ts us f h = record { written = h.written; advances = h.advances; is_meaning = ap (λ g. g.expr) h.is_meaning }

-- no tokens come back
pub formula_within : (refs : Bool) (ts us : List Token) (f : Formula) → IsFormulaRead refs ts us f → length us ≤ length ts
formula_within refs ts us f h = leaves_within quil tables h.advances

-- an error of a step is one of the whole
pub stops_whole : (refs : Bool) (ts : List Token) (e : Stop) (r : Result Bool Stop) (s : Result (Unit {0}) Stop) (reader : Reader) → GoesToStand ts r reader → r ≡ Err e → IsErrAnd s (λ x. x ≡ e) → reader.references ≡ refs
    → (x : Stop) → s ≡ Err x → StopsFor x (Rule (Sum refs)) ts reader.rest.now
stops_whole refs ts e r s reader h same is_error f x is_x =
    let p = err_from_is_err_and s is_error in
    let stops : StopsFor e (Rule (Sum reader.references)) ts reader.rest.now = subst (λ y. GoesToStand ts y reader) same h in
    let alike : e ≡ x = cc in
    subst (λ r. StopsFor x (Rule (Sum r)) ts reader.rest.now) f (subst (λ y. StopsFor y (Rule (Sum reader.references)) ts reader.rest.now) alike stops)
