-- What reading makes of a whole expression is that of a written one.
use Rattle.std.proofs.Common.{◌≡◌, Bool, List, [], ◌∷◌, ◌++◌, refl, sym, ◌∙◌, ap, append_assoc, append-nil}
use Rattle.quil_shape.specs.Shape.Shape.{Rule}
use Rattle.quil_shape.specs.Whole.{Whole}
use Rattle.quil_tree.specs.declared.expr.Atom.TheVariants as atom
use Rattle.quil_tree.specs.declared.expr.Operator.{Operator}
use Rattle.quil_grammar.specs.Token.{Token}
use Rattle.quil_grammar.specs.Grammar.{quil, Sum, Product, Unary, Power, Primary, Event, more_terms, more_factors, whole_of, operator_of, sign_of, function_of}
use Rattle.quil_grammar.specs.Grammar.Event.{Between, Joined, Opens, Closes}
use Rattle.quil_grammar.specs.Grammar.Around.{Signed, Parenthesized, Argument}
use Rattle.quil_grammar.specs.Written.{Written, events}
use Rattle.quil_grammar.specs.Written.Written.{Alone, Joins, Within}

-- these events are those of a written expression
pub record IsWriting (os : List Event) : Type 0 where
  pub written : Written
  pub same : os ≡ events written

-- these events behind an operand
record GoesOnAs (a : Written) (os : List Event) : Type 0 where
  written : Written
  same : events a ++ os ≡ events written

behind : (a b : Written) (o : Operator) (ps os : List Event) → ps ≡ events b → events a ++ (((Between o ∷ []) ++ (ps ++ Joined ∷ [])) ++ os) ≡ events (Joins o a b) ++ os
behind a b o ps os e = rw e (sym (append_assoc (events a) (Between o ∷ (events b ++ Joined ∷ [])) os))

mutual
  unfolding quil

  pub sum_is : {refs : Bool} {ts : List Token} {os : List Event} → Whole quil (Rule (Sum refs)) ts os → IsWriting os
  sum_is (Whole.rule (Whole.seq {ps = ps} p m)) =
      let a = product_is p in
      let z = terms_go a.written m in
      record { written = z.written; same = ap (λ xs. xs ++ ps) a.same ∙ z.same }

  terms_go : {refs : Bool} {ts : List Token} {os : List Event} (a : Written) → Whole quil (more_terms refs) ts os → GoesOnAs a os
  terms_go a Whole.none = record { written = a; same = append-nil (events a) }
  terms_go a (Whole.more {ps = ps} (Whole.seq (Whole.one {t = t} h) (Whole.seq q Whole.emit)) m) =
      let b = product_is q in
      let z = terms_go (Joins (operator_of t.sort) a b.written) m in
      record { written = z.written; same = behind a b.written (operator_of t.sort) _ ps b.same ∙ z.same }

  pub product_is : {refs : Bool} {ts : List Token} {os : List Event} → Whole quil (Rule (Product refs)) ts os → IsWriting os
  product_is (Whole.rule (Whole.seq {ps = ps} p m)) =
      let a = unary_is p in
      let z = factors_go a.written m in
      record { written = z.written; same = ap (λ xs. xs ++ ps) a.same ∙ z.same }

  factors_go : {refs : Bool} {ts : List Token} {os : List Event} (a : Written) → Whole quil (more_factors refs) ts os → GoesOnAs a os
  factors_go a Whole.none = record { written = a; same = append-nil (events a) }
  factors_go a (Whole.more {ps = ps} (Whole.seq (Whole.one {t = t} h) (Whole.seq q Whole.emit)) m) =
      let b = unary_is q in
      let z = factors_go (Joins (operator_of t.sort) a b.written) m in
      record { written = z.written; same = behind a b.written (operator_of t.sort) _ ps b.same ∙ z.same }

  pub unary_is : {refs : Bool} {ts : List Token} {os : List Event} → Whole quil (Rule (Unary refs)) ts os → IsWriting os
  unary_is (Whole.rule (Whole.left (Whole.seq (Whole.one {t = t} h) (Whole.seq p Whole.emit)))) =
      let a = unary_is p in
      record { written = Within (Signed t.place (sign_of t.sort)) a.written; same = ap (λ xs. Opens (Signed t.place (sign_of t.sort)) ∷ (xs ++ Closes ∷ [])) a.same }
  unary_is (Whole.rule (Whole.right p)) = power_is p

  power_is : {refs : Bool} {ts : List Token} {os : List Event} → Whole quil (Rule (Power refs)) ts os → IsWriting os
  power_is (Whole.rule (Whole.seq p (Whole.left (Whole.seq (Whole.one {t = t} h) (Whole.seq {os = qs} q Whole.emit))))) =
      let a = primary_is p in
      let b = unary_is q in
      record { written = Joins (operator_of t.sort) a.written b.written; same = ap (λ xs. xs ++ (Between (operator_of t.sort) ∷ (qs ++ Joined ∷ []))) a.same ∙ ap (λ xs. events a.written ++ (Between (operator_of t.sort) ∷ (xs ++ Joined ∷ []))) b.same }
  power_is (Whole.rule (Whole.seq {os = os} p (Whole.right Whole.empty))) =
      let a = primary_is p in
      record { written = a.written; same = append-nil os ∙ a.same }

  primary_is : {refs : Bool} {ts : List Token} {os : List Event} → Whole quil (Rule (Primary refs)) ts os → IsWriting os
  primary_is (Whole.rule (Whole.left (Whole.one {t = t} h))) = record { written = Alone t.place (atom.Number t.text); same = refl }
  primary_is (Whole.rule (Whole.right (Whole.left (Whole.one {t = t} h)))) = record { written = Alone t.place (atom.Imaginary t.text); same = refl }
  primary_is (Whole.rule (Whole.right (Whole.right (Whole.left (Whole.one {t = t} h))))) = record { written = Alone t.place atom.Pi; same = refl }
  primary_is (Whole.rule (Whole.right (Whole.right (Whole.right (Whole.left (Whole.one {t = t} h)))))) = record { written = Alone t.place atom.I; same = refl }
  primary_is (Whole.rule (Whole.right (Whole.right (Whole.right (Whole.right (Whole.left (Whole.one {t = t} h))))))) = record { written = Alone t.place (atom.Parameter t.number); same = refl }
  primary_is (Whole.rule (Whole.right (Whole.right (Whole.right (Whole.right (Whole.right (Whole.left (Whole.seq (Whole.one {t = t} h) (Whole.left (Whole.seq (Whole.one k) (Whole.seq (Whole.one {t = u} l) (Whole.one m))))))))))))
      = record { written = Alone t.place (atom.Cell (record { region = t.text; index = whole_of u.text })); same = refl }
  primary_is (Whole.rule (Whole.right (Whole.right (Whole.right (Whole.right (Whole.right (Whole.left (Whole.seq (Whole.one {t = t} h) (Whole.right Whole.emit)))))))))
      = record { written = Alone t.place (atom.Cell (record { region = t.text; index = whole_of (48 ∷ []) })); same = refl }
  primary_is (Whole.rule (Whole.right (Whole.right (Whole.right (Whole.right (Whole.right (Whole.right (Whole.left (Whole.seq (Whole.one {t = t} h) (Whole.seq (Whole.one k) (Whole.seq p (Whole.seq (Whole.one l) Whole.emit))))))))))))
      = let a = sum_is p in
      record { written = Within (Argument t.place (function_of t.sort)) a.written; same = ap (λ xs. Opens (Argument t.place (function_of t.sort)) ∷ (xs ++ Closes ∷ [])) a.same }
  primary_is (Whole.rule (Whole.right (Whole.right (Whole.right (Whole.right (Whole.right (Whole.right (Whole.right (Whole.seq (Whole.one {t = t} h) (Whole.seq p (Whole.seq (Whole.one l) Whole.emit)))))))))))
      = let a = sum_is p in
      record { written = Within (Parenthesized t.place) a.written; same = ap (λ xs. Opens (Parenthesized t.place) ∷ (xs ++ Closes ∷ [])) a.same }
