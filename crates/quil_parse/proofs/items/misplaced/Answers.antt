use Rattle.std.proofs.Common.{◌≡◌, true, false, List, sym, ◌∙◌, ap, subst}
use Rattle.std.proofs.lemmas.List.{nil_from_length}
use Rattle.quil_grammar.specs.declared.sort.Sort.TheVariants as sort
use Rattle.quil_grammar.specs.declared.stop.Stop.TheVariants as stop
use Rattle.quil_grammar.specs.Sort.{is_sort}
use Rattle.quil_grammar.specs.Token.{Token}
use Rattle.quil_grammar.specs.Frames.{StopsFor}
use Rattle.quil_grammar.specs.Statements.{nowhere}
use Rattle.quil_parse.proofs.Lines.{nowhere_none, nowhere_left_out, nowhere_other}
use Rattle.quil_parse.proofs.items.misplaced.Goals as goal

pub returns-then-is : goal.returns-then-is
returns-then-is c =
    let e : is_sort c.in-Some.token.now.sort sort.LeftOut ≡ true = ap (λ s. is_sort s sort.LeftOut) (sym c.sort.ensures) ∙ sym c.is.ensures ∙ c.if-is.true in
    subst (λ (ts : List Token). StopsFor stop.TooLarge nowhere ts ts) (sym c.in-Some.ensures.cases.0) (nowhere_left_out c.in-Some.token.now _ e)

pub returns-else-is : goal.returns-else-is
returns-else-is c =
    let e : is_sort c.in-Some.token.now.sort sort.LeftOut ≡ false = ap (λ s. is_sort s sort.LeftOut) (sym c.sort.ensures) ∙ sym c.is.ensures ∙ c.if-is.false in
    subst (λ (ts : List Token). StopsFor stop.Unexpected nowhere ts ts) (sym c.in-Some.ensures.cases.0) (nowhere_other c.in-Some.token.now _ e)

pub returns-in-None : goal.returns-in-None
returns-in-None c = subst (λ (ts : List Token). StopsFor stop.Unexpected nowhere ts ts) (sym (nil_from_length c.args.tokens.now c.in-None.ensures.cases)) nowhere_none
