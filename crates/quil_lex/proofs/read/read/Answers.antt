use Rattle.std.proofs.Common.{map, is_ok, arith, ap, sym, ◌∙◌}
use Rattle.std.proofs.lemmas.List.{map_push, nil_from_length}
use Rattle.std.proofs.ResultArms.{chosen}
use Rattle.quil_lex.specs.Reading.{lexeme_of}
use Rattle.quil_lex.proofs.Readings.{ends, reads_nothing, reads_comment, reads_semicolon, reads_bad, past_blank_on, past_token_on, separates_nothing, first_size}
use Rattle.quil_lex.proofs.read.read.Goals as goal

pub loop-first-preserved-then-is_blank : goal.loop-first-preserved-then-is_blank
loop-first-preserved-then-is_blank c = record {
  room = omega (arith, c.in-Some.ensures.cases.1);
  goes_on = past_blank_on c.in-Some.first.now c.in-Some.behind.now (map lexeme_of c.loop-first.tokens.items) c.loop-first.invariant.goes_on c.in-Some.ensures.cases.0 (sym c.is_blank.ensures ∙ c.if-is_blank.true);
}

pub returns-then-first-eq35 : goal.returns-then-first-eq35
returns-then-first-eq35 c = ends (map lexeme_of c.loop-first.tokens.items) c.loop-first.invariant.goes_on (reads_comment _ _ c.in-Some.first.now _ _ c.in-Some.ensures.cases.0 c.if-first-eq35.true)

pub returns-then-first-eq59 : goal.returns-then-first-eq59
returns-then-first-eq59 c = ends (map lexeme_of c.loop-first.tokens.items) c.loop-first.invariant.goes_on (reads_semicolon _ _ c.in-Some.first.now _ _ c.in-Some.ensures.cases.0 c.if-first-eq59.true)

pub loop-first-preserved : goal.loop-first-preserved
loop-first-preserved c =
    let pushed = chosen _ _ _ _ c.push.ensures.items (ap is_ok c.in_ok-push.was) in
    record {
      room = omega (arith, first_size c.in-Some-first_token.ensures);
      goes_on = past_token_on (map lexeme_of c.loop-first.tokens.items) (map lexeme_of c.push.new.self.items) c.loop-first.invariant.goes_on c.in-Some-first_token.ensures (ap (map lexeme_of) pushed ∙ map_push lexeme_of c.loop-first.tokens.items _);
    }

pub returns-in_default-first_token : goal.returns-in_default-first_token
returns-in_default-first_token c =
    let b = c.in-Some.first.now in
    ends (map lexeme_of c.loop-first.tokens.items) c.loop-first.invariant.goes_on (reads_bad _ _ b _ _ c.in-Some.ensures.cases.0 (separates_nothing b (sym c.is_blank.ensures ∙ c.if-is_blank.false) c.if-first-eq35.false c.if-first-eq59.false) c.in_default-first_token.ensures)

pub returns : goal.returns
returns c = ends (map lexeme_of c.loop-first.tokens.items) c.loop-first.invariant.goes_on (reads_nothing _ _ c.loop-first.rest.now (nil_from_length _ c.in_default.ensures.cases))
