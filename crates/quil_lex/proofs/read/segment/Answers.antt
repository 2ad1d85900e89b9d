use Rattle.std.proofs.Common.{◌≡◌, ◌<◌, true, false, ap, sym, ◌∙◌, arith, length}
use Rattle.std.specs.Prelude.{◌==◌}
use Rattle.std.proofs.lemmas.Bool.Decides.{nat_tests}
use Rattle.std.proofs.lemmas.List.{nil_from_length}
use Rattle.quil_lex.specs.Reading.{Place, statement_ends, line_ends, text_ends, stops}
use Rattle.quil_lex.proofs.Readings.{reads_room, reads_fewer}
use Rattle.quil_lex.proofs.LineEnds.{lines_size, others_size}
use Rattle.quil_lex.proofs.read.segment.Goals as goal

pub overflow_add-next : goal.overflow_add-next
overflow_add-next c = let room = reads_room (rw c.in-Semicolon.is at c.in_ok-tokens.ensures) in omega (arith, room, c.args.cursor.columns)

pub invariant_of-next : goal.invariant_of-next
invariant_of-next c = let room = reads_room (rw c.in-Semicolon.is at c.in_ok-tokens.ensures) in record {
  columns = omega (arith, room, c.args.cursor.columns);
  lines = c.args.cursor.lines;
  ends = c.args.cursor.ends;
}

pub returns-in-Semicolon : goal.returns-in-Semicolon
returns-in-Semicolon c =
    let r = rw c.in-Semicolon.is at c.in_ok-tokens.ensures in
    let fewer = reads_fewer r in
    (omega (arith, fewer), λ spans l. rw (c.begins_blank-indented.ensures, c.in-Semicolon.is) (statement_ends r l))

pub returns-in-Line : goal.returns-in-Line
returns-in-Line c =
    let r = rw c.in-Line.is at c.in_ok-tokens.ensures in
    let text = c.args.cursor.after.now in
    let none : (length text == 0) ≡ false = sym c.is_empty.ensures ∙ c.if-not-is_empty.true in
    let some : 0 < length text = grind (arith, nat_tests, none) in
    let rest = ap (λ (p : Place). length p.rest) c.line_at.ensures in
    let after = ap (λ (p : Place). length p.after) c.line_at.ensures in (
      omega (arith, rest, after, lines_size text, others_size text some),
      λ spans l. rw (c.begins_blank-indented.ensures, c.in-Line.is) (line_ends r some (rw c.line_at.ensures at l)),
    )

pub returns-in-Line-2 : goal.returns-in-Line-2
returns-in-Line-2 c =
    let text = c.args.cursor.after.now in
    let none : (length text == 0) ≡ true = sym c.is_empty.ensures ∙ c.if-not-is_empty.false in
    let size : length text ≡ 0 = grind (arith, nat_tests, none) in
    rw (c.begins_blank-indented.ensures, c.in-Line-2.is) (text_ends (rw c.in-Line-2.is at c.in_ok-tokens.ensures) (nil_from_length text size))

pub returns-in-BadToken : goal.returns-in-BadToken
returns-in-BadToken c = rw (c.begins_blank-indented.ensures, c.in-BadToken.is) (stops (rw c.in-BadToken.is at c.in_ok-tokens.ensures))
