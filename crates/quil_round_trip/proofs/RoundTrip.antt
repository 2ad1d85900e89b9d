-- The printed text of a text's tree is a text of the same tree, up to places.
use Rattle.std.proofs.Common.{◌≡◌, ℕ, ◌≤◌, List, [], ◌∷◌, ◌++◌, map, reverse, length, Ok, refl, sym, ◌∙◌, ap, subst}
use Rattle.std.proofs.lemmas.List.{reverse-reverse, reverse-append, map-append}
use Rattle.quil_lex.specs.Reading.{IsReading}
use Rattle.quil_lex.specs.Written.{WrittenLine, lines_bytes, lines_spans, spans_from}
use Rattle.quil_lex.proofs.ReadTokens.{reading_tokens}
use Rattle.quil_lex.proofs.Rereading.{lines_again}
use Rattle.quil_tree.specs.declared.item.Item.{Item}
use Rattle.quil_tree.specs.Printed.{printed}
use Rattle.quil_grammar.specs.declared.parse.TheConstants.{MOST_BYTES}
use Rattle.quil_parse.proofs.Programs.{one_tree}
use Rattle.quil_round_trip.specs.Unplaced.{bare_item, bare_tree}
use Rattle.quil_parse.specs.Program.{Goes, IsTreeOf, beginning}
use Rattle.quil_round_trip.proofs.Declarations.{declaration_again}
use Rattle.quil_round_trip.proofs.Headers.{gate_header_again, circuit_header_again}
use Rattle.quil_round_trip.proofs.Statements.{statement_again}
use Rattle.quil_round_trip.proofs.Top.{top_again}
use Rattle.quil_round_trip.proofs.Rows.{row_again, numbers_again}
use Rattle.quil_round_trip.proofs.Bodies.{total_printed}
use Rattle.quil_round_trip.proofs.Programs.{rebuilt}

reverse_bare : (is : List Item) → map bare_item (reverse is) ≡ reverse (map bare_item is)
reverse_bare [] = refl
reverse_bare (i ∷ is) = ap (λ xs. map bare_item xs) (reverse-append (i ∷ []) is) ∙ map-append bare_item (reverse is) (i ∷ []) ∙ ap (λ xs. xs ++ bare_item i ∷ []) (reverse_bare is) ∙ sym (reverse-append (bare_item i ∷ []) (map bare_item is))

-- the lines of a program, and none at all, which is one that is empty
goes_from : (ls : List WrittenLine) (js : List Item) → Goes beginning [] (spans_from 1 ls) (Ok js) → Goes beginning [] (lines_spans ls) (Ok js)
goes_from [] js g = Goes.skips refl g
goes_from (l ∷ ls) js g = g

pub round_trip : (text : List ℕ) (tree : List Item) → IsTreeOf text tree → length (printed tree) ≤ MOST_BYTES → (again : List Item) × IsTreeOf (printed tree) again × (bare_tree again ≡ bare_tree tree)
round_trip text tree h short =
    let r = rebuilt (top_again declaration_again gate_header_again circuit_header_again) statement_again row_again numbers_again h.goes (reverse tree) refl (reading_tokens text h.spans h.is_reading) tt in
    let q = r.there beginning 1 [] refl in
    let bytes : lines_bytes r.written_lines ≡ printed tree = sym r.text ∙ total_printed (reverse tree) r.are_whole ∙ ap printed (reverse-reverse tree) in
    let goes : Goes beginning [] (lines_spans r.written_lines) (Ok (reverse (reverse q.0))) = subst (λ ls. Goes beginning [] (lines_spans r.written_lines) (Ok ls)) (sym (reverse-reverse q.0)) (goes_from r.written_lines q.0 q.1) in (
      reverse q.0,
      record { is_short = short; spans = lines_spans r.written_lines; is_reading = subst (λ x. IsReading x (lines_spans r.written_lines)) bytes (lines_again r.written_lines r.are_written); goes = goes },
      reverse_bare q.0 ∙ ap reverse q.2 ∙ ap reverse (reverse_bare tree) ∙ reverse-reverse (map bare_item tree),
    )

-- so is whatever tree that text has
pub only_round_trip : (text : List ℕ) (tree again : List Item) → IsTreeOf text tree → IsTreeOf (printed tree) again → bare_tree again ≡ bare_tree tree
only_round_trip text tree again h k =
    let r = round_trip text tree h k.is_short in
    ap bare_tree (one_tree (printed tree) again r.0 k r.1) ∙ r.2
