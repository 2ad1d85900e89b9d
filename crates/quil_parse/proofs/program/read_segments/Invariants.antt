use Rattle.std.proofs.Common.{◌≡◌, [], length, map}
use Rattle.std.specs.Prelude.{List, Result}
use Rattle.quil_lex.specs.Reading.{span_of}
use Rattle.quil_tree.specs.declared.item.Item.{Item}
use Rattle.quil_grammar.specs.declared.fault.ReadFault.{ReadFault}
use Rattle.quil_parse.specs.Program.{Goes, beginning, body_context}
use Rattle.quil_parse.specs.Steps.{names_in, so_far}
use Rattle.quil_parse.proofs.program.read_segments.Given as goal

-- wherever the segments that are left go on to from here, the whole text goes on to
abbrev pub invariant-loop-segments : goal.invariant-loop-segments
invariant-loop-segments l = record {
  goes_on : (r : Result (List Item) ReadFault) → Goes l.end (so_far l.items) (map span_of l.segments) r → Goes beginning [] (map span_of l.initial.segments) r;
  context : names_in l.context ≡ body_context (so_far l.items);
}

abbrev pub decreases-loop-segments : goal.decreases-loop-segments
decreases-loop-segments l = length l.segments
