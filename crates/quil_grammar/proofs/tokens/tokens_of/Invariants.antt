use Rattle.std.proofs.Common.{◌≡◌, ◌++◌, [], length, map}
use Rattle.quil_lex.specs.Reading.{span_of}
use Rattle.quil_grammar.specs.Token.{tokens_among}
use Rattle.quil_grammar.proofs.tokens.tokens_of.Given as goal

abbrev pub invariant-loop-segments : goal.invariant-loop-segments
invariant-loop-segments l = l.all.tokens.items ++ tokens_among (map (λ k. k.now) l.all.names.keys) (map span_of l.segments) ≡ tokens_among [] (map span_of l.initial.segments)

abbrev pub decreases-loop-segments : goal.decreases-loop-segments
decreases-loop-segments l = length l.segments
