use Rattle.std.proofs.Common.{◌≡◌, false, get_or}
use Rattle.std.specs.List.{filter, range_with_len}
use Rattle.quil_link.proofs.numbering.marked_places.Given as goal

-- the marked ones of the places so far
abbrev pub invariant-loop-place : goal.invariant-loop-place
invariant-loop-place l = l.places.items ≡ filter (λ q. get_or l.marks q false) (range_with_len 0 l.place)
