use Rattle.std.proofs.Common.{◌≡◌, map, string_bytes, length, option_and_then}
use Rattle.qvm.specs.Command.{choices_of, run_options}
use Rattle.qvm.proofs.Options.{rest_of_words}
use Rattle.qvm.proofs.command.run_options.Given as goal

-- the options that are left, with those that were read, are the whole
abbrev pub invariant-loop-word : goal.invariant-loop-word
invariant-loop-word l = rest_of_words l.given l.left ≡ option_and_then run_options (choices_of (map string_bytes l.words))

abbrev pub decreases-loop-word : goal.decreases-loop-word
decreases-loop-word l = length l.left
