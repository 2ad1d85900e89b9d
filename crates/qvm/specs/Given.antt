-- The options that have been read.
use Rattle.std.specs.Prelude.{ℕ, List, Option, Some, None, is_none, option_map, bytes_eq, if◌then◌else◌}
use Rattle.qvm.specs.declared.command.Given.{Given}
use Rattle.qvm.specs.Command.{seed_of, limit_of, seed_name, limit_name}

-- with one more option: nothing where its name is unknown or was given before, or its value is wrong
abbrev pub with_option : Given → List ℕ → List ℕ → Option Given
with_option given name value =
    if bytes_eq name seed_name then (if is_none given.seed then option_map (λ s. record given { seed = Some s }) (seed_of value) else None)
    else (if bytes_eq name limit_name then (if is_none given.limit then option_map (λ l. record given { limit = Some l }) (limit_of value) else None) else None)
