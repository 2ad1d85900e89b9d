-- The text of details that are seen through a function.
use Rattle.std.proofs.lemmas.List.Folds.{flat_map-map}

pub ruleset details_text = (flat_map-map)
