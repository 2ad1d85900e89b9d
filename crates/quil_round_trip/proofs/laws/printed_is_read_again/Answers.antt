use Rattle.quil_round_trip.proofs.RoundTrip.{round_trip, only_round_trip}
use Rattle.quil_round_trip.proofs.laws.printed_is_read_again.Goals as goal

pub returns-clause-again : goal.returns-clause-again
returns-clause-again c = round_trip

pub returns-clause-only : goal.returns-clause-only
returns-clause-only c = only_round_trip
