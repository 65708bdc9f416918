use Rattle.row_append.proofs.FoundLemmas.{found_stays, found_last}
use Rattle.row_append.proofs.laws.first_places_stay.Goals as goal

pub returns : goal.returns
returns c = record { stays = found_stays; last = found_last }
