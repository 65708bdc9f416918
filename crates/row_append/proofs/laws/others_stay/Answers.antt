use Rattle.row_append.proofs.EndLaws.{ends_stay, free_stays, headers_stay}
use Rattle.row_append.proofs.laws.others_stay.Goals as goal

pub returns : goal.returns
returns c = record { ends = ends_stay; free = free_stays; headers = headers_stay }
