use Rattle.systems.proofs.Listed.{listing}
use Rattle.systems.proofs.listing.tables_list_their_records.Goals as goal

pub returns : goal.returns
returns c = listing
