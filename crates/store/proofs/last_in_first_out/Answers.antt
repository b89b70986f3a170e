use Rattle.store.proofs.Tops.{last_first}
use Rattle.store.proofs.last_in_first_out.Goals as goal

pub returns : goal.returns
returns g c = last_first _
