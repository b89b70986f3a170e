use Rattle.layouts.proofs.Items.{reads_as_written}
use Rattle.layouts.proofs.lines_read_as_written.Goals as goal

pub returns : goal.returns
returns c = reads_as_written
