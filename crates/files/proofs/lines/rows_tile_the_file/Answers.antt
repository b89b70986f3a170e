use Rattle.files.proofs.Tiling.{rows_tile}
use Rattle.files.proofs.lines.rows_tile_the_file.Goals as goal

pub returns : goal.returns
returns c = rows_tile
