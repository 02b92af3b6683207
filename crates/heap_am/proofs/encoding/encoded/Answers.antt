use Rattle.page_cells.proofs.Rowing.{row_fits_of}
use Rattle.heap_am.proofs.encoding.encoded.Goals as goal

pub row_bytes-count-requires-clause-fits : goal.row_bytes-count-requires-clause-fits
row_bytes-count-requires-clause-fits c = row_fits_of c.args.row.now c.args.domains.now c.requires.fits
