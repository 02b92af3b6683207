use Rattle.batch_file.proofs.Adding.{image_read}
use Rattle.batch_file.proofs.stage.Batch.image.Goals as goal

pub returns-clause-image : goal.returns-clause-image
returns-clause-image g c = λ known.
    image_read (g.D.Disk.seen c.args.disk.now) c.args.self.now c.args.i c.in_ok-_found._found c.read.new.out (c.requires.held known) c.requires.there (c.in_ok-_found.ensures.page known)
