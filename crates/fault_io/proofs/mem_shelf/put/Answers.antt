use Rattle.std.proofs.Common.{ap, ◌∙◌, map}
use Rattle.fault_io.specs.Files.{stored}
use Rattle.fault_io.specs.InMemory.{seen_file}
use Rattle.fault_io.proofs.FilesInMemory.{seen_stored}
use Rattle.fault_io.proofs.mem_shelf.put.Goals as goal

pub returns-in-Ok-clause-put : goal.returns-in-Ok-clause-put
returns-in-Ok-clause-put c =
    ap (map seen_file) c.in-Ok.ensures.entries ∙ seen_stored c.in_ok-name.name c.in_ok-bytes.bytes c.args.files.now.entries
    ∙ ap (λ n. stored (map seen_file c.args.files.now.entries) n c.in_ok-bytes.bytes.items) c.in_ok-name.ensures
    ∙ ap (stored (map seen_file c.args.files.now.entries) c.args.name.now) c.in_ok-bytes.ensures
