use Rattle.std.proofs.lemmas.Result.{on_ok_weaker}
use Rattle.quel_tree.specs.NameLaws.{wrote_text}
use Rattle.quel_tree.proofs.names.TextTreeSpelling.write.Goals as goal

pub returns : goal.returns
returns c = rw (← c.bytes.ensures.bytes) (on_ok_weaker c.write_short.result (wrote_text c.bytes.result.now c.args.out.now.items c.write_short.new.out.items) c.write_short.ensures)
