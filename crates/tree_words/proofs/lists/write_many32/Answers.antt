use Rattle.std.proofs.Common.{length, ◌%◌}
use Rattle.std.proofs.lemmas.Result.{on_ok_weaker}
use Rattle.tree_words.specs.Words.{number32}
use Rattle.tree_words.proofs.Items.{written_list, small_count32}
use Rattle.tree_words.proofs.lists.write_many32.Goals as goal

pub returns : goal.returns
returns g c = on_ok_weaker c.write_items.result (written_list number32 g.T.Spelled.codec c.args.items.now (length c.args.items.now % 4294967296) c.args.out.now.items c.write.new.out.items c.write_items.new.out.items (small_count32 (length c.args.items.now)) c.in_ok-write.ensures) c.write_items.ensures
