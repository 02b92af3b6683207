use Rattle.std.proofs.Common.{length, ◌%◌}
use Rattle.std.proofs.lemmas.Result.{on_ok_weaker}
use Rattle.tree_words.specs.Words.{number16}
use Rattle.tree_words.proofs.Items.{written_list, small_count16}
use Rattle.tree_words.proofs.lists.write_many16.Goals as goal

pub returns : goal.returns
returns g c = on_ok_weaker c.write_items.result (written_list number16 g.T.Spelled.codec c.args.items.now (length c.args.items.now % 65536) c.args.out.now.items c.write.new.out.items c.write_items.new.out.items (small_count16 (length c.args.items.now)) c.in_ok-write.ensures) c.write_items.ensures
