use Rattle.std.proofs.lemmas.Result.{on_ok_weaker}
use Rattle.tree_words.specs.NumberLaws.{wrote_number64}
use Rattle.tree_words.proofs.numbers.I64Spelling.write.Goals as goal

pub returns : goal.returns
returns c = on_ok_weaker c.write.result (wrote_number64 c.args.value.now c.cast_unsigned-bits.result c.args.out.now.items c.write.new.out.items c.cast_unsigned-bits.ensures) c.write.ensures
