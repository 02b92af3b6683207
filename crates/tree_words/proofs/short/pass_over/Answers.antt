use Rattle.std.proofs.Common.{arith}
use Rattle.std.proofs.lemmas.Result.{err_from_is_err_and}
use Rattle.tree_words.proofs.Passing.{passed_fails, passed_on, passed_all}
use Rattle.tree_words.proofs.short.pass_over.Goals as goal

pub returns-in_err-pass_byte : goal.returns-in_err-pass_byte
returns-in_err-pass_byte g c = let p = err_from_is_err_and c.from_residual.result c.from_residual.ensures.1 in rw (p.1, p.2) (passed_fails (g.S.Shape.stands c.args.size) c.args.size c.loop-passed.passed c.args.reader.now c.loop-passed.reader _ (omega arith) c.loop-passed.invariant c.in_err-pass_byte.ensures)

pub loop-passed-preserved : goal.loop-passed-preserved
loop-passed-preserved g c = passed_on (g.S.Shape.stands c.args.size) c.args.size c.loop-passed.passed c.args.reader.now c.loop-passed.reader c.in_ok-pass_byte.field-0 c.pass_byte.new.reader (omega arith) c.loop-passed.invariant c.in_ok-pass_byte.ensures

pub returns : goal.returns
returns g c = passed_all (g.S.Shape.stands c.args.size) c.args.size c.loop-passed.passed c.args.reader.now c.loop-passed.reader (omega arith) (omega arith) c.loop-passed.invariant
