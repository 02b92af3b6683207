use Rattle.std.proofs.Common.{arith}
use Rattle.std.proofs.lemmas.Result.{err_from_is_err_and}
use Rattle.tree_words.proofs.Items.{reading_failed, reading_went_on, reading_ended}
use Rattle.quel_tree.specs.Queries.{target, term}
use Rattle.quel_tree.proofs.queries.reading.+reading.Goals as goal

pub target_items-returns-in_err-target : goal.target_items-returns-in_err-target
target_items-returns-in_err-target t c = let p = err_from_is_err_and c.from_residual.result c.from_residual.ensures.1 in rw (p.1, p.2) (reading_failed (target c.args.levels) c.args.count c.loop.counter _ _ _ c.read_target.new.reader _ _ (omega arith) c.loop.invariant c.in_err-target.ensures)

pub target_items-loop-preserved : goal.target_items-loop-preserved
target_items-loop-preserved t c = rw c.in_ok-push.ensures.items (reading_went_on (target c.args.levels) c.args.count c.loop.counter _ _ _ _ _ (omega arith) c.loop.invariant c.in_ok-target.ensures)

pub target_items-returns : goal.target_items-returns
target_items-returns t c = rw c.of.ensures (reading_ended (target c.args.levels) c.args.count c.loop.counter _ _ _ (omega arith) c.loop.invariant)

pub term_items-returns-in_err-term : goal.term_items-returns-in_err-term
term_items-returns-in_err-term t c = let p = err_from_is_err_and c.from_residual.result c.from_residual.ensures.1 in rw (p.1, p.2) (reading_failed (term c.args.levels) c.args.count c.loop.counter _ _ _ c.read_term.new.reader _ _ (omega arith) c.loop.invariant c.in_err-term.ensures)

pub term_items-loop-preserved : goal.term_items-loop-preserved
term_items-loop-preserved t c = rw c.in_ok-push.ensures.items (reading_went_on (term c.args.levels) c.args.count c.loop.counter _ _ _ _ _ (omega arith) c.loop.invariant c.in_ok-term.ensures)

pub term_items-returns : goal.term_items-returns
term_items-returns t c = rw c.of.ensures (reading_ended (term c.args.levels) c.args.count c.loop.counter _ _ _ (omega arith) c.loop.invariant)
