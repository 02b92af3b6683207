use Rattle.std.proofs.Common.{◌≡◌, inr, rules, []}
use Rattle.fault_io.proofs.Piecewise.{filled, not_filled}
use Rattle.fault_io.proofs.pieces.refill.Goals as goal

pub returns-in-Ok-clause-kept : goal.returns-in-Ok-clause-kept
returns-in-Ok-clause-kept g c =
    let none : c.args.piece.now ≡ [] = search rules in
    filled c.args.piece.now c.fill_upto.new.self (g.S.Source.left c.args.source.now) (g.S.Source.left c.fill_upto.new.source) none c.in-Ok.ensures.ok

pub returns-in-Err-clause-kept : goal.returns-in-Err-clause-kept
returns-in-Err-clause-kept g c =
    let none : c.args.piece.now ≡ [] = search rules in
    not_filled c.args.piece.now c.fill_upto.new.self (g.S.Source.left c.args.source.now) (g.S.Source.left c.fill_upto.new.source) none c.in-Err.ensures.err c.in-Err.ensures.same

pub returns-in-Ok-clause-size : goal.returns-in-Ok-clause-size
returns-in-Ok-clause-size g c = inr c.in-Ok.ensures.size

pub returns-in-Err-clause-size : goal.returns-in-Err-clause-size
returns-in-Err-clause-size g c = inr c.in-Err.ensures.size
