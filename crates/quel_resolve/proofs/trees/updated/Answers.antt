use Rattle.std.proofs.Common.{◌≡◌, Some, sym, ap, ◌∙◌}
use Rattle.quel_refusals.specs.CheckedStatements.{update_of}
use Rattle.quel_resolve.proofs.Changes.{few_changed, is_update, update_query}
use Rattle.quel_resolve.proofs.trees.updated.Goals as goal

pub returns-in-Some-clause-known : goal.returns-in-Some-clause-known
returns-in-Some-clause-known g c = λ scope h u q ch rows w a.
    let made : Some c.in-Some.update ≡ update_of scope c.args.s.now c.args.q =
    sym c.in-Some.is ∙ c.in_ok-update.ensures scope ch (few_changed scope (g.B.Base.lawful c.args.base.now scope.db h) c.args.s.now c.args.info.now ch) in
    let kept : c.in-Some.update.query ≡ c.args.q = update_query scope c.args.s.now c.args.q c.in-Some.update made in
    c.update_unless_refused.ensures.known scope h u (kept ∙ q) (made ∙ ap (update_of scope c.args.s.now) (sym kept)) w a

pub returns-in-None-clause-known : goal.returns-in-None-clause-known
returns-in-None-clause-known g c = λ scope h u q ch rows w a.
    absurd (cc (is_update scope c.args.s.now c.args.q rows
    (sym c.in-None.is ∙ c.in_ok-update.ensures scope ch (few_changed scope (g.B.Base.lawful c.args.base.now scope.db h) c.args.s.now c.args.info.now ch))))
