use Rattle.std.proofs.Common.{◌≡◌, Some, sym, ◌∙◌}
use Rattle.stage_parse.proofs.Shallow.{stays_shallow}
use Rattle.stage_parse.proofs.Trees.{fit_resolved, follows, passed_on}
use Rattle.stage_parse.proofs.checking.checked.Goals as goal

pub restricted_and_ruled-requires : goal.restricted_and_ruled-requires
restricted_and_ruled-requires g c = λ db h.
    let before : g.B.Base.database c.args.base.now ≡ Some db = sym c.in-Ok.ensures.kept ∙ h in
    fit_resolved db c.args.user.now c.args.ranges.now c.args.s.now c.in-Ok.tree (g.B.Base.lawful c.args.base.now db (g.B.Base.own c.args.base.now db before)) c.bytes.ensures.name c.requires
    (c.in-Ok.ensures.known db (g.B.Base.own c.args.base.now db before))

pub returns-in-Ok-clause-known : goal.returns-in-Ok-clause-known
returns-in-Ok-clause-known g c = λ db h.
    follows db c.args.user.now c.args.ranges.now c.args.s.now c.in-Ok.tree (g.B.Base.lawful c.args.base.now db (g.B.Base.own c.args.base.now db h)) c.bytes.ensures.name c.requires
    (c.in-Ok.ensures.known db (g.B.Base.own c.args.base.now db h)) c.restricted_and_ruled.result (c.restricted_and_ruled.ensures.known db (c.in-Ok.ensures.kept ∙ h))

pub returns-in-Err-clause-known : goal.returns-in-Err-clause-known
returns-in-Err-clause-known g c = λ db h. passed_on db c.args.user.now c.args.ranges.now c.args.s.now c.in-Err.fault (c.in-Err.ensures.known db (g.B.Base.own c.args.base.now db h))

pub returns-in-Ok-clause-shallow : goal.returns-in-Ok-clause-shallow
returns-in-Ok-clause-shallow g c = λ db h few.
    stays_shallow db c.args.user.now c.args.ranges.now c.args.s.now c.in-Ok.tree (g.B.Base.lawful c.args.base.now db (g.B.Base.own c.args.base.now db h)) c.bytes.ensures.name c.requires
    (c.in-Ok.ensures.known db (g.B.Base.own c.args.base.now db h)) few c.restricted_and_ruled.result (c.restricted_and_ruled.ensures.known db (c.in-Ok.ensures.kept ∙ h))
