use Rattle.std.proofs.Common.{ap, ◌∙◌, Some, None}
use Rattle.plain_base.proofs.Finds.{has_this_key, mapped_found}
use Rattle.plain_base.proofs.look_up.about.Goals as goal

pub returns-in-Some : goal.returns-in-Some
returns-in-Some g c =
    ap Some c.info.ensures
    ∙ mapped_found (has_this_key c.args.key.now) g.T.Known.known c.args.items.now (Some c.in-Some.item.now) c.in-Some.ensures

pub returns-in-None : goal.returns-in-None
returns-in-None g c = mapped_found (has_this_key c.args.key.now) g.T.Known.known c.args.items.now None c.in-None.ensures
