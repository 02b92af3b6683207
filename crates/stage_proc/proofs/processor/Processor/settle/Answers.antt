use Rattle.std.proofs.Common.{refl, sym, subst}
use Rattle.stage_proc.specs.Standing.{IsWorking}
use Rattle.stage_proc.proofs.Settling.{bytes_there, settled_change, settled_shown, settled_tree}
use Rattle.stage_proc.proofs.processor.Processor.settle.Goals as goal

pub returns-in-Shows-clause-settled : goal.returns-in-Shows-clause-settled
returns-in-Shows-clause-settled c =
    settled_shown c.args.self.now.at c.args.self.now.left c.args.self.now.right c.in-Shows.frames c.args.made _ _ _ c.in-Shows.is refl refl refl

pub returns-in-Changes-clause-settled : goal.returns-in-Changes-clause-settled
returns-in-Changes-clause-settled c =
    let new = c.hand_on.new.self in
    settled_change c.hand_on.result c.args.self.now.at c.args.self.now.left c.args.self.now.right c.in-Changes.bytes c.args.made new.at new.left new.right c.in-Changes.is c.hand_on.ensures.at c.hand_on.ensures.left c.hand_on.ensures.right

pub into_bytes-requires : goal.into_bytes-requires
into_bytes-requires c = subst IsWorking (sym c.replace-here.ensures.value) c.requires

pub returns-in-HandsOn-clause-settled : goal.returns-in-HandsOn-clause-settled
returns-in-HandsOn-clause-settled c =
    let new = c.hand_on-in-HandsOn.new.self in
    settled_tree c.hand_on-in-HandsOn.result c.args.self.now.at c.args.self.now.left c.args.self.now.right c.into_bytes.result c.args.made new.at new.left new.right c.in-HandsOn.is
    (bytes_there c.args.self.now.at c.replace-here.result c.into_bytes.result c.replace-here.ensures.value c.into_bytes.ensures) c.hand_on-in-HandsOn.ensures.at c.hand_on-in-HandsOn.ensures.left c.hand_on-in-HandsOn.ensures.right
