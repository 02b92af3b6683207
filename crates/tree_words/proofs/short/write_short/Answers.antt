use Rattle.tree_words.specs.ShortLaws.{wrote_short}
use Rattle.std.proofs.Common.{refl}
use Rattle.tree_words.proofs.short.write_short.Goals as goal

pub returns : goal.returns
returns g c = wrote_short g.S.Shape.length_is g.S.Shape.stands c.args.bytes.now c.args.out.now.items c.extend_from_slice.new.self.items (rw (c.in_ok-extend_from_slice.ensures.items, c.in_ok-push.ensures.items) refl)
