use Rattle.std.proofs.Common.{◌∙◌, sym}
use Rattle.message_codec.proofs.Queue.{all_empty, none_left}
use Rattle.message_codec.proofs.outgoing.Outgoing.is_empty.Goals as goal

pub returns-then-self-eq0 : goal.returns-then-self-eq0
returns-then-self-eq0 c = (
  λ t. sym c.self.view_is ∙ none_left c.self.inside.begun c.self.inside.left c.self.inside.later.items c.self.invariant c.if-self-eq0.true (c.is_over.ensures.0 t),
  λ e. c.is_over.ensures.1 (all_empty c.self.inside.begun c.self.inside.left c.self.inside.later.items c.self.invariant (c.self.view_is ∙ e)).1,
)
