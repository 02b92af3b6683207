use Rattle.std.proofs.Common.{sym, ap, ◌∙◌, Some, None, if◌then◌else◌}
use Rattle.page_chain.specs.Pages.{next_of}
use Rattle.page_chain.proofs.Linking.{none_follows}
use Rattle.page_chain.proofs.chains.next_there.Goals as goal

pub returns-else-is_there : goal.returns-else-is_there
returns-else-is_there c = sym (ap (λ b. next_of c.args.bound c.args.page (if b then Some c.args.bytes.now else None)) c.if-is_there.false ∙ none_follows c.args.bound c.args.page)
