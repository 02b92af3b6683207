use Rattle.quel_parse.proofs.Follows.{follows}
use Rattle.quel_parse.proofs.laws.what_follows_the_next_token_changes_nothing.Goals as goal

pub returns : goal.returns
returns c = follows
