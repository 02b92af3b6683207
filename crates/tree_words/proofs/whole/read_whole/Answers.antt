use Rattle.tree_words.proofs.WholeLaws.{answer_found, answer_only, answer_first}
use Rattle.tree_words.proofs.whole.read_whole.Goals as goal

pub returns-clause-found : goal.returns-clause-found
returns-clause-found g c = answer_found (g.S.Spelled.codec c.args.levels) (g.S.Spelled.exact c.args.levels c.requires) c.args.bytes.now c.all_of.result c.all_of.ensures

pub returns-clause-only : goal.returns-clause-only
returns-clause-only g c = answer_only (g.S.Spelled.codec c.args.levels) (g.S.Spelled.exact c.args.levels c.requires) c.args.bytes.now c.all_of.result c.all_of.ensures

pub returns-clause-first : goal.returns-clause-first
returns-clause-first g c = answer_first (g.S.Spelled.codec c.args.levels) (g.S.Spelled.exact c.args.levels c.requires) c.args.bytes.now c.all_of.result c.all_of.ensures
