use Rattle.std.proofs.Common.{◌∙◌, ap, map}
use Rattle.quel_grammar.specs.Reading.{look_up}
use Rattle.quel_terms.proofs.Looked.{seen}
use Rattle.quel_parse.proofs.structures.heap_of.Goals as goal

pub returns : goal.returns
returns c = c.look_up.ensures ∙ ap (λ table. look_up (map seen table) c.args.word.now) c.as_slice-table.ensures
