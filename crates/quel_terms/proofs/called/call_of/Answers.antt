use Rattle.std.proofs.Common.{◌∙◌, ap, map}
use Rattle.std.specs.Prelude.{option_map}
use Rattle.quel_grammar.specs.Reading.{look_up}
use Rattle.quel_terms.specs.Called.{call_of}
use Rattle.quel_terms.proofs.Looked.{seen, mapped}
use Rattle.quel_terms.proofs.called.call_of.Goals as goal

pub returns : goal.returns
returns c =
    ap (option_map call_of) (c.look_up.ensures ∙ ap (λ table. look_up (map seen table) c.args.word.now) c.as_slice-table.ensures)
    ∙ mapped call_of _ c.args.word.now
