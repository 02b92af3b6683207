use Rattle.quel_meaning.proofs.Declared.{declared_itself, declared_others}
use Rattle.quel_meaning.proofs.Kept.{range_declares, range_refused, other_statements_keep_ranges}
use Rattle.quel_meaning.proofs.laws.range_declares_a_variable.Goals as goal

pub returns : goal.returns
returns c = record { known = range_declares; unknown = range_refused; itself = declared_itself; others = declared_others; other_statements = other_statements_keep_ranges }
