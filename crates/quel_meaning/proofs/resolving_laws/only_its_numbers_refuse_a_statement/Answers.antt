use Rattle.quel_meaning.proofs.Accepted.{numbers_are, refused_by}
use Rattle.quel_meaning.proofs.resolving_laws.only_its_numbers_refuse_a_statement.Goals as goal

pub returns : goal.returns
returns c = record { in_order = numbers_are; no_others = refused_by }
