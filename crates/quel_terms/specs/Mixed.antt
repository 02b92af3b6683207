-- A qualification or a bare term, as the grammar says it.
use Rattle.quel_grammar.specs.TermReaders.{Mixed as Read}
use Rattle.quel_grammar.specs.TermReaders.Mixed.{Bare, Whole}
use Rattle.quel_terms.specs.declared.qualifications.Mixed.{Mixed}
use Rattle.quel_terms.specs.declared.qualifications.Mixed.TheVariants as mixed

-- what the program's value is
abbrev pub mixed_of : Mixed → Read
mixed_of (mixed.Bare t) = Bare t
mixed_of (mixed.Whole q) = Whole q
