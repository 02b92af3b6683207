-- The two ways to join qualifications.
use Rattle.calculus.specs.Tree.{both, either}
use Rattle.view_text.specs.declared.halves.Join.{Join}
use Rattle.view_text.specs.declared.halves.Join.TheVariants.{And, Or}
use Rattle.view_text.specs.Halves.{Joining}

-- how two are joined
abbrev pub join_by : Join → Joining
join_by And p q = both p q
join_by Or p q = either p q
