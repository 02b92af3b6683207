-- What the program's mentions of names say.
use Rattle.std.specs.Prelude.{ℕ, List, [], ◌∷◌}
use Rattle.quel_check.specs.declared.mentions.Mention.{Mention as Borrowed}
use Rattle.quel_check.specs.declared.mentions.Mention.TheVariants as borrowed
use Rattle.quel_meaning.specs.Naming.{Mention, Variable, AttrOf, Relation, AttrIn, Entry}

-- the mention of the names that are borrowed
abbrev pub seen : Borrowed → Mention
seen (borrowed.Variable var) = Variable var.now
seen (borrowed.AttrOf var attr) = AttrOf var.now attr.now
seen (borrowed.Relation name) = Relation name.now
seen (borrowed.AttrIn name attr) = AttrIn name.now attr.now
seen (borrowed.Entry name) = Entry name.now

-- the variable that stands with its attribute, as a list of one
abbrev pub vars_seen : Mention → List (List ℕ)
vars_seen (Variable var) = []
vars_seen (AttrOf var attr) = var ∷ []
vars_seen (Relation name) = []
vars_seen (AttrIn name attr) = []
vars_seen (Entry name) = []
