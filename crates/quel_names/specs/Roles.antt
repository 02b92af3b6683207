-- What a name has to be that stands alone in a statement.
use Rattle.std.specs.Prelude.{ℕ, List, [], ◌∷◌}
use Rattle.quel_meaning.specs.Naming.{Mention, Relation, AttrIn, AttrOf, Entry}
use Rattle.quel_names.specs.declared.role.Role.{Role}
use Rattle.quel_names.specs.declared.role.Role.TheVariants as role

-- the mentions that a name is
abbrev pub meant_by : Role → List ℕ → List Mention
meant_by role.New name = []
meant_by role.Relation name = Relation name ∷ []
meant_by role.Entry name = Entry name ∷ []
meant_by (role.AttrIn rel) name = AttrIn rel.now name ∷ []
meant_by (role.AttrOf var) name = AttrOf var.now name ∷ []
