-- The names of a statement in two parts: those in front of its target list, and those in it and in the qualification.
use Rattle.std.specs.Prelude.{ℕ, List, [], ◌∷◌, map}
use Rattle.std.specs.Option.{option_to_list}
use Rattle.calculus.specs.declared.statement.Statement.{Statement}
use Rattle.calculus.specs.declared.statement.Statement.TheVariants as statement
use Rattle.quel_meaning.specs.Naming.{Mention, Variable, Relation, AttrIn, AttrOf, Entry}

-- what a title in the target list is: of an append an attribute of its relation, of a replacement one of its variable, else nothing yet
abbrev pub title_in : Statement → List ℕ → List Mention
title_in (statement.Append rel items qual) name = AttrIn rel name ∷ []
title_in (statement.Replace var items qual) name = AttrOf var name ∷ []
title_in _ name = []

-- the names in front of the target list and the qualification
abbrev pub head : Statement → List Mention
head (statement.Range var rel) = Relation rel ∷ []
head (statement.Retrieve into items qual sort) = []
head (statement.Append rel items qual) = Relation rel ∷ []
head (statement.Replace var items qual) = Variable var ∷ []
head (statement.Delete var qual) = Variable var ∷ []
head (statement.Create rel attrs) = []
head (statement.Destroy rels) = map Entry rels
head (statement.DropPermits rel numbers) = Relation rel ∷ []
head (statement.DropRules rel numbers) = Relation rel ∷ []
head (statement.Modify rel to keys) = Relation rel ∷ map (AttrIn rel) keys
head (statement.Index base name keys) = Relation base ∷ map (AttrIn base) keys
head (statement.Print rels) = map Relation rels
head (statement.Help rel) = map Relation (option_to_list rel)
head (statement.Copy rel columns from file) = Relation rel ∷ map (λ c. AttrIn rel c.0) columns
head (statement.View name items qual) = []
head (statement.Permit ops var attrs user qual) = Variable var ∷ map (AttrOf var) attrs
head (statement.Rule var qual) = Variable var ∷ []
