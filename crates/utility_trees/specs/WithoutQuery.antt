-- Which statements need no query.
use Rattle.std.specs.Prelude.{Bool, true, false}
use Rattle.calculus.specs.declared.statement.Statement.{Statement}
use Rattle.calculus.specs.declared.statement.Statement.TheVariants as statement

-- a statement that destroys, gives a structure, makes an index, prints, asks for help or copies
abbrev pub needs_no_query : Statement → Bool
needs_no_query (statement.Destroy rels) = true
needs_no_query (statement.Modify rel to keys) = true
needs_no_query (statement.Index base name keys) = true
needs_no_query (statement.Print rels) = true
needs_no_query (statement.Help rel) = true
needs_no_query (statement.Copy rel columns from file) = true
needs_no_query _ = false
