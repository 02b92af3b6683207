-- Parts of statements, as the grammar says them.
use Rattle.std.specs.Prelude.{ℕ, List, Option, Some, None, Ok, if◌then◌else◌}
use Rattle.calculus.specs.declared.statement.Item.{Item}
use Rattle.calculus.specs.declared.statement.Qual.{Qual}
use Rattle.calculus.specs.declared.statement.Statement.{Statement}
use Rattle.calculus.specs.declared.statement.Statement.TheVariants as statements
use Rattle.quel_grammar.specs.declared.token.Fixed.TheVariants as fixed
use Rattle.quel_grammar.specs.Lexer.{number_of}
use Rattle.quel_grammar.specs.PartReaders.{covered_by, over_of, user_of, where_by}
use Rattle.quel_grammar.specs.Reading.{Reader, ◌>>=◌, after, expect, name_at, on_fixed}
use Rattle.quel_grammar.specs.Statements.{is_width}
use Rattle.quel_grammar.specs.StatementReaders.{Defined as What, Verb as Said}
use Rattle.quel_grammar.specs.StatementReaders.Defined.{DefinedView, DefinedPermit, DefinedRule}
use Rattle.quel_grammar.specs.StatementReaders.Verb.{RangeVerb, RetrieveVerb, AppendVerb, ReplaceVerb, DeleteVerb, CreateVerb, DestroyVerb, ModifyVerb, IndexVerb, PrintVerb, HelpVerb, CopyVerb, DefineVerb}
use Rattle.quel_grammar.specs.TermReaders.{Lower}
use Rattle.quel_parse.specs.declared.target_statements.Change.{Change}
use Rattle.quel_parse.specs.declared.target_statements.Change.TheVariants as changes
use Rattle.quel_parse.specs.declared.relations.Dropped.{Dropped}
use Rattle.quel_parse.specs.declared.relations.Dropped.TheVariants as drops
use Rattle.quel_parse.specs.declared.defining.Defined.{Defined}
use Rattle.quel_parse.specs.declared.defining.Defined.TheVariants as defined
use Rattle.quel_parse.specs.declared.verbs.Verb.{Verb}
use Rattle.quel_parse.specs.declared.verbs.Verb.TheVariants as verbs

-- the number from 1 to 255 that these digits are, without a zero before it
abbrev pub width_from : List ℕ → Option ℕ
width_from digits = if is_width digits then Some (number_of digits) else None

-- the statement that does this
abbrev pub change_of : Change → List ℕ → List Item → Qual → Statement
change_of changes.Append = statements.Append
change_of changes.Replace = statements.Replace
change_of changes.View = statements.View

-- the statement that drops these
abbrev pub dropped_of : Dropped → List ℕ → List ℕ → Statement
dropped_of drops.Permits = statements.DropPermits
dropped_of drops.Rules = statements.DropRules

-- what follows the operations of a permit, which give these rights together
abbrev pub granted_by : ℕ → Lower → ℕ → Reader Statement
granted_by n l ops ts = do
  over ← expect (on_fixed over_of) ts
  v ← name_at over.1
  names ← covered_by n v.1
  to ← after fixed.To names.1
  user ← expect user_of to.1
  q ← where_by l user.1
  Ok (statements.Permit ops v.0 names.0 user.0 q.0, q.1)

-- what is defined
abbrev pub defined_of : Defined → What
defined_of defined.View = DefinedView
defined_of defined.Permit = DefinedPermit
defined_of defined.Rule = DefinedRule

-- the first word
abbrev pub verb_of : Verb → Said
verb_of verbs.Range = RangeVerb
verb_of verbs.Retrieve = RetrieveVerb
verb_of verbs.Append = AppendVerb
verb_of verbs.Replace = ReplaceVerb
verb_of verbs.Delete = DeleteVerb
verb_of verbs.Create = CreateVerb
verb_of verbs.Destroy = DestroyVerb
verb_of verbs.Modify = ModifyVerb
verb_of verbs.Index = IndexVerb
verb_of verbs.Print = PrintVerb
verb_of verbs.Help = HelpVerb
verb_of verbs.Copy = CopyVerb
verb_of verbs.Define = DefineVerb
