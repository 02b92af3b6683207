-- How statements are read from the left: a value and the tokens behind it, or the tokens from the first one on that can't stand there.
use Rattle.std.specs.Prelude.{ℕ, List, [], Option, Some, None, Ok, Err}
use Rattle.calculus.specs.declared.statement.Item.{Item}
use Rattle.calculus.specs.declared.statement.Qual.{Qual}
use Rattle.calculus.specs.declared.statement.Statement.{Statement}
use Rattle.calculus.specs.declared.statement.Statement.TheVariants as statements
use Rattle.quel_grammar.specs.declared.token.Fixed.{Fixed}
use Rattle.quel_grammar.specs.declared.token.Fixed.TheVariants as fixed
use Rattle.quel_grammar.specs.Statements.{joined}
use Rattle.quel_grammar.specs.Reading.{Reader, ◌>>=◌, done, first, choose, expect, on_fixed, after, name_of, name_at}
use Rattle.quel_grammar.specs.TermReaders.{Lower, level, qual_by}
use Rattle.quel_grammar.specs.PartReaders.{list_by, maybe, names_at, targets_by, where_by, sort_by, into_at, format_of, copy_form_of, parts_by, way_of, text_of, drop_by, structure_by, operation_of, over_of, covered_names, covered_by, user_of}

-- range
unfoldable pub range_at : Reader Statement
range_at ts = do
  of_ ← after fixed.Of ts
  v ← name_at of_.1
  is ← after fixed.Is v.1
  r ← name_at is.1
  Ok (statements.Range v.0 r.0, r.1)

-- retrieve
unfoldable pub retrieve_by : ℕ → Lower → Reader Statement
retrieve_by n l ts = do
  unique ← maybe fixed.Unique ts
  r ← into_at unique.1
  targets ← targets_by n l r.1
  q ← where_by l targets.1
  keys ← sort_by n q.1
  Ok (statements.Retrieve r.0 targets.0 q.0 keys.0, keys.1)

-- append, replace and define view, behind the word before the name
unfoldable pub changed_by : ℕ → Lower → (List ℕ → List Item → Qual → Statement) → Reader Statement
changed_by n l make ts = do
  r ← name_at ts
  targets ← targets_by n l r.1
  q ← where_by l targets.1
  Ok (make r.0 targets.0 q.0, q.1)

-- append
unfoldable pub append_by : ℕ → Lower → Reader Statement
append_by n l ts = do
  to ← maybe fixed.To ts
  changed_by n l statements.Append to.1

-- delete
unfoldable pub delete_by : Lower → Reader Statement
delete_by l ts = do
  v ← name_at ts
  q ← where_by l v.1
  Ok (statements.Delete v.0 q.0, q.1)

-- create
unfoldable pub create_by : ℕ → Reader Statement
create_by n ts = do
  r ← name_at ts
  attrs ← parts_by format_of n r.1
  Ok (statements.Create r.0 attrs.0, attrs.1)

-- destroy, of relations
unfoldable pub destroy_names : ℕ → Reader Statement
destroy_names n ts = do
  names ← names_at n ts
  Ok (statements.Destroy names.0, names.1)

-- what `destroy` may be followed by: `permit` and `integrity`
abbrev pub drop_of : Fixed → Option (List ℕ → List ℕ → Statement)
drop_of fixed.Permit = Some statements.DropPermits
drop_of fixed.Integrity = Some statements.DropRules
drop_of _ = None

-- destroy
unfoldable pub destroy_by : ℕ → Reader Statement
destroy_by n ts = choose (destroy_names n) (drop_by n) ts (first (on_fixed drop_of) ts)

-- modify
unfoldable pub modify_by : ℕ → Reader Statement
modify_by n ts = do
  r ← name_at ts
  to ← after fixed.To r.1
  structure ← structure_by n to.1
  Ok (statements.Modify r.0 structure.0.0 structure.0.1, structure.1)

-- index
unfoldable pub index_by : ℕ → Reader Statement
index_by n ts = do
  on ← after fixed.On ts
  r ← name_at on.1
  is ← after fixed.Is r.1
  name ← name_at is.1
  open_ ← after fixed.Open name.1
  keys ← covered_names n open_.1
  Ok (statements.Index r.0 name.0 keys.0, keys.1)

-- print
unfoldable pub print_by : ℕ → Reader Statement
print_by n ts = do
  names ← names_at n ts
  Ok (statements.Print names.0, names.1)

-- help
unfoldable pub help_at : Reader Statement
help_at ts = choose (done (statements.Help None)) (λ r. done (statements.Help (Some r))) ts (first name_of ts)

-- copy
unfoldable pub copy_by : ℕ → Reader Statement
copy_by n ts = do
  r ← name_at ts
  columns ← parts_by copy_form_of n r.1
  way ← expect (on_fixed way_of) columns.1
  file ← expect text_of way.1
  Ok (statements.Copy r.0 columns.0 way.0 file.0, file.1)

-- define permit
unfoldable pub permit_by : ℕ → Lower → Reader Statement
permit_by n l ts = do
  sums ← list_by (expect (on_fixed operation_of)) n [] ts
  over ← expect (on_fixed over_of) sums.1
  v ← name_at over.1
  names ← covered_by n v.1
  to ← after fixed.To names.1
  user ← expect user_of to.1
  q ← where_by l user.1
  Ok (statements.Permit (joined sums.0) v.0 names.0 user.0 q.0, q.1)

-- define integrity
unfoldable pub rule_by : Lower → Reader Statement
rule_by l ts = do
  on ← after fixed.On ts
  v ← name_at on.1
  is ← after fixed.Is v.1
  q ← qual_by l is.1
  Ok (statements.Rule v.0 q.0, q.1)

-- what is defined
pub data Defined : Type 0 where
  DefinedView : Defined
  DefinedPermit : Defined
  DefinedRule : Defined

-- the words for what is defined
abbrev pub defined_of : Fixed → Option Defined
defined_of fixed.View = Some DefinedView
defined_of fixed.Permit = Some DefinedPermit
defined_of fixed.Integrity = Some DefinedRule
defined_of _ = None

-- a view, a permit or a rule, behind that word
abbrev pub defined_by : ℕ → Lower → Defined → Reader Statement
defined_by n l DefinedView = changed_by n l statements.View
defined_by n l DefinedPermit = permit_by n l
defined_by n l DefinedRule = rule_by l

-- define
unfoldable pub define_by : ℕ → Lower → Reader Statement
define_by n l ts = choose Err (defined_by n l) ts (first (on_fixed defined_of) ts)

-- the statements by their first words
pub data Verb : Type 0 where
  RangeVerb : Verb
  RetrieveVerb : Verb
  AppendVerb : Verb
  ReplaceVerb : Verb
  DeleteVerb : Verb
  CreateVerb : Verb
  DestroyVerb : Verb
  ModifyVerb : Verb
  IndexVerb : Verb
  PrintVerb : Verb
  HelpVerb : Verb
  CopyVerb : Verb
  DefineVerb : Verb

-- the words that begin statements
abbrev pub verb_of : Fixed → Option Verb
verb_of fixed.Range = Some RangeVerb
verb_of fixed.Retrieve = Some RetrieveVerb
verb_of fixed.Append = Some AppendVerb
verb_of fixed.Replace = Some ReplaceVerb
verb_of fixed.Delete = Some DeleteVerb
verb_of fixed.Create = Some CreateVerb
verb_of fixed.Destroy = Some DestroyVerb
verb_of fixed.Modify = Some ModifyVerb
verb_of fixed.Index = Some IndexVerb
verb_of fixed.Print = Some PrintVerb
verb_of fixed.Help = Some HelpVerb
verb_of fixed.Copy = Some CopyVerb
verb_of fixed.Define = Some DefineVerb
verb_of _ = None

-- a statement, behind its first word
abbrev pub verb_by : ℕ → Lower → Verb → Reader Statement
verb_by n l RangeVerb = range_at
verb_by n l RetrieveVerb = retrieve_by n l
verb_by n l AppendVerb = append_by n l
verb_by n l ReplaceVerb = changed_by n l statements.Replace
verb_by n l DeleteVerb = delete_by l
verb_by n l CreateVerb = create_by n
verb_by n l DestroyVerb = destroy_by n
verb_by n l ModifyVerb = modify_by n
verb_by n l IndexVerb = index_by n
verb_by n l PrintVerb = print_by n
verb_by n l HelpVerb = help_at
verb_by n l CopyVerb = copy_by n
verb_by n l DefineVerb = define_by n l

-- a statement of at most so many tokens
unfoldable pub statement_by : ℕ → Reader Statement
statement_by n ts = choose Err (verb_by n (level n)) ts (first (on_fixed verb_of) ts)
