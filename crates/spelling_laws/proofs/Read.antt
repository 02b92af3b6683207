-- What is read of a text is resolved to a tree that has a spelling, and so it has with views, permits and rules.
use Rattle.std.proofs.Common.{◌≡◌, subst, ℕ, ◌≤◌, true, List, Ok, arith}
use Rattle.calculus.specs.declared.request.Checked.{Checked}
use Rattle.calculus.specs.declared.statement.Statement.{Statement}
use Rattle.calculus.specs.Database.{Db}
use Rattle.calculus.specs.IsDatabase.{IsDatabase}
use Rattle.calculus.specs.Name.{is_name}
use Rattle.calculus.specs.Who.{Who}
use Rattle.quel_grammar.specs.Next.{Reading, IsNext, IsGrammatical}
use Rattle.quel_grammar.specs.Next.Next.{Read}
use Rattle.quel_meaning.specs.IsWritten.{is_written}
use Rattle.quel_meaning.specs.Meaning.{ruled_tree}
use Rattle.quel_meaning.specs.Ranges.{Ranges}
use Rattle.quel_meaning.specs.Resolved.{resolved}
use Rattle.quel_meaning.specs.WrittenParts.{text_aggregates}
use Rattle.quel_meaning.proofs.Each.{Each}
use Rattle.quel_meaning.proofs.FitResolved.{resolved_fits}
use Rattle.quel_tree.specs.Message.{most_tree_levels}
use Rattle.quel_tree.specs.Requests.{checked}
use Rattle.reading_laws.proofs.Statements.{read_written}
use Rattle.reading_laws.specs.Levels.{tree_levels}
use Rattle.reading_laws.proofs.Resolved.{resolved_shallow}
use Rattle.reading_laws.proofs.ShallowStatements.{read_shallow}
use Rattle.tree_laws.proofs.Trees.{ruled_tree_low}
use Rattle.view_text.specs.Expanded.{expanded_tree}
use Rattle.spelling_laws.proofs.Bounds.{few_tokens}
use Rattle.spelling_laws.proofs.Grammar.{FewBy, FewParts, statement_by, statement_parts}
use Rattle.spelling_laws.proofs.Expanded.{put_short}
use Rattle.spelling_laws.proofs.PutSpelled.{all_spelled}
use Rattle.spelling_laws.proofs.Requests.{tree_fits}
use Rattle.spelling_laws.proofs.Resolved.{resolved_few, resolved_spelled, resolved_short}

module _ (db : Db) (d : IsDatabase db) (user : List ℕ) (named : is_name user ≡ true) (ranges : Ranges) (text : List ℕ) (from : ℕ) (s : Statement) (end : ℕ) (read : IsNext text from (Read s end))
    (tree : Checked) (e : resolved db user ranges s ≡ Ok tree) where
  written : is_written s ≡ true
  written = read_written text from s end read

  groups : Each (FewBy 500) (text_aggregates s)
  groups = statement_by 500 read.is_one (few_tokens read.front read.bounded)

  parts : FewParts 500 s
  parts = statement_parts 500 read.is_one (few_tokens read.front read.bounded)

  few_levels : tree_levels tree ≤ 504
  few_levels =
      let read_levels = read_shallow text from s end read in
      let more = resolved_shallow db user ranges s tree e in
      omega (arith, read_levels, more)

  pub read_spelled : (checked most_tree_levels).Fits tree
  read_spelled =
      let few = few_levels in
      tree_fits most_tree_levels tree (omega (arith, few)) (resolved_spelled db d user named ranges s written groups parts tree e) (resolved_short db d user named ranges s written groups parts tree e)

  pub put_in_spelled : (who : Who) → (checked most_tree_levels).Fits (ruled_tree db (expanded_tree db who tree))
  put_in_spelled who =
      let fit = resolved_fits db user ranges s tree d named written e in
      let spelled = all_spelled db d who tree (resolved_spelled db d user named ranges s written groups parts tree e) in
      let few = few_levels in
      let more = ruled_tree_low db d who user tree fit in
      tree_fits most_tree_levels (ruled_tree db (expanded_tree db who tree)) (omega (arith, few, more)) spelled
      (put_short db d who user tree fit (resolved_few db d user named ranges s written groups parts tree e) spelled)

pub grammatical_spelled : (reading : Reading) → IsGrammatical reading → (db : Db) → IsDatabase db → (user : List ℕ) → is_name user ≡ true → (ranges : Ranges) (text : List ℕ) (from : ℕ) (s : Statement) (end : ℕ)
    → reading text from ≡ Read s end → (tree : Checked) → resolved db user ranges s ≡ Ok tree → (checked most_tree_levels).Fits tree
grammatical_spelled reading lawful db d user named ranges text from s end is = read_spelled db d user named ranges text from s end (subst (IsNext text from) is (lawful text from))

pub grammatical_put_in : (reading : Reading) → IsGrammatical reading → (db : Db) → IsDatabase db → (user : List ℕ) → is_name user ≡ true → (ranges : Ranges) (text : List ℕ) (from : ℕ) (s : Statement) (end : ℕ)
    → reading text from ≡ Read s end → (tree : Checked) → resolved db user ranges s ≡ Ok tree → (who : Who) → (checked most_tree_levels).Fits (ruled_tree db (expanded_tree db who tree))
grammatical_put_in reading lawful db d user named ranges text from s end is = put_in_spelled db d user named ranges text from s end (subst (IsNext text from) is (lawful text from))
