-- A fit tree means for the one who asks what it means unrestricted once texts are put in.
use Rattle.std.proofs.Common.{◌≡◌, refl, sym, ap, ◌∙◌, ℕ, Bool, true, false, ◌&&◌, ◌||◌, List, [], ◌∷◌, map}
use Rattle.std.specs.List.{list_all}
use Rattle.calculus.specs.declared.query.QTerm.{QTerm}
use Rattle.calculus.specs.declared.query.Target.{Target}
use Rattle.calculus.specs.declared.query.Query.{Query}
use Rattle.calculus.specs.declared.reply.Reply.TheVariants.{Refused, Tables}
use Rattle.calculus.specs.declared.request.Asked.{Asked}
use Rattle.calculus.specs.declared.request.Checked.{Checked}
use Rattle.calculus.specs.declared.request.Checked.TheVariants as checked
use Rattle.calculus.specs.declared.request.Update.{Update}
use Rattle.calculus.specs.declared.request.UpdateOp.{UpdateOp}
use Rattle.calculus.specs.declared.request.UpdateOp.TheVariants as op
use Rattle.calculus.specs.Database.{Db}
use Rattle.calculus.specs.IsDatabase.{IsDatabase}
use Rattle.calculus.specs.Pairs.{ruled}
use Rattle.calculus.specs.QueryParts.{targets_of}
use Rattle.calculus.specs.Who.{Who, Unrestricted}
use Rattle.quel_meaning.specs.Copying.{refusal}
use Rattle.quel_meaning.specs.Fit.{fits, is_fit_with_views, suits}
use Rattle.quel_meaning.specs.FitQueries.{kept_or_viewed, reads_fit, asked_fits}
use Rattle.quel_meaning.specs.KindsInQueries.{query_fits}
use Rattle.quel_meaning.specs.Meaning.{unchanged, numbered_effect, answer_reply, ruled_tree, tree_meaning}
use Rattle.fault_io.specs.Files.{Files}
use Rattle.quel_meaning.specs.SpelledTree.{tree_is_spelled}
use Rattle.quel_meaning.specs.Tables.{column_of, sorted, table_of, some_query_lacks}
use Rattle.view_text.specs.Replaced.{Substitution, replaced_target}
use Rattle.view_text.specs.Expansions.{substituted_from, query_expansions}
use Rattle.view_text.specs.ExpansionOf.{expansion_of}
use Rattle.view_text.specs.Expanded.{expanded_made, expanded, expanded_asked, expanded_tree}
use Rattle.tree_laws.specs.Nesting.{aggregates_nest_none}
use Rattle.tree_laws.proofs.Answering.{answer_put, lacks_put}
use Rattle.tree_laws.proofs.Queries.{targets_of-put}
use Rattle.tree_laws.proofs.Ruled.{ruled_put}
use Rattle.tree_laws.proofs.Scopes.{both_true}
use Rattle.tree_laws.proofs.Updating.{updated_put}
use Rattle.tree_laws.proofs.Nests.{IsSound, query_nests, update_sound}

-- ---- tables

columns_put : (made : QTerm → QTerm) (put : Substitution) (ts : List Target) → map column_of (map (replaced_target made put) ts) ≡ map column_of ts
columns_put made put [] = refl
columns_put made put (t ∷ ts) = ap (λ columns. column_of t ∷ columns) (columns_put made put ts)

columns_same : (db : Db) (who : Who) (q : Query) → map column_of (targets_of (expanded db who q)) ≡ map column_of (targets_of q)
unfolding expanded
columns_same db who q =
    let expansions = query_expansions (expansion_of db who) q in
    let made = expanded_made db who (substituted_from 0 expansions) in
    ap (map column_of) (targets_of-put made expansions q) ∙ columns_put made (substituted_from 0 expansions) (targets_of q)

-- the rules join before or after
pub tree_commutes : (db : Db) (who : Who) (tree : Checked) → expanded_tree db who (ruled_tree db tree) ≡ ruled_tree db (expanded_tree db who tree)
unfolding expanded_tree ruled_tree
tree_commutes db who (checked.Answer asked) = refl
tree_commutes db who (checked.Update u) = ap checked.Update (ruled_put db who u)
tree_commutes db who (checked.Utility work) = refl

module _ (db : Db) (d : IsDatabase db) (who : Who) where
  table_put : (a : Asked) → aggregates_nest_none a.query ≡ true → table_of db who a ≡ table_of db Unrestricted (expanded_asked db who a)
  unfolding table_of
  table_put a nest = λ i. record { columns = sym (columns_same db who a.query) i; rows = sorted a.sort (answer_put db d who a.query nest i) }

  -- no query nests aggregates
  abbrev all_nest : List Asked → Bool
  all_nest asked = list_all (λ a. aggregates_nest_none a.query) asked

  tables_put : (asked : List Asked) → all_nest asked ≡ true → map (table_of db who) asked ≡ map (table_of db Unrestricted) (map (expanded_asked db who) asked)
  tables_put [] h = refl
  tables_put (a ∷ asked) h = let parts = both_true (aggregates_nest_none a.query) (all_nest asked) h in λ i. table_put a parts.0 i ∷ tables_put asked parts.1 i

  some_put : (asked : List Asked) → all_nest asked ≡ true → some_query_lacks db who asked ≡ some_query_lacks db Unrestricted (map (expanded_asked db who) asked)
  unfolding some_query_lacks
  some_put [] h = refl
  some_put (a ∷ asked) h = let parts = both_true (aggregates_nest_none a.query) (all_nest asked) h in λ i. lacks_put db d who a.query parts.0 i || some_put asked parts.1 i

  reply_put : (asked : List Asked) → all_nest asked ≡ true → answer_reply db who asked ≡ answer_reply db Unrestricted (map (expanded_asked db who) asked)
  reply_put asked h = λ i. elim (some_put asked h i) [ true ↦ Refused (refusal 20) | false ↦ Tables (tables_put asked h i) ]

  asked_nest : (asked : List Asked) → list_all (asked_fits (kept_or_viewed db) db) asked ≡ true → all_nest asked ≡ true
  unfolding asked_fits
  asked_nest [] h = refl
  asked_nest (a ∷ asked) h =
      let parts = both_true (asked_fits (kept_or_viewed db) db a) (list_all (asked_fits (kept_or_viewed db) db) asked) h in
      let reads = both_true (reads_fit (kept_or_viewed db) db a.query) _ parts.0 in
      let kinds = both_true (query_fits db a.query) _ reads.1 in
      λ i. query_nests (kept_or_viewed db) db a.query reads.0 kinds.0 i && asked_nest asked parts.1 i

  -- ---- trees

  suiting : (user : List ℕ) (tree : Checked) → is_fit_with_views db user tree ≡ true → suits (kept_or_viewed db) db user tree ≡ true
  unfolding fits
  suiting user tree h = (both_true (tree_is_spelled tree) (suits (kept_or_viewed db) db user tree) h).1

  suited : (shelf : Files) (user : List ℕ) (tree : Checked) → suits (kept_or_viewed db) db user tree ≡ true → tree_meaning db shelf who user tree ≡ tree_meaning db shelf Unrestricted user (expanded_tree db who tree)
  unfolding suits tree_meaning expanded_tree
  suited shelf user (checked.Answer asked) h = ap (unchanged db shelf) (reply_put asked (asked_nest asked h))
  suited shelf user (checked.Update u) h = let sound = update_sound (kept_or_viewed db) db u h in ap (numbered_effect db shelf) (updated_put db d who u sound.nests sound.over)
  suited shelf user (checked.Utility work) h = refl

  pub means_same : (shelf : Files) (user : List ℕ) (tree : Checked) → is_fit_with_views db user tree ≡ true → tree_meaning db shelf who user tree ≡ tree_meaning db shelf Unrestricted user (expanded_tree db who tree)
  means_same shelf user tree h = suited shelf user tree (suiting user tree h)

  -- an update with the rules is over what it was over
  ruled_op : (u : Update) (o : UpdateOp) → IsSound db (record u { op = o }) → IsSound db (ruled db (record u { op = o }))
  unfolding ruled
  ruled_op u op.Append sound = record { nests = sound.nests; over = sound.over }
  ruled_op u op.Replace sound = record { nests = sound.nests; over = sound.over }
  ruled_op u op.Delete sound = record { nests = sound.nests; over = sound.over }
  ruled_op u op.Into sound = sound

  ruled_suited : (shelf : Files) (user : List ℕ) (tree : Checked) → suits (kept_or_viewed db) db user tree ≡ true
      → tree_meaning db shelf who user (ruled_tree db tree) ≡ tree_meaning db shelf Unrestricted user (expanded_tree db who (ruled_tree db tree))
  unfolding suits tree_meaning expanded_tree ruled_tree
  ruled_suited shelf user (checked.Answer asked) h = ap (unchanged db shelf) (reply_put asked (asked_nest asked h))
  ruled_suited shelf user (checked.Update u) h =
      let sound = ruled_op u u.op (update_sound (kept_or_viewed db) db u h) in
      ap (numbered_effect db shelf) (updated_put db d who (ruled db u) sound.nests sound.over)
  ruled_suited shelf user (checked.Utility work) h = refl

  pub ruled_means_same : (shelf : Files) (user : List ℕ) (tree : Checked) → is_fit_with_views db user tree ≡ true
      → tree_meaning db shelf who user (ruled_tree db tree) ≡ tree_meaning db shelf Unrestricted user (ruled_tree db (expanded_tree db who tree))
  ruled_means_same shelf user tree h = ruled_suited shelf user tree (suiting user tree h) ∙ ap (tree_meaning db shelf Unrestricted user) (tree_commutes db who tree)
