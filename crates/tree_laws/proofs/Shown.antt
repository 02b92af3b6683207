-- What texts tell of rows, in the words of members.
use Rattle.std.proofs.Common.{◌≡◌, ℕ, true, List, Contains}
use Rattle.calculus.specs.declared.query.RelKey.{RelKey}
use Rattle.calculus.specs.declared.query.Query.{Query}
use Rattle.calculus.specs.Database.{Db}
use Rattle.calculus.specs.IsDatabase.{IsDatabase}
use Rattle.calculus.specs.Rows.{Row}
use Rattle.calculus.specs.Term.{Env, no_aggs}
use Rattle.calculus.specs.Assignments.{choices}
use Rattle.calculus.specs.QueryParts.{vars_of}
use Rattle.calculus.specs.Used.{used_in_query}
use Rattle.calculus.specs.VariableRows.{rows_of}
use Rattle.calculus.specs.Who.{Who}
use Rattle.calculus_laws.proofs.Members.{choices-Chosen, Chosen-choices}
use Rattle.calculus_laws.proofs.Asked.{In-Contains, Contains-In}
use Rattle.view_text.specs.declared.expansion.Expansion.{Expansion}
use Rattle.view_text.specs.Expansions.{used_expansion}
use Rattle.view_text.specs.Scoped.{is_scoped}
use Rattle.view_text.specs.ExpansionOf.{expansion_of}
use Rattle.view_text.specs.Expanded.{expanded}
use Rattle.tree_laws.specs.Denoting.{HasRow, DenotesOf}
use Rattle.tree_laws.proofs.Joint.{kept_lists, all_hold, Denotes}
use Rattle.tree_laws.proofs.Denoted.{all_denoted}
use Rattle.tree_laws.proofs.Sound.{no_views, each_kept_at, used_sound, all_sound}

shown : (db : Db) (rows : List Row) (expansion : Expansion) → Denotes db rows expansion → DenotesOf db rows expansion
shown db rows expansion denotes = record { one_of_them = to; each_of_them = from }
  where
    to : (e : Env) → Contains (choices (kept_lists db expansion.vars)) e → all_hold no_aggs expansion.conditions e ≡ true → (row : Row) × Contains rows row × HasRow db expansion row e
    to e chosen holding =
        let (row, inside, values) = denotes.to e (choices-Chosen (kept_lists db expansion.vars) e (Contains-In (choices (kept_lists db expansion.vars)) e chosen)) holding in
        (row, In-Contains rows row inside, record { chosen = chosen; holding = holding; values = values })

    from : (row : Row) → Contains rows row → (e : Env) × HasRow db expansion row e
    from row inside =
        let (e, chosen, holding, values) = denotes.from row (Contains-In rows row inside) in
        (e, record { chosen = In-Contains (choices (kept_lists db expansion.vars)) e (Chosen-choices (kept_lists db expansion.vars) e chosen); holding = holding; values = values })

pub expansion_denotes : (db : Db) (who : Who) (key : RelKey) (attrs : List ℕ) → DenotesOf db (rows_of db who key attrs) (expansion_of db who key attrs)
expansion_denotes db who key attrs = shown db (rows_of db who key attrs) (expansion_of db who key attrs) (all_denoted db who key attrs)

pub expansion_kept : (db : Db) → IsDatabase db → (who : Who) (key : RelKey) (attrs : List ℕ) → no_views db (expansion_of db who key attrs).vars ≡ true
expansion_kept db d who key attrs = (all_sound db who d key attrs).kept

pub expansion_scoped : (db : Db) (who : Who) (key : RelKey) (attrs : List ℕ) → is_scoped (expansion_of db who key attrs) ≡ true
expansion_scoped db who key attrs = (all_denoted db who key attrs).scoped

pub query_kept : (db : Db) → IsDatabase db → (who : Who) (q : Query) → no_views db (vars_of (expanded db who q)) ≡ true
unfolding expanded
query_kept db d who q =
    each_kept_at db (λ v key. used_expansion (expansion_of db who) key (used_in_query v q)) (λ v key. used_sound db (expansion_of db who) (all_sound db who d) key (used_in_query v q)) 0 (vars_of q)
