-- Worked values: what statements do for users, where the tree of each is given, computed.
use Rattle.std.proofs.Common.{refl}
use Rattle.std.specs.Prelude.{◌≡◌, ℕ, pos, true, List, [], ◌∷◌, Some, None, codes, Ok, Err}
use Rattle.calculus.specs.declared.value.Value.TheVariants as value
use Rattle.calculus.specs.declared.value.Domain.TheVariants.{I2, C}
use Rattle.calculus.specs.declared.value.Kind.TheVariants.{Of, Wide}
use Rattle.calculus.specs.declared.operator.ArithOp.TheVariants.{Sub, Div}
use Rattle.calculus.specs.declared.operator.CmpOp.TheVariants.{Gt}
use Rattle.calculus.specs.declared.query.QTerm.{Int, Attr}
use Rattle.calculus.specs.declared.query.QQual.{True, Cmp}
use Rattle.calculus.specs.declared.query.Target.{Target}
use Rattle.calculus.specs.declared.schema.Permit.{Permit}
use Rattle.calculus.specs.declared.request.Checked.{Checked}
use Rattle.calculus.specs.declared.request.Checked.TheVariants.{Answer, Update}
use Rattle.calculus.specs.declared.request.UpdateOp.TheVariants.{Replace, Delete}
use Rattle.calculus.specs.declared.reply.Reply.TheVariants.{Nothing, Done, Refused, Tables}
use Rattle.calculus.specs.declared.statement.Statement.TheVariants.{Range, Help}
use Rattle.calculus.specs.Aggregate.{aggregates}
use Rattle.calculus.specs.Answer.{answer, lacks}
use Rattle.calculus.specs.Assignments.{assigned, update_assigned}
use Rattle.calculus.specs.Catalogue.{catalogue_at}
use Rattle.calculus.specs.Change.{laid}
use Rattle.calculus.specs.Database.{Db}
use Rattle.calculus.specs.Finding.{found}
use Rattle.calculus.specs.Pairs.{pairs, ruled}
use Rattle.calculus.specs.Permission.{readable, query_permitted, update_permitted}
use Rattle.calculus.specs.QueryParts.{term_aggregates, qual_aggregates}
use Rattle.calculus.specs.Replacement.{updated, after, contended}
use Rattle.calculus.specs.Rights.{may, covers, permitted}
use Rattle.calculus.specs.Stored.{range_at, info_at}
use Rattle.calculus.specs.Targets.{rows_given, some_lacks}
use Rattle.calculus.specs.Term.{val, holds, attribute_value, operated_values, compared_values}
use Rattle.calculus.specs.Tree.{query, operation}
use Rattle.calculus.specs.Who.{asker_of}
use Rattle.calculus.specs.VariableRows.{rows_of}
use Rattle.quel_meaning.proofs.Small.{ann, key, attr, target, column, heap, one_relation}
use Rattle.quel_meaning.specs.Copying.{refusal}
use Rattle.quel_meaning.specs.Meaning.{meaning_by, checked_tree_by, checked_permitted, ruled_tree, tree_meaning}
use Rattle.quel_meaning.specs.Ranges.{declared}
use Rattle.quel_meaning.specs.State.{Outcome}
use Rattle.quel_meaning.specs.Tables.{table_of, some_query_lacks, sorted, rows_order}

-- what a statement of this tree does for the user
abbrev outcome : Db → List ℕ → Checked → Outcome
outcome db user tree = meaning_by (λ db user ranges s. Ok tree) (record { db = db; shelf = []; ranges = [] }) (asker_of user) (Help None)

-- a permit of bob's to retrieve one attribute
abbrev permit : ℕ → ℕ → Permit
permit number place = record { number = number; ops = 1; attrs = place ∷ []; user = Some (codes "bob"); qual = True }

-- emp (name, sal) holds bo with 9; one permit for bob on each attribute
abbrev permits_db : Db
permits_db = record (one_relation (heap (codes "emp") (attr (codes "name") (Of (C 6)) ∷ attr (codes "sal") (Of I2) ∷ []) ((value.Text (codes "bo") ∷ value.Int (pos 9) ∷ []) ∷ []))) {
  permits = (key (codes "emp"), permit 1 0) ∷ (key (codes "emp"), permit 2 1) ∷ [];
}

-- retrieve these attributes of e
abbrev retrieve : List Target → Checked
retrieve targets = Answer ((record { query = query (key (codes "emp") ∷ []) targets True; sort = [] }) ∷ [])

-- e.name
abbrev name : Target
name = target (codes "name") (Of (C 6)) 0

-- e.sal
abbrev sal : Target
sal = target (codes "sal") (Of I2) 1

-- each permit is for one attribute, and none is for both
no_permit_for_both : (outcome permits_db (codes "bob") (retrieve (name ∷ sal ∷ []))).reply ≡ Refused (refusal 23)
unfolding meaning_by checked_tree_by checked_permitted query_permitted readable permitted covers term_aggregates qual_aggregates range_at info_at catalogue_at
no_permit_for_both = refl

one_permit_is_enough : (outcome permits_db (codes "bob") (retrieve (name ∷ []))).reply
    ≡ Tables ((record { columns = column (codes "name") (Of (C 6)) ∷ []; rows = (value.Text (codes "bo") ∷ []) ∷ [] }) ∷ [])
unfolding meaning_by checked_tree_by checked_permitted query_permitted readable permitted covers may term_aggregates qual_aggregates range_at info_at catalogue_at ruled_tree tree_meaning table_of some_query_lacks sorted rows_order answer lacks rows_given some_lacks assigned rows_of aggregates val holds attribute_value
one_permit_is_enough = refl

-- delete e
no_permit_to_delete : outcome permits_db (codes "bob") (Update (record { op = Delete; rel = key (codes "emp"); old = 0; places = []; query = query (key (codes "emp") ∷ []) [] True; checks = []; new_cut = True }))
    ≡ record { state = record { db = permits_db; shelf = []; ranges = [] }; reply = Refused (refusal 23) }
unfolding meaning_by checked_tree_by checked_permitted update_permitted readable permitted covers term_aggregates qual_aggregates range_at info_at catalogue_at
no_permit_to_delete = refl

-- w (sal) holds 12 and 20, each above 10
abbrev rules_db : Db
rules_db = record (one_relation (heap (codes "w") (attr (codes "sal") (Of I2) ∷ []) ((value.Int (pos 12) ∷ []) ∷ (value.Int (pos 20) ∷ []) ∷ []))) {
  rules = (key (codes "w"), record { number = 1; qual = Cmp Gt (Attr 0 0) (Int (pos 10)) }) ∷ [];
}

-- replace e (sal = e.sal - 5): the row that would break the rule stays
rules_are_kept : outcome rules_db ann (Update (record {
  op = Replace;
  rel = key (codes "w");
  old = 0;
  places = 0 ∷ [];
  query = query (key (codes "w") ∷ []) ((record { name = codes "sal"; kind = Wide; term = operation Sub (Attr 0 0) (Int (pos 5)) }) ∷ []) True;
  checks = [];
  new_cut = True;
}))
    ≡ record {
      state = record {
        db = record rules_db { relations = heap (codes "w") (attr (codes "sal") (Of I2) ∷ []) ((value.Int (pos 12) ∷ []) ∷ (value.Int (pos 15) ∷ []) ∷ []) ∷ [] };
        shelf = [];
        ranges = [];
      };
      reply = Done;
    }
unfolding meaning_by checked_tree_by checked_permitted update_permitted readable permitted covers may term_aggregates qual_aggregates range_at info_at catalogue_at ruled_tree tree_meaning updated pairs ruled after contended update_assigned some_lacks rows_of aggregates val holds attribute_value operated_values compared_values laid
rules_are_kept = refl

-- retrieve (x = 10 / (e.sal - 20)): a row without a value refuses it, and nothing is printed
lacks_a_value : (outcome rules_db ann (Answer ((record {
  query = query (key (codes "w") ∷ []) ((record { name = codes "x"; kind = Wide; term = operation Div (Int (pos 10)) (operation Sub (Attr 0 0) (Int (pos 20))) }) ∷ []) True;
  sort = [];
}) ∷ []))).reply ≡ Refused (refusal 20)
unfolding meaning_by checked_tree_by checked_permitted query_permitted readable permitted covers may term_aggregates qual_aggregates range_at info_at catalogue_at ruled_tree tree_meaning table_of some_query_lacks sorted rows_order answer lacks rows_given some_lacks assigned rows_of aggregates val holds attribute_value operated_values
lacks_a_value = refl

-- retrieve (e.sal) sort by sal:d
falling : (outcome rules_db ann (Answer ((record { query = query (key (codes "w") ∷ []) (target (codes "sal") (Of I2) 0 ∷ []) True; sort = (record { column = 0; down = true }) ∷ [] }) ∷ []))).reply
    ≡ Tables ((record { columns = column (codes "sal") (Of I2) ∷ []; rows = (value.Int (pos 20) ∷ []) ∷ (value.Int (pos 12) ∷ []) ∷ [] }) ∷ [])
unfolding meaning_by checked_tree_by checked_permitted query_permitted readable permitted covers may term_aggregates qual_aggregates range_at info_at catalogue_at ruled_tree tree_meaning table_of some_query_lacks sorted rows_order answer lacks rows_given some_lacks assigned rows_of aggregates val holds attribute_value
falling = refl

-- range of e is emp, for bob, who has none of that name: it is ann's
ranges_over_anns : meaning_by (λ db user ranges s. Err 10) (record { db = permits_db; shelf = []; ranges = [] }) (asker_of (codes "bob")) (Range (codes "e") (codes "emp"))
    ≡ record { state = record { db = permits_db; shelf = []; ranges = (codes "e", key (codes "emp")) ∷ [] }; reply = Nothing }
unfolding meaning_by found range_at info_at catalogue_at declared
ranges_over_anns = refl
