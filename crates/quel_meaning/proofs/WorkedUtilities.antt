-- Worked values: what utilities do to small databases, computed.
use Rattle.std.proofs.Common.{refl}
use Rattle.std.specs.Prelude.{◌≡◌, pos, [], ◌∷◌, codes}
use Rattle.calculus.specs.declared.value.Value.TheVariants.{Int, Text}
use Rattle.calculus.specs.declared.value.Domain.TheVariants.{I2, C}
use Rattle.calculus.specs.declared.value.Kind.TheVariants.{Of}
use Rattle.calculus.specs.declared.operator.CmpOp.TheVariants.{Eq}
use Rattle.calculus.specs.declared.query.QTerm as term
use Rattle.calculus.specs.declared.query.QTerm.{QTerm}
use Rattle.calculus.specs.declared.query.QQual.{Cmp}
use Rattle.calculus.specs.declared.schema.Spec.TheVariants as spec
use Rattle.calculus.specs.declared.request.Checked.{Checked}
use Rattle.calculus.specs.declared.request.Checked.TheVariants.{Answer, Utility}
use Rattle.calculus.specs.declared.request.Utility.TheVariants as utility
use Rattle.calculus.specs.declared.reply.Reply.TheVariants.{Done, Tables}
use Rattle.calculus.specs.Aggregate.{aggregates}
use Rattle.calculus.specs.Answer.{answer, lacks}
use Rattle.calculus.specs.Assignments.{assigned}
use Rattle.calculus.specs.Catalogue.{catalogue_at}
use Rattle.calculus.specs.Change.{laid}
use Rattle.calculus.specs.Constant.{constant_text, unescaped}
use Rattle.calculus.specs.Pattern.{matches, items, fits_items}
use Rattle.calculus.specs.Rights.{may, covers}
use Rattle.calculus.specs.Stored.{range_at, info_at}
use Rattle.calculus.specs.Targets.{rows_given, some_lacks}
use Rattle.calculus.specs.Term.{val, holds, attribute_value, compared_values, matched_value}
use Rattle.calculus.specs.Tree.{query}
use Rattle.calculus.specs.VariableRows.{rows_of}
use Rattle.quel_meaning.proofs.Small.{key, attr, target, column, nothing, effects, replies}
use Rattle.quel_meaning.specs.Meaning.{tree_meaning, utility_effect}
use Rattle.quel_meaning.specs.Planned.{planned, plan_refusals, plan_change}
use Rattle.quel_meaning.specs.Tables.{table_of, some_query_lacks, sorted, rows_order}

-- retrieve (r.relid, r.relspec, r.relatts) where r.relatts = 1, with r over the catalogue of relations
abbrev of_width_one : Checked
of_width_one = Answer ((record {
  query = query (key (codes "relation") ∷ [])
      (target (codes "relid") (Of (C 12)) 0 ∷ target (codes "relspec") (Of (C 6)) 2 ∷ target (codes "relatts") (Of I2) 3 ∷ [])
      (Cmp Eq (term.Attr 0 3) (term.Int (pos 1)));
  sort = [];
}) ∷ [])

-- create p (a = i2), index on p is pi (a), the retrieve, destroy pi, modify p to isam, destroy p
made_and_destroyed : replies (effects nothing []
    (Utility (utility.Create (key (codes "p")) (attr (codes "a") (Of I2) ∷ []))
    ∷ Utility (utility.Index (key (codes "p")) (codes "pi") (0 ∷ []))
    ∷ of_width_one
    ∷ Utility (utility.Destroy (key (codes "pi") ∷ []))
    ∷ Utility (utility.Modify (key (codes "p")) spec.Isam [])
    ∷ Utility (utility.Destroy (key (codes "p") ∷ []))
    ∷ []))
    ≡ Done ∷ Done
    ∷ Tables ((record {
      columns = column (codes "relid") (Of (C 12)) ∷ column (codes "relspec") (Of (C 6)) ∷ column (codes "relatts") (Of I2) ∷ [];
      rows = (Text (codes "p") ∷ Text (codes "heap") ∷ Int (pos 1) ∷ []) ∷ (Text (codes "pi") ∷ Text (codes "index") ∷ Int (pos 1) ∷ []) ∷ [];
    }) ∷ [])
    ∷ Done ∷ Done ∷ Done ∷ []
unfolding tree_meaning utility_effect planned plan_refusals plan_change laid table_of some_query_lacks sorted rows_order answer lacks rows_given some_lacks assigned rows_of aggregates range_at info_at catalogue_at may covers val holds attribute_value compared_values matched_value constant_text unescaped matches items fits_items
made_and_destroyed = refl
