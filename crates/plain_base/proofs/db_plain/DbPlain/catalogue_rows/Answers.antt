use Rattle.std.proofs.Common.{sym, ◌∙◌}
use Rattle.plain_base.proofs.RowsAt.{rows_of_first, rows_of_second, rows_of_none}
use Rattle.plain_base.proofs.db_plain.DbPlain.catalogue_rows.Goals as goal

pub returns-then-is_relation_key : goal.returns-then-is_relation_key
returns-then-is_relation_key c n m =
    let named = sym c.is_relation_key.ensures ∙ c.if-is_relation_key.true in
    c.kept_rows.ensures _ (c.requires.first named) ∙ sym (rows_of_first _ _ n m named)

pub returns-then-is_attribute_key : goal.returns-then-is_attribute_key
returns-then-is_attribute_key c n m =
    let other = sym c.is_relation_key.ensures ∙ c.if-is_relation_key.false in
    let named = sym c.is_attribute_key.ensures ∙ c.if-is_attribute_key.true in
    c.kept_rows-then-is_attribute_key.ensures _ (c.requires.second named) ∙ sym (rows_of_second _ _ n m other named)

pub returns : goal.returns
returns c n m =
    sym (rows_of_none _ _ n m (sym c.is_relation_key.ensures ∙ c.if-is_relation_key.false) (sym c.is_attribute_key.ensures ∙ c.if-is_attribute_key.false))
