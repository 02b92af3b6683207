use Rattle.std.proofs.Common.{◌++◌, [], ◌∷◌, length, take, arith, sym, ap, subst, ◌∙◌, not, refl, rules}
use Rattle.std.proofs.lemmas.List.{take_more}
use Rattle.page_chain.specs.Filled.{IsFilled}
use Rattle.page_chain.proofs.Coming.{filled_step, filled_none}
use Rattle.page_chain.proofs.Room.{page_as_was, some_came}
use Rattle.page_chain.specs.Lying.{IsShort}
use Rattle.page_chain.proofs.filling.fill.Goals as goal

pub rows-preserved : goal.rows-preserved
rows-preserved c = record {
  page = c.put_row.ensures.page;
  filled =
      subst (λ l. IsFilled c.args.page.now l c.put_row.new.p)
      (ap (λ x. take c.rows.count c.args.rows.now ++ x ∷ []) (c.items.ensures ∙ c.index-rows-count.is) ∙ sym (take_more c.args.rows.now c.rows.count c.index-rows-count.result (omega arith)))
      (filled_step c.args.page.now c.rows.page c.put_row.new.p (take c.rows.count c.args.rows.now) (length c.items.result.now) c.put_row.result c.items.result.now
      (c.is_none.ensures ∙ ap not c.if-is_none.false) c.rows.invariant.filled c.put_row.ensures.line c.put_row.ensures.slots);
  still = λ e. absurd (omega arith);
  next = c.put_row.ensures.next ∙ c.rows.invariant.next;
}

pub rows-init : goal.rows-init
rows-init c = record {
  page = c.requires.page;
  filled = filled_none c.args.page.now;
  still = λ e. refl;
  next = refl;
}

pub returns-then-is_none-clause-filled : goal.returns-then-is_none-clause-filled
returns-then-is_none-clause-filled c =
    subst (λ p. IsFilled c.args.page.now (take c.rows.count c.args.rows.now) p)
    (sym (page_as_was c.put_row.result c.rows.page c.put_row.new.p (c.is_none.ensures ∙ ap not c.if-is_none.true) c.put_row.ensures.none)) c.rows.invariant.filled

pub returns-then-is_none-clause-some : goal.returns-then-is_none-clause-some
returns-then-is_none-clause-some c = λ fresh some.
    let short : IsShort c.items.result.now = search rules in
    some_came c.args.page.now c.rows.page c.rows.count c.put_row.result (length c.items.result.now) (c.is_none.ensures ∙ ap not c.if-is_none.true) c.rows.invariant.still fresh short.most c.put_row.ensures.line
