use Rattle.std.proofs.Common.{◌≡◌, sym, ap, rules, ◌+◌, Err, ◌∙◌, length, arith, length-append, ◌∷◌, []}
use Rattle.copy_util.proofs.FileRead.{all_read, one_more_row, row_is_bad}
use Rattle.copy_util.proofs.rows_read.read_rows.Goals as goal

pub records-preserved : goal.records-preserved
records-preserved c = record {
  so_far = one_more_row c.args.kinds.now c.args.columns.now _ c.records.rows.items c.push.new.self.items c.records.rest.now c.in-Some.others.now c.split_at.result.1.now
      c.in-Some._first.now c.in-Some-2.row c.in-Some-2.behind c.saturating_sub.result c.in-Some.ensures.cases.0 c.records.invariant.so_far (sym c.in-Some-2.is ∙ c.in_ok-row.ensures)
      c.in_ok-push-in-Some-2.ensures.items c.saturating_sub.ensures c.split_at.ensures.back;
  short = omega (
    arith,
    c.records.invariant.short,
    c.split_at.ensures.back_len,
    ap length c.in-Some.ensures.cases.0,
    ap length c.in_ok-push-in-Some-2.ensures.items,
    length-append c.records.rows.items (c.in-Some-2.row ∷ []),
  );
}

pub returns-in-None : goal.returns-in-None
returns-in-None c =
    row_is_bad c.args.kinds.now c.args.columns.now _ c.records.rows.items c.records.rest.now c.in-Some.others.now c.in-Some._first.now c.in-Some.ensures.cases.0
    c.records.invariant.so_far (sym c.in-None.is ∙ c.in_ok-row.ensures) ∙ (let same : length c.records.rows.items ≡ c.len.result = search (rules, c.len.ensures) in ap (λ n. Err (n + 1)) same)

pub returns : goal.returns
returns c = all_read c.args.kinds.now c.args.columns.now _ c.records.rows.items c.records.rest.now c.records.invariant.so_far c.in_default.ensures.cases
