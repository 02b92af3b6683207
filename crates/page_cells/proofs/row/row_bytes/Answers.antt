use Rattle.std.proofs.Common.{◌+◌, ◌++◌, ℕ, ◌<◌, length, take, drop, get_or, sym, subst, ap, ◌∙◌, arith, add-one, IsTrue}
use Rattle.std.proofs.lemmas.List.{take_all}
use Rattle.calculus.specs.declared.value.Domain.TheVariants.{I1}
use Rattle.calculus.specs.declared.value.Value.{Value}
use Rattle.calculus.specs.Value.{fits}
use Rattle.page_cells.specs.RowBytes.{width, widths, row_bytes, row_fits, value_bytes}
use Rattle.page_cells.proofs.Spelling.{same_length, fits_at, widths_more, widths_bound, row_more, length_row_bytes, spelled_more}
use Rattle.page_cells.proofs.row.row_bytes.Goals as goal

pub bounds-values-i : goal.bounds-values-i
bounds-values-i c = omega (arith, ap length c.values-values.ensures, same_length c.args.row.now c.args.domains.now c.requires.fits)

pub offset_bounds-values-i : goal.offset_bounds-values-i
offset_bounds-values-i c =
    let lt : c.values.i < length c.values-values.result.now = omega (arith, ap length c.values-values.ensures, same_length c.args.row.now c.args.domains.now c.requires.fits) in
    omega arith

pub put_value_at-requires-clause-fits : goal.put_value_at-requires-clause-fits
put_value_at-requires-clause-fits c =
    subst (λ (v : Value). IsTrue (fits v (get_or c.args.domains.now c.values.i I1)))
    (sym (c.index-values-i.is ∙ ap (λ vs. get_or vs c.values.i c.index-values-i.result) c.values-values.ensures))
    (fits_at c.args.row.now c.args.domains.now c.values.i c.index-values-i.result I1 c.requires.fits c.values-test.true)

pub put_value_at-requires-clause-room : goal.put_value_at-requires-clause-room
put_value_at-requires-clause-room c = omega (arith, widths_bound c.args.domains.now c.values.i I1 c.values-test.true, c.values.auto.out, c.values.invariant.count, c.requires.room)

pub overflow_add-at : goal.overflow_add-at
overflow_add-at c = let fact = widths_bound c.args.domains.now c.values.i I1 c.values-test.true in omega (arith, fact, c.width-at.ensures, c.values.invariant.count, c.requires.room)

pub values-preserved : goal.values-preserved
values-preserved c =
    let ds = c.args.domains.now in
    let lt = c.values-test.true in
    let vs = c.values-values.result.now in
    let long : c.values.i < length vs = omega (arith, ap length c.values-values.ensures, same_length c.args.row.now ds c.requires.fits) in
    let fit : IsTrue (row_fits vs ds) = subst (λ (r : _). IsTrue (row_fits r ds)) (sym c.values-values.ensures) c.requires.fits in
    let before = row_bytes (take c.values.i vs) (take c.values.i ds) in
    record {
      count = omega (arith, widths_more ds c.values.i I1 lt, ap (λ (m : ℕ). widths (take m ds)) (add-one c.values.i), c.width-at.ensures, c.values.invariant.count);
      bytes =
          c.put_value_at.ensures
          ∙ spelled_more c.values.out c.args.out.now before (value_bytes c.index-values-i.result (width (get_or ds c.values.i I1))) c.values.at (width (get_or ds c.values.i I1)) c.values.invariant.bytes
          (length_row_bytes vs ds c.values.i fit ∙ sym c.values.invariant.count)
          ∙ (λ i. (before ++ value_bytes (c.index-values-i.is i) (width (get_or ds c.values.i I1))) ++ drop (c.values.at + sym c.width-at.ensures i) c.args.out.now)
          ∙ ap (λ s. s ++ drop (c.values.at + c.width-at.result) c.args.out.now)
          (sym (row_more vs ds c.values.i c.index-values-i.result I1 long lt) ∙ ap (λ (m : ℕ). row_bytes (take m vs) (take m ds)) (sym (add-one c.values.i)));
    }

pub returns-clause-bytes : goal.returns-clause-bytes
returns-clause-bytes c =
    let ds = c.args.domains.now in
    let all = take_all c.values.i ds (omega arith) in
    let every = take_all c.values.i c.values-values.result.now (omega (arith, ap length c.values-values.ensures, same_length c.args.row.now ds c.requires.fits)) in
    c.values.invariant.bytes
    ∙ (λ i. row_bytes ((every ∙ c.values-values.ensures) i) (all i) ++ drop ((c.values.invariant.count ∙ ap widths all) i) c.args.out.now)
