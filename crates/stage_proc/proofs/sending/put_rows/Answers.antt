use Rattle.std.proofs.Common.{◌≡◌, ◌∙◌, ◌++◌, refl, sym, ap, subst, List}
use Rattle.calculus.specs.Rows.{Row}
use Rattle.frame_codec.specs.Messages.{message_frames}
use Rattle.quel_meaning.proofs.Each.{Each}
use Rattle.quel_tree.specs.Values.{row as row_codec}
use Rattle.stage_proc.specs.Sending.{rows_frames}
use Rattle.stage_proc.proofs.Framed.{first_of_rest, next_put, none_left}
use Rattle.stage_proc.proofs.sending.put_rows.Goals as goal

pub rows-init : goal.rows-init
rows-init c =
    let same : c.into_iter-row-iterator.result.rest.items ≡ c.args.rows = c.into_iter-row-iterator.ensures.into_iter_gives.0 ∙ c.into_items-row-items.ensures in
    record {
      fit = subst (λ (rs : List Row). Each (λ (r : Row). row_codec.Fits r) rs) (sym same) c.requires;
      sent = ap (λ (rs : List Row). c.args.out.now ++ rows_frames rs) same;
    }

pub put_row-requires : goal.put_row-requires
put_row-requires c = (first_of_rest (λ (r : Row). row_codec.Fits r) c.in-Some.row c.next.new.self.rest.items c.rows.row-iterator.rest.items c.in-Some.ensures.steps.0 c.rows.invariant.fit).0

pub rows-preserved : goal.rows-preserved
rows-preserved c = record {
  fit = (first_of_rest (λ (r : Row). row_codec.Fits r) c.in-Some.row c.next.new.self.rest.items c.rows.row-iterator.rest.items c.in-Some.ensures.steps.0 c.rows.invariant.fit).1;
  sent = next_put (λ (r : Row). message_frames 4 (row_codec.write r)) rows_frames (λ r rs. refl) c.rows.out c.put_row.new.out _ c.in-Some.row c.next.new.self.rest.items c.rows.row-iterator.rest.items
      c.in_ok-put_row.ensures c.in-Some.ensures.steps.0 c.rows.invariant.sent;
}

pub returns : goal.returns
returns c =
    let rest = c.rows.row-iterator.rest in
    none_left rows_frames refl c.rows.out _ rest.items (sym rest.ok.0 ∙ c.in-None.ensures.steps.0) c.rows.invariant.sent
