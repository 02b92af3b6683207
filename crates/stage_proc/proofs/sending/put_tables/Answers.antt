use Rattle.std.proofs.Common.{◌≡◌, ◌∙◌, ◌++◌, refl, sym, ap, subst, map, List}
use Rattle.calculus.specs.declared.reply.Table.{Table as Printed}
use Rattle.quel_meaning.proofs.Each.{Each}
use Rattle.quel_network.specs.TableFits.{TableStands}
use Rattle.quel_network.specs.Trees.{sent_table}
use Rattle.stage_proc.specs.Sending.{table_frames, tables_frames}
use Rattle.stage_proc.proofs.Framed.{first_table, next_put, none_left}
use Rattle.stage_proc.proofs.sending.put_tables.Goals as goal

pub tables-init : goal.tables-init
tables-init c =
    let same : c.into_iter-table-iterator.result.rest.items ≡ c.args.tables = c.into_iter-table-iterator.ensures.into_iter_gives.0 ∙ c.into_items-table-items.ensures in
    record {
      stand = subst (λ (ts : List Printed). Each TableStands (map sent_table ts)) (sym same) c.requires;
      sent = ap (λ (ts : List Printed). c.args.out.now ++ tables_frames ts) same;
    }

pub put_table-requires : goal.put_table-requires
put_table-requires c = (first_table c.in-Some.table c.next.new.self.rest.items c.tables.table-iterator.rest.items c.in-Some.ensures.steps.0 c.tables.invariant.stand).0

pub tables-preserved : goal.tables-preserved
tables-preserved c = record {
  stand = (first_table c.in-Some.table c.next.new.self.rest.items c.tables.table-iterator.rest.items c.in-Some.ensures.steps.0 c.tables.invariant.stand).1;
  sent = next_put table_frames tables_frames (λ t ts. refl) c.tables.out c.put_table.new.out _ c.in-Some.table c.next.new.self.rest.items c.tables.table-iterator.rest.items
      c.in_ok-put_table.ensures c.in-Some.ensures.steps.0 c.tables.invariant.sent;
}

pub returns : goal.returns
returns c =
    let rest = c.tables.table-iterator.rest in
    none_left tables_frames refl c.tables.out _ rest.items (sym rest.ok.0 ∙ c.in-None.ensures.steps.0) c.tables.invariant.sent
