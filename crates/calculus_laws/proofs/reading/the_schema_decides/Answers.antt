use Rattle.calculus_laws.proofs.SchemaDecides.{query_reads_same, update_reads_same, level_same, query_permitted_same, update_permitted_same}
use Rattle.calculus_laws.proofs.reading.the_schema_decides.Goals as goal

pub returns : goal.returns
returns c = record {
  reads = query_reads_same;
  update_reading = update_reads_same;
  levels = level_same;
  query = query_permitted_same;
  update = update_permitted_same;
}
