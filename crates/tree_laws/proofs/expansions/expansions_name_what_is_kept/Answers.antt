use Rattle.tree_laws.proofs.Shown.{expansion_kept, expansion_scoped, query_kept}
use Rattle.tree_laws.proofs.expansions.expansions_name_what_is_kept.Goals as goal

pub returns : goal.returns
returns c = record { kept = expansion_kept; scoped = expansion_scoped; query = query_kept }
