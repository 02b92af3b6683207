-- The language of this program keeps the laws of the network's languages.
use Rattle.network_meaning.specs.Laws.{Laws}
use Rattle.quel_network.specs.Quel.{quel}
use Rattle.quel_network.specs.Sorts.{User}
use Rattle.quel_network.specs.SessionLaws.{batch_law, batch_list_law, batch_places_law, script_law, script_list_law, script_places_law}
use Rattle.quel_network.specs.EndLaws.{ends_law}
use Rattle.quel_network.specs.ShortLaws.{short_law}
use Rattle.quel_network.specs.SpellingLaws.{text_spelled_law, tree_spelled_law, change_spelled_law, outcome_spelled_law, objection_spelled_law, syntax_spelled_law, line_spelled_law, done_spelled_law, end_spelled_law, quit_spelled_law}
use Rattle.quel_network.specs.TableLaws.{heads_law, rows_law, tables_spelled_law}

-- all that the network asks of a language, of that of each user
pub quel_laws : (user : User) → Laws (quel user)
unfolding quel
quel_laws user = record {
  batch = batch_law user;
  script = script_law user;
  batch_list = batch_list_law user;
  script_list = script_list_law user;
  script_ends = ends_law user;
  batch_places = batch_places_law user;
  script_places = script_places_law user;
  heads = heads_law user;
  rows = rows_law user;
  text_spelled = λ m script shelf t e. text_spelled_law user t;
  tree_spelled = tree_spelled_law user;
  change_spelled = change_spelled_law user;
  tables_spelled = tables_spelled_law user;
  outcome_spelled = outcome_spelled_law user;
  objection_spelled = objection_spelled_law user;
  syntax_spelled = syntax_spelled_law user;
  line_spelled = line_spelled_law user;
  done_spelled = done_spelled_law user;
  end_spelled = end_spelled_law user;
  quit_spelled = quit_spelled_law user;
  short = short_law user;
}
