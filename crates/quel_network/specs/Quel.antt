-- The language of this program, as its four stages speak it.
use Rattle.network_meaning.specs.Language.{Language}
use Rattle.quel_meaning.specs.Happening.{Setting}
use Rattle.quel_meaning.specs.Printed.{head_bytes, row_line, rule_bytes, done_bytes, refusal_bytes}
use Rattle.quel_meaning.specs.Session.{setting_of, printed}
use Rattle.calculus.specs.Change.{laid}
use Rattle.quel_network.specs.Reading.{read}
use Rattle.quel_network.specs.Session.{end_of, finished, is_read, after_batch_at, after_script_at}
use Rattle.quel_network.specs.Sorts.{User, quel_sorts}
use Rattle.quel_network.specs.Spelling.{payload_of, message_by, row_suits}
use Rattle.quel_network.specs.Trees.{meaning_of, next_in, kind_of_tree, heads_of_tree, outcome_of_tree, IsFitTree, IsFitChange}

-- what sessions of the user rest on
abbrev pub setting_for : User → Setting
setting_for user = setting_of user.reading user.asker

-- what the stages of this user rest on
unfoldable pub quel : User → Language quel_sorts
quel user = record {
  meaning = meaning_of user.asker;
  lined = λ line r. record r { line = line };
  next = next_in user.reading;
  start = λ t. record { text = t; from = 0 };
  read = read;
  kind = kind_of_tree;
  heads = heads_of_tree;
  outcome = outcome_of_tree user.asker;
  Fits = IsFitTree user.asker;
  laid = λ c db. laid db c;
  IsLawful = IsFitChange;
  head_bytes = head_bytes;
  row_bytes = row_line;
  rule_bytes = rule_bytes;
  row_fits = row_suits;
  done_bytes = done_bytes;
  refusal_bytes = refusal_bytes;
  payload = payload_of;
  message_of = message_by;
  batch_runs = λ db shelf ranges b.
      let a = after_batch_at (setting_for user) db shelf ranges b in
      record { db = a.kept.state.db; shelf = a.kept.state.shelf; ranges = a.kept.state.ranges; bytes = printed a.events };
  script_bytes = λ db shelf ranges m script. printed (after_script_at (setting_for user) db shelf ranges m script).events;
  batch_statements = λ db shelf ranges b. finished (after_batch_at (setting_for user) db shelf ranges b).events;
  script_statements = λ db shelf ranges m script. finished (after_script_at (setting_for user) db shelf ranges m script).events;
  script_end = λ db shelf ranges m script. end_of (after_script_at (setting_for user) db shelf ranges m script);
  is_over = is_read;
}
