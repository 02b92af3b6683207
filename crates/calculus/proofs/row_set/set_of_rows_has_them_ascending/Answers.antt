use Rattle.calculus.proofs.Sets.{Ascends-set_of, set_of-push}
use Rattle.calculus.proofs.Made.{Contains-has, has-Contains, Contains-set_of, set_of-Contains}
use Rattle.calculus.proofs.row_set.set_of_rows_has_them_ascending.Goals as goal

pub returns : goal.returns
returns c = record {
  ascends = Ascends-set_of;
  exactly = λ rows row. (Contains-set_of rows row, set_of-Contains rows row);
  one_by_one = set_of-push;
  found = λ rows row. (Contains-has rows row, has-Contains rows row);
}
