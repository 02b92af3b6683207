use Rattle.tree_laws.proofs.Means.{means_same, ruled_means_same, tree_commutes}
use Rattle.tree_laws.proofs.meaning.what_is_put_in_means_the_same.Goals as goal

pub returns : goal.returns
returns c = record {
  plain = λ db d shelf who user tree h. means_same db d who shelf user tree h;
  ruled = λ db d shelf who user tree h. ruled_means_same db d who shelf user tree h;
  commute = tree_commutes;
}
