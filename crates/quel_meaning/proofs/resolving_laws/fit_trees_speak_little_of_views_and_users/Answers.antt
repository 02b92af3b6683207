use Rattle.quel_meaning.proofs.FitViews.{fit_with_views, any_user}
use Rattle.quel_meaning.proofs.resolving_laws.fit_trees_speak_little_of_views_and_users.Goals as goal

pub returns : goal.returns
returns c = record { views = fit_with_views; users = any_user }
