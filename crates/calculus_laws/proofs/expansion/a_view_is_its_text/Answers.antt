use Rattle.calculus_laws.proofs.Substituted.{val_substituted, holds_substituted, values_required}
use Rattle.calculus_laws.proofs.Expanded.{answer_expanded, lacks_expanded}
use Rattle.calculus_laws.proofs.expansion.a_view_is_its_text.Goals as goal

pub returns : goal.returns
returns c = record { term = val_substituted; qualification = holds_substituted; values = values_required; query = answer_expanded; lack = lacks_expanded }
