use Rattle.calculus_laws.proofs.Unpermitted.{no_row, none_kept, none_changed, none_read, none_answered}
use Rattle.calculus_laws.proofs.rights.what_is_not_permitted_is_not_used.Goals as goal

pub returns : goal.returns
returns c = record { row_by_row = no_row; read = none_kept; changed = none_changed; through_views = none_read; in_answers = none_answered }
