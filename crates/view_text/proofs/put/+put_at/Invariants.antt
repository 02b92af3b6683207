use Rattle.view_text.proofs.put.+put_at.Given as goal

abbrev pub decreases-put_at : goal.decreases-put_at
decreases-put_at l = l.var
