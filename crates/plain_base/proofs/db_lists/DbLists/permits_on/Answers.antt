use Rattle.plain_base.proofs.db_lists.DbLists.permits_on.Goals as goal

pub returns : goal.returns
returns c = rw (← c.self.view_is, ← c.deref.ensures.value) c.on.ensures
