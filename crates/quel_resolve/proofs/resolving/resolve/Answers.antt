use Rattle.quel_resolve.proofs.BySchema.{known_before}
use Rattle.quel_resolve.proofs.resolving.resolve.Goals as goal

pub returns-clause-known : goal.returns-clause-known
returns-clause-known g c = λ db h. c.resolve_known.ensures.known db (c.in_ok-_entries.ensures.stays db h)

pub returns-clause-by_schema : goal.returns-clause-by_schema
returns-clause-by_schema g c = λ fixes db h.
    c.resolve_known.ensures.known db (known_before _ _ (c.in_ok-_entries.ensures.fixed fixes) c.resolve_known.ensures.stays db h)
