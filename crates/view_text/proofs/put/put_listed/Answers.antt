use Rattle.std.proofs.lemmas.Option.{slice_get_past}
use Rattle.calculus.proofs.Constants.{found_at}
use Rattle.view_text.proofs.PutExpansion.{term_there, term_missing}
use Rattle.view_text.proofs.put.put_listed.Goals as goal

pub returns-in-Some : goal.returns-in-Some
returns-in-Some c =
    let h = c.in-Some.ensures.lookup in
    rw (term_there c.args.by c.args.terms.now c.args.place c.in-Some.term.now (found_at _ _ _ h.3.0 h.1)) c.shifted_term.ensures

pub returns-in-None : goal.returns-in-None
returns-in-None c = rw (term_missing c.args.by c.args.terms.now c.args.place (slice_get_past _ _ c.in-None.ensures.lookup.3)) c.without_value.ensures
