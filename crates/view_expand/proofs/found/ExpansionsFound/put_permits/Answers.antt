use Rattle.std.proofs.Common.{sym, ◌∙◌, subst}
use Rattle.indexmap.specs.IndexMap.{insert_entry}
use Rattle.calculus.specs.Keys.{same_key}
use Rattle.view_expand.specs.Found.{IsFound, ArePermits}
use Rattle.view_expand.proofs.Keeping.{kept_permits, after}
use Rattle.view_expand.proofs.found.ExpansionsFound.put_permits.Goals as goal

pub returns-in-Ok : goal.returns-in-Ok
returns-in-Ok c = record {
  found = λ db who all is.
      let old = c.self.inside.permits.entries in
      let here = subst (IsFound db who) (sym c.self.view_is) all in
      record {
        expansions = here.expansions;
        permits = after (ArePermits db) old c.insert.new.self.entries (insert_entry same_key old c.args.key c.of.result) c.insert.result
            c.insert.ensures.entries c.insert.ensures.err here.permits (kept_permits db old c.args.key c.of.result here.permits (c.of.ensures ∙ is));
      };
}
