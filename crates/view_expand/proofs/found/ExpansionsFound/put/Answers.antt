use Rattle.std.proofs.Common.{◌≡◌, sym, subst, true}
use Rattle.std.specs.List.{list_all}
use Rattle.indexmap.specs.IndexMap.{insert_entry}
use Rattle.view_text.specs.Scoped.{is_scoped}
use Rattle.view_expand.specs.Found.{IsFound, AreExpansions}
use Rattle.view_expand.proofs.Keeping.{same_pair, kept_expansions, kept_scoped, after}
use Rattle.view_expand.proofs.found.ExpansionsFound.put.Goals as goal

pub invariant_of-self : goal.invariant_of-self
invariant_of-self c =
    let old = c.self.inside.expansions.entries in
    after (λ found. list_all (λ e. is_scoped e.1) found ≡ true) old c.insert.new.self.entries (insert_entry same_pair old c.args.pair c.args.expansion) c.insert.result
    c.insert.ensures.entries c.insert.ensures.err c.self.invariant (kept_scoped old c.args.pair c.args.expansion c.self.invariant c.requires)

pub returns-in-Ok : goal.returns-in-Ok
returns-in-Ok c = record {
  found = λ db who all one.
      let old = c.self.inside.expansions.entries in
      let here = subst (IsFound db who) (sym c.self.view_is) all in
      record {
        expansions = after (AreExpansions db who) old c.insert.new.self.entries (insert_entry same_pair old c.args.pair c.args.expansion) c.insert.result
            c.insert.ensures.entries c.insert.ensures.err here.expansions (kept_expansions db who old c.args.pair c.args.expansion here.expansions one);
        permits = here.permits;
      };
}
