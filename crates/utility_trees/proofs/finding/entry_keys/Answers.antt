use Rattle.std.proofs.Common.{◌∙◌, ◌++◌, sym, ap, filter_map}
use Rattle.std.specs.Option.{option_to_list}
use Rattle.std.proofs.lemmas.List.{take_all}
use Rattle.quel_meaning.specs.Scope.{entry_named}
use Rattle.quel_names.specs.Asking.{scope_of}
use Rattle.utility_trees.proofs.Meant.{filter_more}
use Rattle.utility_trees.proofs.finding.entry_keys.Goals as goal

pub loop-name-preserved : goal.loop-name-preserved
loop-name-preserved g c = record {
  known = λ db ranges h d.
      c.in_ok-push_if.ensures
      ∙ (λ i. c.loop-name.invariant.known db ranges h d i ++ option_to_list (c.in_ok-key.ensures.known db ranges (c.loop-name.invariant.stays _ h) d i))
      ∙ sym (filter_more (entry_named (scope_of db c.args.user.now ranges)) c.args.names.now c.loop-name.name-index c.name-item.result c.loop-name-test.true c.name-item.is);
  kept = c.in_ok-key.ensures.kept ∙ c.loop-name.invariant.kept;
  stays = λ s h. c.in_ok-key.ensures.stays s (c.loop-name.invariant.stays s h);
  asked = λ b was. c.in_ok-key.ensures.asked b (c.loop-name.invariant.asked b was);
  faults = c.in_ok-key.ensures.cause.caused ∙ c.loop-name.invariant.faults;
}

pub returns-clause-known : goal.returns-clause-known
returns-clause-known g c = λ db ranges h d.
    c.loop-name.invariant.known db ranges h d
    ∙ ap (filter_map (entry_named (scope_of db c.args.user.now ranges))) (take_all c.loop-name.name-index c.args.names.now c.loop-name-test.false)
