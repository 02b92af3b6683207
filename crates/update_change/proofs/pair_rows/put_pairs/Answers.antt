use Rattle.std.proofs.Common.{ap, sym, ◌∙◌, ◌++◌, [], ◌∷◌, filter_map}
use Rattle.std.proofs.lemmas.List.Elements.{filter_map-append}
use Rattle.update_change.specs.Replacements.{replacement, old_alone, new_alone}
use Rattle.update_change.proofs.pair_rows.put_pairs.Goals as goal

pub loop-pair-preserved : goal.loop-pair-preserved
loop-pair-preserved c = record {
  both =
      c.in_ok-put_pair.ensures.both ∙ ap (λ all. all ++ filter_map replacement (c.in-Some.pair ∷ [])) c.loop-pair.invariant.both
      ∙ sym (filter_map-append replacement c.loop-pair.yielded (c.in-Some.pair ∷ []));
  old =
      c.in_ok-put_pair.ensures.old ∙ ap (λ all. all ++ filter_map old_alone (c.in-Some.pair ∷ [])) c.loop-pair.invariant.old
      ∙ sym (filter_map-append old_alone c.loop-pair.yielded (c.in-Some.pair ∷ []));
  new =
      c.in_ok-put_pair.ensures.new ∙ ap (λ all. all ++ filter_map new_alone (c.in-Some.pair ∷ [])) c.loop-pair.invariant.new
      ∙ sym (filter_map-append new_alone c.loop-pair.yielded (c.in-Some.pair ∷ []));
}
