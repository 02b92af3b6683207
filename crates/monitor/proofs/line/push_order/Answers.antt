use Rattle.std.proofs.Common.{◌∙◌, sym, ap, map}
use Rattle.std.proofs.lemmas.List.{map-append}
use Rattle.monitor.specs.Seen.{seen_part}
use Rattle.monitor.proofs.Walked.{last_order}
use Rattle.monitor.proofs.line.push_order.Goals as goal

pub returns-then-is_last-clause-parts : goal.returns-then-is_last-clause-parts
returns-then-is_last-clause-parts c =
    last_order _ _ _ c.args.line.now c.split_at.result.0.now c.split_at.result.1.now c.word_length.result
    (ap (map seen_part) c.in_ok-push.ensures.items ∙ map-append seen_part _ _) c.in_ok-command.ensures c.word_length.ensures.length c.split_at.ensures.front c.split_at.ensures.back
    (sym c.names_file-is_last.ensures ∙ c.if-is_last.true)
