use Rattle.std.proofs.Common.{◌≡◌, ◌++◌, map, subst, List, [], rules}
use Rattle.std.specs.Prelude.{IfOk}
use Rattle.std.proofs.lemmas.List.{nil_from_length}
use Rattle.quel_meaning.specs.Monitor.{Part, parts_of}
use Rattle.monitor.specs.Seen.{seen_part}
use Rattle.monitor.proofs.Walked.{ended, fronted}
use Rattle.monitor.proofs.line.push_front.Goals as goal

pub returns-in-None-clause-parts : goal.returns-in-None-clause-parts
returns-in-None-clause-parts c =
    let nothing : c.split_at.result.1.now ≡ [] = nil_from_length _ (search rules) in
    ended _ _ c.args.line.now c.split_at.result.0.now c.split_at.result.1.now c.piece_length.result c.in_ok-push_piece.ensures c.split_at.ensures.front c.split_at.ensures.back nothing c.piece_length.ensures.free

pub returns-in-Some-clause-parts : goal.returns-in-Some-clause-parts
returns-in-Some-clause-parts c =
    subst (λ (parts : List Part). IfOk c.push_order.result (λ rest. map seen_part c.push_order.new.parts.items ++ parts_of rest.now ≡ parts))
    (fronted _ _ c.args.line.now c.split_at.result.0.now c.split_at.result.1.now c.in-Some.later.now c.in-Some.field-0-0.now c.piece_length.result
    c.in_ok-push_piece.ensures c.split_at.ensures.front c.split_at.ensures.back c.in-Some.ensures.cases.0 c.piece_length.ensures.free c.piece_length.ensures.closed c.piece_length.ensures.command)
    c.push_order.ensures.parts
