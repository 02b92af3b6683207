use Rattle.std.proofs.Common.{◌∙◌, arith}
use Rattle.message_codec.specs.MessageLaws.{refused_by}
use Rattle.quel_network.specs.RefusalLaws.{HasSpelling, spelling_of}
use Rattle.message_codec.proofs.refusals.refusal_of.Goals as goal

pub returns-clause-is : goal.returns-clause-is
returns-clause-is c =
    let line = c.ranges.line in
    let row = c.ranges.row in
    let has : HasSpelling (record { code = c.args.code; line = c.args.line; row = c.args.row }) = spelling_of _ c.requires (omega (arith, line)) (omega (arith, row)) in
    refused_by (record { code = c.args.code; line = c.args.line; row = c.args.row }) c.of.result has (c.of.ensures ∙ (c.in_ok-bytes.ensures has.fits).1)
