use Rattle.std.proofs.Common.{rules}
use Rattle.copy_util.proofs.Held.{number_read}
use Rattle.copy_util.proofs.columns.printed_number.Goals as goal

pub returns : goal.returns
returns c =
    number_read c.args.kind c.args.bytes.now c.between_blanks.result.now c.in_ok-number.number c.fitting_number.result c.requires.number c.requires.stored
    c.between_blanks.ensures c.in_ok-number.ensures (search (rules, c.fitting_number.ensures))
