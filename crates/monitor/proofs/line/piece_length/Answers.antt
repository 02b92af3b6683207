use Rattle.std.proofs.Common.{◌≡◌, ◌∙◌, ◌<◌, sym, ap, take, length, get_or, arith, false}
use Rattle.std.proofs.lemmas.List.{take_more}
use Rattle.quel_meaning.specs.Monitor.{Quoting, Plain, begins_command, quoting_after, quoting_behind}
use Rattle.monitor.proofs.Walked.{free_more, behind_more}
use Rattle.monitor.proofs.line.piece_length.Goals as goal

pub loop-i-preserved : goal.loop-i-preserved
loop-i-preserved c =
    let line = c.args.line.now in
    let i = c.loop-i.i in
    let byte = get_or line i 0 in
    let lt : i < length line = omega arith in
    let none : begins_command (quoting_behind Plain (take i line)) byte ≡ false =
    ap (λ (q : Quoting). begins_command q byte) c.loop-i.invariant.open_is ∙ sym c.begins_command.ensures ∙ c.if-begins_command.false in
    rw (take_more line i 0 lt) (record {
      free = free_more Plain (take i line) byte c.loop-i.invariant.free none;
      open_is = behind_more Plain (take i line) byte ∙ ap (λ (q : Quoting). quoting_after q byte) c.loop-i.invariant.open_is ∙ sym c.quoting_after-quoting.ensures;
    })
