use Rattle.std.proofs.Common.{◌≡◌, ap, map, subst}
use Rattle.std.specs.Prelude.{IfOk}
use Rattle.quel_meaning.specs.Monitor.{Command, command_of, file_name}
use Rattle.monitor.specs.Seen.{seen_command}
use Rattle.monitor.proofs.Worded.{command_is, entry}
use Rattle.monitor.proofs.command.command_of.Goals as goal

pub returns : goal.returns
unfolding command_of
returns c =
    let file = file_name c.args.rest.now in
    subst (λ (meant : Command). IfOk c.given.result (λ command. seen_command command ≡ meant))
    (command_is c.args.word.now file c.word_in-found.result c.as_slice-table.result.now c.word_in-found.ensures (ap (map (entry file)) c.as_slice-table.ensures))
    c.given.ensures
