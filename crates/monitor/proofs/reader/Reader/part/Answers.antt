use Rattle.std.proofs.Common.{◌≡◌, ap, sym, subst, List, ℕ}
use Rattle.std.specs.Prelude.{IfOk}
use Rattle.monitor.specs.Seen.{seen_part}
use Rattle.quel_meaning.specs.Monitor.{Part}
use Rattle.monitor.specs.Reading.{reads_behind, reads_part}
use Rattle.monitor.proofs.reader.Reader.part.Goals as goal

pub returns-in-Order-clause-did : goal.returns-in-Order-clause-did
returns-in-Order-clause-did g c = λ known told.
    subst (λ (part : Part). IfOk c.order.result (λ event. (script : List ℕ) → reads_part part c.args.self.now known c.args.out.now.items script ≡ reads_behind event c.order.new.self known c.order.new.out.items script))
    (sym (ap seen_part c.in-Order.is)) (c.order.ensures.did known told)
