use Rattle.std.proofs.Common.{◌≡◌, subst, rules, []}
use Rattle.quel_network.specs.Sorts.{Monitor}
use Rattle.quel_network.specs.Reading.{ordered}
use Rattle.quel_meaning.specs.Monitor.{Include}
use Rattle.monitor.specs.Reading.{standing_of}
use Rattle.monitor.proofs.Parting.{include_reads}
use Rattle.monitor.proofs.reader.Reader.take_in.Goals as goal

pub returns-clause-did : goal.returns-clause-did
returns-clause-did g c = λ known told script.
    let did : ordered (standing_of c.args.self.now known c.args.out.now.items) (Include c.args.name.now) ≡ standing_of c.include.new.self known c.include.new.out.items = c.in_ok-include.ensures.did known told in
    let inside : Monitor = record { buffer = c.self.inside.buffer; included = c.self.inside.included; parts = c.self.inside.parts; files = c.self.inside.files } in
    let same : c.include.new.self ≡ inside = search rules in
    let now : ordered (standing_of c.args.self.now known c.args.out.now.items) (Include c.args.name.now) ≡ standing_of inside known c.include.new.out.items =
    subst (λ (m : Monitor). ordered (standing_of c.args.self.now known c.args.out.now.items) (Include c.args.name.now) ≡ standing_of m known c.include.new.out.items) same did in
    let cleared : c.clear.new.self ≡ [] = search rules in
    rw cleared (include_reads c.args.self.now inside known c.args.out.now.items c.include.new.out.items c.args.name.now script now)
