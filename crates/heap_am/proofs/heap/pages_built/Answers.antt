use Rattle.std.proofs.Common.{IfOk, subst}
use Rattle.page_chain.specs.Grown.{IsBuilt}
use Rattle.heap_am.proofs.Changed.{are_short, bytes_are}
use Rattle.heap_am.proofs.Outcomes.{if_ok}
use Rattle.heap_am.proofs.Rooms.{room_anew}
use Rattle.heap_am.proofs.heap.pages_built.Goals as goal

pub build-requires-clause-short : goal.build-requires-clause-short
build-requires-clause-short g c =
    are_short c.items-2.result.now c.in_ok-bytes.bytes c.items.result.now c.args.file.now.domains c.args.rows.now c.items-2.ensures c.items.ensures c.in_ok-bytes.ensures c.requires.some c.requires.most c.requires.fit

pub returns-clause-came : goal.returns-clause-came
returns-clause-came g c = c.build.ensures.came

pub build-requires-clause-room : goal.build-requires-clause-room
build-requires-clause-room g c = room_anew c.items-2.result.now c.in_ok-bytes.bytes c.items.result.now c.args.rows.now c.items-2.ensures c.in_ok-bytes.ensures c.requires.few

pub returns-clause-some : goal.returns-clause-some
returns-clause-some g c = if_ok c.build.result c.build.ensures.some (λ used both. both.0)

pub returns-clause-built : goal.returns-clause-built
returns-clause-built g c m is =
    subst (λ bytes. IfOk c.build.result (λ used. IsBuilt c.args.file.now.file used bytes (g.S.PageStore.pages c.build.new.store)))
    (bytes_are c.items-2.result.now c.in_ok-bytes.bytes c.items.result.now c.args.file.now.domains c.args.rows.now c.items-2.ensures c.items.ensures c.in_ok-bytes.ensures)
    (c.build.ensures.built m is)

pub returns-clause-others : goal.returns-clause-others
returns-clause-others g c = c.build.ensures.others

pub returns-clause-cause : goal.returns-clause-cause
returns-clause-cause g c = c.build.ensures.cause
