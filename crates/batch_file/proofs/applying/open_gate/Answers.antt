use Rattle.batch_file.proofs.Calling.{opens}
use Rattle.std.proofs.Common.{refl}
use Rattle.batch_file.proofs.Opening.{run_headed, run_synced, run_gated, run_opened, opened, opened_redone}
use Rattle.batch_file.proofs.applying.open_gate.Goals as goal

pub returns-in_err-write-clause-crash : goal.returns-in_err-write-clause-crash
returns-in_err-write-clause-crash g c = λ known.
    run_headed g.D.Disk.seen g.D.Disk.touched g.D.Disk.clock g.D.Disk.left_since c.args.count c.args.disk.now c.write.new.self c.head_page-head.result (λ m left. g.met.D.Disk.only_now c.args.disk.now m known left) (c.requires.shut known) (c.requires.whole known) c.head_page-head.ensures.head c.head_page-head.ensures.count (c.write.ensures.change known) (c.write.ensures.time known)

pub returns-in_err-sync-clause-crash : goal.returns-in_err-sync-clause-crash
returns-in_err-sync-clause-crash g c = λ known.
    run_synced g.D.Disk.seen g.D.Disk.touched g.D.Disk.clock g.D.Disk.left_since c.args.count c.args.disk.now c.write.new.self c.head_page-head.result (λ m left. g.met.D.Disk.only_now c.args.disk.now m known left) (c.requires.shut known) (c.requires.whole known) c.head_page-head.ensures.head c.head_page-head.ensures.count (c.write.ensures.change known) (c.write.ensures.time known)
    c.sync.new.self (c.sync.ensures.seen known) (c.sync.ensures.touched known) (c.sync.ensures.time known)

pub returns-in_err-write-2-clause-crash : goal.returns-in_err-write-2-clause-crash
returns-in_err-write-2-clause-crash g c = λ known.
    run_gated g.D.Disk.seen g.D.Disk.touched g.D.Disk.clock g.D.Disk.left_since c.args.count c.args.disk.now c.write.new.self c.head_page-head.result (λ m left. g.met.D.Disk.only_now c.args.disk.now m known left) (c.requires.shut known) (c.requires.whole known) c.head_page-head.ensures.head c.head_page-head.ensures.count (c.write.ensures.change known) (c.write.ensures.time known)
    c.sync.new.self (c.sync.ensures.seen known) (c.sync.ensures.touched known) (c.sync.ensures.time known)
    (c.in_ok-sync.ensures.durable known) (c.in_ok-write.ensures.written known) c.write-2.new.self (c.write-2.ensures.change known) (c.write-2.ensures.time known)

pub returns-in_err-sync-2-clause-crash : goal.returns-in_err-sync-2-clause-crash
returns-in_err-sync-2-clause-crash g c = λ known.
    run_opened g.D.Disk.seen g.D.Disk.touched g.D.Disk.clock g.D.Disk.left_since c.args.count c.args.disk.now c.write.new.self c.head_page-head.result (λ m left. g.met.D.Disk.only_now c.args.disk.now m known left) (c.requires.shut known) (c.requires.whole known) c.head_page-head.ensures.head c.head_page-head.ensures.count (c.write.ensures.change known) (c.write.ensures.time known)
    c.sync.new.self (c.sync.ensures.seen known) (c.sync.ensures.touched known) (c.sync.ensures.time known)
    (c.in_ok-sync.ensures.durable known) (c.in_ok-write.ensures.written known) c.write-2.new.self (c.write-2.ensures.change known) (c.write-2.ensures.time known)
    c.sync-2.new.self (c.sync-2.ensures.seen known) (c.sync-2.ensures.touched known) (c.sync-2.ensures.time known)

pub returns-clause-crash : goal.returns-clause-crash
returns-clause-crash g c = λ known.
    run_opened g.D.Disk.seen g.D.Disk.touched g.D.Disk.clock g.D.Disk.left_since c.args.count c.args.disk.now c.write.new.self c.head_page-head.result (λ m left. g.met.D.Disk.only_now c.args.disk.now m known left) (c.requires.shut known) (c.requires.whole known) c.head_page-head.ensures.head c.head_page-head.ensures.count (c.write.ensures.change known) (c.write.ensures.time known)
    c.sync.new.self (c.sync.ensures.seen known) (c.sync.ensures.touched known) (c.sync.ensures.time known)
    (c.in_ok-sync.ensures.durable known) (c.in_ok-write.ensures.written known) c.write-2.new.self (c.write-2.ensures.change known) (c.write-2.ensures.time known)
    c.sync-2.new.self (c.sync-2.ensures.seen known) (c.sync-2.ensures.touched known) (c.sync-2.ensures.time known)

pub returns-clause-opened : goal.returns-clause-opened
returns-clause-opened g c = λ known.
    opened g.D.Disk.seen g.D.Disk.touched g.D.Disk.clock g.D.Disk.left_since c.args.count c.args.disk.now c.write.new.self c.head_page-head.result (λ m left. g.met.D.Disk.only_now c.args.disk.now m known left) (c.requires.shut known) (c.requires.whole known) c.head_page-head.ensures.head c.head_page-head.ensures.count (c.write.ensures.change known) (c.write.ensures.time known)
    c.sync.new.self (c.sync.ensures.seen known) (c.sync.ensures.touched known) (c.sync.ensures.time known)
    (c.in_ok-sync.ensures.durable known) (c.in_ok-write.ensures.written known) c.write-2.new.self (c.write-2.ensures.change known) (c.write-2.ensures.time known)
    c.sync-2.new.self (c.sync-2.ensures.seen known) (c.sync-2.ensures.touched known) (c.sync-2.ensures.time known)
    (c.in_ok-sync-2.ensures.durable known) _ refl (c.in_ok-write-2.ensures.written known)

pub returns-clause-same : goal.returns-clause-same
returns-clause-same g c = λ known.
    opened_redone g.D.Disk.seen g.D.Disk.touched g.D.Disk.clock g.D.Disk.left_since c.args.count c.args.disk.now c.write.new.self c.head_page-head.result (λ m left. g.met.D.Disk.only_now c.args.disk.now m known left) (c.requires.shut known) (c.requires.whole known) c.head_page-head.ensures.head c.head_page-head.ensures.count (c.write.ensures.change known) (c.write.ensures.time known)
    c.sync.new.self (c.sync.ensures.seen known) (c.sync.ensures.touched known) (c.sync.ensures.time known)
    (c.in_ok-sync.ensures.durable known) (c.in_ok-write.ensures.written known) c.write-2.new.self (c.write-2.ensures.change known) (c.write-2.ensures.time known)
    c.sync-2.new.self (c.sync-2.ensures.seen known) (c.sync-2.ensures.touched known) (c.sync-2.ensures.time known)
    (c.in_ok-sync-2.ensures.durable known) _ refl (c.in_ok-write-2.ensures.written known)

pub returns-clause-made : goal.returns-clause-made
returns-clause-made g c =
    opens _ _ _ _ _ _ _ c.args.count c.in_ok-write.ensures.noted c.in_ok-sync.ensures.noted c.in_ok-write-2.ensures.noted c.in_ok-sync-2.ensures.noted c.head_page-head.ensures.head c.head_page-head.ensures.count refl
