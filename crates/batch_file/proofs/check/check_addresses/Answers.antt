use Rattle.std.proofs.Common.{rules, ◌≡◌, Err, subst, arith}
use Rattle.batch_file.specs.Faults.{IsAddress}
use Rattle.batch_file.proofs.Checking.{address_fails}
use Rattle.batch_file.proofs.check.check_addresses.Goals as goal

pub returns-in_err-next_address-clause-lawful : goal.returns-in_err-next_address-clause-lawful
returns-in_err-next_address-clause-lawful g c = λ known.
    let is : c.from_residual.result ≡ Err c.in_err-next_address.field-0.0 = search rules in
    address_fails (g.D.Disk.seen c.args.disk.now) c.args.count c.loop-k.k c.in_err-next_address.field-0.0 c.from_residual.result (c.loop-k.invariant.lawful known) (omega arith)
    (subst (λ m. IsAddress m c.loop-k.k (Err c.in_err-next_address.field-0.0)) (c.loop-k.invariant.same known).seen_same (c.in_err-next_address.ensures.address known)) is
