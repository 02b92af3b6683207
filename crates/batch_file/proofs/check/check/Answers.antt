use Rattle.std.proofs.Common.{rules, ◌≡◌, Err, None, subst, refl, ◌∙◌}
use Rattle.batch_file.specs.Layout.{is_lawful, has_image}
use Rattle.batch_file.specs.Redone.{first_failing}
use Rattle.batch_file.specs.Faults.{AreLawful, AreThere}
use Rattle.batch_file.proofs.Checking.{head_fails, addresses_fail, images_fail, none_fails}
use Rattle.batch_file.proofs.check.check.Goals as goal

pub returns-in_err-count-clause-answer : goal.returns-in_err-count-clause-answer
returns-in_err-count-clause-answer g c = λ known.
    let is : c.from_residual.result ≡ Err c.in_err-count.field-0.0 = search rules in
    head_fails (g.D.Disk.seen c.args.disk.now) c.in_err-count.field-0.0 c.from_residual.result (c.in_err-count.ensures.head known) is

pub returns-in_err-check_addresses-clause-answer : goal.returns-in_err-check_addresses-clause-answer
returns-in_err-check_addresses-clause-answer g c = λ known.
    let n = c.in_ok-count.count in
    let e = c.in_err-check_addresses.field-0.0 in
    let is : c.from_residual-in_err-check_addresses.result ≡ Err e = search rules in
    let lawful : AreLawful (g.D.Disk.seen c.args.disk.now) n (Err e) = subst (λ m. AreLawful m n (Err e)) (c.head.ensures.same known).seen_same (c.in_err-check_addresses.ensures.lawful known) in
    addresses_fail (g.D.Disk.seen c.args.disk.now) n e c.from_residual-in_err-check_addresses.result (c.in_ok-count.ensures.head known) lawful is

pub returns-in_err-check_images-clause-answer : goal.returns-in_err-check_images-clause-answer
returns-in_err-check_images-clause-answer g c = λ known.
    let n = c.in_ok-count.count in
    let e = c.in_err-check_images.field-0.0 in
    let is : c.from_residual-in_err-check_images.result ≡ Err e = search rules in
    let one = (c.head.ensures.same known).seen_same in
    let two = (c.check_addresses.ensures.same known).seen_same ∙ one in
    let lawful : first_failing (is_lawful (g.D.Disk.seen c.args.disk.now)) n ≡ None = subst (λ m. first_failing (is_lawful m) n ≡ None) one (c.in_ok-check_addresses.ensures.lawful known) in
    let there : AreThere (g.D.Disk.seen c.args.disk.now) n (Err e) = subst (λ m. AreThere m n (Err e)) two (c.in_err-check_images.ensures.there known) in
    images_fail (g.D.Disk.seen c.args.disk.now) n e c.from_residual-in_err-check_images.result (c.in_ok-count.ensures.head known) lawful there is

pub returns-clause-answer : goal.returns-clause-answer
returns-clause-answer g c = λ known.
    let n = c.in_ok-count.count in
    let one = (c.head.ensures.same known).seen_same in
    let two = (c.check_addresses.ensures.same known).seen_same ∙ one in
    let lawful : first_failing (is_lawful (g.D.Disk.seen c.args.disk.now)) n ≡ None = subst (λ m. first_failing (is_lawful m) n ≡ None) one (c.in_ok-check_addresses.ensures.lawful known) in
    let there : first_failing (has_image (g.D.Disk.seen c.args.disk.now)) n ≡ None = subst (λ m. first_failing (has_image m) n ≡ None) two (c.in_ok-check_images.ensures.there known) in
    none_fails (g.D.Disk.seen c.args.disk.now) n _ (c.in_ok-count.ensures.head known) lawful there refl
