use Rattle.std.proofs.Common.{◌≡◌, ◌==◌, false, subst, arith}
use Rattle.std.proofs.lemmas.Option.{same_Some}
use Rattle.catalog_moves.specs.Files.{files_of}
use Rattle.catalog_moves.proofs.Tables.{another_file}
use Rattle.catalog_moves.proofs.files.FileTable.free_file.Goals as goal

pub returns-then-self-lt16-clause-free : goal.returns-then-self-lt16-clause-free
returns-then-self-lt16-clause-free c x e key =
    subst (λ n. ((files_of c.args.self.now).file key == n) ≡ false) (same_Some 16 x e) (another_file c.args.self.now.places.items c.args.self.now.greatest 16 key c.args.self.now.bound (omega (arith, c.if-self-lt16.true)))

pub returns-clause-free : goal.returns-clause-free
returns-clause-free c x e key =
    another_file c.args.self.now.places.items c.args.self.now.greatest x key c.args.self.now.bound (grind arith)
