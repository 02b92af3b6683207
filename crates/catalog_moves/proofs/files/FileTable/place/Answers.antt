use Rattle.std.proofs.Common.{sym, ap, ◌∙◌}
use Rattle.std.proofs.lemmas.Option.{same_Some}
use Rattle.catalog_moves.proofs.Tables.{file_some, file_none}
use Rattle.catalog_moves.proofs.files.FileTable.place.Goals as goal

pub returns-in-Some-clause-some : goal.returns-in-Some-clause-some
returns-in-Some-clause-some c x e =
    let at = file_some c.args.self.now.places.items c.args.key.now _ (sym c.in-Some.ensures) in
    (sym (ap (λ p. p.0) (same_Some _ x e)) ∙ sym at.0, sym (ap (λ p. p.1) (same_Some _ x e)) ∙ sym at.1)

pub returns-in-None-clause-none : goal.returns-in-None-clause-none
returns-in-None-clause-none c e = (file_none c.args.self.now.places.items c.args.key.now (sym c.in-None.ensures)).0

pub returns-in-None-clause-nothing : goal.returns-in-None-clause-nothing
returns-in-None-clause-nothing c e = (file_none c.args.self.now.places.items c.args.key.now (sym c.in-None.ensures)).1
