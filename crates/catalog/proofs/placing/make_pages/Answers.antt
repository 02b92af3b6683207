use Rattle.std.proofs.Common.{◌≡◌, IfOk, subst, sym, refl}
use Rattle.calculus.specs.Change.{IsLawful}
use Rattle.calculus.specs.declared.change.DbChange.{DbChange}
use Rattle.calculus.specs.declared.change.DbChange.TheVariants.{Create, Rows}
use Rattle.plain_base.specs.Shown.{database_of}
use Rattle.catalog_moves.specs.Files.{files_of}
use Rattle.catalog.specs.Laid.{HasMade, MayTake, NoneMayTake}
use Rattle.catalog.proofs.Outcomes.{cause_on}
use Rattle.catalog.proofs.Relations.{nothing_made, puts_none}
use Rattle.catalog.proofs.placing.make_pages.Goals as goal

pub returns-in_ok-place_of-in_default-clause-made : goal.returns-in_ok-place_of-in_default-clause-made
returns-in_ok-place_of-in_default-clause-made g c m db is may =
    let puts = puts_none c.args.change.now c.in_default.not-Rows c.in_default.not-Create in
    let its = c.in_ok-place_of-in_default.field-0 in
    nothing_made c.args.change.now db (files_of c.args.files.now) its.file its.used m (g.S.PageStore.pages c.args.store.now) puts (c.in_ok-place_of-in_default.ensures.suits puts) is

pub change_relation-requires : goal.change_relation-requires
change_relation-requires g c =
    let e : c.args.change.now ≡ Rows c.in-Rows.rel c.items.result.now c.items-in-Rows.result.now = cc (c.in-Rows.is, c.items.ensures, c.items-in-Rows.ensures) in
    subst (λ (x : DbChange). IsLawful (database_of c.args.plain.now) x) e c.requires

pub returns-in-Rows-clause-made : goal.returns-in-Rows-clause-made
returns-in-Rows-clause-made g c m db is may =
    let e : c.args.change.now ≡ Rows c.in-Rows.rel c.items.result.now c.items-in-Rows.result.now = cc (c.in-Rows.is, c.items.ensures, c.items-in-Rows.ensures) in
    subst (λ (x : DbChange). IfOk c.change_relation.result (λ given. HasMade x db (files_of c.args.files.now) given.file given.used m (g.S.PageStore.pages c.change_relation.new.store))) (sym e)
    (c.change_relation.ensures.made m db is (subst (λ (x : DbChange). MayTake (database_of c.args.plain.now) db (files_of c.args.files.now) x m) e may))

pub returns-in-Rows-clause-cause : goal.returns-in-Rows-clause-cause
returns-in-Rows-clause-cause g c =
    let e : c.args.change.now ≡ Rows c.in-Rows.rel c.items.result.now c.items-in-Rows.result.now = cc (c.in-Rows.is, c.items.ensures, c.items-in-Rows.ensures) in
    let known = g.S.PageStore.pages c.args.store.now in
    let start = g.S.PageStore.faults c.args.store.now in
    let none_may = NoneMayTake (database_of c.args.plain.now) (files_of c.args.files.now) in
    cause_on known known (none_may (Rows c.in-Rows.rel c.items.result.now c.items-in-Rows.result.now)) (none_may c.args.change.now) start start (g.S.PageStore.faults c.change_relation.new.store) c.change_relation.result refl
    (λ a none m is db may. none m is db (subst (λ (x : DbChange). MayTake (database_of c.args.plain.now) db (files_of c.args.files.now) x m) e may)) c.change_relation.ensures.cause

pub make_relation-requires : goal.make_relation-requires
make_relation-requires g c =
    let e : c.args.change.now ≡ Create c.in-Create.info c.items-in-Create.result.now = cc (c.in-Create.is, c.items-in-Create.ensures) in
    subst (λ (x : DbChange). IsLawful (database_of c.args.plain.now) x) e c.requires

pub returns-in-Create-clause-made : goal.returns-in-Create-clause-made
returns-in-Create-clause-made g c m db is may =
    let e : c.args.change.now ≡ Create c.in-Create.info c.items-in-Create.result.now = cc (c.in-Create.is, c.items-in-Create.ensures) in
    subst (λ (x : DbChange). IfOk c.make_relation.result (λ given. HasMade x db (files_of c.args.files.now) given.file given.used m (g.S.PageStore.pages c.make_relation.new.store))) (sym e)
    (c.make_relation.ensures.made m db is (subst (λ (x : DbChange). MayTake (database_of c.args.plain.now) db (files_of c.args.files.now) x m) e may))

pub returns-in-Create-clause-cause : goal.returns-in-Create-clause-cause
returns-in-Create-clause-cause g c =
    let e : c.args.change.now ≡ Create c.in-Create.info c.items-in-Create.result.now = cc (c.in-Create.is, c.items-in-Create.ensures) in
    let known = g.S.PageStore.pages c.args.store.now in
    let start = g.S.PageStore.faults c.args.store.now in
    let none_may = NoneMayTake (database_of c.args.plain.now) (files_of c.args.files.now) in
    cause_on known known (none_may (Create c.in-Create.info c.items-in-Create.result.now)) (none_may c.args.change.now) start start (g.S.PageStore.faults c.make_relation.new.store) c.make_relation.result refl
    (λ a none m is db may. none m is db (subst (λ (x : DbChange). MayTake (database_of c.args.plain.now) db (files_of c.args.files.now) x m) e may)) c.make_relation.ensures.cause
