-- The rows that come to a relation where rows are appended, and how many stand then.
use Rattle.std.proofs.Common.{◌≡◌, refl, sym, ap, ◌∙◌, subst, ◌+◌, nat_lt, Bool, true, false, IsTrue, IsFalse, List, [], ◌∷◌, map, filter, length, arith}
use Rattle.std.specs.Prelude.{Result, Ok, Err}
use Rattle.calculus.specs.declared.change.DbChange.{DbChange}
use Rattle.calculus.specs.declared.change.DbChange.TheVariants as change
use Rattle.calculus.specs.declared.change.Pair.{Pair}
use Rattle.calculus.specs.declared.query.RelKey.{RelKey}
use Rattle.calculus.specs.declared.reply.Refusal.{Refusal}
use Rattle.calculus.specs.Database.{Db}
use Rattle.calculus.specs.Limits.{most_rows}
use Rattle.calculus.specs.Pairs.{put_pair}
use Rattle.calculus.specs.Replacement.{after, new_rows, old_rows, with_rows, without_rows}
use Rattle.calculus.specs.Rows.{Row, Ascends, has, set_of}
use Rattle.calculus.specs.Stored.{rows_at}
use Rattle.calculus.proofs.Sets.{Ascends-set_of}
use Rattle.base_trait.specs.Scans.{IsScan}
use Rattle.update_change.proofs.MovedRows.{come_is, go_is, left_is}
use Rattle.copy_util.specs.Causes.{Copies}
use Rattle.copy_util.specs.declared.fault.CopyFault.{CopyFault}
use Rattle.copy_util.specs.declared.fault.CopyFault.TheVariants.{No, BadRow, NoFile, Shelf, Base, OutOfMemory}
use Rattle.quel_meaning.specs.Copying.{keeps_rules, refusal, rows_appended}

-- what a scan gives once is a set
pub ascends_scanned : (set rows : List Row) → IsScan set rows → Ascends set
ascends_scanned set rows scan = subst Ascends scan.all (Ascends-set_of rows)

-- the rows, each as one that is put
abbrev puts : List Row → List Pair
puts rows = map put_pair rows

puts_new : (rows : List Row) → new_rows (puts rows) ≡ rows
puts_new [] = refl
puts_new (row ∷ rows) = ap (λ rs. row ∷ rs) (puts_new rows)

puts_old : (rows : List Row) → old_rows (puts rows) ≡ []
puts_old [] = refl
puts_old (row ∷ rows) = puts_old rows

without_none : (rows : List Row) → without_rows [] rows ≡ rows
without_none [] = refl
without_none (row ∷ rows) = ap (λ rs. row ∷ rs) (without_none rows)

after_is : (rows new : List Row) → after rows (puts new) ≡ with_rows new rows
unfolding after
after_is rows new = (λ i. with_rows (puts_new new i) (without_rows (puts_old new i) rows)) ∙ ap (with_rows new) (without_none rows)

-- those that come
pub coming_is : (rows new : List Row) → Ascends rows → without_rows rows (set_of new) ≡ without_rows rows (with_rows new rows)
coming_is rows new h =
    ap (λ new. without_rows rows (set_of new)) (sym (puts_new new)) ∙ come_is rows (puts new) h ∙ ap (without_rows rows) (after_is rows new)

-- none goes
none_go : (rows new : List Row) → Ascends rows → without_rows (with_rows new rows) rows ≡ []
none_go rows new h =
    ap (λ all. without_rows all rows) (sym (after_is rows new)) ∙ sym (go_is rows (puts new) h)
    ∙ ap (λ old. filter (has rows) (without_rows (set_of (new_rows (puts new))) (set_of old))) (puts_old new)

-- those before and those that come are all that stand
standing : (rows new : List Row) → Ascends rows → length rows + length (without_rows rows (set_of new)) ≡ length (with_rows new rows)
standing rows new h =
    let all : length rows + length (without_rows rows (with_rows new rows)) ≡ length (with_rows new rows) + length (without_rows (with_rows new rows) rows) =
    (λ i. length rows + length (without_rows rows (sym (after_is rows new) i))) ∙ left_is rows (puts new) h ∙ (λ i. length (after_is rows new i) + length (without_rows (after_is rows new i) rows)) in
    omega (arith, all, ap length (none_go rows new h), ap length (coming_is rows new h))

abbrev kept : Db → RelKey → List Row → List Row
kept db rel rows = filter (keeps_rules db rel) rows

-- what is counted says whether too many stand
counted : (db : Db) (rel : RelKey) (rows coming : List Row) (b : Bool) → Ascends (rows_at db rel) → coming ≡ without_rows (rows_at db rel) (set_of (kept db rel rows))
    → nat_lt most_rows (length (rows_at db rel) + length coming) ≡ b → nat_lt most_rows (length (with_rows (kept db rel rows) (rows_at db rel))) ≡ b
counted db rel rows coming b h is e =
    ap (nat_lt most_rows) (sym (standing (rows_at db rel) (kept db rel rows) h)) ∙ (λ i. nat_lt most_rows (length (rows_at db rel) + length (sym is i))) ∙ e

-- the change, where there is room
pub appended_is : (db : Db) (rel : RelKey) (rows coming : List Row) (made : DbChange) → Ascends (rows_at db rel) → coming ≡ without_rows (rows_at db rel) (set_of (kept db rel rows))
    → nat_lt most_rows (length (rows_at db rel) + length coming) ≡ false → made ≡ change.Rows rel [] coming → rows_appended db rel rows ≡ Ok made
appended_is db rel rows coming made h is room e = go (nat_lt most_rows (length after_all)) (counted db rel rows coming false h is room)
  where
    after_all : List Row
    after_all = with_rows (kept db rel rows) (rows_at db rel)

    go : (b : Bool) → b ≡ false
        → (elim b as (λ b. Result DbChange Refusal) [ true ↦ Err (refusal 29) | false ↦ Ok (change.Rows rel [] (without_rows (rows_at db rel) after_all)) ]) ≡ Ok made
    go true f = cc f
    go false f = ap (λ rows. Ok (change.Rows rel [] rows)) (sym (is ∙ coming_is (rows_at db rel) (kept db rel rows) h)) ∙ ap Ok (sym e)

-- the refusal, where there is none
pub none_appended : (db : Db) (rel : RelKey) (rows coming : List Row) → Ascends (rows_at db rel) → coming ≡ without_rows (rows_at db rel) (set_of (kept db rel rows))
    → nat_lt most_rows (length (rows_at db rel) + length coming) ≡ true → rows_appended db rel rows ≡ Err (refusal 29)
none_appended db rel rows coming h is room = go (nat_lt most_rows (length after_all)) (counted db rel rows coming true h is room)
  where
    after_all : List Row
    after_all = with_rows (kept db rel rows) (rows_at db rel)

    go : (b : Bool) → b ≡ true
        → (elim b as (λ b. Result DbChange Refusal) [ true ↦ Err (refusal 29) | false ↦ Ok (change.Rows rel [] (without_rows (rows_at db rel) after_all)) ]) ≡ Err (refusal 29)
    go true f = refl
    go false f = cc f

-- what is known of the rows that come says what is known of all
pub known_appended : (db : Db) (rel : RelKey) (rows coming : List Row) (result : Result DbChange CopyFault) → Ascends (rows_at db rel)
    → coming ≡ without_rows (rows_at db rel) (set_of (kept db rel rows))
    → Copies (λ c. (c ≡ change.Rows rel [] coming) × IsFalse (nat_lt most_rows (length (rows_at db rel) + length coming)))
    (λ r. (r ≡ refusal 29) × IsTrue (nat_lt most_rows (length (rows_at db rel) + length coming))) result
    → Copies (λ c. rows_appended db rel rows ≡ Ok c) (λ r. rows_appended db rel rows ≡ Err r) result
known_appended db rel rows coming (Ok made) h is known = appended_is db rel rows coming made h is known.1 known.0
known_appended db rel rows coming (Err (No number)) h is known = none_appended db rel rows coming h is known.1 ∙ ap Err (sym known.0)
known_appended db rel rows coming (Err (BadRow row)) h is known = none_appended db rel rows coming h is known.1 ∙ ap Err (sym known.0)
known_appended db rel rows coming (Err NoFile) h is known = none_appended db rel rows coming h is known.1 ∙ ap Err (sym known.0)
known_appended db rel rows coming (Err Shelf) h is known = known
known_appended db rel rows coming (Err (Base fault)) h is known = known
known_appended db rel rows coming (Err OutOfMemory) h is known = known
