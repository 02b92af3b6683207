-- A scan that looks for nothing finds a row that fails where the set of the rows has one.
use Rattle.std.proofs.Common.{◌≡◌, refl, sym, ap, ◌∙◌, ℕ, ◌+◌, ◌<◌, Bool, true, false, ◌||◌, List, [], ◌∷◌, length, Option, Some, None, arith}
use Rattle.std.specs.List.{list_any}
use Rattle.std.specs.declared.cmp.Ordering.{Ordering}
use Rattle.std.specs.declared.cmp.Ordering.TheVariants.{Less, Equal, Greater}
use Rattle.calculus.specs.declared.probe.Probe.{Probe}
use Rattle.calculus.specs.declared.probe.Place.{Place}
use Rattle.calculus.specs.declared.query.QQual.{QQual}
use Rattle.calculus.specs.declared.query.RelKey.{RelKey}
use Rattle.calculus.specs.Database.{Db}
use Rattle.calculus.specs.IsDatabase.{IsDatabase}
use Rattle.calculus.specs.Orders.{row_exact}
use Rattle.calculus.specs.Rows.{Row, put, set_of}
use Rattle.calculus.specs.Stored.{rows_at}
use Rattle.calculus.specs.Table.{tabled}
use Rattle.calculus.specs.Term.{Env, holds, no_aggs}
use Rattle.calculus.specs.Value.{row_cmp}
use Rattle.base_trait.specs.Scans.{next_meeting, first_place, IsScan}
use Rattle.ovqp.proofs.FewRows.{few_rows}
use Rattle.ovqp.proofs.ByScan.{first_left, none_left}

-- ---- a qualification without tables

pub untabled : (q : QQual) (e : Env) → holds (tabled []) q e ≡ holds no_aggs q e
unfolding tabled
untabled q e = refl

-- ---- a set has a row that passes a test where the list has one

or_same : (b c : Bool) → (b || c) ≡ (b || (b || c))
or_same true c = refl
or_same false c = refl

or_swap : (a b c : Bool) → (a || (b || c)) ≡ (b || (a || c))
or_swap true true c = refl
or_swap true false c = refl
or_swap false b c = refl

any_by : (test : Row → Bool) (row first : Row) (rest more : List Row) (o : Ordering) → row_cmp row first ≡ o → list_any test more ≡ (test row || list_any test rest)
    → list_any test (elim o [ Less ↦ row ∷ first ∷ rest | Equal ↦ first ∷ rest | Greater ↦ first ∷ more ]) ≡ (test row || (test first || list_any test rest))
any_by test row first rest more Less e later = refl
any_by test row first rest more Equal e later =
    let one : row ≡ first = row_exact row first e in
    rw one (or_same (test first) (list_any test rest))
any_by test row first rest more Greater e later = ap (λ b. test first || b) later ∙ or_swap (test first) (test row) (list_any test rest)

any_put : (test : Row → Bool) (row : Row) (rows : List Row) → list_any test (put row rows) ≡ (test row || list_any test rows)
any_put test row [] = refl
any_put test row (first ∷ rest) = any_by test row first rest (put row rest) (row_cmp row first) refl (any_put test row rest)

pub any_set : (test : Row → Bool) (rows : List Row) → list_any test (set_of rows) ≡ list_any test rows
any_set test [] = refl
any_set test (row ∷ rows) = any_put test row (set_of rows) ∙ ap (λ b. test row || b) (any_set test rows)

-- ---- the scan

-- the row that is given decides where it passes
pub found : (test : Row → Bool) (probe : Probe) (before behind : List Row) (row : Row) → probe.equal ≡ [] → next_meeting probe before ≡ Some (row, behind)
    → test row ≡ true → list_any test before ≡ true
found test probe before behind row plain met h = ap (list_any test) (first_left probe before row behind plain met) ∙ ap (λ b. b || list_any test behind) h

-- and those behind it where it doesn't
pub passed : (test : Row → Bool) (probe : Probe) (before behind : List Row) (row : Row) → probe.equal ≡ [] → next_meeting probe before ≡ Some (row, behind)
    → test row ≡ false → list_any test before ≡ list_any test behind
passed test probe before behind row plain met h = ap (list_any test) (first_left probe before row behind plain met) ∙ ap (λ b. b || list_any test behind) h

-- where no row is left, none passes
pub ended : (test : Row → Bool) (probe : Probe) (before : List Row) → probe.equal ≡ [] → next_meeting probe before ≡ None → list_any test before ≡ false
ended test probe before plain none = ap (list_any test) (none_left probe before plain none)

-- one more row was given
pub one_fewer : (probe : Probe) (before behind : List Row) (row : Row) (calls all : ℕ) → probe.equal ≡ [] → next_meeting probe before ≡ Some (row, behind)
    → calls + length before ≡ all → (calls + 1) + length behind ≡ all
one_fewer probe before behind row calls all plain met h = let split = ap length (first_left probe before row behind plain met) in omega (arith, split, h)

-- what all rows say is what the set under the key says
pub of_all : (test : Row → Bool) (set rows : List Row) (b : Bool) → IsScan set rows → list_any test rows ≡ b → b ≡ list_any test set
of_all test set rows b scan h = sym (ap (list_any test) (sym scan.all) ∙ any_set test rows ∙ h)

-- no database has so many rows under a key
pub too_many : (known : Option Db) (left : RelKey → Place → List Row) (key : RelKey) (at : Place) (calls : ℕ)
    → ((db : Db) → known ≡ Some db → IsDatabase db) → ((db : Db) → known ≡ Some db → IsScan (rows_at db key) (left key first_place))
    → ((db : Db) → known ≡ Some db → calls + length (left key at) ≡ length (left key first_place)) → 1000000 < calls → known ≡ None
too_many None left key at calls lawful scanned counted many = refl
too_many (Some db) left key at calls lawful scanned counted many =
    let few = few_rows db key (lawful db refl) in
    let once = (scanned db refl).once in
    let all = counted db refl in
    let no : ⊥ = omega (arith, few, once, all, many) in elim no [ ]
