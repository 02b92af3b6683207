-- What the schema decides of a change.
use Rattle.std.proofs.Common.{◌≡◌, refl, sym, ap, ◌∙◌, true, false, Bool, IsTrue, List, Option, Some, None, is_some, Result, Ok, Err, IfOk}
use Rattle.base_trait.specs.declared.fault.BaseFault.{BaseFault}
use Rattle.calculus.specs.declared.query.RelKey.{RelKey}
use Rattle.calculus.specs.declared.schema.Attr.{Attr}
use Rattle.calculus.specs.declared.change.DbChange.TheVariants as change
use Rattle.calculus.specs.Database.{Db, is_relation}
use Rattle.calculus.specs.Rows.{Row}
use Rattle.calculus.specs.Stored.{attrs_at}
use Rattle.change_check.specs.BySchema.{rows_stand}
use Rattle.change_check.proofs.Parts.{goes_on}
use Rattle.change_check.proofs.RowsFit.{stand}

-- where the schema is known, and stays, what is known later was known before
pub known_before : (mid new : Option Db) → IsTrue (is_some mid) → ((s : Db) → mid ≡ Some s → new ≡ Some s) → (s : Db) → new ≡ Some s → mid ≡ Some s
known_before (Some t) new k stays s h = let same : t ≡ s = cc (sym (stays t refl) ∙ h) in ap (λ s. Some s) same
known_before None new k stays s h = absurd (cc k)

-- what holds anyhow holds where the answer is true
pub always : {P : Type 0} (r : Result Bool BaseFault) → P → IfOk r (λ fit. fit ≡ true → P)
always (Ok fit) p = λ k. p
always (Err e) p = tt

pub so_on_true : {P Q : Type 0} (r : Result Bool BaseFault) → (P → Q) → IfOk r (λ fit. fit ≡ true → P) → IfOk r (λ fit. fit ≡ true → Q)
so_on_true (Ok fit) f p = λ k. f (p k)
so_on_true (Err e) f p = tt

-- lists that stand by themselves do by the schema
pub stand_by_schema : (s : Db) (rel : RelKey) (attrs : List Attr) (remove add : List Row) → is_relation s rel ≡ true → attrs_at s rel ≡ attrs → stand attrs remove add ≡ true → rows_stand s rel remove add ≡ true
unfolding rows_stand
stand_by_schema s rel attrs remove add there a h = sym (goes_on (is_relation s rel) _ true there (sym (ap (λ attrs. stand attrs remove add) a ∙ h)))

-- what one change of rows says, the same one says
pub same_stand : (s : Db) (rel : RelKey) (remove add gone come : List Row) (other : RelKey) (removed added : List Row)
    → change.Rows rel remove add ≡ change.Rows other removed added → gone ≡ remove → come ≡ add → rows_stand s rel gone come ≡ true → rows_stand s other removed added ≡ true
same_stand s rel remove add gone come other removed added same e f h = cc (same, e, f, h)
