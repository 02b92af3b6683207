-- Faults that come only where no database is known.
use Rattle.std.proofs.Common.{◌≡◌, refl, sym, ap, ◌∙◌, subst, ℕ, suc, ◌+◌, ◌<◌, ◌≤◌, List, [], ◌∷◌, Option, Some, None, map, length, arith}
use Rattle.std.specs.Prelude.{Result, Ok, Err, IfErr}
use Rattle.std.specs.List.{concat}
use Rattle.base_trait.specs.Causes.{IsCaused, MayCome}
use Rattle.base_trait.specs.declared.fault.BaseFault.{BaseFault}
use Rattle.base_trait.specs.declared.fault.BaseFault.TheVariants.{Damaged}
use Rattle.calculus.specs.declared.query.RelKey.{RelKey}
use Rattle.calculus.specs.declared.request.CopyCol.{CopyCol}
use Rattle.calculus.specs.Database.{Db}
use Rattle.calculus.specs.IsDatabase.{IsDatabase}
use Rattle.calculus.specs.Rows.{Row}
use Rattle.calculus.specs.Stored.{rows_at}
use Rattle.ovqp.proofs.FewRows.{few_rows}
use Rattle.quel_meaning.specs.Copying.{file_of_rows, numbered_from, record_bytes}
use Rattle.copy_util.specs.Causes as copy
use Rattle.copy_util.specs.Causes.{IsOfBase}
use Rattle.copy_util.specs.Reading.{up_to_bad}
use Rattle.copy_util.specs.Writing.{IsLarge}
use Rattle.copy_util.specs.declared.fault.CopyFault.{CopyFault}
use Rattle.copy_util.specs.declared.fault.CopyFault.TheVariants.{No, BadRow, NoFile, Shelf, Base, OutOfMemory}

-- nothing is known where it can't be
pub not_known : {X : Type 0} (known : Option X) → ((x : X) → known ≡ Some x → ⊥) → known ≡ None
not_known None no_one = refl
not_known (Some x) no_one = absurd (no_one x refl)

-- what isn't of the database is caused by nothing of it, where the count stayed
pub not_of_base : {T : Type 0} (known : Option Db) (before now : ℕ) (result : Result T CopyFault) → now ≡ before → (IsOfBase result → ⊥) → copy.IsCaused known before now result
not_of_base known before now (Ok x) stayed other = stayed
not_of_base known before now (Err (No number)) stayed other = stayed
not_of_base known before now (Err (BadRow row)) stayed other = stayed
not_of_base known before now (Err NoFile) stayed other = stayed
not_of_base known before now (Err Shelf) stayed other = stayed
not_of_base known before now (Err (Base fault)) stayed other = absurd (other tt)
not_of_base known before now (Err OutOfMemory) stayed other = stayed

-- ---- the number of a bad row

numbered_within : {X : Type 0} (number : ℕ) (xs : List (Option X)) (missing : ℕ) → numbered_from number xs ≡ Err missing → missing < number + length xs
numbered_within number [] missing e = cc e
numbered_within number (None ∷ xs) missing e = let same : number ≡ missing = cc e in omega (arith, same)
numbered_within {X} number (Some x ∷ xs) missing e = go (numbered_from (suc number) xs) refl e (numbered_within (suc number) xs)
  where
    go : (r : Result (List X) ℕ) → numbered_from (suc number) xs ≡ r
        → (elim r as (λ r. Result (List X) ℕ) [ Ok items ↦ Ok (x ∷ items) | Err missing ↦ Err missing ]) ≡ Err missing
        → ((missing : ℕ) → numbered_from (suc number) xs ≡ Err missing → missing < suc number + length xs) → missing < number + length (Some x ∷ xs)
    go (Ok items) f e later = cc e
    go (Err n) f e later = let less : missing < suc number + length xs = later missing (f ∙ e) in omega (arith, less)

bad_within : (columns : List CopyCol) (rows : List Row) (bad : ℕ) → file_of_rows columns rows ≡ Err bad → bad ≤ length rows
unfolding file_of_rows
bad_within columns rows bad e = go (numbered_from 1 (map (record_bytes columns) rows)) refl e
  where
    mapped : (xs : List Row) → length (map (record_bytes columns) xs) ≡ length xs
    mapped [] = refl
    mapped (x ∷ xs) = ap suc (mapped xs)

    go : (r : Result (List (List ℕ)) ℕ) → numbered_from 1 (map (record_bytes columns) rows) ≡ r
        → (elim r as (λ r. Result (List ℕ) ℕ) [ Ok pieces ↦ Ok (concat pieces) | Err number ↦ Err number ]) ≡ Err bad → bad ≤ length rows
    go (Ok pieces) f e = cc e
    go (Err n) f e =
        let same : n ≡ bad = cc e in
        let less : n < 1 + length (map (record_bytes columns) rows) = numbered_within 1 (map (record_bytes columns) rows) n f in
        omega (arith, same, less, mapped rows)

-- a number that doesn't fit comes only where no database is known
pub numbered_refusal : (known : Option Db) (rel : RelKey) (columns : List CopyCol) (out : List ℕ) (bad : Option ℕ) (before now : ℕ) (result : Result (Option ℕ) BaseFault) → now ≡ before
    → ((db : Db) → known ≡ Some db → IsDatabase db) → ((db : Db) → known ≡ Some db → file_of_rows columns (rows_at db rel) ≡ up_to_bad out bad)
    → IfErr result (λ fault. (fault ≡ Damaged 0 0) × IsLarge bad) → IsCaused known before now result
numbered_refusal known rel columns out bad before now (Ok answer) stayed lawful is large = stayed
numbered_refusal known rel columns out None before now (Err fault) stayed lawful is large = absurd large.1
numbered_refusal known rel columns out (Some n) before now (Err fault) stayed lawful is large =
    subst (MayCome known before now) (sym large.0) (
      not_known known (λ db e.
          let within : n ≤ length (rows_at db rel) = bad_within columns (rows_at db rel) n (is db e) in
          omega (arith, within, few_rows db rel (lawful db e), large.1)),
      stayed,
    )
