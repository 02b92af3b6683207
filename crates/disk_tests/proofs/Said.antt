-- A file of a heap with three pages may be said of it, with its own number or another.
use Rattle.std.proofs.Common.{◌≡◌, refl, sym, subst, ◌∙◌, inl, inr, ℕ, ◌==◌, true, false}
use Rattle.std.specs.Prelude.{◌⊎◌}
use Rattle.calculus.specs.declared.query.RelKey.{RelKey}
use Rattle.calculus.specs.declared.schema.Spec.{Spec}
use Rattle.calculus.specs.declared.schema.Spec.TheVariants.{Heap}
use Rattle.calculus.specs.Database.{Db}
use Rattle.calculus.specs.declared.schema.RelFile.{RelFile}
use Rattle.stored_database.specs.Printed.{Files, is_file}
use Rattle.catalog.specs.Asked.{HasChain, IsTheFile, MayBeFile}

pub may_be : (db : Db) (f : Files) (key : RelKey) (its : RelFile) (file : ℕ) → IsTheFile db f key its → its.spec ≡ Heap
    → (file ≡ its.file) ⊎ ((is_file file ≡ true) × ((k : RelKey) → (f.file k == file) ≡ false)) → MayBeFile db f key (record its { file = file; used = 3 })
unfolding HasChain
may_be db f key its file the heap number =
    let said : RelFile = record its { file = file; used = 3 } in
    let e : the.info.spec ≡ Heap = sym the.kind.spec ∙ heap in
    record {
      info = the.info;
      there = the.there;
      kind = record {
        spec = the.kind.spec;
        keys = the.kind.keys;
        domains = the.kind.domains;
        chain = subst (λ (s : Spec). HasChain s said) (sym e) (subst (λ (s : Spec). HasChain s its) e the.kind.chain);
      };
      some = λ structure. refl;
      number = elim number [ inl k ↦ inl (k ∙ the.number) | inr k ↦ inr k ];
    }
