-- The file of a relation or an index, as a catalogue says it.
use Rattle.std.specs.Prelude.{◌≡◌, ℕ, Bool, true, false, not, Some, None}
use Rattle.calculus.specs.declared.query.RelKey.{RelKey}
use Rattle.calculus.specs.declared.schema.RelInfo.{RelInfo}
use Rattle.calculus.specs.declared.schema.Spec.{Spec}
use Rattle.calculus.specs.declared.schema.Spec.TheVariants.{Heap, Hash, Isam, View, Index}
use Rattle.calculus.specs.Database.{Db, entry_at}
use Rattle.calculus.specs.Structures.{is_structure, is_view}
use Rattle.calculus.specs.declared.schema.RelFile.{RelFile}
use Rattle.page_chain.specs.Lists.{each}
use Rattle.stored_database.specs.Printed.{Files}
use Rattle.stored_database.specs.Spelled.{domain_of}
use Rattle.catalog_moves.specs.Renumbered.{MayTakeFile}
use Rattle.catalog_laws.specs.Placed.{is_used}

-- the pages of a relation are one chain, whatever its structure; an index has no pages yet, and a view never has
unfoldable pub HasChain : Spec → RelFile → Type 0
HasChain Heap its = (its.primary ≡ 1) × (its.directory ≡ 0)
HasChain Hash its = (its.primary ≡ 1) × (its.directory ≡ 0)
HasChain Isam its = (its.primary ≡ 1) × (its.directory ≡ 0)
HasChain View its = ⊥
HasChain Index its = (its.primary ≡ 0) × (its.directory ≡ 0) × (its.used ≡ 0)

-- A file is one of what is known: of its structure and its keys, with the domains of its attributes.
pub record HasKind (info : RelInfo) (its : RelFile) : Type 0 where
  pub spec : its.spec ≡ info.spec
  pub keys : its.keys ≡ info.keys
  pub domains : each domain_of info.attrs ≡ Some its.domains
  pub chain : HasChain info.spec its

-- It has this number and, of a relation, so many pages.
pub record IsFileBy (info : RelInfo) (file used : ℕ) (its : RelFile) : Type 0 where
  pub kind : HasKind info its
  pub number : its.file ≡ file
  pub pages : is_structure info.spec ≡ true → its.used ≡ used

-- It is the file of what stands under the key: with its number and, of a relation, its pages.
pub record IsTheFile (db : Db) (f : Files) (key : RelKey) (its : RelFile) : Type 0 where
  pub info : RelInfo
  pub there : entry_at db key ≡ Some info
  pub kind : HasKind info its
  pub number : its.file ≡ f.file key
  pub pages : is_structure info.spec ≡ true → its.used ≡ f.used key

-- what stands under the key is a relation or an index
abbrev pub has_file : Db → RelKey → Bool
has_file db key = elim (entry_at db key) [ None ↦ false | Some info ↦ not (is_view info.spec) ]

-- It is one that what stands under the key may have: a relation one page at least, and the number its own or one of a file that nothing has.
pub record MayBeFile (db : Db) (f : Files) (key : RelKey) (its : RelFile) : Type 0 where
  pub info : RelInfo
  pub there : entry_at db key ≡ Some info
  pub kind : HasKind info its
  pub some : is_structure info.spec ≡ true → is_used its.used
  pub number : MayTakeFile key its.file f
