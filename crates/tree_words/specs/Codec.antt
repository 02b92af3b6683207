-- Spellings of values as bytes: what is written, what is read, and which values fit.
use Rattle.std.specs.Prelude.{◌≡◌, ℕ, List, ◌∷◌, ◌++◌, Result, Ok, Err}
use Rattle.tree_words.specs.declared.fault.Fault.{Fault}
use Rattle.tree_words.specs.declared.fault.Fault.TheVariants as faults

-- what reading gives: a value and the bytes behind it, or how many bytes there are from the first wrong one on, 0 where the bytes end too early
abbrev pub Reading : Type 0 → Type 0
Reading A = Result (A × List ℕ) ℕ

-- this is read, and then what the value says
infixl 10 ◌>>=◌
abbrev pub ◌>>=◌ : {A B : Type 0} → Reading A → (A × List ℕ → Reading B) → Reading B
(Ok x) >>= f = f x
(Err left) >>= f = Err left

-- a spelling: the bytes that a value is written as, what bytes are read as, and which values it is for
pub record Codec (A : Type 0) : Type 1 where
  pub write : A → List ℕ
  pub read : List ℕ → Reading A
  pub Fits : A → Type 0

-- a call answers what reading gives and leaves the bytes behind it, unless memory runs out
abbrev pub Reads : {A : Type 0} → Result A Fault → List ℕ → Reading A → Type 0
Reads (Ok a) after reading = reading ≡ Ok (a, after)
Reads (Err (faults.Wrong left)) after reading = reading ≡ Err left
Reads (Err faults.OutOfMemory) after reading = Unit {0}

-- what was appended is the value's spelling with any number of levels at which the value fits
abbrev pub Writes : {A : Type 0} → (ℕ → Codec A) → A → List ℕ → List ℕ → Type 0
Writes codec a old new = (levels : ℕ) → (codec levels).Fits a → new ≡ old ++ (codec levels).write a

-- where the whole value fits, its fields fit, and it is written as this byte and then the fields
abbrev pub IsVariant : {A B : Type 0} → (ℕ → Codec A) → A → ℕ → (ℕ → Codec B) → B → Type 0
IsVariant codec whole tag inner fields = (levels : ℕ) → (codec levels).Fits whole → (inner levels).Fits fields × ((codec levels).write whole ≡ tag ∷ (inner levels).write fields)
