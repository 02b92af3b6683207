-- Bytes that are one spelling and nothing else, and the first wrong byte of those that aren't.
use Rattle.std.specs.Prelude.{◌≡◌, ℕ, suc, ◌-◌, ◌<◌, ◌≤◌, List, [], ◌∷◌, ◌++◌, length, take, Result, Ok, Err}
use Rattle.tree_words.specs.Codec.{Codec, Reading}
use Rattle.tree_words.specs.declared.fault.Fault.{Fault}
use Rattle.tree_words.specs.declared.fault.Fault.TheVariants as faults

-- the value, where nothing follows it; else the first byte behind it is wrong
abbrev pub ended : {A : Type 0} → A → List ℕ → Result A ℕ
ended a [] = Ok a
ended a (b ∷ rest) = Err (suc (length rest))

-- what reading gives, where nothing follows
abbrev pub whole : {A : Type 0} → Reading A → Result A ℕ
whole (Ok x) = ended x.0 x.1
whole (Err left) = Err left

-- the value that all of the bytes spell, or how many bytes there are from the first wrong one on
unfoldable pub reads_whole : {A : Type 0} → Codec A → List ℕ → Result A ℕ
reads_whole c bytes = whole (c.read bytes)

-- a call answers this, unless memory runs out
abbrev pub ReadsWhole : {A : Type 0} → Result A Fault → Result A ℕ → Type 0
ReadsWhole (Ok a) reading = reading ≡ Ok a
ReadsWhole (Err (faults.Wrong left)) reading = reading ≡ Err left
ReadsWhole (Err faults.OutOfMemory) reading = Unit {0}

-- the place is the first at which a byte is wrong: some spelling begins as the bytes in front of it, none begins so and has the byte there as well, and the bytes are no spelling
pub record FirstWrong {A : Type 0} (c : Codec A) (bytes : List ℕ) (at : ℕ) : Type 0 where
  pub inside : at ≤ length bytes
  pub begun : (a : A) × (more : List ℕ) × c.Fits a × (c.write a ≡ take at bytes ++ more)
  pub wrong : at < length bytes → (a : A) (more : List ℕ) → c.Fits a → c.write a ≡ take (suc at) bytes ++ more → ⊥
  pub no_spelling : (a : A) → c.Fits a → c.write a ≡ bytes → ⊥

-- the answer is this value, unless memory ran out
abbrev pub Answers : {A : Type 0} → Result A Fault → A → Type 0
Answers (Ok b) a = b ≡ a
Answers (Err (faults.Wrong left)) a = ⊥
Answers (Err faults.OutOfMemory) a = Unit {0}

-- so many bytes from the end lies the first wrong one, unless memory ran out
abbrev pub Refuses : {A : Type 0} → Codec A → List ℕ → Fault → Type 0
Refuses c bytes (faults.Wrong left) = (left ≤ length bytes) × FirstWrong c bytes (length bytes - left)
Refuses c bytes faults.OutOfMemory = Unit {0}
