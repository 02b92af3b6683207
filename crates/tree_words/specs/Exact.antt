-- What each spelling keeps.
use Rattle.std.specs.Prelude.{◌≡◌, ℕ, suc, ◌⊎◌, List, ◌∷◌, ◌++◌, length, Ok, Err}
use Rattle.tree_words.specs.Codec.{Codec}
use Rattle.tree_words.specs.Ways.{Ways}

-- the bytes are a front that goes on to the spelling of some value, and then end, or go on with a byte that is wrong there, whatever follows it
pub record Refused {A : Type 0} (c : Codec A) (bytes : List ℕ) (left : ℕ) : Type 0 where
  pub front : List ℕ
  pub behind : List ℕ
  pub split : bytes ≡ front ++ behind
  pub place : left ≡ length behind
  pub value : A
  pub fits : c.Fits value
  pub more : List ℕ
  pub goes_on : c.write value ≡ front ++ more
  pub wrong : (b : ℕ) (after other : List ℕ) → behind ≡ b ∷ after → c.read (front ++ (b ∷ other)) ≡ Err (suc (length other))

-- some value fits; what was written is read again, whatever follows; what is read was so written; and what isn't read has its first wrong byte where reading says
pub record Exact {A : Type 0} (c : Codec A) : Type 0 where
  pub example : A
  pub lawful : c.Fits example
  pub again : (a : A) (rest : List ℕ) → c.Fits a → c.read (c.write a ++ rest) ≡ Ok (a, rest)
  pub only : (bytes : List ℕ) (a : A) (rest : List ℕ) → c.read bytes ≡ Ok (a, rest) → c.Fits a × (bytes ≡ c.write a ++ rest)
  pub first : (bytes : List ℕ) (left : ℕ) → c.read bytes ≡ Err left → Refused c bytes left

-- no way has this number: what is wrong is the number itself, whatever follows it
pub record Shut {A : Type 0} (w : Ways A) (t : ℕ) (bytes : List ℕ) (left : ℕ) : Type 0 where
  pub place : left ≡ suc (length bytes)
  pub wrong : (other : List ℕ) → w.read t other ≡ Err (suc (length other))

-- on the way of this number the bytes are a front that goes on to some value, and then end, or go on with a byte that is wrong there
pub record Inside {A : Type 0} (w : Ways A) (t : ℕ) (bytes : List ℕ) (left : ℕ) : Type 0 where
  pub front : List ℕ
  pub behind : List ℕ
  pub split : bytes ≡ front ++ behind
  pub place : left ≡ length behind
  pub value : A
  pub fits : w.Fits value
  pub tagged : w.tag value ≡ t
  pub more : List ℕ
  pub goes_on : w.write value ≡ front ++ more
  pub wrong : (b : ℕ) (after other : List ℕ) → behind ≡ b ∷ after → w.read t (front ++ (b ∷ other)) ≡ Err (suc (length other))

-- the same of ways: what was written is read again, what is read was so written, and what isn't read is wrong where reading says
pub record ExactWays {A : Type 0} (w : Ways A) : Type 0 where
  pub again : (a : A) (rest : List ℕ) → w.Fits a → w.read (w.tag a) (w.write a ++ rest) ≡ Ok (a, rest)
  pub only : (t : ℕ) (bytes : List ℕ) (a : A) (rest : List ℕ) → w.read t bytes ≡ Ok (a, rest) → w.Fits a × (w.tag a ≡ t) × (bytes ≡ w.write a ++ rest)
  pub first : (t : ℕ) (bytes : List ℕ) (left : ℕ) → w.read t bytes ≡ Err left → Shut w t bytes left ⊎ Inside w t bytes left
