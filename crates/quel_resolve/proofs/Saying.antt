-- What is said of an answer, said in another way.
use Rattle.std.proofs.Common.{ℕ, Result, Ok, Err}
use Rattle.utility_trees.specs.Answers.{Says}
use Rattle.utility_trees.specs.declared.fault.CheckFault.{CheckFault}
use Rattle.utility_trees.specs.declared.fault.CheckFault.TheVariants as fault

-- what follows of each answer
pub says_further : {T : Type 0} (r : Result T CheckFault) (P Q : T → Type 0) (M N : ℕ → Type 0) → ((x : T) → P x → Q x) → ((n : ℕ) → M n → N n) → Says P M r → Says Q N r
says_further (Ok x) P Q M N f g h = f x h
says_further (Err (fault.No n)) P Q M N f g h = g n h
says_further (Err (fault.Base cause)) P Q M N f g h = tt
says_further (Err fault.OutOfMemory) P Q M N f g h = tt
