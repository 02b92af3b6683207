-- What a call answers that takes no memory, and lends bytes of those that it reads.
use Rattle.std.specs.Prelude.{◌≡◌, Err}
use Rattle.tree_words.specs.Codec.{Reading}
use Rattle.tree_words.specs.declared.fault.Fault.{Fault}
use Rattle.tree_words.specs.declared.fault.Fault.TheVariants as faults

-- reading fails, with this fault's place
abbrev pub Fails : {A : Type 0} → Reading A → Fault → Type 0
Fails reading (faults.Wrong left) = reading ≡ Err left
Fails reading faults.OutOfMemory = ⊥
