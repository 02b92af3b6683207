-- What is said of an answer, said in another way.
use Rattle.std.proofs.Common.{◌≡◌, ℕ, ◌≤◌, false, List, map, length, Some, None, is_some, Result, Ok, Err, Vec, Global}
use Rattle.std.specs.List.{list_all}
use Rattle.calculus.specs.declared.request.Asked.{Asked}
use Rattle.calculus.specs.declared.schema.RelInfo.{RelInfo}
use Rattle.calculus.specs.declared.statement.Statement.{Statement}
use Rattle.calculus.specs.Database.{Db}
use Rattle.calculus.specs.Finding.{found}
use Rattle.quel_meaning.specs.Resolved.{whole}
use Rattle.quel_meaning.specs.Scope.{Scope}
use Rattle.utility_trees.specs.Answers.{Says}
use Rattle.utility_trees.specs.Serving.{Serves}
use Rattle.utility_trees.specs.declared.fault.CheckFault.{CheckFault}
use Rattle.utility_trees.specs.declared.fault.CheckFault.TheVariants as fault

-- a fault other than a number, where no number can come
pub lost : {T : Type 0} (P : T → Type 0) (N : Type 0) (s : Scope) (stmt : Statement) → (N → ⊥) → (f : CheckFault) → Says P (λ n. N) (Err f) → Serves s stmt (Err f)
lost P N s stmt there (fault.No n) h = absurd (there h)
lost P N s stmt there (fault.Base cause) h = tt
lost P N s stmt there fault.OutOfMemory h = tt

-- what was meant by a name is there
pub not_lost : (db : Db) (user name : List ℕ) (s : Scope) (stmt : Statement) → (found db user name ≡ None → ⊥) → (f : CheckFault)
    → Says {T = RelInfo} (λ info. (found db user name ≡ Some info) × (length info.attrs ≤ 256)) (λ number. found db user name ≡ None) (Err f) → Serves s stmt (Err f)
not_lost db user name s stmt there f h = lost {T = RelInfo} (λ info. (found db user name ≡ Some info) × (length info.attrs ≤ 256)) (found db user name ≡ None) s stmt there f h

-- what was meant by each of these names is there
pub none_lost : (db : Db) (user : List ℕ) (names : List (List ℕ)) (s : Scope) (stmt : Statement) → (list_all (λ name. is_some (found db user name)) names ≡ false → ⊥) → (f : CheckFault)
    → Says {T = Vec Asked Global} (λ asked. asked.items ≡ map (λ name. whole (found db user name)) names) (λ number. list_all (λ name. is_some (found db user name)) names ≡ false) (Err f) → Serves s stmt (Err f)
none_lost db user names s stmt there f h =
    lost {T = Vec Asked Global} (λ asked. asked.items ≡ map (λ name. whole (found db user name)) names) (list_all (λ name. is_some (found db user name)) names ≡ false) s stmt there f h

-- what follows of each answer
pub says : {T : Type 0} (r : Result T CheckFault) (P Q : T → Type 0) (M N : ℕ → Type 0) → ((x : T) → P x → Q x) → ((n : ℕ) → M n → N n) → Says P M r → Says Q N r
says (Ok x) P Q M N f g h = f x h
says (Err (fault.No n)) P Q M N f g h = g n h
says (Err (fault.Base cause)) P Q M N f g h = tt
says (Err fault.OutOfMemory) P Q M N f g h = tt
