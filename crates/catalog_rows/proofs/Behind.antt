-- Bytes added one behind the other.
use Rattle.std.proofs.Common.{◌≡◌, ap, ◌∙◌, List, ℕ, [], ◌∷◌, ◌++◌, append_assoc}
use Rattle.std.specs.Prelude.{Result, Ok, Err, OnOk}
use Rattle.stored_database.specs.Entries.{Entry, entry_bytes, keys_bytes, spec_number}
use Rattle.stored_database.specs.Names.{bytes32, name_bytes}

pub behind_each_other : (a b c d e f p q r s t : List ℕ) → b ≡ a ++ p → c ≡ b ++ q → d ≡ c ++ r → e ≡ d ++ s → f ≡ e ++ t → f ≡ a ++ (p ++ (q ++ (r ++ (s ++ t))))
behind_each_other a b c d e f p q r s t h k l m n =
    n ∙ ap (λ x. x ++ t) (m ∙ ap (λ x. x ++ s) (l ∙ ap (λ x. x ++ r) (k ∙ ap (λ x. x ++ q) h))) ∙ simp append_assoc

-- three times, where the last may fail
pub three_behind : {A E : Type 0} (result : Result A E) (a b c d p q r : List ℕ) → b ≡ a ++ p → c ≡ b ++ q → OnOk result (d ≡ c ++ r) → OnOk result (d ≡ a ++ (p ++ (q ++ r)))
three_behind (Ok x) a b c d p q r h k l = l ∙ ap (λ x. x ++ r) (k ∙ ap (λ x. x ++ q) h) ∙ simp append_assoc
three_behind (Err x) a b c d p q r h k l = tt

-- one byte more
pub pushed : (a b : List ℕ) (x y : ℕ) → b ≡ a ++ x ∷ [] → x ≡ y → b ≡ a ++ y ∷ []
pushed a b x y e f = e ∙ ap (λ n. a ++ n ∷ []) f

-- the bytes of an entry, where its names and its numbers are taken together
pub entry_together : (e : Entry)
    → bytes32 e.file ++ ((name_bytes e.key.owner ++ name_bytes e.key.name) ++ (spec_number e.spec ∷ ((bytes32 e.base ++ (bytes32 e.primary ++ (bytes32 e.directory ++ bytes32 e.used))) ++ keys_bytes e.keys)))
    ≡ entry_bytes e
unfolding entry_bytes
entry_together e =
    ap (λ l. bytes32 e.file ++ l) (append_assoc (name_bytes e.key.owner) (name_bytes e.key.name) (spec_number e.spec ∷ (bytes32 e.base ++ (bytes32 e.primary ++ (bytes32 e.directory ++ (bytes32 e.used ++ keys_bytes e.keys))))))
