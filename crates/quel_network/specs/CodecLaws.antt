-- What is read of bytes is what was written, and it is all of them.
use Rattle.std.specs.Prelude.{◌≡◌, ◌<◌, ◌/◌, ◌%◌, ℕ, List, [], ◌∷◌, length, Option, Some, Ok, Err, option_map}
use Rattle.std.proofs.Common.{refl, sym, ap, ◌∙◌, arith, append-nil}
use Rattle.calculus.specs.declared.reply.Refusal.{Refusal}
use Rattle.tree_words.specs.Codec.{Codec, Reading}
use Rattle.tree_words.specs.Exact.{Exact}
use Rattle.tree_words.specs.FormLaws.{mapped_exact}
use Rattle.tree_words.specs.LetterLaws.{byte_exact}
use Rattle.tree_words.specs.NumberLaws.{number32_exact}
use Rattle.tree_words.specs.PairLaws.{both_exact}
use Rattle.tree_words.specs.Words.{number16, number32}
use Rattle.quel_network.specs.Spelling.{whole_value, spelled_by, refusal_codec}

-- what is written is the spelling of its value
pub spelled_again : {A : Type 0} (codec : Codec A) → Exact codec → (a : A) → codec.Fits a → spelled_by codec (codec.write a) ≡ Some a
spelled_again {A = A} codec exact a fits = ap (λ (r : Reading A). whole_value r) (ap codec.read (sym (append-nil (codec.write a))) ∙ exact.again a [] fits)

-- the same, of a value that is put into a message or into something else
pub made_again : {A B : Type 0} (codec : Codec A) (make : A → B) → Exact codec → (a : A) → codec.Fits a → option_map make (spelled_by codec (codec.write a)) ≡ Some (make a)
made_again {A = A} codec make exact a fits = ap (λ (o : Option A). option_map make o) (spelled_again codec exact a fits)

wholly_read : {A : Type 0} (r : Reading A) (a : A) → whole_value r ≡ Some a → r ≡ Ok (a, [])
wholly_read (Ok (x, [])) a e = let same : x ≡ a = cc e in ap (λ y. Ok (y, [])) same
wholly_read (Ok (x, b ∷ bytes)) a e = absurd (cc e)
wholly_read (Err left) a e = absurd (cc e)

-- what bytes spell fits, and they are what it is written as
pub only_spelled : {A : Type 0} (codec : Codec A) → Exact codec → (bytes : List ℕ) (a : A) → spelled_by codec bytes ≡ Some a → codec.Fits a × (bytes ≡ codec.write a)
only_spelled codec exact bytes a e =
    let o = exact.only bytes a [] (wholly_read (codec.read bytes) a e) in
    (o.0, o.1 ∙ append-nil (codec.write a))

-- ---- refusals as bytes

pub refusal_exact : Exact refusal_codec
refusal_exact = mapped_exact _ _ _ (λ p f. refl) (λ r f. refl) (both_exact _ _ byte_exact (both_exact _ _ number32_exact number32_exact))

below_number16 : (n : ℕ) → n < 65536 → number16.Fits n
unfolding number16
below_number16 n h = (omega arith, omega arith)

-- a number below 4,294,967,296 is written in four bytes
pub below_number32 : (n : ℕ) → n < 4294967296 → number32.Fits n
unfolding number32
below_number32 n h = (below_number16 (n / 65536) (omega arith), below_number16 (n % 65536) (omega arith))

-- a refusal is written in nine bytes
pub length-refusal : (r : Refusal) → length (refusal_codec.write r) ≡ 9
unfolding number32 number16
length-refusal r = refl
