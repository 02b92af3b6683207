-- What is known of a schema over several questions.
use Rattle.std.proofs.Common.{◌≡◌, refl, sym, ◌∙◌, Option, Some, None, IsTrue, is_some}
use Rattle.calculus.specs.Database.{Db}

-- where the schema is known, and stays, what is known later was known before
pub known_before : (before after : Option Db) → IsTrue (is_some before) → ((s : Db) → before ≡ Some s → after ≡ Some s) → (s : Db) → after ≡ Some s → before ≡ Some s
known_before (Some t) after is stays s h = sym (stays t refl) ∙ h
known_before None after is stays s h = absurd (cc is)
