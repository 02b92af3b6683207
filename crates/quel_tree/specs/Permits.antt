-- Permits and integrity rules as bytes: their qualifications have at most so many levels.
use Rattle.std.specs.Prelude.{ℕ}
use Rattle.calculus.specs.declared.schema.Permit.{Permit}
use Rattle.calculus.specs.declared.schema.Rule.{Rule}
use Rattle.quel_tree.specs.Names.{name}
use Rattle.quel_tree.specs.Queries.{qual}
use Rattle.tree_words.specs.Codec.{Codec}
use Rattle.tree_words.specs.Ways.{option}
use Rattle.tree_words.specs.Words.{both, byte, list, mapped, number16, number32}

-- a permit: its number in four bytes, its operations, the places of its attributes, its user, and its qualification
unfoldable pub permit : ℕ → Codec Permit
permit n = mapped (λ p. record { number = p.0; ops = p.1.0; attrs = p.1.1.0; user = p.1.1.1.0; qual = p.1.1.1.1 }) (λ p. (p.number, (p.ops, (p.attrs, (p.user, p.qual))))) (both number32 (both byte (both (list number16 byte) (both (option name) (qual n)))))

-- an integrity rule: its number in four bytes, and its qualification
unfoldable pub rule : ℕ → Codec Rule
rule n = mapped (λ p. record { number = p.0; qual = p.1 }) (λ r. (r.number, r.qual)) (both number32 (qual n))
