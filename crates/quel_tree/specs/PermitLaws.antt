-- Permits and integrity rules as bytes: the laws.
use Rattle.std.specs.Prelude.{ℕ, ◌≤◌}
use Rattle.std.proofs.Common.{refl}
use Rattle.quel_tree.specs.NameLaws.{name_exact}
use Rattle.quel_tree.specs.Names.{name}
use Rattle.quel_tree.specs.Permits.{permit, rule}
use Rattle.quel_tree.specs.QueryLaws.{qual_exact}
use Rattle.tree_words.specs.ChoiceLaws.{option_exact}
use Rattle.tree_words.specs.Exact.{Exact}
use Rattle.tree_words.specs.FormLaws.{mapped_exact}
use Rattle.tree_words.specs.LetterLaws.{byte_exact}
use Rattle.tree_words.specs.ListLaws.{list_exact}
use Rattle.tree_words.specs.NumberLaws.{number16_exact, number32_exact}
use Rattle.tree_words.specs.PairLaws.{both_exact}
use Rattle.tree_words.specs.Words.{byte, number16}

pub permit_exact : (n : ℕ) → 1 ≤ n → Exact (permit n)
unfolding permit
permit_exact n h = mapped_exact _ _ _ (λ p f. refl) (λ x f. refl) (both_exact _ _ number32_exact (both_exact _ _ byte_exact (both_exact _ _ (list_exact number16 byte number16_exact byte_exact) (both_exact _ _ (option_exact name name_exact) (qual_exact n h)))))

pub rule_exact : (n : ℕ) → 1 ≤ n → Exact (rule n)
unfolding rule
rule_exact n h = mapped_exact _ _ _ (λ p f. refl) (λ x f. refl) (both_exact _ _ number32_exact (qual_exact n h))
