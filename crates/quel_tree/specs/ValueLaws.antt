-- Domains, kinds, values and rows as bytes: the laws.
use Rattle.std.specs.Prelude.{◌<◌}
use Rattle.std.proofs.Common.{inl, inr, refl, arith}
use Rattle.tree_words.specs.Exact.{Exact}
use Rattle.tree_words.specs.FormLaws.{mapped_exact}
use Rattle.tree_words.specs.LetterLaws.{byte_if_exact, nothing_exact}
use Rattle.tree_words.specs.ListLaws.{list_exact}
use Rattle.tree_words.specs.NumberLaws.{number16_exact, number64_exact}
use Rattle.tree_words.specs.Words.{number16}
use Rattle.tree_words.specs.WayLaws.{tagged_exact, or_exact, last_exact}
use Rattle.calculus.specs.declared.value.Domain.TheVariants as domains
use Rattle.calculus.specs.declared.value.Kind.TheVariants as kinds
use Rattle.calculus.specs.declared.value.Value.TheVariants as values
use Rattle.quel_tree.specs.NameLaws.{text_exact}
use Rattle.quel_tree.specs.Values.{domain, is_width, kind, row, value}

pub width_is : 1 < 256
width_is = omega arith

pub domain_exact : Exact domain
unfolding domain
domain_exact = mapped_exact _ _ _
    (elim [ inl _ ↦ λ f. refl | inr (inl _) ↦ λ f. refl | inr (inr (inl _)) ↦ λ f. refl | inr (inr (inr x)) ↦ λ f. refl ])
    (elim [ domains.I1 ↦ λ f. refl | domains.I2 ↦ λ f. refl | domains.I4 ↦ λ f. refl | domains.C x ↦ λ f. refl ])
    (tagged_exact _ (inl tt) tt (or_exact _ _ nothing_exact (or_exact _ _ nothing_exact (or_exact _ _ nothing_exact (last_exact _ (byte_if_exact is_width 1 (omega arith) refl))))))

pub kind_exact : Exact kind
unfolding kind
kind_exact = mapped_exact _ _ _
    (elim [ inl x ↦ λ f. refl | inr _ ↦ λ f. refl ])
    (elim [ kinds.Of x ↦ λ f. refl | kinds.Wide ↦ λ f. refl ])
    (tagged_exact _ (inr tt) tt (or_exact _ _ domain_exact (last_exact _ nothing_exact)))

pub value_exact : Exact value
unfolding value
value_exact = mapped_exact _ _ _
    (elim [ inl x ↦ λ f. refl | inr x ↦ λ f. refl ])
    (elim [ values.Int x ↦ λ f. refl | values.Text x ↦ λ f. refl ])
    (tagged_exact _ (inr text_exact.example) text_exact.lawful (or_exact _ _ number64_exact (last_exact _ text_exact)))

pub row_exact : Exact row
unfolding row
row_exact = list_exact number16 value number16_exact value_exact
