-- Domains, kinds, values and rows as bytes.
use Rattle.std.specs.Prelude.{ℕ, ℤ, Bool, nat_lt, ◌⊎◌, List}
use Rattle.std.proofs.Common.{inl, inr}
use Rattle.tree_words.specs.Codec.{Codec}
use Rattle.tree_words.specs.Words.{byte_if, list, mapped, nothing, number16, number64}
use Rattle.tree_words.specs.Ways.{tagged, ◌or◌, last}
use Rattle.calculus.specs.declared.value.Domain.{Domain}
use Rattle.calculus.specs.declared.value.Domain.TheVariants as domains
use Rattle.calculus.specs.declared.value.Kind.{Kind}
use Rattle.calculus.specs.declared.value.Kind.TheVariants as kinds
use Rattle.calculus.specs.declared.value.Value.{Value}
use Rattle.calculus.specs.declared.value.Value.TheVariants as values
use Rattle.quel_tree.specs.Names.{text}

abbrev pub One : Type 0
One = Unit {0}

-- a width that a domain of texts may have
abbrev pub is_width : ℕ → Bool
is_width n = nat_lt 0 n

abbrev pub domain_of : One ⊎ (One ⊎ (One ⊎ ℕ)) → Domain
domain_of (inl _) = domains.I1
domain_of (inr (inl _)) = domains.I2
domain_of (inr (inr (inl _))) = domains.I4
domain_of (inr (inr (inr x))) = domains.C x

abbrev pub domain_way : Domain → One ⊎ (One ⊎ (One ⊎ ℕ))
domain_way domains.I1 = inl tt
domain_way domains.I2 = inr (inl tt)
domain_way domains.I4 = inr (inr (inl tt))
domain_way (domains.C x) = inr (inr (inr x))

-- a domain: 0 to 2 for `i1`, `i2` and `i4`; 3 and the width for texts
unfoldable pub domain : Codec Domain
domain = mapped domain_of domain_way (tagged (nothing or nothing or nothing or last (byte_if is_width)))

abbrev pub kind_of : Domain ⊎ One → Kind
kind_of (inl x) = kinds.Of x
kind_of (inr _) = kinds.Wide

abbrev pub kind_way : Kind → Domain ⊎ One
kind_way (kinds.Of x) = inl x
kind_way kinds.Wide = inr tt

-- a kind: 0 and a domain, or 1 for numbers of 64 bits
unfoldable pub kind : Codec Kind
kind = mapped kind_of kind_way (tagged (domain or last nothing))

abbrev pub value_of : ℤ ⊎ List ℕ → Value
value_of (inl x) = values.Int x
value_of (inr x) = values.Text x

abbrev pub value_way : Value → ℤ ⊎ List ℕ
value_way (values.Int x) = inl x
value_way (values.Text x) = inr x

-- a value: 0 and a number in eight bytes, or 1 and a text
unfoldable pub value : Codec Value
value = mapped value_of value_way (tagged (number64 or last text))

-- a row: a count of two bytes and its values
unfoldable pub row : Codec (List Value)
row = list number16 value
