-- What is known of relations, and the keys of an order, as bytes.
use Rattle.std.specs.Prelude.{◌⊎◌, List}
use Rattle.std.proofs.Common.{inl, inr}
use Rattle.tree_words.specs.Codec.{Codec}
use Rattle.tree_words.specs.Words.{both, byte, list, mapped, nothing, number16}
use Rattle.tree_words.specs.Ways.{tagged, ◌or◌, last, flag}
use Rattle.calculus.specs.declared.query.RelKey.{RelKey}
use Rattle.calculus.specs.declared.reply.Column.{Column}
use Rattle.calculus.specs.declared.request.SortKey.{SortKey}
use Rattle.calculus.specs.declared.schema.Attr.{Attr}
use Rattle.calculus.specs.declared.schema.RelInfo.{RelInfo}
use Rattle.calculus.specs.declared.schema.Spec.{Spec}
use Rattle.calculus.specs.declared.schema.Spec.TheVariants as forms
use Rattle.quel_tree.specs.Names.{name}
use Rattle.quel_tree.specs.Values.{kind}

abbrev pub One : Type 0
One = Unit {0}

abbrev pub spec_of : One ⊎ (One ⊎ (One ⊎ (One ⊎ One))) → Spec
spec_of (inl _) = forms.Heap
spec_of (inr (inl _)) = forms.Hash
spec_of (inr (inr (inl _))) = forms.Isam
spec_of (inr (inr (inr (inl _)))) = forms.View
spec_of (inr (inr (inr (inr _)))) = forms.Index

abbrev pub spec_way : Spec → One ⊎ (One ⊎ (One ⊎ (One ⊎ One)))
spec_way forms.Heap = inl tt
spec_way forms.Hash = inr (inl tt)
spec_way forms.Isam = inr (inr (inl tt))
spec_way forms.View = inr (inr (inr (inl tt)))
spec_way forms.Index = inr (inr (inr (inr tt)))

-- what a relation is: 0 to 2 for a heap, a hash and an isam file, 3 for a view, 4 for an index
unfoldable pub spec : Codec Spec
spec = mapped spec_of spec_way (tagged (nothing or nothing or nothing or nothing or last nothing))

-- whose a relation is, and its name
unfoldable pub rel_key : Codec RelKey
rel_key = mapped (λ p. record { owner = p.0; name = p.1 }) (λ k. (k.owner, k.name)) (both name name)

-- an attribute: its name and its kind
unfoldable pub attr : Codec Attr
attr = mapped (λ p. record { name = p.0; kind = p.1 }) (λ a. (a.name, a.kind)) (both name kind)

-- a key of an order: the column in two bytes, and whether it descends
unfoldable pub sort_key : Codec SortKey
sort_key = mapped (λ p. record { column = p.0; down = p.1 }) (λ k. (k.column, k.down)) (both number16 flag)

-- a column: its title and its kind
unfoldable pub column : Codec Column
column = mapped (λ p. record { name = p.0; kind = p.1 }) (λ a. (a.name, a.kind)) (both name kind)

-- the columns of a table: a count of two bytes, and the columns
unfoldable pub columns : Codec (List Column)
columns = list number16 column

-- what is known of a relation: its key, what it is, its attributes, and the places of its key attributes, both with a count of two bytes
unfoldable pub rel_info : Codec RelInfo
rel_info = mapped (λ p. record { key = p.0; spec = p.1.0; attrs = p.1.1.0; keys = p.1.1.1 }) (λ r. (r.key, (r.spec, (r.attrs, r.keys)))) (both rel_key (both spec (both (list number16 attr) (list number16 byte))))
