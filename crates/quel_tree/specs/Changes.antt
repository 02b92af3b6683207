-- Changes of a database as bytes: their queries and qualifications have at most so many levels.
use Rattle.std.specs.Prelude.{ℕ, ◌⊎◌, List}
use Rattle.std.proofs.Common.{inl, inr}
use Rattle.calculus.specs.declared.change.DbChange.{DbChange}
use Rattle.quel_tree.specs.Names.{name}
use Rattle.quel_tree.specs.Permits.{permit, rule}
use Rattle.quel_tree.specs.Queries.{query}
use Rattle.quel_tree.specs.Relations.{rel_info, rel_key, spec}
use Rattle.quel_tree.specs.Values.{row}
use Rattle.tree_words.specs.Codec.{Codec}
use Rattle.tree_words.specs.Ways.{last, tagged, ◌or◌}
use Rattle.tree_words.specs.Words.{both, byte, list, mapped, number16, number32}
use Rattle.calculus.specs.declared.change.DbChange.TheVariants as changes
use Rattle.calculus.specs.declared.query.RelKey.{RelKey}
use Rattle.calculus.specs.declared.query.Query.{Query}
use Rattle.calculus.specs.declared.schema.Spec.{Spec}
use Rattle.calculus.specs.declared.schema.RelInfo.{RelInfo}
use Rattle.calculus.specs.declared.schema.Permit.{Permit}
use Rattle.calculus.specs.declared.schema.Rule.{Rule}
use Rattle.calculus.specs.declared.value.Value.{Value}

abbrev pub DbChangeParts : Type 0
DbChangeParts = (RelKey × (List (List Value) × List (List Value))) ⊎ ((RelInfo × List (List Value)) ⊎ ((List RelKey) ⊎ ((RelKey × (Spec × List ℕ)) ⊎ ((RelKey × (List ℕ × List ℕ)) ⊎ ((RelInfo × Query) ⊎ ((RelKey × Permit) ⊎ ((RelKey × Rule) ⊎ ((RelKey × List ℕ) ⊎ (RelKey × List ℕ)))))))))

abbrev pub change_of : DbChangeParts → DbChange
change_of (inl p) = changes.Rows p.0 p.1.0 p.1.1
change_of (inr (inl p)) = changes.Create p.0 p.1
change_of (inr (inr (inl p))) = changes.Destroy p
change_of (inr (inr (inr (inl p)))) = changes.Modify p.0 p.1.0 p.1.1
change_of (inr (inr (inr (inr (inl p))))) = changes.Index p.0 p.1.0 p.1.1
change_of (inr (inr (inr (inr (inr (inl p)))))) = changes.View p.0 p.1
change_of (inr (inr (inr (inr (inr (inr (inl p))))))) = changes.Permit p.0 p.1
change_of (inr (inr (inr (inr (inr (inr (inr (inl p)))))))) = changes.Rule p.0 p.1
change_of (inr (inr (inr (inr (inr (inr (inr (inr (inl p))))))))) = changes.DropPermits p.0 p.1
change_of (inr (inr (inr (inr (inr (inr (inr (inr (inr p))))))))) = changes.DropRules p.0 p.1

abbrev pub change_way : DbChange → DbChangeParts
change_way (changes.Rows rel remove add) = inl (rel, (remove, add))
change_way (changes.Create info rows) = inr (inl (info, rows))
change_way (changes.Destroy rels) = inr (inr (inl rels))
change_way (changes.Modify rel to keys) = inr (inr (inr (inl (rel, (to, keys)))))
change_way (changes.Index base name keys) = inr (inr (inr (inr (inl (base, (name, keys))))))
change_way (changes.View info query) = inr (inr (inr (inr (inr (inl (info, query))))))
change_way (changes.Permit rel permit) = inr (inr (inr (inr (inr (inr (inl (rel, permit)))))))
change_way (changes.Rule rel rule) = inr (inr (inr (inr (inr (inr (inr (inl (rel, rule))))))))
change_way (changes.DropPermits rel numbers) = inr (inr (inr (inr (inr (inr (inr (inr (inl (rel, numbers)))))))))
change_way (changes.DropRules rel numbers) = inr (inr (inr (inr (inr (inr (inr (inr (inr (rel, numbers)))))))))

-- a change of a database: 0 to 9 for rows that go and come, a relation with its rows, what is destroyed, a structure, an index, a view, a permit, a rule, and permits or rules that go, and what it is of; counts of rows have four bytes
unfoldable pub change : ℕ → Codec DbChange
change n = mapped change_of change_way (tagged (both rel_key (both (list number32 row) (list number32 row)) or both rel_info (list number32 row) or (list number16 rel_key) or both rel_key (both spec (list number16 byte)) or both rel_key (both name (list number16 byte)) or both rel_info (query n) or both rel_key (permit n) or both rel_key (rule n) or both rel_key (list number16 number32) or last (both rel_key (list number16 number32))))
