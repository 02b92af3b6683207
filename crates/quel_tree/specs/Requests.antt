-- What the query processor and the utilities are asked for, as bytes: its queries and qualifications have at most so many levels.
use Rattle.std.specs.Prelude.{ℕ, Bool, ◌⊎◌, List}
use Rattle.std.proofs.Common.{inl, inr}
use Rattle.calculus.specs.declared.request.Asked.{Asked}
use Rattle.calculus.specs.declared.request.Checked.{Checked}
use Rattle.calculus.specs.declared.request.Update.{Update}
use Rattle.calculus.specs.declared.request.Utility.{Utility}
use Rattle.quel_tree.specs.Copies.{copy_col}
use Rattle.quel_tree.specs.Names.{chars, name}
use Rattle.quel_tree.specs.Operators.{update_op}
use Rattle.quel_tree.specs.Permits.{permit, rule}
use Rattle.quel_tree.specs.Queries.{qual, query}
use Rattle.quel_tree.specs.Relations.{attr, rel_key, sort_key, spec}
use Rattle.tree_words.specs.Codec.{Codec}
use Rattle.tree_words.specs.Ways.{flag, last, tagged, ◌or◌}
use Rattle.tree_words.specs.Words.{both, byte, list, mapped, number16, number32}
use Rattle.calculus.specs.declared.request.Checked.TheVariants as requests
use Rattle.calculus.specs.declared.request.Utility.TheVariants as utilities
use Rattle.calculus.specs.declared.query.RelKey.{RelKey}
use Rattle.calculus.specs.declared.query.Query.{Query}
use Rattle.calculus.specs.declared.schema.Spec.{Spec}
use Rattle.calculus.specs.declared.schema.Attr.{Attr}
use Rattle.calculus.specs.declared.schema.Permit.{Permit}
use Rattle.calculus.specs.declared.schema.Rule.{Rule}
use Rattle.calculus.specs.declared.request.CopyCol.{CopyCol}

-- a query whose rows are printed: the query, and the keys of the order
unfoldable pub asked : ℕ → Codec Asked
asked n = mapped (λ p. record { query = p.0; sort = p.1 }) (λ a. (a.query, a.sort)) (both (query n) (list number16 sort_key))

-- an update: what it does, the relation, the variable of the old rows, the places of the attributes, the query, what must hold of a new row, and for which new rows the user may
unfoldable pub update : ℕ → Codec Update
update n = mapped (λ p. record { op = p.0; rel = p.1.0; old = p.1.1.0; places = p.1.1.1.0; query = p.1.1.1.1.0; checks = p.1.1.1.1.1.0; new_cut = p.1.1.1.1.1.1 }) (λ u. (u.op, (u.rel, (u.old, (u.places, (u.query, (u.checks, u.new_cut))))))) (both update_op (both rel_key (both byte (both (list number16 byte) (both (query n) (both (list number16 (qual n)) (qual n)))))))

abbrev pub UtilityParts : Type 0
UtilityParts = (RelKey × List Attr) ⊎ ((List RelKey) ⊎ ((RelKey × (Spec × List ℕ)) ⊎ ((RelKey × (List ℕ × List ℕ)) ⊎ ((RelKey × (List CopyCol × (Bool × List ℕ))) ⊎ ((RelKey × Query) ⊎ ((RelKey × Permit) ⊎ ((RelKey × Rule) ⊎ ((RelKey × List ℕ) ⊎ (RelKey × List ℕ)))))))))

abbrev pub utility_of : UtilityParts → Utility
utility_of (inl p) = utilities.Create p.0 p.1
utility_of (inr (inl p)) = utilities.Destroy p
utility_of (inr (inr (inl p))) = utilities.Modify p.0 p.1.0 p.1.1
utility_of (inr (inr (inr (inl p)))) = utilities.Index p.0 p.1.0 p.1.1
utility_of (inr (inr (inr (inr (inl p))))) = utilities.Copy p.0 p.1.0 p.1.1.0 p.1.1.1
utility_of (inr (inr (inr (inr (inr (inl p)))))) = utilities.View p.0 p.1
utility_of (inr (inr (inr (inr (inr (inr (inl p))))))) = utilities.Permit p.0 p.1
utility_of (inr (inr (inr (inr (inr (inr (inr (inl p)))))))) = utilities.Rule p.0 p.1
utility_of (inr (inr (inr (inr (inr (inr (inr (inr (inl p))))))))) = utilities.DropPermits p.0 p.1
utility_of (inr (inr (inr (inr (inr (inr (inr (inr (inr p))))))))) = utilities.DropRules p.0 p.1

abbrev pub utility_way : Utility → UtilityParts
utility_way (utilities.Create rel attrs) = inl (rel, attrs)
utility_way (utilities.Destroy rels) = inr (inl rels)
utility_way (utilities.Modify rel to keys) = inr (inr (inl (rel, (to, keys))))
utility_way (utilities.Index base name keys) = inr (inr (inr (inl (base, (name, keys)))))
utility_way (utilities.Copy rel columns from file) = inr (inr (inr (inr (inl (rel, (columns, (from, file)))))))
utility_way (utilities.View rel query) = inr (inr (inr (inr (inr (inl (rel, query))))))
utility_way (utilities.Permit rel permit) = inr (inr (inr (inr (inr (inr (inl (rel, permit)))))))
utility_way (utilities.Rule rel rule) = inr (inr (inr (inr (inr (inr (inr (inl (rel, rule))))))))
utility_way (utilities.DropPermits rel numbers) = inr (inr (inr (inr (inr (inr (inr (inr (inl (rel, numbers)))))))))
utility_way (utilities.DropRules rel numbers) = inr (inr (inr (inr (inr (inr (inr (inr (inr (rel, numbers)))))))))

-- work for the utilities: 0 to 9 for to create, destroy, modify, index, copy, define a view, a permit or a rule, and drop permits or rules, and what it is of
unfoldable pub utility : ℕ → Codec Utility
utility n = mapped utility_of utility_way (tagged (both rel_key (list number16 attr) or (list number16 rel_key) or both rel_key (both spec (list number16 byte)) or both rel_key (both name (list number16 byte)) or both rel_key (both (list number16 copy_col) (both flag chars)) or both rel_key (query n) or both rel_key (permit n) or both rel_key (rule n) or both rel_key (list number16 number32) or last (both rel_key (list number16 number32))))

abbrev pub CheckedParts : Type 0
CheckedParts = (List Asked) ⊎ (Update ⊎ Utility)

abbrev pub checked_of : CheckedParts → Checked
checked_of (inl p) = requests.Answer p
checked_of (inr (inl p)) = requests.Update p
checked_of (inr (inr p)) = requests.Utility p

abbrev pub checked_way : Checked → CheckedParts
checked_way (requests.Answer x) = inl x
checked_way (requests.Update x) = inr (inl x)
checked_way (requests.Utility x) = inr (inr x)

-- a statement whose names were found: 0 and queries, 1 and an update, or 2 and work for the utilities
unfoldable pub checked : ℕ → Codec Checked
checked n = mapped checked_of checked_way (tagged ((list number16 (asked n)) or (update n) or last (utility n)))
