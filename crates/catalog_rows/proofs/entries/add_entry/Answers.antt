use Rattle.std.proofs.Common.{[], ◌∷◌, ◌++◌, ◌≤◌, List, ℕ, length, sym, subst, ap, ◌∙◌}
use Rattle.stored_database.specs.Entries.{keys_bytes, spec_number}
use Rattle.stored_database.specs.Names.{bytes32, name_bytes}
use Rattle.catalog_rows.specs.Shown.{entry_in}
use Rattle.catalog_rows.proofs.Behind.{behind_each_other, entry_together}
use Rattle.catalog_rows.proofs.entries.add_entry.Goals as goal

pub returns-clause-bytes : goal.returns-clause-bytes
returns-clause-bytes c =
    let e = c.args.entry.now in
    behind_each_other c.args.row.now.items _ _ _ _ _ (bytes32 e.file) (name_bytes e.key.owner ++ name_bytes e.key.name) (spec_number e.spec ∷ []) (bytes32 e.base ++ (bytes32 e.primary ++ (bytes32 e.directory ++ bytes32 e.used))) (keys_bytes e.keys)
    c.in_ok-add_number.ensures c.in_ok-add_key.ensures.bytes (c.in_ok-push.ensures.items ∙ ap (λ n. c.add_key.new.row.items ++ n ∷ []) c.spec_number.ensures) c.in_ok-add_pages.ensures (c.in_ok-add_keys.ensures ∙ ap (λ k. c.add_pages.new.row.items ++ keys_bytes k) c.items.ensures)
    ∙ ap (λ l. c.args.row.now.items ++ l) (entry_together (entry_in e))

pub returns-clause-owner : goal.returns-clause-owner
returns-clause-owner c = c.in_ok-add_key.ensures.owner

pub returns-clause-name : goal.returns-clause-name
returns-clause-name c = c.in_ok-add_key.ensures.name

pub add_keys-requires : goal.add_keys-requires
add_keys-requires c = subst (λ (keys : List ℕ). length keys ≤ 6) (sym c.items.ensures) c.requires
