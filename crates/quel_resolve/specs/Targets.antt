-- The targets that items of a target list give, where it is known what the variables range over.
use Rattle.std.specs.Prelude.{◌≡◌, ◌+◌, ◌≤◌, ℕ, Bool, true, ◌&&◌, List, ◌++◌, flat_map, length, map}
use Rattle.std.specs.List.{list_all}
use Rattle.calculus.specs.declared.query.Target.{Target}
use Rattle.calculus.specs.declared.schema.RelInfo.{RelInfo}
use Rattle.calculus.specs.declared.statement.Item.{Item}
use Rattle.calculus.specs.declared.value.Kind.{Kind}
use Rattle.calculus.specs.Database.{Db}
use Rattle.quel_check.specs.Known.{Knows, are_among, is_over}
use Rattle.quel_meaning.specs.Scope.{Scope}
use Rattle.quel_meaning.specs.WrittenParts.{aggregates_in_item, outer_vars_in_item}
use Rattle.quel_meaning.specs.WrittenQuery.{targets_from}
use Rattle.quel_meaning.specs.WrittenTree.{Vars}

-- the kinds of the attributes of each of these
abbrev pub kinds_in : List RelInfo → List (List Kind)
kinds_in infos = map (λ info. map (λ a. a.kind) info.attrs) infos

-- the variables of an item are among these, and each of its aggregates is over one of those
abbrev pub is_sound : Vars → Vars → Item → Bool
is_sound vars inner i = are_among vars (outer_vars_in_item i) && list_all (is_over inner) (aggregates_in_item i)

-- the targets of these items, before which so many aggregates stand, stand behind the old ones, wherever these variables range over these, those in aggregates over those, and slots are numbers of 16 bits
unfoldable pub Puts : Db → Vars → List RelInfo → Vars → List RelInfo → ℕ → List Item → List Target → List Target → Type 0
Puts db vars infos inner inner_infos n items old new =
    (s : Scope) → s.db ≡ db → Knows s vars infos → Knows s inner inner_infos → list_all (is_sound vars inner) items ≡ true
    → n + length (flat_map aggregates_in_item items) ≤ 65535 → new ≡ old ++ targets_from s vars n items
