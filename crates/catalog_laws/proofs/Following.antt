-- The catalogue follows a change.
use Rattle.std.proofs.Common.{◌≡◌, sym, ap, subst, ◌∙◌, inl, inr, ◌&&◌, nat_le, nat_lt, true, List, ◌++◌, map, filter, find}
use Rattle.std.specs.Prelude.{nat_eq, is_some}
use Rattle.std.specs.List.{AllByRecursion}
use Rattle.calculus.specs.declared.change.DbChange.{DbChange}
use Rattle.calculus.specs.declared.schema.RelInfo.{RelInfo}
use Rattle.calculus.specs.Change.{laid}
use Rattle.calculus.specs.Database.{Db, entries}
use Rattle.calculus.specs.Keys.{same_key}
use Rattle.calculus.specs.Lists.{differ_by}
use Rattle.page_chain.specs.Lists.{in_order}
use Rattle.stored_database.specs.Catalogue.{Catalogue, IsCatalogue}
use Rattle.stored_database.specs.Names.{is_number32}
use Rattle.stored_database.specs.Parts.{Part, part_cmp, is_part, of_permit}
use Rattle.stored_database.specs.Printed.{Files, MayHave, printed, parts_for, trees_are_short}
use Rattle.stored_database.proofs.Members.{IsIn, of_all, tests_of, filter_in, in_either}
use Rattle.stored_database.proofs.Orders.{part_total}
use Rattle.stored_database.proofs.PrintedStands.{is_a_catalogue, may_have}
use Rattle.stored_database.proofs.PrintedTrees.{grouped_trees, trees_for, parts_are}
use Rattle.stored_database.proofs.Groups.{groups_apart}
use Rattle.stored_database.proofs.Reading.{both}
use Rattle.stored_database.proofs.Sets.{in_in_order, in_order_in}
use Rattle.stored_database.specs.After.{AreChanges, changed, stays, after_change}
use Rattle.stored_database.specs.ChangeLaws.{Agree, FilesDiffer}
use Rattle.stored_database.specs.Moves.{going, coming}
use Rattle.stored_database.proofs.Every.{every_change, every_row}
use Rattle.stored_database.proofs.Moved.{IsApart, exact_of}
use Rattle.stored_database.proofs.Three.{Stands, trees_are_apart}
use Rattle.catalog_moves.specs.Moves.{HavePlaces}
use Rattle.catalog_laws.specs.Followed.{SayTheSame, AreKept, SameSchemas, Prints, CatalogueFollows}
use Rattle.catalog_laws.proofs.Kept.{kept_say, kept_agree, kept_has, kept_may, kept_going, kept_coming}
use Rattle.catalog_laws.proofs.Schemas.{same_printed, same_entries}

-- the place of a part is a number of two bytes
place_short : (p : Part) → is_part p ≡ true → nat_lt p.place 65536 ≡ true
unfolding is_part
place_short p e =
    let a = both (is_number32 p.file) (nat_le p.sort of_permit && (is_number32 p.number && nat_lt p.place 65536)) e in
    let b = both (nat_le p.sort of_permit) (is_number32 p.number && nat_lt p.place 65536) a.1 in
    (both (is_number32 p.number) (nat_lt p.place 65536) b.1).1

-- each part of a tree is in the set of them
part_in_set : (f : Files) (db : Db) (p : Part) → Stands f db → IsIn p (parts_for f db) → IsIn p (in_order part_cmp (parts_for f db))
part_in_set f db p stands at =
    in_in_order part_cmp (parts_for f db) p
    (exact_of part_total (parts_for f db) (subst (IsApart part_cmp) (sym (parts_are f db)) (groups_apart grouped_trees (trees_for f db) (trees_are_apart f db stands)))) at

-- where what came has short places and what was there had, all have
pub short_after : (going coming cat : Catalogue) (f : Files) (db : Db) → Stands f db → printed db f ≡ changed going coming cat → AllByRecursion (λ p. is_part p ≡ true) cat.parts → HavePlaces coming
    → trees_are_short db f ≡ true
unfolding trees_are_short printed changed
short_after going coming cat f db stands is were come = tests_of (λ p. nat_lt p.place 65536) (parts_for f db) (λ p at. (
    let set : IsIn p (after_change part_cmp going.parts coming.parts cat.parts) = subst (λ (c : Catalogue). IsIn p c.parts) is (part_in_set f db p stands at) in
    elim (in_either (filter (stays part_cmp going.parts) cat.parts) coming.parts p (in_order_in part_cmp (filter (stays part_cmp going.parts) cat.parts ++ coming.parts) p set)) [
      | inl k ↦ place_short p (of_all (λ p. is_part p ≡ true) cat.parts p were (filter_in (stays part_cmp going.parts) cat.parts p k).0)
      | inr k ↦ of_all (λ p. nat_lt p.place 65536 ≡ true) coming.parts p come k
    ]))

-- files differ by entries alone
differ_by_entries : (a b : Db) (f : Files) → entries a ≡ entries b → FilesDiffer b f → FilesDiffer a f
differ_by_entries a b f same e = ap (λ (l : List RelInfo). differ_by nat_eq (map (λ (i : RelInfo). f.file i.key) l)) same ∙ e

-- what is said of what is there is said by entries alone
say_by_entries : (a b : Db) (f g : Files) → entries a ≡ entries b → SayTheSame a f g → SayTheSame b f g
say_by_entries a b f g same say = record {
  file = λ key there. say.file key (ap (λ (l : List RelInfo). is_some (find (λ i. same_key i.key key) l)) same ∙ there);
  used = λ key there. say.used key (ap (λ (l : List RelInfo). is_some (find (λ i. same_key i.key key) l)) same ∙ there);
}

-- what is printed follows a change by the files alone
pub catalogue_prints : (made : DbChange) (db part : Db) (f after kept : Files) → SameSchemas db part made → FilesDiffer db f → Agree part made f after → AreKept made part after kept
    → IsCatalogue (printed db f) → HavePlaces (coming f after part made) → MayHave (laid db made) after → Prints db part made f after kept
catalogue_prints made db part f after kept same differ agree are was places may =
    let say = kept_say made part after kept are in
    let later : entries (laid part made) ≡ entries (laid db made) = same_entries (laid part made) (laid db made) same.after in
    let may_kept = kept_may (laid db made) after kept (say_by_entries (laid part made) (laid db made) after kept later say) may in
    let differ_part = differ_by_entries part db f (same_entries part db same.before) differ in
    let differ_after = differ_by_entries (laid part made) (laid db made) kept later may_kept.files_differ in
    let its = kept_agree made part f after kept say agree in
    let g : going f kept part made ≡ going f after part made = kept_going made part f after kept are in
    let c : coming f kept part made ≡ coming f after part made = kept_coming made part f after kept are in
    let p : printed part f ≡ printed db f = same_printed part db f same.before in
    let is : changed (going f after part made) (coming f after part made) (printed db f) ≡ printed (laid db made) kept =
    (λ i. changed (sym g i) (sym c i) (sym p i)) ∙ sym (every_change made part f kept same.is same.lawful differ_part differ_after its) ∙ same_printed (laid part made) (laid db made) kept same.after in
    let changes : AreChanges (going f after part made) (coming f after part made) (printed db f) =
    subst (λ (l : Catalogue × Catalogue × Catalogue). AreChanges l.0 l.1 l.2) (λ i. (g i, c i, p i)) (every_row made part f kept same.is same.lawful differ_part differ_after its) in
    let short = short_after (going f after part made) (coming f after part made) (printed db f) kept (laid db made) (record { files_differ = may_kept.files_differ; is = same.leaves }) (sym is) was.are_parts places in
    record { changes = changes; stands = subst IsCatalogue (sym is) (is_a_catalogue kept (laid db made) same.leaves may_kept short); is = is; may = may_kept }

pub catalogue_follows : (made : DbChange) → CatalogueFollows made
catalogue_follows made db part f after kept pages same differ agree are was places has =
    let its = catalogue_prints made db part f after kept same differ agree are was places (may_have (laid db made) pages after has) in
    let later : entries (laid part made) ≡ entries (laid db made) = same_entries (laid part made) (laid db made) same.after in
    record {
      changes = its.changes;
      stands = its.stands;
      is = its.is;
      has = kept_has (laid db made) after kept pages (say_by_entries (laid part made) (laid db made) after kept later (kept_say made part after kept are)) has;
    }
