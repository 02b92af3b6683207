-- Files that a map in memory holds.
use Rattle.std.proofs.Common.{◌≡◌, refl, sym, ap, ◌∙◌, ℕ, Bool, true, false, cond, List, [], ◌∷◌, ◌++◌, map, Some}
use Rattle.std.specs.Prelude.{option_map}
use Rattle.std.specs.Str.{bytes_eq}
use Rattle.std.specs.Global.{Vec}
use Rattle.std.specs.Cmp.Lexicographic.{slice_cmp}
use Rattle.std.specs.Ordering.{nat_cmp, is_eq, match_ordering}
use Rattle.std.specs.declared.cmp.Ordering.{Ordering}
use Rattle.std.specs.declared.cmp.Ordering.TheVariants.{Less, Equal, Greater}
use Rattle.std.proofs.lemmas.Map.Text.{is_eq-slice_cmp}
use Rattle.std.specs.Map.{lookup}
use Rattle.std.specs.BTreeMap.{insert_entry}
use Rattle.fault_io.specs.Files.{Files, fetched, stored}
use Rattle.fault_io.specs.InMemory.{all_stored, seen_file}

module _ (name : Vec ℕ) (bytes : Vec ℕ) where
  put_behind : (o : Ordering) (f : Vec ℕ × Vec ℕ) (es later : List (Vec ℕ × Vec ℕ))
      → map seen_file (match_ordering o ((name, bytes) ∷ f ∷ es) ((f.0, bytes) ∷ es) (f ∷ later))
      ≡ match_ordering o ((name.items, bytes.items) ∷ seen_file f ∷ map seen_file es) ((f.0.items, bytes.items) ∷ map seen_file es) (seen_file f ∷ map seen_file later)
  put_behind Less f es later = refl
  put_behind Equal f es later = refl
  put_behind Greater f es later = refl

  pub seen_stored : (es : List (Vec ℕ × Vec ℕ))
      → map seen_file (insert_entry (λ a b. slice_cmp nat_cmp a.items b.items) es name bytes) ≡ stored (map seen_file es) name.items bytes.items
  unfolding stored
  seen_stored [] = refl
  seen_stored (f ∷ es) =
      put_behind (slice_cmp nat_cmp name.items f.0.items) f es (insert_entry (λ a b. slice_cmp nat_cmp a.items b.items) es name bytes)
      ∙ ap (λ later. match_ordering (slice_cmp nat_cmp name.items f.0.items) ((name.items, bytes.items) ∷ seen_file f ∷ map seen_file es) ((f.0.items, bytes.items) ∷ map seen_file es) (seen_file f ∷ later)) (seen_stored es)

-- the file of a name
pub seen_fetched : (es : List (Vec ℕ × Vec ℕ)) (name : List ℕ)
    → fetched (map seen_file es) name ≡ option_map (λ v. v.items) (lookup (λ k. is_eq (slice_cmp nat_cmp name k.items)) es)
unfolding fetched
seen_fetched [] name = refl
seen_fetched (f ∷ es) name =
    ap (λ b. cond b (Some f.1.items) (lookup (bytes_eq name) (map seen_file es))) (sym (is_eq-slice_cmp name f.0.items))
    ∙ ap (cond (is_eq (slice_cmp nat_cmp name f.0.items)) (Some f.1.items)) (seen_fetched es name)
    ∙ go (is_eq (slice_cmp nat_cmp name f.0.items))
  where
    go : (b : Bool) → cond b (Some f.1.items) (option_map (λ v. v.items) (lookup (λ k. is_eq (slice_cmp nat_cmp name k.items)) es))
        ≡ option_map (λ v. v.items) (cond b (Some f.1) (lookup (λ k. is_eq (slice_cmp nat_cmp name k.items)) es))
    go true = refl
    go false = refl

-- a file behind the others is stored last
pub stored_last : (files : Files) (more : List (Vec ℕ × Vec ℕ)) (f : Vec ℕ × Vec ℕ)
    → all_stored files (map seen_file (more ++ f ∷ [])) ≡ stored (all_stored files (map seen_file more)) f.0.items f.1.items
unfolding all_stored
stored_last files [] f = refl
stored_last files (g ∷ more) f = stored_last (stored files g.0.items g.1.items) more f
