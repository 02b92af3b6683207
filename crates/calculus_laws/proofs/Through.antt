-- What is said of each key through levels of views holds by one induction.
use Rattle.std.proofs.Common.{◌≡◌, refl, ap, ℕ, zero, suc, Bool, false, List, [], map, Option, Some, None}
use Rattle.calculus.specs.declared.query.RelKey.{RelKey}
use Rattle.calculus.specs.Rows.{Row}
use Rattle.calculus.specs.Who.{Who}
use Rattle.calculus.specs.Database.{Db, Relation, View}
use Rattle.calculus.specs.Stored.{Range, Kept, Viewed, range_at}
use Rattle.calculus.specs.Through.{Saying, FromBelow, through}
use Rattle.calculus.specs.QueryParts.{vars_of}
use Rattle.calculus.specs.Used.{used_vars}
use Rattle.calculus.specs.VariableRows.{range_rows, view_rows}
use Rattle.calculus.specs.Permission.{vars_permitted, range_permitted}
use Rattle.calculus.specs.Sizes.{level_above, range_level}
use Rattle.calculus.specs.Reads.{range_reads, vars_read}

-- ---- what is said

-- what is said of a range, of a view from below, and of a view past the levels
pub record Said (X : Type 0) : Type 0 where
  pub of_range : Saying X
  pub of_view : FromBelow X
  pub past : X

-- what is said of a key through at most so many levels of views
abbrev pub said : {X : Type 0} → Said X → ℕ → Db → RelKey → X
said t n db key = through t.of_range t.of_view t.past n db key

-- what is said of a view there
abbrev pub said_view : {X : Type 0} → Said X → ℕ → Db → View → X
said_view t zero db view = t.past
said_view t (suc n) db view = t.of_view (said t n db) view

-- what is said of a key is said of what stands there
pub said_at : {X : Type 0} (t : Said X) (n : ℕ) (db : Db) (key : RelKey) (r : Option Range) → range_at db key ≡ r → said t n db key ≡ t.of_range (said_view t n db) key r
said_at t zero db key r h = ap (t.of_range (said_view t zero db) key) h
said_at t (suc n) db key r h = ap (t.of_range (said_view t (suc n) db) key) h

-- the rows of a variable, whether it may be read, its level, and what it reads
abbrev pub rows_said : Db → Who → Said (List ℕ → List Row)
rows_said db who = record {
  of_range = λ of_view key range attrs. range_rows (λ view. of_view view attrs) db who key attrs range;
  of_view = λ below view attrs. view_rows below view;
  past = λ attrs. [];
}

abbrev pub permitted_said : Db → Who → Said (List ℕ → Bool)
permitted_said db who = record {
  of_range = λ of_view key range attrs. range_permitted (λ view. of_view view attrs) db who key attrs range;
  of_view = λ below view attrs. vars_permitted below view.query (used_vars view.query);
  past = λ attrs. false;
}

abbrev pub level_said : Said (Option ℕ)
level_said = record {
  of_range = λ of_view key range. range_level of_view range;
  of_view = λ below view. level_above (map below (vars_of view.query));
  past = None;
}

abbrev pub reads_said : Said (List RelKey)
reads_said = record { of_range = range_reads; of_view = λ below view. vars_read below view.query; past = [] }

-- ---- two sayings side by side

-- what holds of both where nothing is there, where rows are kept and of a view past the levels, and of a view through one level more whenever it holds of each key
pub record CarriesBoth {X Y : Type 0} (t : Said X) (u : Said Y) (db : Db) (P : ℕ → RelKey → X → Y → Type 0) : Type 0 where
  pub nothing : (n : ℕ) (f : View → X) (g : View → Y) (key : RelKey) → range_at db key ≡ None → P n key (t.of_range f key None) (u.of_range g key None)
  pub kept : (n : ℕ) (f : View → X) (g : View → Y) (key : RelKey) (relation : Relation) → range_at db key ≡ Some (Kept relation)
      → P n key (t.of_range f key (Some (Kept relation))) (u.of_range g key (Some (Kept relation)))
  pub view_past : (key : RelKey) (view : View) → range_at db key ≡ Some (Viewed view)
      → P zero key (t.of_range (λ view. t.past) key (Some (Viewed view))) (u.of_range (λ view. u.past) key (Some (Viewed view)))
  pub view_above : (n : ℕ) (f : RelKey → X) (g : RelKey → Y) → ((key : RelKey) → P n key (f key) (g key)) → (key : RelKey) (view : View) → range_at db key ≡ Some (Viewed view)
      → P (suc n) key (t.of_range (t.of_view f) key (Some (Viewed view))) (u.of_range (u.of_view g) key (Some (Viewed view)))

-- so it holds of every key at which it holds of the view there
by_range : {X Y : Type 0} (t : Said X) (u : Said Y) (db : Db) (P : ℕ → RelKey → X → Y → Type 0) → CarriesBoth t u db P → (n : ℕ) (key : RelKey) (f : View → X) (g : View → Y)
    → ((view : View) → range_at db key ≡ Some (Viewed view) → P n key (t.of_range f key (Some (Viewed view))) (u.of_range g key (Some (Viewed view))))
    → (r : Option Range) → range_at db key ≡ r → P n key (t.of_range f key r) (u.of_range g key r)
by_range t u db P carries n key f g of_view None e = carries.nothing n f g key e
by_range t u db P carries n key f g of_view (Some (Kept relation)) e = carries.kept n f g key relation e
by_range t u db P carries n key f g of_view (Some (Viewed view)) e = of_view view e

-- and so of every key, through any number of levels
pub both_said : {X Y : Type 0} (t : Said X) (u : Said Y) (db : Db) (P : ℕ → RelKey → X → Y → Type 0) → CarriesBoth t u db P
    → (n : ℕ) (key : RelKey) → P n key (said t n db key) (said u n db key)
both_said t u db P carries zero key =
    by_range t u db P carries zero key (said_view t zero db) (said_view u zero db) (carries.view_past key) (range_at db key) refl
both_said t u db P carries (suc n) key =
    by_range t u db P carries (suc n) key (said_view t (suc n) db) (said_view u (suc n) db)
    (carries.view_above n (said t n db) (said u n db) (both_said t u db P carries n) key) (range_at db key) refl

-- ---- one saying

-- what holds so of one
pub record Carries {X : Type 0} (t : Said X) (db : Db) (P : ℕ → RelKey → X → Type 0) : Type 0 where
  pub nothing : (n : ℕ) (f : View → X) (key : RelKey) → range_at db key ≡ None → P n key (t.of_range f key None)
  pub kept : (n : ℕ) (f : View → X) (key : RelKey) (relation : Relation) → range_at db key ≡ Some (Kept relation) → P n key (t.of_range f key (Some (Kept relation)))
  pub view_past : (key : RelKey) (view : View) → range_at db key ≡ Some (Viewed view) → P zero key (t.of_range (λ view. t.past) key (Some (Viewed view)))
  pub view_above : (n : ℕ) (f : RelKey → X) → ((key : RelKey) → P n key (f key)) → (key : RelKey) (view : View) → range_at db key ≡ Some (Viewed view)
      → P (suc n) key (t.of_range (t.of_view f) key (Some (Viewed view)))

-- beside which nothing is said
abbrev silence : Said (Unit {0})
silence = record { of_range = λ of_view key range. tt; of_view = λ below view. tt; past = tt }

pub each_said : {X : Type 0} (t : Said X) (db : Db) (P : ℕ → RelKey → X → Type 0) → Carries t db P → (n : ℕ) (key : RelKey) → P n key (said t n db key)
each_said {X} t db P carries n key =
    both_said t silence db (λ n key x y. P n key x)
    (record {
      nothing = λ n f g. carries.nothing n f;
      kept = λ n f g. carries.kept n f;
      view_past = carries.view_past;
      view_above = λ n f g. carries.view_above n f;
    })
    n key
