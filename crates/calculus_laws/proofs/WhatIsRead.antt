-- What is read is kept.
use Rattle.std.proofs.Common.{◌≡◌, inl, inr, refl, sym, ap, ◌∙◌, subst, ℕ, List, [], ◌∷◌, Some, Contains}
use Rattle.std.specs.List.{flat_map}
use Rattle.calculus.specs.declared.query.RelKey.{RelKey}
use Rattle.calculus.specs.declared.query.AggSource.{AggSource, Named}
use Rattle.calculus.specs.declared.query.Query.{Query}
use Rattle.calculus.specs.Tree.{rows_of_query}
use Rattle.calculus.specs.Limits.{greatest_level}
use Rattle.calculus.specs.Database.{Db, Relation}
use Rattle.calculus.specs.Stored.{Kept, range_at}
use Rattle.calculus.specs.QueryParts.{query_aggregates}
use Rattle.calculus.specs.Used.{used_vars}
use Rattle.calculus.specs.Reads.{vars_read, reads_of, source_reads, query_reads}
use Rattle.calculus_laws.specs.Reading.{IsKept}
use Rattle.calculus_laws.proofs.Asked.{Contains-In}
use Rattle.calculus_laws.proofs.Members.{In, In-append_left, In-append_right, append-In}
use Rattle.calculus_laws.proofs.Through.{said, reads_said, each_said}

-- ---- what one of several gives

pub In-flat_map : {X Y : Type 0} (f : X → List Y) (xs : List X) (x : X) (y : Y) → In x xs → In y (f x) → In y (flat_map f xs)
In-flat_map f [] x y h k = absurd h
In-flat_map f (first ∷ xs) x y (inl same) k = In-append_left (f first) (flat_map f xs) y (subst (λ z. In y (f z)) (sym same) k)
In-flat_map f (first ∷ xs) x y (inr h) k = In-append_right (f first) (flat_map f xs) y (In-flat_map f xs x y h k)

pub flat_map-In : {X Y : Type 0} (f : X → List Y) (xs : List X) (y : Y) → In y (flat_map f xs) → (x : X) × In x xs × In y (f x)
flat_map-In f [] y h = absurd h
flat_map-In f (first ∷ xs) y h = elim (append-In (f first) (flat_map f xs) y h) [
  | inl here ↦ (first, inl refl, here)
  | inr later ↦ let (x, inside, there) = flat_map-In f xs y later in (x, inr inside, there)
]

-- ---- what a key reads

-- each of these is kept
abbrev AreKept : Db → List RelKey → Type 0
AreKept db keys = (read : RelKey) → In read keys → IsKept db read

vars_are_kept : (db : Db) (below : RelKey → List RelKey) → ((key : RelKey) → AreKept db (below key)) → (q : Query) → AreKept db (vars_read below q)
vars_are_kept db below kept q read h =
    let (p, inside, there) = flat_map-In (λ (p : ℕ × RelKey). below p.1) (used_vars q) read h in
    kept p.1 read there

itself : (db : Db) (key : RelKey) (relation : Relation) → range_at db key ≡ Some (Kept relation) → AreKept db (key ∷ [])
itself db key relation e read (inl same) = (relation, ap (range_at db) (sym same) ∙ e)
itself db key relation e read (inr none) = absurd none

each_kept : (db : Db) (n : ℕ) (key : RelKey) → AreKept db (said reads_said n db key)
each_kept db =
    each_said reads_said db (λ n key reads. AreKept db reads) (record {
      nothing = λ n f key e read none. absurd none;
      kept = λ n f key relation e. itself db key relation e;
      view_past = λ key view e read none. absurd none;
      view_above = λ n below kept key view e. vars_are_kept db below kept view.query;
    })

read_are_kept : (db : Db) (key : RelKey) → AreKept db (reads_of db key)
unfolding reads_of
read_are_kept db key = each_kept db greatest_level key

source_are_kept : (db : Db) (source : AggSource) → AreKept db (source_reads db source)
source_are_kept db (Named key) = read_are_kept db key
source_are_kept db (rows_of_query q) = vars_are_kept db (reads_of db) (read_are_kept db) q

query_are_kept : (db : Db) (q : Query) → AreKept db (query_reads db q)
unfolding query_reads
query_are_kept db q read h = elim (append-In (vars_read (reads_of db) q) (flat_map (λ g. source_reads db g.source) (query_aggregates q)) read h) [
  | inl by_var ↦ vars_are_kept db (reads_of db) (read_are_kept db) q read by_var
  | inr by_aggregate ↦
      let (g, inside, there) = flat_map-In (λ g. source_reads db g.source) (query_aggregates q) read by_aggregate in
      source_are_kept db g.source read there
]

-- ---- in the words of the law

pub key_reads_kept : (db : Db) (key read : RelKey) → Contains (reads_of db key) read → IsKept db read
key_reads_kept db key read c = read_are_kept db key read (Contains-In (reads_of db key) read c)

pub query_reads_kept : (db : Db) (q : Query) (read : RelKey) → Contains (query_reads db q) read → IsKept db read
query_reads_kept db q read c = query_are_kept db q read (Contains-In (query_reads db q) read c)
