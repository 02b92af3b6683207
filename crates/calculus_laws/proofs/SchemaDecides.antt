-- The schema decides levels, what is read and what is permitted.
use Rattle.std.proofs.Common.{◌≡◌, refl, sym, ap, ◌∙◌, ℕ, zero, suc, Bool, List, ◌∷◌, ◌++◌, flat_map, filter, not, Some, None}
use Rattle.std.specs.Prelude.{◌&&◌}
use Rattle.calculus.specs.declared.query.RelKey.{RelKey}
use Rattle.calculus.specs.declared.query.AggSource.{AggSource, Named}
use Rattle.calculus.specs.declared.query.Query.{Query}
use Rattle.calculus.specs.declared.request.Update.{Update}
use Rattle.calculus.specs.Tree.{rows_of_query}
use Rattle.calculus.specs.Limits.{greatest_level}
use Rattle.calculus.specs.Who.{Who, Unrestricted, AsUser}
use Rattle.calculus.specs.Database.{Db, Relation, View}
use Rattle.calculus.specs.Stored.{Kept, Viewed, range_at}
use Rattle.calculus.specs.QueryParts.{query_aggregates}
use Rattle.calculus.specs.Used.{used_vars}
use Rattle.calculus.specs.Assignments.{is_changed}
use Rattle.calculus.specs.Sizes.{level_of}
use Rattle.calculus.specs.Rights.{Right, Retrieve, permitted}
use Rattle.calculus.specs.Permission.{Reads, vars_permitted, readable, aggregates_permitted, query_permitted, target_permitted, update_permitted}
use Rattle.calculus.specs.Reads.{vars_read, reads_of, source_reads, query_reads, update_reads}
use Rattle.calculus.specs.Schema.{schema_of}
use Rattle.calculus_laws.proofs.SameSchema.{nothing_alike, kept_alike, view_alike, ranges_alike}
use Rattle.calculus_laws.proofs.Through.{Said, said, said_view, said_at, permitted_said, level_said, reads_said, each_said}

-- ---- sayings that don't look at rows

-- the two tell the same of all but the rows of what stands under a key
record SayAlike {X : Type 0} (t u : Said X) : Type 0 where
  nothing : (f g : View → X) (key : RelKey) → t.of_range f key None ≡ u.of_range g key None
  kept : (f g : View → X) (key : RelKey) (relation other : Relation) → t.of_range f key (Some (Kept relation)) ≡ u.of_range g key (Some (Kept other))
  view : (f : View → X) (key : RelKey) (view : View) → t.of_range f key (Some (Viewed view)) ≡ u.of_range f key (Some (Viewed view))
  above : t.of_view ≡ u.of_view
  past : t.past ≡ u.past

permitted_bare : (db : Db) (who : Who) (right : Right) (attrs : List ℕ) (key : RelKey) → permitted (schema_of db) who right attrs key ≡ permitted db who right attrs key
unfolding schema_of permitted
permitted_bare db Unrestricted right attrs key = refl
permitted_bare db (AsUser asker) right attrs key = refl

target_bare : (db : Db) (who : Who) (u : Update) → target_permitted (schema_of db) who u ≡ target_permitted db who u
unfolding schema_of permitted
target_bare db Unrestricted u = refl
target_bare db (AsUser asker) u = refl

module _ (db other : Db) (same : schema_of db ≡ schema_of other) where
  said_same : {X : Type 0} (t u : Said X) → SayAlike t u → (n : ℕ) (key : RelKey) → said t n db key ≡ said u n other key
  said_same t u alike =
      each_said t db (λ n key x. x ≡ said u n other key) (record {
        nothing = λ n f key e.
            alike.nothing f (said_view u n other) key
            ∙ sym (said_at u n other key None (nothing_alike (range_at db key) (range_at other key) (ranges_alike db other same key) e));
        kept = λ n f key relation e.
            let there = kept_alike (range_at db key) (range_at other key) relation (ranges_alike db other same key) e in
            alike.kept f (said_view u n other) key relation there.0 ∙ sym (said_at u n other key (Some (Kept there.0)) there.1);
        view_past = λ key view e.
            alike.view (λ view. t.past) key view
            ∙ ap (λ past. u.of_range (λ view. past) key (Some (Viewed view))) alike.past
            ∙ sym (said_at u zero other key (Some (Viewed view)) (view_alike (range_at db key) (range_at other key) view (ranges_alike db other same key) e));
        view_above = λ n f below key view e.
            alike.view (t.of_view f) key view
            ∙ (λ i. u.of_range (alike.above i (λ k. below k i)) key (Some (Viewed view)))
            ∙ sym (said_at u (suc n) other key (Some (Viewed view)) (view_alike (range_at db key) (range_at other key) view (ranges_alike db other same key) e));
      })

  pub level_same : (key : RelKey) → level_of db key ≡ level_of other key
  unfolding level_of
  level_same key =
      said_same level_said level_said
      (record { nothing = λ f g key. refl; kept = λ f g key relation other. refl; view = λ f key view. refl; above = refl; past = refl }) greatest_level key

  -- ---- what is read

  pub reads_same : (key : RelKey) → reads_of db key ≡ reads_of other key
  unfolding reads_of
  reads_same key =
      said_same reads_said reads_said
      (record { nothing = λ f g key. refl; kept = λ f g key relation other. refl; view = λ f key view. refl; above = refl; past = refl }) greatest_level key

  source_reads_same : (source : AggSource) → source_reads db source ≡ source_reads other source
  source_reads_same (Named key) = reads_same key
  source_reads_same (rows_of_query q) = λ i. vars_read (λ key. reads_same key i) q

  pub query_reads_same : (q : Query) → query_reads db q ≡ query_reads other q
  unfolding query_reads
  query_reads_same q = λ i. vars_read (λ key. reads_same key i) q ++ flat_map (λ g. source_reads_same g.source i) (query_aggregates q)

  pub update_reads_same : (u : Update) → update_reads db u ≡ update_reads other u
  unfolding update_reads
  update_reads_same u = ap (λ reads. u.rel ∷ reads) (query_reads_same u.query)

  -- ---- what is permitted

  permitted_same : (who : Who) (right : Right) (attrs : List ℕ) (key : RelKey) → permitted db who right attrs key ≡ permitted other who right attrs key
  permitted_same who right attrs key =
      sym (permitted_bare db who right attrs key) ∙ ap (λ d. permitted d who right attrs key) same ∙ permitted_bare other who right attrs key

  readable_same : (who : Who) → readable db who ≡ readable other who
  unfolding readable
  readable_same who = λ i key. said_same (permitted_said db who) (permitted_said other who) (record {
    nothing = λ f g key. λ i attrs. permitted_same who Retrieve attrs key i;
    kept = λ f g key relation other. λ i attrs. permitted_same who Retrieve attrs key i;
    view = λ f key view. refl;
    above = refl;
    past = refl;
  }) greatest_level key i

  pub query_permitted_same : (who : Who) (q : Query) → query_permitted db who q ≡ query_permitted other who q
  unfolding query_permitted
  query_permitted_same who q = ap (λ reads. vars_permitted reads q (used_vars q) && aggregates_permitted reads q) (readable_same who)

  pub update_permitted_same : (who : Who) (u : Update) → update_permitted db who u ≡ update_permitted other who u
  unfolding update_permitted
  update_permitted_same who u =
      ap (λ b. b && others (readable db who)) (sym (target_bare db who u) ∙ ap (λ d. target_permitted d who u) same ∙ target_bare other who u)
      ∙ ap (λ reads. target_permitted other who u && others reads) (readable_same who)
    where
      others : Reads → Bool
      others reads = vars_permitted reads u.query (filter (λ p. not (is_changed u p.0)) (used_vars u.query)) && aggregates_permitted reads u.query
