-- The reader of statements is exact.
use Rattle.std.proofs.Common.{◌≡◌, ℕ, pos, Bool, List, [], ◌∷◌, ◌++◌, Option, Some, None, Err, ◌≤◌, arith}
use Rattle.std.specs.Prelude.{codes}
use Rattle.calculus.specs.declared.operator.CmpOp.TheVariants as comparisons
use Rattle.calculus.specs.declared.request.CopyForm.{CopyForm}
use Rattle.calculus.specs.declared.request.CopyForm.TheVariants as forms
use Rattle.calculus.specs.declared.statement.Item.{Item}
use Rattle.calculus.specs.declared.statement.Qual.{Qual}
use Rattle.calculus.specs.declared.statement.Qual.TheVariants as quals
use Rattle.calculus.specs.declared.statement.Statement.{Statement}
use Rattle.calculus.specs.declared.statement.Statement.TheVariants as statements
use Rattle.calculus.specs.declared.statement.Term.TheVariants as terms
use Rattle.calculus.specs.declared.value.Domain.TheVariants as domains
use Rattle.quel_grammar.specs.declared.token.Fixed.{Fixed}
use Rattle.quel_grammar.specs.declared.token.Fixed.TheVariants as fixed
use Rattle.quel_grammar.specs.declared.token.Token.{Token}
use Rattle.quel_grammar.specs.declared.token.Token.TheVariants as tokens
use Rattle.quel_grammar.specs.Grammar.{one, word, IsWhere, IsQual, IsList, IsName}
use Rattle.quel_grammar.specs.Grammar.IsList.{last}
use Rattle.quel_grammar.specs.Grammar.IsWhere.{unqualified}
use Rattle.quel_grammar.specs.Grammar.IsComparison.{equal}
use Rattle.quel_grammar.specs.Grammar.IsNeg.{compared}
use Rattle.quel_grammar.specs.Grammar.IsConj.{conjunction}
use Rattle.quel_grammar.specs.Grammar.IsAnds.{last_and}
use Rattle.quel_grammar.specs.Grammar.IsOrs.{last_or}
use Rattle.quel_grammar.specs.Grammar.IsQual.{choice}
use Rattle.quel_grammar.specs.Statements.{joined, IsTarget, IsSort, IsUnique, IsInto, IsTo, IsDeclared, IsColumn, IsWay, IsNumbers, IsOperation, IsCovered, IsStatement}
use Rattle.quel_grammar.specs.Statements.IsSort.{unsorted}
use Rattle.quel_grammar.specs.Statements.IsUnique.{plain, unique}
use Rattle.quel_grammar.specs.Statements.IsInto.{shown}
use Rattle.quel_grammar.specs.Statements.IsTo.{without_to, with_to}
use Rattle.quel_grammar.specs.Statements.IsNumbers.{all_numbers}
use Rattle.quel_grammar.specs.Statements.IsStructure.{heap}
use Rattle.quel_grammar.specs.Statements.IsWay.{from}
use Rattle.quel_grammar.specs.Statements.IsOver.{over_on}
use Rattle.quel_grammar.specs.Statements.IsCovered.{whole}
use Rattle.quel_grammar.specs.Statements.IsUser.{everyone}
use Rattle.quel_grammar.specs.Statements.IsStatement.{range, retrieve, append, replace, delete, create, destroy, destroy_permit, destroy_integrity, modify, index, print, help, help_about, copy, define_view, define_permit, define_integrity}
use Rattle.quel_grammar.specs.Reading.{on_fixed}
use Rattle.quel_grammar.specs.TermReaders.{level}
use Rattle.quel_grammar.specs.PartReaders.{where_by, sort_by, format_of, copy_form_of, way_of, text_of, drop_by, over_of as over_word, user_of}
use Rattle.quel_grammar.specs.StatementReaders.{range_at, retrieve_by, changed_by, append_by, delete_by, create_by, destroy_names, drop_of, destroy_by, modify_by, index_by, print_by, help_at, copy_by, permit_by, rule_by, Defined, defined_of, defined_by, define_by, Verb, verb_of, verb_by, statement_by}
use Rattle.quel_grammar.specs.StatementReaders.Defined.{DefinedView, DefinedPermit, DefinedRule}
use Rattle.quel_grammar.specs.StatementReaders.Verb.{RangeVerb, RetrieveVerb, AppendVerb, ReplaceVerb, DeleteVerb, CreateVerb, DestroyVerb, ModifyVerb, IndexVerb, PrintVerb, HelpVerb, CopyVerb, DefineVerb}
use Rattle.quel_grammar.proofs.Exact.{Lang, Starts, Exact, exact_bind, fewer, exact_done, exact_stop, exact_map, exact_first}
use Rattle.quel_grammar.proofs.ExactTokens.{IsOnFixed, is_on_fixed, exact_expect, exact_after, exact_name, exact_if_name}
use Rattle.quel_grammar.proofs.ExactTerms.{one_term}
use Rattle.quel_grammar.proofs.ExactQuals.{good, exact_qual, exact_where}
use Rattle.quel_grammar.proofs.ExactLists.{x, one_names, exact_names, exact_maybe, exact_closed, exact_in_parens}
use Rattle.quel_grammar.proofs.ExactParts.{one_targets, exact_targets, exact_sort, exact_into, exact_parts, declared_is, column_is, one_format, one_copy_form, exact_numbers, Structured, exact_structure, exact_operations, is_over, exact_covered, is_user, is_way, is_text}

one_qual : IsQual (tokens.Int 0 ∷ tokens.Fixed fixed.Equal ∷ tokens.Int 0 ∷ []) (quals.Cmp comparisons.Eq (terms.Int (pos 0)) (terms.Int (pos 0)))
one_qual = choice (conjunction (compared one_term equal one_term) last_and) last_or

one_declared : IsList IsDeclared (tokens.Name x ∷ tokens.Fixed fixed.Equal ∷ word (codes "i1")) ((x, domains.I1) ∷ [])
one_declared = last (declared_is x (codes "i1") domains.I1 one_format)

one_columns : IsList IsColumn (tokens.Name x ∷ tokens.Fixed fixed.Equal ∷ word (codes "i1")) ((x, forms.Bin 1) ∷ [])
one_columns = last (column_is x (codes "i1") (forms.Bin 1) one_copy_form)

-- the statements that go on so behind these tokens
abbrev Behind : List Token → Lang Statement
Behind before us s = IsStatement (before ++ us) s

module _ (n m : ℕ) (le : n ≤ m) where
  exact_where_at : Exact IsWhere n (where_by (level n)) (where_by (level m))
  exact_where_at = fewer _ n _ _ (exact_where n (level n) (level m) (good n m le))

  -- ---- range, retrieve, append, replace, delete

  exact_range : Exact (Behind (one fixed.Range)) n range_at range_at
  unfolding range_at
  exact_range = exact_after _ n fixed.Of _ _ (record { more = tokens.Fixed fixed.Of ∷ tokens.Name x ∷ tokens.Fixed fixed.Is ∷ word x; value = statements.Range x x; whole = range })
      (exact_name _ n _ _ (record { more = tokens.Name x ∷ tokens.Fixed fixed.Is ∷ word x; value = statements.Range x x; whole = range })
      (λ v. exact_after _ n fixed.Is _ _ (record { more = tokens.Fixed fixed.Is ∷ word x; value = statements.Range v x; whole = range })
      (exact_name _ n _ _ (record { more = word x; value = statements.Range v x; whole = range })
      (λ r. exact_done _ n (statements.Range v r) range))))

  starts_retrieve : (us rs : List Token) (r : Option (List ℕ)) → IsUnique us → IsInto rs r → Starts (λ vs s. IsStatement (tokens.Fixed fixed.Retrieve ∷ us ++ (rs ++ vs)) s) []
  starts_retrieve us rs r p q = record {
    more = tokens.Fixed fixed.Open ∷ word x ++ one fixed.Dot ++ word x ++ one fixed.Close;
    value = _;
    whole =
        retrieve p q one_targets unqualified unsorted;
  }

  exact_retrieve : Exact (Behind (one fixed.Retrieve)) n (retrieve_by n (level n)) (retrieve_by m (level m))
  unfolding retrieve_by
  exact_retrieve = exact_bind (λ us u. IsUnique us) _ n _ _ _ _ (exact_maybe (λ us u. IsUnique us) n fixed.Unique plain unique)
      (λ us u p. let b = starts_retrieve us [] None p shown in record { more = b.more; value = b.value; whole = b.whole })
      (λ us u p. exact_bind IsInto _ n _ _ _ _ (exact_into n)
      (λ rs r q. let b = starts_retrieve us rs r p q in record { more = b.more; value = b.value; whole = b.whole })
      (λ rs r q. exact_in_parens (IsList IsTarget) _ n _ _ _ _ (exact_targets n m le) (starts_retrieve us rs r p q)
      (λ ts xs t. record { more = one fixed.Close; value = _; whole = retrieve p q t unqualified unsorted })
      (λ ts xs t. exact_bind IsWhere _ n _ _ _ _ exact_where_at
      (λ ws c w. record { more = []; value = _; whole = retrieve p q t w unsorted })
      (λ ws c w. exact_map IsSort _ n (λ k. statements.Retrieve r xs c k) (sort_by n) (sort_by m) (λ ks k o. retrieve p q t w o) (exact_sort n m le)))))

  exact_changed : (L : Lang Statement) (make : List ℕ → List Item → Qual → Statement)
      → ((r : List ℕ) (ts ws : List Token) (xs : List Item) (q : Qual) → IsList IsTarget ts xs → IsWhere ws q
      → L (tokens.Name r ∷ tokens.Fixed fixed.Open ∷ ts ++ tokens.Fixed fixed.Close ∷ ws) (make r xs q))
      → Exact L n (changed_by n (level n) make) (changed_by m (level m) make)
  unfolding changed_by
  exact_changed L make join = exact_name L n _ _
      (record { more = tokens.Name x ∷ tokens.Fixed fixed.Open ∷ word x ++ one fixed.Dot ++ word x ++ one fixed.Close; value = _; whole = join x _ [] _ _ one_targets unqualified })
      (λ r. exact_in_parens (IsList IsTarget) (λ us s. L (tokens.Name r ∷ us) s) n _ _ _ _ (exact_targets n m le)
      (record { more = tokens.Fixed fixed.Open ∷ word x ++ one fixed.Dot ++ word x ++ one fixed.Close; value = _; whole = join r _ [] _ _ one_targets unqualified })
      (λ ts xs t. record { more = one fixed.Close; value = _; whole = join r ts [] xs _ t unqualified })
      (λ ts xs t. exact_map IsWhere _ n (λ q. make r xs q) _ _ (λ ws q w. join r ts ws xs q t w) exact_where_at))

  exact_append : Exact (Behind (one fixed.Append)) n (append_by n (level n)) (append_by m (level m))
  unfolding append_by
  exact_append = exact_bind (λ us u. IsTo us) _ n _ _ _ _ (exact_maybe (λ us u. IsTo us) n fixed.To without_to with_to)
      (λ us u p. record {
        more = tokens.Name x ∷ tokens.Fixed fixed.Open ∷ word x ++ one fixed.Dot ++ word x ++ one fixed.Close;
        value = _;
        whole =
            append p one_targets unqualified;
      })
      (λ us u p. exact_changed _ statements.Append (λ r ts ws xs q t w. append p t w))

  exact_delete : Exact (Behind (one fixed.Delete)) n (delete_by (level n)) (delete_by (level m))
  unfolding delete_by
  exact_delete = exact_name _ n _ _ (record { more = word x; value = statements.Delete x quals.True; whole = delete unqualified })
      (λ v. exact_map IsWhere _ n (λ q. statements.Delete v q) _ _ (λ ws q w. delete w) exact_where_at)

  -- ---- create, destroy, modify, index, print, help, copy

  exact_create : Exact (Behind (one fixed.Create)) n (create_by n) (create_by m)
  unfolding create_by
  exact_create = exact_name _ n _ _ (record {
    more = tokens.Name x ∷ tokens.Fixed fixed.Open ∷ tokens.Name x ∷ tokens.Fixed fixed.Equal ∷ tokens.Name
        (codes "i1") ∷ one fixed.Close;
    value = _;
    whole = create one_declared;
  })
      (λ r. exact_in_parens (IsList IsDeclared) _ n _ _ _ _ (exact_parts format_of IsDeclared n declared_is (codes "i1") domains.I1 one_format m le)
      (record { more = tokens.Fixed fixed.Open ∷ tokens.Name x ∷ tokens.Fixed fixed.Equal ∷ tokens.Name (codes "i1") ∷ one fixed.Close; value = _; whole = create one_declared })
      (λ ts xs p. record { more = one fixed.Close; value = _; whole = create p })
      (λ ts xs p. exact_done _ n (statements.Create r xs) (create p)))

  exact_destroy_names : Exact (Behind (one fixed.Destroy)) n (destroy_names n) (destroy_names m)
  unfolding destroy_names
  exact_destroy_names = exact_map (IsList IsName) _ n statements.Destroy _ _ (λ ts xs p. destroy p) (exact_names n m le)

  exact_drop : (L : Lang Statement) (make : List ℕ → List ℕ → Statement)
      → ((r : List ℕ) (ts : List Token) (numbers : List ℕ) → IsNumbers ts numbers → L (tokens.Name r ∷ ts) (make r numbers)) → Exact L n (drop_by n make) (drop_by m make)
  unfolding drop_by
  exact_drop L make join = exact_name L n _ _ (record { more = tokens.Name x ∷ one fixed.All; value = _; whole = join x _ _ all_numbers })
      (λ r. exact_map IsNumbers _ n (make r) _ _ (λ ts numbers p. join r ts numbers p) (exact_numbers n m le))

  exact_dropped : (f : Fixed) (make : List ℕ → List ℕ → Statement) → drop_of f ≡ Some make → Exact (Behind (tokens.Fixed fixed.Destroy ∷ one f)) n (drop_by n make) (drop_by m make)
  exact_dropped fixed.Permit make e = let g : statements.DropPermits ≡ make = cc in rw (← g) (exact_drop _ statements.DropPermits (λ r ts numbers p. destroy_permit p))
  exact_dropped fixed.Integrity make e = let g : statements.DropRules ≡ make = cc in rw (← g) (exact_drop _ statements.DropRules (λ r ts numbers p. destroy_integrity p))
  exact_dropped _ make e = absurd cc

  exact_drop_on : (c : Token) (make : List ℕ → List ℕ → Statement) → IsOnFixed drop_of c make
      → Exact (λ us s. IsStatement (tokens.Fixed fixed.Destroy ∷ c ∷ us) s) n (drop_by n make) (drop_by m make)
  exact_drop_on c make on = rw on.same (exact_dropped on.said make on.known)

  exact_destroy : Exact (Behind (one fixed.Destroy)) n (destroy_by n) (destroy_by m)
  unfolding destroy_by
  exact_destroy = exact_first _ n n (omega arith) (on_fixed drop_of) _ _ (drop_by n) (drop_by m)
      (λ c make e. exact_drop_on c make (is_on_fixed drop_of c make e)) exact_destroy_names

  exact_modify : Exact (Behind (one fixed.Modify)) n (modify_by n) (modify_by m)
  unfolding modify_by
  exact_modify = exact_name _ n _ _ (record { more = tokens.Name x ∷ tokens.Fixed fixed.To ∷ word (codes "heap"); value = _; whole = modify heap })
      (λ r. exact_after _ n fixed.To _ _ (record { more = tokens.Fixed fixed.To ∷ word (codes "heap"); value = _; whole = modify heap })
      (exact_map Structured _ n (λ s. statements.Modify r s.0 s.1) _ _ (λ ts s p. modify p) (exact_structure n m le)))

  exact_index : Exact (Behind (one fixed.Index)) n (index_by n) (index_by m)
  unfolding index_by
  exact_index = exact_after _ n fixed.On _ _
      (record {
        more = tokens.Fixed fixed.On ∷ tokens.Name x ∷ tokens.Fixed fixed.Is ∷ tokens.Name x ∷ tokens.Fixed fixed.Open ∷ tokens.Name x ∷ one fixed.Close;
        value = _;
        whole =
            index one_names;
      })
      (exact_name _ n _ _ (record {
        more = tokens.Name x ∷ tokens.Fixed fixed.Is ∷ tokens.Name x ∷ tokens.Fixed fixed.Open ∷ tokens.Name x ∷ one fixed.Close;
        value = _;
        whole =
            index one_names;
      })
      (λ r. exact_after _ n fixed.Is _ _ (record {
        more = tokens.Fixed fixed.Is ∷ tokens.Name x ∷ tokens.Fixed fixed.Open ∷ tokens.Name x ∷ one fixed.Close;
        value = _;
        whole =
            index one_names;
      })
      (exact_name _ n _ _ (record { more = tokens.Name x ∷ tokens.Fixed fixed.Open ∷ tokens.Name x ∷ one fixed.Close; value = _; whole = index one_names })
      (λ name. exact_after _ n fixed.Open _ _ (record { more = tokens.Fixed fixed.Open ∷ tokens.Name x ∷ one fixed.Close; value = _; whole = index one_names })
      (exact_closed (IsList IsName) _ n _ _ _ _ (exact_names n m le) (λ ts xs p. record { more = one fixed.Close; value = _; whole = index p })
      (λ ts xs p. exact_done _ n (statements.Index r name xs) (index p)))))))

  exact_print : Exact (Behind (one fixed.Print)) n (print_by n) (print_by m)
  unfolding print_by
  exact_print = exact_map (IsList IsName) _ n statements.Print _ _ (λ ts xs p. print p) (exact_names n m le)

  exact_help : Exact (Behind (one fixed.Help)) n help_at help_at
  unfolding help_at
  exact_help = exact_if_name _ n _ _ _ _ (λ r. exact_done _ n (statements.Help (Some r)) help_about) (exact_done _ n (statements.Help None) help)

  starts_copy : (r : List ℕ) (ts us : List Token) (xs : List (List ℕ × CopyForm)) (b : Bool) → IsList IsColumn ts xs → IsWay us b
      → Starts (λ vs s. IsStatement (tokens.Fixed fixed.Copy ∷ tokens.Name r ∷ tokens.Fixed fixed.Open ∷ ts ++ tokens.Fixed fixed.Close ∷ (us ++ vs)) s) []
  starts_copy r ts us xs b p way = record { more = tokens.Text [] ∷ []; value = statements.Copy r xs b []; whole = copy p way }

  exact_file : (r : List ℕ) (ts us : List Token) (xs : List (List ℕ × CopyForm)) (b : Bool) → IsList IsColumn ts xs → IsWay us b → (c : Token) (file : List ℕ)
      → c ≡ tokens.Text file
      → IsStatement (tokens.Fixed fixed.Copy ∷ tokens.Name r ∷ tokens.Fixed fixed.Open ∷ ts ++ tokens.Fixed fixed.Close ∷ (us ++ c ∷ [])) (statements.Copy r xs b file)
  exact_file r ts us xs b p way c file e = rw e (copy p way)

  exact_copy : Exact (Behind (one fixed.Copy)) n (copy_by n) (copy_by m)
  unfolding copy_by
  exact_copy = exact_name _ n _ _ (record {
    more = tokens.Name x ∷ tokens.Fixed fixed.Open ∷ tokens.Name x ∷ tokens.Fixed fixed.Equal ∷ tokens.Name
        (codes "i1") ∷ tokens.Fixed fixed.Close ∷ tokens.Fixed fixed.From ∷ tokens.Text [] ∷ [];
    value = _;
    whole = copy one_columns from;
  })
      (λ r. exact_in_parens (IsList IsColumn) _ n _ _ _ _ (exact_parts copy_form_of IsColumn n column_is (codes "i1") (forms.Bin 1) one_copy_form m le)
      (record {
        more = tokens.Fixed fixed.Open ∷ tokens.Name x ∷ tokens.Fixed fixed.Equal ∷ tokens.Name
            (codes "i1") ∷ tokens.Fixed fixed.Close ∷ tokens.Fixed fixed.From ∷ tokens.Text [] ∷ [];
        value = _;
        whole = copy one_columns from;
      })
      (λ ts xs p. record { more = tokens.Fixed fixed.Close ∷ tokens.Fixed fixed.From ∷ tokens.Text [] ∷ []; value = _; whole = copy p from })
      (λ ts xs p. exact_expect _ n (on_fixed way_of) _ _ (record { more = tokens.Fixed fixed.From ∷ tokens.Text [] ∷ []; value = _; whole = copy p from })
      (λ c b e. exact_expect _ n text_of _ _ (starts_copy r ts (c ∷ []) xs b p (is_way c b e))
      (λ d file f. exact_done _ n (statements.Copy r xs b file) (exact_file r ts (c ∷ []) xs b p (is_way c b e) d file (is_text d file f))))))

  -- ---- define

  exact_rule : Exact (Behind (tokens.Fixed fixed.Define ∷ one fixed.Integrity)) n (rule_by (level n)) (rule_by (level m))
  unfolding rule_by
  exact_rule = exact_after _ n fixed.On _ _
      (record {
        more = tokens.Fixed fixed.On ∷ tokens.Name x ∷ tokens.Fixed fixed.Is ∷ tokens.Int 0 ∷ tokens.Fixed fixed.Equal ∷ tokens.Int 0 ∷ [];
        value = _;
        whole =
            define_integrity one_qual;
      })
      (exact_name _ n _ _ (record {
        more = tokens.Name x ∷ tokens.Fixed fixed.Is ∷ tokens.Int 0 ∷ tokens.Fixed fixed.Equal ∷ tokens.Int 0 ∷ [];
        value = _;
        whole =
            define_integrity one_qual;
      })
      (λ v. exact_after _ n fixed.Is _ _ (record {
        more = tokens.Fixed fixed.Is ∷ tokens.Int 0 ∷ tokens.Fixed fixed.Equal ∷ tokens.Int 0 ∷ [];
        value = _;
        whole =
            define_integrity one_qual;
      })
      (exact_map IsQual _ n (statements.Rule v) _ _ (λ ts q p. define_integrity p) (fewer _ n _ _ (exact_qual n (level n) (level m) (good n m le))))))

  -- what may stand behind the operations of a permit
  exact_permit : Exact (Behind (tokens.Fixed fixed.Define ∷ one fixed.Permit)) n (permit_by n (level n)) (permit_by m (level m))
  unfolding permit_by
  exact_permit = exact_bind (IsList IsOperation) _ n _ _ _ _ (exact_operations n m le)
      (λ os sums p. record {
        more = tokens.Fixed fixed.On ∷ tokens.Name x ∷ tokens.Fixed fixed.To ∷ one fixed.All;
        value = _;
        whole =
            define_permit p over_on whole everyone unqualified;
      })
      (λ os sums p. exact_expect _ n (on_fixed over_word) _ _
      (record { more = tokens.Fixed fixed.On ∷ tokens.Name x ∷ tokens.Fixed fixed.To ∷ one fixed.All; value = _; whole = define_permit p over_on whole everyone unqualified })
      (λ c u e. let over = is_over c u e in exact_name _ n _ _
      (record { more = tokens.Name x ∷ tokens.Fixed fixed.To ∷ one fixed.All; value = _; whole = define_permit p over whole everyone unqualified })
      (λ v. exact_bind IsCovered _ n _ _ _ _ (exact_covered n m le)
      (λ cs names q. record { more = tokens.Fixed fixed.To ∷ one fixed.All; value = _; whole = define_permit p over q everyone unqualified })
      (λ cs names q. exact_after _ n fixed.To _ _ (record { more = tokens.Fixed fixed.To ∷ one fixed.All; value = _; whole = define_permit p over q everyone unqualified })
      (exact_expect _ n user_of _ _ (record { more = one fixed.All; value = _; whole = define_permit p over q everyone unqualified })
      (λ d asker f. exact_map IsWhere _ n (λ w. statements.Permit (joined sums) v names asker w) _ _ (λ ws w t. define_permit p over q (is_user d asker f) t) exact_where_at))))))

  exact_defined : (f : Fixed) (d : Defined) → defined_of f ≡ Some d → Exact (Behind (tokens.Fixed fixed.Define ∷ one f)) n (defined_by n (level n) d) (defined_by m (level m) d)
  exact_defined fixed.View d e = let g : DefinedView ≡ d = cc in rw (← g) (exact_changed _ statements.View (λ r ts ws xs q t w. define_view t w))
  exact_defined fixed.Permit d e = let g : DefinedPermit ≡ d = cc in rw (← g) exact_permit
  exact_defined fixed.Integrity d e = let g : DefinedRule ≡ d = cc in rw (← g) exact_rule
  exact_defined _ d e = absurd cc

  exact_defined_on : (c : Token) (d : Defined) → IsOnFixed defined_of c d
      → Exact (λ us s. IsStatement (tokens.Fixed fixed.Define ∷ c ∷ us) s) n (defined_by n (level n) d) (defined_by m (level m) d)
  exact_defined_on c d on = rw on.same (exact_defined on.said d on.known)

  exact_define : Exact (Behind (one fixed.Define)) n (define_by n (level n)) (define_by m (level m))
  unfolding define_by
  exact_define = exact_first _ n n (omega arith) (on_fixed defined_of) Err Err (defined_by n (level n)) (defined_by m (level m))
      (λ c d e. exact_defined_on c d (is_on_fixed defined_of c d e))
      (exact_stop _ n (record { more = tokens.Fixed fixed.Integrity ∷ tokens.Fixed fixed.On ∷ tokens.Name x ∷ tokens.Fixed fixed.Is ∷ tokens.Int 0 ∷ tokens.Fixed fixed.Equal ∷ tokens.Int 0 ∷ []; value = _; whole = define_integrity one_qual }))

  -- ---- all

  exact_verb : (f : Fixed) (v : Verb) → verb_of f ≡ Some v → Exact (Behind (one f)) n (verb_by n (level n) v) (verb_by m (level m) v)
  exact_verb fixed.Range v e = let g : RangeVerb ≡ v = cc in rw (← g) exact_range
  exact_verb fixed.Retrieve v e = let g : RetrieveVerb ≡ v = cc in rw (← g) exact_retrieve
  exact_verb fixed.Append v e = let g : AppendVerb ≡ v = cc in rw (← g) exact_append
  exact_verb fixed.Replace v e = let g : ReplaceVerb ≡ v = cc in rw (← g) (exact_changed _ statements.Replace (λ r ts ws xs q t w. replace t w))
  exact_verb fixed.Delete v e = let g : DeleteVerb ≡ v = cc in rw (← g) exact_delete
  exact_verb fixed.Create v e = let g : CreateVerb ≡ v = cc in rw (← g) exact_create
  exact_verb fixed.Destroy v e = let g : DestroyVerb ≡ v = cc in rw (← g) exact_destroy
  exact_verb fixed.Modify v e = let g : ModifyVerb ≡ v = cc in rw (← g) exact_modify
  exact_verb fixed.Index v e = let g : IndexVerb ≡ v = cc in rw (← g) exact_index
  exact_verb fixed.Print v e = let g : PrintVerb ≡ v = cc in rw (← g) exact_print
  exact_verb fixed.Help v e = let g : HelpVerb ≡ v = cc in rw (← g) exact_help
  exact_verb fixed.Copy v e = let g : CopyVerb ≡ v = cc in rw (← g) exact_copy
  exact_verb fixed.Define v e = let g : DefineVerb ≡ v = cc in rw (← g) exact_define
  exact_verb _ v e = absurd cc

  exact_verb_on : (c : Token) (v : Verb) → IsOnFixed verb_of c v → Exact (λ us s. IsStatement (c ∷ us) s) n (verb_by n (level n) v) (verb_by m (level m) v)
  exact_verb_on c v on = rw on.same (exact_verb on.said v on.known)

  pub exact_statement : Exact IsStatement n (statement_by n) (statement_by m)
  unfolding statement_by
  exact_statement = exact_first _ n n (omega arith) (on_fixed verb_of) Err Err (verb_by n (level n)) (verb_by m (level m)) (λ c v e. exact_verb_on c v (is_on_fixed verb_of c v e))
      (exact_stop _ n (record { more = one fixed.Help; value = statements.Help None; whole = help }))
