-- The readers of the parts of statements are exact.
use Rattle.std.proofs.Common.{◌≡◌, ℕ, Bool, true, false, cond, List, [], ◌∷◌, ◌++◌, Option, Some, None, Ok, refl, ap, ◌≤◌, arith}
use Rattle.std.specs.Prelude.{codes, IsTrue, nat_le, ◌==◌, ◌&&◌}
use Rattle.std.proofs.lemmas.Bool.{eqb-true}
use Rattle.calculus.specs.declared.request.CopyForm.{CopyForm}
use Rattle.calculus.specs.declared.request.CopyForm.TheVariants as forms
use Rattle.calculus.specs.declared.schema.Spec.{Spec}
use Rattle.calculus.specs.declared.schema.Spec.TheVariants as structures
use Rattle.calculus.specs.declared.statement.Item.TheVariants as items
use Rattle.calculus.specs.declared.value.Domain.{Domain}
use Rattle.calculus.specs.declared.value.Domain.TheVariants as domains
use Rattle.quel_grammar.specs.declared.token.Fixed.{Fixed}
use Rattle.quel_grammar.specs.declared.token.Fixed.TheVariants as fixed
use Rattle.quel_grammar.specs.declared.token.Token.{Token}
use Rattle.quel_grammar.specs.declared.token.Token.TheVariants as tokens
use Rattle.quel_grammar.specs.Lexer.{number_of}
use Rattle.quel_grammar.specs.Grammar.{one, word, IsTerm, IsList, IsName}
use Rattle.quel_grammar.specs.Grammar.IsList.{last}
use Rattle.quel_grammar.specs.Statements.{is_width, IsTarget, IsDirection, IsKey, IsSort, IsInto, IsFormat, IsDeclared, IsCopyForm, IsColumn, IsWay, IsNumber, IsNumbers, IsOn, IsStructure, IsOperation, IsOver, IsCovered, IsUser}
use Rattle.quel_grammar.specs.Statements.IsTarget.{set_target as set_, attribute_target, all_target as all_}
use Rattle.quel_grammar.specs.Statements.IsDirection.{undirected, up, up_in_full, down, down_in_full}
use Rattle.quel_grammar.specs.Statements.IsKey.{key}
use Rattle.quel_grammar.specs.Statements.IsSort.{unsorted, sorted}
use Rattle.quel_grammar.specs.Statements.IsInto.{shown, kept, kept_into}
use Rattle.quel_grammar.specs.Statements.IsFormat.{i1, i2, i4, chars}
use Rattle.quel_grammar.specs.Statements.IsDeclared.{declared}
use Rattle.quel_grammar.specs.Statements.IsCopyForm.{bytes1, bytes2, bytes4, wide, to_tab, to_newline, to_blank, to_comma, to_colon}
use Rattle.quel_grammar.specs.Statements.IsColumn.{column}
use Rattle.quel_grammar.specs.Statements.IsWay.{from, into}
use Rattle.quel_grammar.specs.Statements.IsNumber.{number}
use Rattle.quel_grammar.specs.Statements.IsNumbers.{all_numbers, listed}
use Rattle.quel_grammar.specs.Statements.IsOn.{without_keys, on_keys}
use Rattle.quel_grammar.specs.Statements.IsStructure.{heap, hash, isam}
use Rattle.quel_grammar.specs.Statements.IsOperation.{may_retrieve, may_append, may_replace, may_delete, may_all}
use Rattle.quel_grammar.specs.Statements.IsOver.{over_on, over_of, over_to}
use Rattle.quel_grammar.specs.Statements.IsCovered.{whole, only}
use Rattle.quel_grammar.specs.Statements.IsUser.{user, everyone}
use Rattle.quel_grammar.specs.Reading.{◌>>=◌, done, expect, on_fixed, on_name, look_up}
use Rattle.quel_grammar.specs.TermReaders.{level, term_by}
use Rattle.quel_grammar.specs.PartReaders.{list_by, all_target, dot_target, set_target, target_by, directions, direction_at, key_at, keys_by, sort_by, name_into, plain_into, into_at, width_of, number_formats, format_or, format_of, copy_forms, copy_form_or, copy_form_of, named_at, way_of, text_of, small_number, numbers_at, keyed_structures, heaps, on_by, keyed_by, structure_by, operation_of, over_of as over_word, covered_by, everyone_of, user_of}
use Rattle.quel_grammar.proofs.Exact.{Lang, Starts, Exact, fewer, exact_done, exact_map, exact_as, exact_first}
use Rattle.quel_grammar.proofs.ExactTokens.{IsOnFixed, is_on_fixed, IsOnName, is_on_name, looked_up, exact_expect, exact_only, exact_after, exact_name, exact_found_same, exact_if_name}
use Rattle.quel_grammar.proofs.ExactTerms.{exact_term}
use Rattle.quel_grammar.proofs.ExactQuals.{good}
use Rattle.quel_grammar.proofs.ExactLists.{x, exact_list, exact_names, exact_just_closed}

-- ---- targets

pub one_target : IsTarget (word x ++ one fixed.Dot ++ word x) (items.Attr x x)
one_target = attribute_target

pub one_targets : IsList IsTarget (word x ++ one fixed.Dot ++ word x) (items.Attr x x ∷ [])
one_targets = last one_target

module _ (n m : ℕ) (le : n ≤ m) where
  exact_all_target : (v : List ℕ) → Exact (λ us u. IsTarget (tokens.Name v ∷ tokens.Fixed fixed.Dot ∷ us) u) n (all_target v) (all_target v)
  unfolding all_target
  exact_all_target v = exact_after _ n fixed.All _ _ (record { more = word v; value = items.Attr v v; whole = attribute_target }) (exact_done _ n (items.All v) all_)

  exact_dot_target : (v : List ℕ) → Exact (λ us u. IsTarget (tokens.Name v ∷ us) u) n (dot_target v) (dot_target v)
  unfolding dot_target
  exact_dot_target v = exact_after _ n fixed.Dot _ _ (record { more = tokens.Fixed fixed.Dot ∷ word v; value = items.Attr v v; whole = attribute_target })
      (exact_if_name _ n _ _ _ _ (λ a. exact_done _ n (items.Attr v a) attribute_target) (exact_all_target v))

  exact_set_target : (v : List ℕ) → Exact (λ us u. IsTarget (tokens.Name v ∷ tokens.Fixed fixed.Equal ∷ us) u) n (set_target (level n) v) (set_target (level m) v)
  unfolding set_target
  exact_set_target v = exact_map IsTerm _ n (λ t. items.Set v t) (term_by (level n)) (term_by (level m)) (λ us t p. set_ p)
      (fewer _ n _ _ (exact_term n (level n) (level m) (good n m le)))

  exact_target : Exact IsTarget n (target_by (level n)) (target_by (level m))
  unfolding target_by
  exact_target = exact_name _ n _ _ (record { more = _; value = _; whole = one_target }) (λ v. exact_found_same _ n fixed.Equal _ _ _ _ (exact_set_target v) (exact_dot_target v))

  pub exact_targets : Exact (IsList IsTarget) n (list_by (target_by (level n)) n []) (list_by (target_by (level m)) m [])
  exact_targets = exact_list IsTarget n _ _ exact_target (record { more = _; value = _; whole = one_target }) n m (omega arith) le

-- ---- sort keys

is_direction : (c : Token) (b : Bool) → IsOnName (look_up directions) c b → IsDirection (tokens.Fixed fixed.Colon ∷ c ∷ []) b
is_direction c b on = rw on.same (looked_up (λ w b. IsDirection (tokens.Fixed fixed.Colon ∷ word w) b) directions on.said b (up, (up_in_full, (down, (down_in_full, tt)))) on.known)

exact_direction : (k : ℕ) → Exact IsDirection k direction_at direction_at
unfolding direction_at
exact_direction k = exact_found_same _ k fixed.Colon _ _ _ _
    (exact_only _ k (on_name (look_up directions)) (record { more = word (codes "a"); value = false; whole = up })
    (λ c b e. is_direction c b (is_on_name (look_up directions) c b e))) (exact_done _ k false undirected)

one_key : IsKey (word x) (x, false)
one_key = key undirected

exact_key : (k : ℕ) → Exact IsKey k key_at key_at
unfolding key_at
exact_key k = exact_name _ k _ _ (record { more = word x; value = (x, false); whole = one_key })
    (λ n. exact_map IsDirection _ k (λ down. (n, down)) direction_at direction_at (λ us down p. key p) (exact_direction k))

one_keys : IsList IsKey (word x) ((x, false) ∷ [])
one_keys = last one_key

exact_keys : (n m : ℕ) → n ≤ m → Exact (λ us u. IsSort (tokens.Fixed fixed.Sort ∷ us) u) n (keys_by n) (keys_by m)
unfolding keys_by
exact_keys n m le = exact_after _ n fixed.By _ _ (record { more = one fixed.By ++ word x; value = (x, false) ∷ []; whole = sorted one_keys })
    (exact_as (IsList IsKey) _ n _ _ (λ us ks p. sorted p)
    (exact_list IsKey n key_at key_at (exact_key n) (record { more = word x; value = (x, false); whole = one_key }) n m (omega arith) le))

pub exact_sort : (n m : ℕ) → n ≤ m → Exact IsSort n (sort_by n) (sort_by m)
unfolding sort_by
exact_sort n m le = exact_found_same _ n fixed.Sort _ _ _ _ (exact_keys n m le) (exact_done _ n [] unsorted)

-- ---- results

exact_name_into : (k : ℕ) → Exact (λ us r. IsInto (tokens.Fixed fixed.Into ∷ us) r) k name_into name_into
unfolding name_into
exact_name_into k = exact_name _ k _ _ (record { more = word x; value = Some x; whole = kept_into }) (λ v. exact_done _ k (Some v) kept_into)

exact_plain_into : (k : ℕ) → Exact IsInto k plain_into plain_into
unfolding plain_into
exact_plain_into k = exact_if_name _ k _ _ _ _ (λ v. exact_done _ k (Some v) kept) (exact_done _ k None shown)

pub exact_into : (k : ℕ) → Exact IsInto k into_at into_at
unfolding into_at
exact_into k = exact_found_same _ k fixed.Into _ _ _ _ (exact_name_into k) (exact_plain_into k)

-- ---- forms

-- a `c` and a number from 1 to 255
record HasWidth (w : List ℕ) (width : ℕ) : Type 0 where
  digits : List ℕ
  same : w ≡ 99 ∷ digits
  lawful : IsTrue (is_width digits)
  value : number_of digits ≡ width

both : (a b : Bool) → (a && b) ≡ true → (a ≡ true) × (b ≡ true)
both true true e = (refl, refl)
both true false e = absurd cc
both false b e = absurd cc

width_if : (b : ℕ) (digits : List ℕ) (width : ℕ) (c : Bool) → ((b == 99) && is_width digits) ≡ c → elim c [ true ↦ Some (number_of digits) | false ↦ None ] ≡ Some width
    → HasWidth (b ∷ digits) width
width_if b digits width true e f =
    let parts = both (b == 99) (is_width digits) e in
    record { digits = digits; same = ap (λ a. a ∷ digits) (eqb-true b 99 parts.0); lawful = parts.1; value = let g : number_of digits ≡ width = cc in g }
width_if b digits width false e f = absurd cc

has_width : (w : List ℕ) (width : ℕ) → width_of w ≡ Some width → HasWidth w width
has_width [] width e = absurd cc
has_width (b ∷ digits) width e = width_if b digits width ((b == 99) && is_width digits) refl e

chars_of : (w : List ℕ) (width : ℕ) → HasWidth w width → IsFormat (word w) (domains.C width)
chars_of w width h = rw (h.same, ← h.value) (chars h.lawful)

wide_of : (w : List ℕ) (width : ℕ) → HasWidth w width → IsCopyForm (word w) (forms.Fixed width)
wide_of w width h = rw (h.same, ← h.value) (wide h.lawful)

format_is : (w : List ℕ) (o : Option ℕ) (d : Domain) → width_of w ≡ o → format_or w o ≡ Some d → IsFormat (word w) d
format_is w (Some width) d e f = let g : domains.C width ≡ d = cc in rw (← g) (chars_of w width (has_width w width e))
format_is w None d e f = looked_up (λ w d. IsFormat (word w) d) number_formats w d (i1, (i2, (i4, tt))) f

copy_form_is : (w : List ℕ) (o : Option ℕ) (form : CopyForm) → width_of w ≡ o → copy_form_or w o ≡ Some form → IsCopyForm (word w) form
copy_form_is w (Some width) form e f = let g : forms.Fixed width ≡ form = cc in rw (← g) (wide_of w width (has_width w width e))
copy_form_is w None form e f = looked_up (λ w form. IsCopyForm (word w) form) copy_forms w form
    (bytes1, (bytes2, (bytes4, (to_tab, (to_newline, (to_blank, (to_comma, (to_colon, tt)))))))) f

module _ {X : Type 0} (f : List ℕ → Option X) (Is : Lang (List ℕ × X)) (k : ℕ)
    (known : (n w : List ℕ) (v : X) → f w ≡ Some v → Is (tokens.Name n ∷ tokens.Fixed fixed.Equal ∷ word w) (n, v)) (w : List ℕ) (v : X) (some : f w ≡ Some v) where
  named_is : (n : List ℕ) (c : Token) (v : X) → IsOnName f c v → Is (tokens.Name n ∷ tokens.Fixed fixed.Equal ∷ c ∷ []) (n, v)
  named_is n c v on = rw on.same (known n on.said v on.known)

  exact_named_at : Exact Is k (named_at f) (named_at f)
  unfolding named_at
  exact_named_at = exact_name Is k _ _ (record { more = tokens.Name x ∷ tokens.Fixed fixed.Equal ∷ word w; value = (x, v); whole = known x w v some })
      (λ n. exact_after _ k fixed.Equal _ _ (record { more = tokens.Fixed fixed.Equal ∷ word w; value = (n, v); whole = known n w v some })
      (exact_expect _ k (on_name f) _ _ (record { more = word w; value = (n, v); whole = known n w v some })
      (λ c u e. exact_done _ k (n, u) (named_is n c u (is_on_name f c u e)))))

  pub exact_parts : (m : ℕ) → k ≤ m → Exact (IsList Is) k (list_by (named_at f) k []) (list_by (named_at f) m [])
  exact_parts m le = exact_list Is k _ _ exact_named_at (record { more = tokens.Name x ∷ tokens.Fixed fixed.Equal ∷ word w; value = (x, v); whole = known x w v some }) k m
      (omega arith) le

pub declared_is : (n w : List ℕ) (d : Domain) → format_of w ≡ Some d → IsDeclared (tokens.Name n ∷ tokens.Fixed fixed.Equal ∷ word w) (n, d)
declared_is n w d e = declared (format_is w (width_of w) d refl e)

pub column_is : (n w : List ℕ) (form : CopyForm) → copy_form_of w ≡ Some form → IsColumn (tokens.Name n ∷ tokens.Fixed fixed.Equal ∷ word w) (n, form)
column_is n w form e = column (copy_form_is w (width_of w) form refl e)

pub one_format : format_of (codes "i1") ≡ Some domains.I1
unfolding look_up
one_format = refl

pub one_copy_form : copy_form_of (codes "i1") ≡ Some (forms.Bin 1)
unfolding look_up
one_copy_form = refl

-- ---- numbers

pub one_number : IsNumber (tokens.Int 0 ∷ []) 0
one_number = number refl

number_if : (n y : ℕ) (b : Bool) → nat_le n 4294967295 ≡ b → cond b (Some n) None ≡ Some y → IsNumber (tokens.Int n ∷ []) y
number_if n y true e f = let g : n ≡ y = cc in rw (← g) (number e)
number_if n y false e f = absurd cc

is_number : (c : Token) (y : ℕ) → small_number c ≡ Some y → IsNumber (c ∷ []) y
is_number (tokens.Int n) y e = number_if n y (nat_le n 4294967295) refl e
is_number (tokens.Fixed g) y e = absurd cc
is_number (tokens.Name v) y e = absurd cc
is_number (tokens.Text t) y e = absurd cc

pub exact_numbers : (n m : ℕ) → n ≤ m → Exact IsNumbers n (numbers_at n) (numbers_at m)
unfolding numbers_at
exact_numbers n m le = exact_found_same _ n fixed.All _ _ _ _ (exact_done _ n [] all_numbers)
    (exact_as (IsList IsNumber) _ n _ _ (λ us ns p. listed p)
    (exact_list IsNumber n _ _ (exact_only IsNumber n small_number (record { more = _; value = _; whole = one_number }) is_number)
    (record { more = _; value = _; whole = one_number }) n m (omega arith) le))

-- ---- structures

exact_on : (n m : ℕ) → n ≤ m → Exact IsOn n (on_by n) (on_by m)
unfolding on_by
exact_on n m le = exact_found_same _ n fixed.On _ _ _ _ (exact_as (IsList IsName) _ n _ _ (λ us ns p. on_keys p) (exact_names n m le)) (exact_done _ n [] without_keys)

-- a structure with its keys
abbrev pub Structured : List Token → Spec × List (List ℕ) → Type 0
Structured ts s = IsStructure ts s.0 s.1

data IsKeyed : List ℕ → Spec → Type 0 where
  keyed_hash : IsKeyed (codes "hash") structures.Hash
  keyed_isam : IsKeyed (codes "isam") structures.Isam

module _ (n m : ℕ) (le : n ≤ m) where
  exact_keyed_as : (w : List ℕ) (s : Spec) → IsKeyed w s
      → Exact (λ us v. Structured (tokens.Name w ∷ us) v) n (λ us. on_by n us >>= λ keys. Ok ((s, keys.0), keys.1)) (λ us. on_by m us >>= λ keys. Ok ((s, keys.0), keys.1))
  exact_keyed_as w s keyed_hash = exact_map IsOn _ n (λ keys. (structures.Hash, keys)) (on_by n) (on_by m) (λ us keys p. hash p) (exact_on n m le)
  exact_keyed_as w s keyed_isam = exact_map IsOn _ n (λ keys. (structures.Isam, keys)) (on_by n) (on_by m) (λ us keys p. isam p) (exact_on n m le)

  exact_keyed_on : (c : Token) (s : Spec) → IsOnName (look_up keyed_structures) c s
      → Exact (λ us v. Structured (c ∷ us) v) n (λ us. on_by n us >>= λ keys. Ok ((s, keys.0), keys.1)) (λ us. on_by m us >>= λ keys. Ok ((s, keys.0), keys.1))
  exact_keyed_on c s on = rw on.same (exact_keyed_as on.said s (looked_up IsKeyed keyed_structures on.said s (keyed_hash, (keyed_isam, tt)) on.known))

  pub one_structure : Starts Structured []
  one_structure = record { more = word (codes "heap"); value = (structures.Heap, []); whole = heap }

  exact_keyed : Exact Structured n (keyed_by n) (keyed_by m)
  unfolding keyed_by
  exact_keyed = exact_expect Structured n (on_name (look_up keyed_structures)) _ _ one_structure (λ c s e. exact_keyed_on c s (is_on_name (look_up keyed_structures) c s e))

  exact_heap : (c : Token) (u : Unit {0}) → IsOnName (look_up heaps) c u → Exact (λ us v. Structured (c ∷ us) v) n (done (structures.Heap, [])) (done (structures.Heap, []))
  exact_heap c u on = rw (on.same, looked_up (λ w u. w ≡ codes "heap") heaps on.said u (refl, tt) on.known)
      (exact_done (λ us v. Structured (tokens.Name (codes "heap") ∷ us) v) n (structures.Heap, []) heap)

  pub exact_structure : Exact Structured n (structure_by n) (structure_by m)
  unfolding structure_by
  exact_structure = exact_first Structured n n (omega arith) (on_name (look_up heaps)) _ _ (λ u. done (structures.Heap, [])) (λ u. done (structures.Heap, []))
      (λ c u e. exact_heap c u (is_on_name (look_up heaps) c u e)) exact_keyed

-- ---- permits

operation_is : (f : Fixed) (y : ℕ) → operation_of f ≡ Some y → IsOperation (one f) y
operation_is fixed.Retrieve y e = let g : 1 ≡ y = cc in rw (← g) may_retrieve
operation_is fixed.Append y e = let g : 2 ≡ y = cc in rw (← g) may_append
operation_is fixed.Replace y e = let g : 4 ≡ y = cc in rw (← g) may_replace
operation_is fixed.Delete y e = let g : 8 ≡ y = cc in rw (← g) may_delete
operation_is fixed.All y e = let g : 15 ≡ y = cc in rw (← g) may_all
operation_is _ y e = absurd cc

is_operation : (c : Token) (y : ℕ) → IsOnFixed operation_of c y → IsOperation (c ∷ []) y
is_operation c y on = rw on.same (operation_is on.said y on.known)

pub one_operation : IsList IsOperation (one fixed.Retrieve) (1 ∷ [])
one_operation = last may_retrieve

pub exact_operations : (n m : ℕ) → n ≤ m → Exact (IsList IsOperation) n (list_by (expect (on_fixed operation_of)) n []) (list_by (expect (on_fixed operation_of)) m [])
exact_operations n m le = exact_list IsOperation n _ _
    (exact_only IsOperation n (on_fixed operation_of) (record { more = one fixed.Retrieve; value = 1; whole = may_retrieve })
    (λ c y e. is_operation c y (is_on_fixed operation_of c y e)))
    (record { more = one fixed.Retrieve; value = 1; whole = may_retrieve }) n m (omega arith) le

over_is : (f : Fixed) (u : Unit {0}) → over_word f ≡ Some u → IsOver (one f)
over_is fixed.On u e = over_on
over_is fixed.Of u e = over_of
over_is fixed.To u e = over_to
over_is _ u e = absurd cc

pub is_over : (c : Token) (u : Unit {0}) → on_fixed over_word c ≡ Some u → IsOver (c ∷ [])
is_over c u e = let on = is_on_fixed over_word c u e in rw on.same (over_is on.said u on.known)

pub exact_covered : (n m : ℕ) → n ≤ m → Exact IsCovered n (covered_by n) (covered_by m)
unfolding covered_by
exact_covered n m le = exact_found_same _ n fixed.Open _ _ _ _ (exact_just_closed (IsList IsName) _ n _ _ (exact_names n m le) (λ ts v p. only p)) (exact_done _ n [] whole)

everyone_is : (f : Fixed) (y : Option (List ℕ)) → everyone_of f ≡ Some y → IsUser (one f) y
everyone_is fixed.All y e = let g : ◌≡◌ {A = Option (List ℕ)} None y = cc in rw (← g) everyone
everyone_is _ y e = absurd cc

pub is_user : (c : Token) (y : Option (List ℕ)) → user_of c ≡ Some y → IsUser (c ∷ []) y
is_user (tokens.Name u) y e = let g : Some u ≡ y = cc in rw (← g) user
is_user (tokens.Fixed f) y e = everyone_is f y e
is_user (tokens.Int n) y e = absurd cc
is_user (tokens.Text t) y e = absurd cc

way_is : (f : Fixed) (b : Bool) → way_of f ≡ Some b → IsWay (one f) b
way_is fixed.From b e = let g : true ≡ b = cc in rw (← g) from
way_is fixed.Into b e = let g : false ≡ b = cc in rw (← g) into
way_is _ b e = absurd cc

pub is_way : (c : Token) (b : Bool) → on_fixed way_of c ≡ Some b → IsWay (c ∷ []) b
is_way c b e = let on = is_on_fixed way_of c b e in rw on.same (way_is on.said b on.known)

pub is_text : (c : Token) (t : List ℕ) → text_of c ≡ Some t → c ≡ tokens.Text t
is_text (tokens.Text t) u e = let g : t ≡ u = cc in ap tokens.Text g
is_text (tokens.Fixed f) u e = absurd cc
is_text (tokens.Name v) u e = absurd cc
is_text (tokens.Int n) u e = absurd cc
