-- The grammar of statements. Each line of a relation is one way to write what it relates tokens to.
use Rattle.std.specs.Prelude.{ℕ, Bool, true, false, Option, Some, None, IsTrue, List, [], ◌∷◌, ◌++◌, ◌==◌, ◌&&◌, not, nat_le, fold, bit_or, codes}
use Rattle.std.specs.List.{list_all}
use Rattle.calculus.specs.Name.{is_digit}
use Rattle.calculus.specs.Rights.{right_number}
use Rattle.calculus.specs.Rights.Right.{Retrieve, Append, Replace, Delete}
use Rattle.calculus.specs.declared.request.CopyForm.{CopyForm}
use Rattle.calculus.specs.declared.request.CopyForm.TheVariants as forms
use Rattle.calculus.specs.declared.schema.Spec.{Spec}
use Rattle.calculus.specs.declared.schema.Spec.TheVariants as structures
use Rattle.calculus.specs.declared.statement.Item.{Item}
use Rattle.calculus.specs.declared.statement.Item.TheVariants as items
use Rattle.calculus.specs.declared.statement.Qual.{Qual}
use Rattle.calculus.specs.declared.statement.Statement.{Statement}
use Rattle.calculus.specs.declared.statement.Statement.TheVariants as statements
use Rattle.calculus.specs.declared.statement.Term.{Term}
use Rattle.calculus.specs.declared.value.Domain.{Domain}
use Rattle.calculus.specs.declared.value.Domain.TheVariants as domains
use Rattle.quel_grammar.specs.declared.token.Fixed.TheVariants as fixed
use Rattle.quel_grammar.specs.declared.token.Token.{Token}
use Rattle.quel_grammar.specs.declared.token.Token.TheVariants as tokens
use Rattle.quel_grammar.specs.Lexer.{number_of}
use Rattle.quel_grammar.specs.Grammar.{one, word, ◌⋅◌, IsTerm, IsQual, IsWhere, IsList, IsName}

-- target = NAME "=" term | NAME "." NAME | NAME "." "all"
pub data IsTarget : List Token → Item → Type 0 where
  set_target : {n : List ℕ} {ts : List Token} {t : Term} → IsTerm ts t → IsTarget (word n ⋅ one fixed.Equal ⋅ ts) (items.Set n t)
  attribute_target : {v a : List ℕ} → IsTarget (word v ⋅ one fixed.Dot ⋅ word a) (items.Attr v a)
  all_target : {v : List ℕ} → IsTarget (word v ⋅ one fixed.Dot ⋅ one fixed.All) (items.All v)

-- [":" ("a" | "ascending" | "d" | "descending")], and whether it descends
pub data IsDirection : List Token → Bool → Type 0 where
  undirected : IsDirection [] false
  up : IsDirection (one fixed.Colon ⋅ word (codes "a")) false
  up_in_full : IsDirection (one fixed.Colon ⋅ word (codes "ascending")) false
  down : IsDirection (one fixed.Colon ⋅ word (codes "d")) true
  down_in_full : IsDirection (one fixed.Colon ⋅ word (codes "descending")) true

-- key = NAME [":" ("a" | "ascending" | "d" | "descending")]
pub data IsKey : List Token → List ℕ × Bool → Type 0 where
  key : {n : List ℕ} {ts : List Token} {descends : Bool} → IsDirection ts descends → IsKey (word n ⋅ ts) (n, descends)

-- [sort], sort = "sort" "by" key {"," key}
pub data IsSort : List Token → List (List ℕ × Bool) → Type 0 where
  unsorted : IsSort [] []
  sorted : {ts : List Token} {keys : List (List ℕ × Bool)} → IsList IsKey ts keys → IsSort (one fixed.Sort ⋅ one fixed.By ⋅ ts) keys

-- ["unique"]
pub data IsUnique : List Token → Type 0 where
  plain : IsUnique []
  unique : IsUnique (one fixed.Unique)

-- [["into"] NAME]
pub data IsInto : List Token → Option (List ℕ) → Type 0 where
  shown : IsInto [] None
  kept : {r : List ℕ} → IsInto (word r) (Some r)
  kept_into : {r : List ℕ} → IsInto (one fixed.Into ⋅ word r) (Some r)

-- ["to"]
pub data IsTo : List Token → Type 0 where
  without_to : IsTo []
  with_to : IsTo (one fixed.To)

-- a number from 1 to 255 in digits, without a zero before it
abbrev pub is_width : List ℕ → Bool
is_width [] = false
is_width (d ∷ ds) = not (d == 48) && (list_all is_digit (d ∷ ds) && nat_le (number_of (d ∷ ds)) 255)

-- FORMAT = "i1" | "i2" | "i4" | "c" and a number from 1 to 255, all of them names
pub data IsFormat : List Token → Domain → Type 0 where
  i1 : IsFormat (word (codes "i1")) domains.I1
  i2 : IsFormat (word (codes "i2")) domains.I2
  i4 : IsFormat (word (codes "i4")) domains.I4
  chars : {digits : List ℕ} → IsTrue (is_width digits) → IsFormat (word (codes "c" ++ digits)) (domains.C (number_of digits))

-- NAME "=" FORMAT
pub data IsDeclared : List Token → List ℕ × Domain → Type 0 where
  declared : {n : List ℕ} {ts : List Token} {domain : Domain} → IsFormat ts domain → IsDeclared (word n ⋅ one fixed.Equal ⋅ ts) (n, domain)

-- CFORM = "i1" | "i2" | "i4" | "c" and a number from 1 to 255 | "c0tab" | "c0nl" | "c0sp" | "c0comma" | "c0colon", all of them names
pub data IsCopyForm : List Token → CopyForm → Type 0 where
  bytes1 : IsCopyForm (word (codes "i1")) (forms.Bin 1)
  bytes2 : IsCopyForm (word (codes "i2")) (forms.Bin 2)
  bytes4 : IsCopyForm (word (codes "i4")) (forms.Bin 4)
  wide : {digits : List ℕ} → IsTrue (is_width digits) → IsCopyForm (word (codes "c" ++ digits)) (forms.Fixed (number_of digits))
  to_tab : IsCopyForm (word (codes "c0tab")) (forms.Until 9)
  to_newline : IsCopyForm (word (codes "c0nl")) (forms.Until 10)
  to_blank : IsCopyForm (word (codes "c0sp")) (forms.Until 32)
  to_comma : IsCopyForm (word (codes "c0comma")) (forms.Until 44)
  to_colon : IsCopyForm (word (codes "c0colon")) (forms.Until 58)

-- NAME "=" CFORM
pub data IsColumn : List Token → List ℕ × CopyForm → Type 0 where
  column : {n : List ℕ} {ts : List Token} {form : CopyForm} → IsCopyForm ts form → IsColumn (word n ⋅ one fixed.Equal ⋅ ts) (n, form)

-- "from" | "into", and whether it is "from"
pub data IsWay : List Token → Bool → Type 0 where
  from : IsWay (one fixed.From) true
  into : IsWay (one fixed.Into) false

-- INT, at most 4,294,967,295
pub data IsNumber : List Token → ℕ → Type 0 where
  number : {n : ℕ} → IsTrue (nat_le n 4294967295) → IsNumber (tokens.Int n ∷ []) n

-- "all" | INT {"," INT}
pub data IsNumbers : List Token → List ℕ → Type 0 where
  all_numbers : IsNumbers (one fixed.All) []
  listed : {ts : List Token} {ns : List ℕ} → IsList IsNumber ts ns → IsNumbers ts ns

-- ["on" names], names = NAME {"," NAME}; that there are at most 6 of them is a bound, which is checked apart
pub data IsOn : List Token → List (List ℕ) → Type 0 where
  without_keys : IsOn [] []
  on_keys : {ts : List Token} {keys : List (List ℕ)} → IsList IsName ts keys → IsOn (one fixed.On ⋅ ts) keys

-- "heap" | ("hash" | "isam") ["on" names]
pub data IsStructure : List Token → Spec → List (List ℕ) → Type 0 where
  heap : IsStructure (word (codes "heap")) structures.Heap []
  hash : {ts : List Token} {keys : List (List ℕ)} → IsOn ts keys → IsStructure (word (codes "hash") ⋅ ts) structures.Hash keys
  isam : {ts : List Token} {keys : List (List ℕ)} → IsOn ts keys → IsStructure (word (codes "isam") ⋅ ts) structures.Isam keys

-- op = "retrieve" | "append" | "replace" | "delete" | "all", and the sum of its rights
pub data IsOperation : List Token → ℕ → Type 0 where
  may_retrieve : IsOperation (one fixed.Retrieve) (right_number Retrieve)
  may_append : IsOperation (one fixed.Append) (right_number Append)
  may_replace : IsOperation (one fixed.Replace) (right_number Replace)
  may_delete : IsOperation (one fixed.Delete) (right_number Delete)
  may_all : IsOperation (one fixed.All) 15

-- the sum of the rights that are in one of these sums, each counted once
abbrev pub joined : List ℕ → ℕ
joined sums = fold (λ all sum. bit_or all sum) 0 sums

-- "on" | "of" | "to"
pub data IsOver : List Token → Type 0 where
  over_on : IsOver (one fixed.On)
  over_of : IsOver (one fixed.Of)
  over_to : IsOver (one fixed.To)

-- ["(" NAME {"," NAME} ")"]
pub data IsCovered : List Token → List (List ℕ) → Type 0 where
  whole : IsCovered [] []
  only : {ts : List Token} {names : List (List ℕ)} → IsList IsName ts names → IsCovered (one fixed.Open ⋅ ts ⋅ one fixed.Close) names

-- NAME | "all"
pub data IsUser : List Token → Option (List ℕ) → Type 0 where
  user : {u : List ℕ} → IsUser (word u) (Some u)
  everyone : IsUser (one fixed.All) None

pub data IsStatement : List Token → Statement → Type 0 where
  -- "range" "of" NAME "is" NAME
  range : {v r : List ℕ} → IsStatement (one fixed.Range ⋅ one fixed.Of ⋅ word v ⋅ one fixed.Is ⋅ word r) (statements.Range v r)
  -- "retrieve" ["unique"] [["into"] NAME] "(" targets ")" [where] [sort]
  retrieve : {us rs ts ws ks : List Token} {r : Option (List ℕ)} {targets : List Item} {q : Qual} {keys : List (List ℕ × Bool)}
      → IsUnique us → IsInto rs r → IsList IsTarget ts targets → IsWhere ws q → IsSort ks keys
      → IsStatement (one fixed.Retrieve ⋅ us ⋅ rs ⋅ one fixed.Open ⋅ ts ⋅ one fixed.Close ⋅ ws ⋅ ks) (statements.Retrieve r targets q keys)
  -- "append" ["to"] NAME "(" targets ")" [where]
  append : {us ts ws : List Token} {r : List ℕ} {targets : List Item} {q : Qual} → IsTo us → IsList IsTarget ts targets → IsWhere ws q
      → IsStatement (one fixed.Append ⋅ us ⋅ word r ⋅ one fixed.Open ⋅ ts ⋅ one fixed.Close ⋅ ws) (statements.Append r targets q)
  -- "replace" NAME "(" targets ")" [where]
  replace : {ts ws : List Token} {v : List ℕ} {targets : List Item} {q : Qual} → IsList IsTarget ts targets → IsWhere ws q
      → IsStatement (one fixed.Replace ⋅ word v ⋅ one fixed.Open ⋅ ts ⋅ one fixed.Close ⋅ ws) (statements.Replace v targets q)
  -- "delete" NAME [where]
  delete : {ws : List Token} {v : List ℕ} {q : Qual} → IsWhere ws q → IsStatement (one fixed.Delete ⋅ word v ⋅ ws) (statements.Delete v q)
  -- "create" NAME "(" NAME "=" FORMAT {"," NAME "=" FORMAT} ")"
  create : {ts : List Token} {r : List ℕ} {attrs : List (List ℕ × Domain)} → IsList IsDeclared ts attrs
      → IsStatement (one fixed.Create ⋅ word r ⋅ one fixed.Open ⋅ ts ⋅ one fixed.Close) (statements.Create r attrs)
  -- "destroy" NAME {"," NAME}
  destroy : {ts : List Token} {names : List (List ℕ)} → IsList IsName ts names → IsStatement (one fixed.Destroy ⋅ ts) (statements.Destroy names)
  -- "destroy" "permit" NAME ("all" | INT {"," INT})
  destroy_permit : {ts : List Token} {r : List ℕ} {numbers : List ℕ} → IsNumbers ts numbers
      → IsStatement (one fixed.Destroy ⋅ one fixed.Permit ⋅ word r ⋅ ts) (statements.DropPermits r numbers)
  -- "destroy" "integrity" NAME ("all" | INT {"," INT})
  destroy_integrity : {ts : List Token} {r : List ℕ} {numbers : List ℕ} → IsNumbers ts numbers
      → IsStatement (one fixed.Destroy ⋅ one fixed.Integrity ⋅ word r ⋅ ts) (statements.DropRules r numbers)
  -- "modify" NAME "to" ("heap" | ("hash" | "isam") ["on" names])
  modify : {ts : List Token} {r : List ℕ} {structure : Spec} {keys : List (List ℕ)} → IsStructure ts structure keys
      → IsStatement (one fixed.Modify ⋅ word r ⋅ one fixed.To ⋅ ts) (statements.Modify r structure keys)
  -- "index" "on" NAME "is" NAME "(" names ")"
  index : {ts : List Token} {r n : List ℕ} {keys : List (List ℕ)} → IsList IsName ts keys
      → IsStatement (one fixed.Index ⋅ one fixed.On ⋅ word r ⋅ one fixed.Is ⋅ word n ⋅ one fixed.Open ⋅ ts ⋅ one fixed.Close) (statements.Index r n keys)
  -- "print" NAME {"," NAME}
  print : {ts : List Token} {names : List (List ℕ)} → IsList IsName ts names → IsStatement (one fixed.Print ⋅ ts) (statements.Print names)
  -- "help"
  help : IsStatement (one fixed.Help) (statements.Help None)
  -- "help" NAME
  help_about : {r : List ℕ} → IsStatement (one fixed.Help ⋅ word r) (statements.Help (Some r))
  -- "copy" NAME "(" NAME "=" CFORM {"," NAME "=" CFORM} ")" ("from" | "into") TEXT
  copy : {ts us : List Token} {r file : List ℕ} {columns : List (List ℕ × CopyForm)} {is_from : Bool} → IsList IsColumn ts columns → IsWay us is_from
      → IsStatement (one fixed.Copy ⋅ word r ⋅ one fixed.Open ⋅ ts ⋅ one fixed.Close ⋅ us ⋅ (tokens.Text file ∷ [])) (statements.Copy r columns is_from file)
  -- "define" "view" NAME "(" targets ")" [where]
  define_view : {ts ws : List Token} {n : List ℕ} {targets : List Item} {q : Qual} → IsList IsTarget ts targets → IsWhere ws q
      → IsStatement (one fixed.Define ⋅ one fixed.View ⋅ word n ⋅ one fixed.Open ⋅ ts ⋅ one fixed.Close ⋅ ws) (statements.View n targets q)
  -- "define" "permit" op {"," op} ("on" | "of" | "to") NAME ["(" NAME {"," NAME} ")"] "to" (NAME | "all") [where]
  define_permit : {os vs as_ us ws : List Token} {v : List ℕ} {sums : List ℕ} {names : List (List ℕ)} {asker : Option (List ℕ)} {q : Qual}
      → IsList IsOperation os sums → IsOver vs → IsCovered as_ names → IsUser us asker → IsWhere ws q
      → IsStatement (one fixed.Define ⋅ one fixed.Permit ⋅ os ⋅ vs ⋅ word v ⋅ as_ ⋅ one fixed.To ⋅ us ⋅ ws) (statements.Permit (joined sums) v names asker q)
  -- "define" "integrity" "on" NAME "is" qual
  define_integrity : {ts : List Token} {v : List ℕ} {q : Qual} → IsQual ts q
      → IsStatement (one fixed.Define ⋅ one fixed.Integrity ⋅ one fixed.On ⋅ word v ⋅ one fixed.Is ⋅ ts) (statements.Rule v q)
