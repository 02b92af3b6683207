-- The bounds on a statement: 500 tokens, 50 parentheses open at once, and 6 keys of a `modify` or an `index`.
use Rattle.std.specs.Prelude.{ℕ, ◌+◌, ◌-◌, Bool, true, false, ◌||◌, ◌&&◌, nat_le, List, [], ◌∷◌, Option, Some, None, if◌then◌else◌}
use Rattle.quel_grammar.specs.declared.token.Fixed.TheVariants as fixed
use Rattle.quel_grammar.specs.declared.token.Token.{Token}
use Rattle.quel_grammar.specs.declared.token.Token.TheVariants as tokens

-- it opens a parenthesis
abbrev pub is_open : Token → Bool
is_open (tokens.Fixed fixed.Open) = true
is_open _ = false

-- it closes a parenthesis
abbrev pub is_close : Token → Bool
is_close (tokens.Fixed fixed.Close) = true
is_close _ = false

-- it is a comma
abbrev pub is_comma : Token → Bool
is_comma (tokens.Fixed fixed.Comma) = true
is_comma _ = false

-- the tokens begin a `modify` or an `index`, in which commas stand only between keys
abbrev pub has_keys : List Token → Bool
has_keys (tokens.Fixed fixed.Modify ∷ ts) = true
has_keys (tokens.Fixed fixed.Index ∷ ts) = true
has_keys _ = false

-- what stands before a token: how many tokens, how many parentheses that are still open, and how many commas between keys
pub record Before : Type 0 where
  pub tokens : ℕ
  pub open_ : ℕ
  pub commas : ℕ

-- the token passes a bound behind these: it is the 501st, it opens the 51st parenthesis, or it is the seventh key
abbrev pub is_past : Before → Token → Bool
is_past before t = nat_le 500 before.tokens || (is_open t && nat_le 50 before.open_) || nat_le 6 before.commas

-- what stands before the next token, where commas between keys count or don't
abbrev pub with_token : Bool → Before → Token → Before
with_token keyed before t = record {
  tokens = before.tokens + 1;
  open_ = if is_open t then before.open_ + 1 else if is_close t then before.open_ - 1 else before.open_;
  commas = if keyed && is_comma t then before.commas + 1 else before.commas;
}

-- the number of the first of these tokens that passes a bound, counted from 0
unfoldable pub past_behind : Bool → Before → List Token → Option ℕ
past_behind keyed before [] = None
past_behind keyed before (t ∷ ts) = elim (is_past before t) [ true ↦ Some before.tokens | false ↦ past_behind keyed (with_token keyed before t) ts ]

-- the number of the first token of a run that passes a bound, counted from 0
unfoldable pub first_past : List Token → Option ℕ
first_past ts = past_behind (has_keys ts) (record { tokens = 0; open_ = 0; commas = 0 }) ts
