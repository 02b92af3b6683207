-- Columns of files, where these are the attributes of what is copied.
use Rattle.std.specs.Prelude.{Bool, ◌&&◌, nat_eq, nat_lt, not, List, length, map, slice_get}
use Rattle.std.specs.List.{list_all}
use Rattle.calculus.specs.declared.schema.Attr.{Attr}
use Rattle.calculus.specs.declared.request.CopyCol.{CopyCol}
use Rattle.calculus.specs.Kinds.{is_text_kind}
use Rattle.calculus.specs.Lists.{is_any, differ_by}
use Rattle.quel_meaning.specs.Causes.{is_binary}
use Rattle.quel_meaning.specs.Columns.{is_copy_form}

-- there is one at least, of forms that are ones, each for an attribute, all different, none of a number's bytes for a text
abbrev pub columns_are_fit : List Attr → List CopyCol → Bool
columns_are_fit attrs columns =
    is_any columns
    && (list_all (λ c. is_copy_form c.form) columns
    && (list_all (λ c. nat_lt c.attr (length attrs)) columns
    && (differ_by nat_eq (map (λ c. c.attr) columns)
    && list_all (λ c. not (is_binary c.form && is_text_kind (slice_get (map (λ a. a.kind) attrs) c.attr))) columns)))
