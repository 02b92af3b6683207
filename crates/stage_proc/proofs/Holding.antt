-- A tree that was read from bytes has a spelling.
use Rattle.std.proofs.Common.{◌≡◌, sym, ap, subst, ℕ, List, Some, None}
use Rattle.std.specs.Prelude.{option_map}
use Rattle.std.specs.declared.option.Option.{Option}
use Rattle.calculus.specs.declared.request.Checked.{Checked}
use Rattle.message_codec.specs.MessageLaws.{by_only}
use Rattle.network_meaning.specs.Sorts.{Message, Cargo.tree, Message.cargo}
use Rattle.quel_network.specs.CodecLaws.{only_spelled}
use Rattle.quel_network.specs.Sorts.{quel_sorts}
use Rattle.quel_network.specs.Spelling.{message_by, spelled_by}
use Rattle.quel_tree.specs.Message.{most_tree_levels}
use Rattle.quel_tree.specs.MessageLaws.{two_of_them}
use Rattle.quel_tree.specs.RequestLaws.{checked_exact}
use Rattle.quel_tree.specs.Requests.{checked as checked_codec}
use Rattle.stage_proc.specs.Held.{IsTreeOf}

-- the message of a tree
abbrev as_tree : Checked → Message quel_sorts
as_tree t = cargo (tree t)

-- what the bytes spell, where their message is this tree's
spelled_so : (o : Option Checked) (t : Checked) → option_map as_tree o ≡ Some (as_tree t) → o ≡ Some t
spelled_so None t e = absurd (cc e)
spelled_so (Some x) t e = let same : x ≡ t = cc e in ap Some same

pub held_fits : (t : Checked) (bytes : List ℕ) → IsTreeOf t bytes → (checked_codec most_tree_levels).Fits t
unfolding message_by
held_fits t bytes e =
    (only_spelled (checked_codec most_tree_levels) (checked_exact most_tree_levels two_of_them) bytes t (spelled_so (spelled_by (checked_codec most_tree_levels) bytes) t e)).0

-- the bytes of a message that is a tree are those of the tree
pub held_by : (t : Checked) (kind : ℕ) (bytes bytes' : List ℕ) → message_by kind bytes ≡ Some (cargo (tree t)) → bytes' ≡ bytes → IsTreeOf t bytes'
held_by t kind bytes bytes' e same =
    subst (λ (bs : List ℕ). IsTreeOf t bs) (sym same) (subst (λ (k : ℕ). message_by k bytes ≡ Some (as_tree t)) (by_only kind bytes (as_tree t) e).kind_is e)
