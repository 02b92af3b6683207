use Rattle.std.proofs.Common.{◌≡◌, sym, ◌∙◌, ap, Option, Some, None, Result, Ok, Err, IfOk, IfSome, arith}
use Rattle.page_cells.specs.RowBytes.{row_in}
use Rattle.page_cells.proofs.Rowing.{row_spelled, row_back}
use Rattle.page_cells.proofs.row.row_of.Goals as goal

if_ok : {T E : Type 0} {P Q : T → Type 0} (r : Result T E) → IfOk r P → ((x : T) → P x → Q x) → IfOk r Q
if_ok (Ok x) p f = f x p
if_ok (Err e) p f = p

if_some : {T : Type 0} {Q : T → Type 0} (o : Option T) → ((x : T) → o ≡ Some x → Q x) → IfSome o Q
if_some None f = tt
if_some (Some x) f = f x (λ i. Some x)

pub returns-clause-spelled : goal.returns-clause-spelled
returns-clause-spelled c = if_ok c.values_of.result c.values_of.ensures (λ o is. if_some o (λ r e. row_spelled c.args.domains.now c.args.bytes.now r (λ i. omega (arith, c.type_inv.bytes i)) (sym is ∙ e)))

pub returns-clause-only : goal.returns-clause-only
returns-clause-only c = if_ok c.values_of.result c.values_of.ensures (λ o is r fit same. is ∙ ap (λ b. row_in b c.args.domains.now) (sym same) ∙ row_back r c.args.domains.now fit)
