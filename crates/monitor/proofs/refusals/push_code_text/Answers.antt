use Rattle.std.proofs.Common.{◌∙◌, List, [], ℕ, Bor, ap, map}
use Rattle.std.specs.Prelude.{option_map, unwrap_or, ◌==◌}
use Rattle.std.specs.List.{find}
use Rattle.monitor.proofs.Found.{seen, added}
use Rattle.monitor.proofs.refusals.push_code_text.Goals as goal

pub returns : goal.returns
returns c =
    let view : ℕ × Bor (List ℕ) → ℕ × List ℕ = λ t. (t.0, t.1.now) in
    let is_code = λ (t : ℕ × List ℕ). t.0 == c.args.code in
    added _ _ _ _ _ c.extend_from_slice.ensures.items (
    c.beside.ensures ∙ ap (λ o. unwrap_or o []) (
    seen (λ t. t.1) is_code view c.as_slice-table.result.now ∙ ap (λ table. option_map (λ t. t.1) (find is_code (map view table))) c.as_slice-table.ensures))
