use Rattle.std.proofs.Common.{◌≡◌, ◌++◌, flat_map, map, take}
use Rattle.quel_check.specs.Seen.{seen, vars_seen}
use Rattle.quel_check.proofs.inner.push_vars.Given as goal

abbrev pub invariant-loop-mention : goal.invariant-loop-mention
invariant-loop-mention l = map (λ n. n.now) l.names.items ≡ map (λ n. n.now) l.initial.names.items ++ flat_map vars_seen (map seen (take l.mention-index l.mentions))
