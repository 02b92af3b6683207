use Rattle.std.proofs.Common.{◌≡◌, [], map}
use Rattle.fault_io.specs.InMemory.{all_stored, seen_file}
use Rattle.fault_io.proofs.mem_shelf.MemShelf.new.Given as goal

abbrev pub invariant-loop-name : goal.invariant-loop-name
invariant-loop-name l = map seen_file l.on_shelf.entries ≡ all_stored [] (map seen_file l.yielded)
