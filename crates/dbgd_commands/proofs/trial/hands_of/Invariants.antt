-- The hands so far are as many as were counted.
use Rattle.std.proofs.Common.{◌≡◌, replicate}
use Rattle.elf_forge.specs.Tree.{fresh_forge}
use Rattle.dbgd_commands.proofs.trial.hands_of.Given as goal

abbrev pub invariant-loop : goal.invariant-loop
invariant-loop l = l.hands.items ≡ replicate l.counter (fresh_forge l.fn.seed l.fn.files)
