-- What holds at each turn of the loops of `at_fault`, and what falls in the inner one.
use mathlib.Core.Path.{◌≡◌}
use Prim.Native.Nat.{ℕ, ◌+◌, ◌≤◌, ◌<◌, ◌-◌}
use lib.ListN.{replicate}
use Rattle.run.specs.Held.{run_held}
use Rattle.row.specs.Memory.{section_at, listed, tag_at, tags_of}
use Rattle.consequent.specs.Walk.{fault_in, faults_in, Kept}
use Rattle.consequent.proofs.at_fault.Given as goal

abbrev pub invariant-rows : goal.invariant-rows
invariant-rows l =
    (l.j ≤ l.count)
    × Kept (tags_of l.rows l.count) l.initial.positions l.positions
    × (fault_in (run_held l.run.words) (l.c + 1) l.positions l.j (listed (tag_at l.rows) l.j (l.count - l.j)) ≡ fault_in (run_held l.run.words) (l.c + 1) l.initial.positions 0 (tags_of l.rows l.count))

abbrev pub decreases-rows : goal.decreases-rows
decreases-rows l = l.count - l.j

abbrev pub invariant-consequents : goal.invariant-consequents
invariant-consequents l =
    Kept (tags_of l.rows l.count) l.initial.positions l.positions
    × (faults_in (run_held l.run.words) (tags_of l.rows l.count) l.initial.positions l.c (l.k - l.c) l.faults ≡ faults_in (run_held l.run.words) (tags_of l.rows l.count) l.initial.positions 0 l.k (replicate 6 0))
    × (l.j ≤ l.count)
    × ((i : ℕ) → i < l.j → section_at l.rows i ≤ l.c)
