-- `left_byte` meets its contract.
use borrow.Author.Tests.{eq-eqb, ne_eqb}
use Rattle.columns.specs.Spell.{left_byte}
use Rattle.columns.proofs.left_byte.Goals as goal

pub returns-then-v-eq0 : goal.returns-then-v-eq0
unfolding left_byte
returns-then-v-eq0 c = simp (eq-eqb _ _ c.if-v-eq0.true)

pub returns-else-v-eq0 : goal.returns-else-v-eq0
unfolding left_byte
returns-else-v-eq0 c = simp (ne_eqb _ _ c.if-v-eq0.false) c.last_byte.ensures
