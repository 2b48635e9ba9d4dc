-- What falls in `bring`.
use Rattle.introduction.proofs.+bring.Given as goal

abbrev pub decreases-bring : goal.decreases-bring
decreases-bring l = l.i
