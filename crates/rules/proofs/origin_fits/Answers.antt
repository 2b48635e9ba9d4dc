-- `origin_fits` meets its contract: the definition, arm by arm. Kinds below 2 and above 5 do not come here.
use borrow.Author.Rules.{rules}
use Rattle.rules.specs.Rules.{origin_fits, known_but, both_ordinary, ordinary_but}
use Rattle.rules.proofs.origin_fits.Goals as goal

pub returns-then-q-ne-CLOSE : goal.returns-then-q-ne-CLOSE
unfolding origin_fits known_but
returns-then-q-ne-CLOSE c = search rules

pub returns-else-q-ne-CLOSE : goal.returns-else-q-ne-CLOSE
unfolding origin_fits known_but
returns-else-q-ne-CLOSE c = search rules

pub returns-then-q-ne-START : goal.returns-then-q-ne-START
unfolding origin_fits known_but
returns-then-q-ne-START c = search rules

pub returns-else-q-ne-START : goal.returns-else-q-ne-START
unfolding origin_fits known_but
returns-else-q-ne-START c = search rules

pub returns-then-ordinary_point : goal.returns-then-ordinary_point
unfolding origin_fits both_ordinary ordinary_but
returns-then-ordinary_point c = search rules

pub returns-else-ordinary_point : goal.returns-else-ordinary_point
unfolding origin_fits both_ordinary ordinary_but
returns-else-ordinary_point c = search rules
