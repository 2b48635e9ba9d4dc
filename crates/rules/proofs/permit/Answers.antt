-- `permit` meets its contract: the section, then the rest as the row's section finds it.
use borrow.Author.Rules.{rules}
use Rattle.rules.specs.Rules.{enter, section_fits, refusal}
use Rattle.rules.proofs.permit.Goals as goal

pub returns-then-line-at : goal.returns-then-line-at
unfolding refusal section_fits
returns-then-line-at c = search rules

pub permit_within-requires : goal.permit_within-requires
unfolding enter
permit_within-requires c = search rules

pub returns : goal.returns
unfolding refusal section_fits
returns c = search rules
