-- `permit_within` meets its contract: the tests in the document's order.
use borrow.Author.Rules.{rules}
use Rattle.rules.specs.Rules.{kind_fits, refusal_within}
use Rattle.rules.proofs.permit_within.Goals as goal

pub returns-then-not-kind_fits : goal.returns-then-not-kind_fits
unfolding refusal_within
returns-then-not-kind_fits c = search rules

pub p_fits-requires : goal.p_fits-requires
unfolding kind_fits
p_fits-requires c = search rules

pub returns-then-not-p_fits : goal.returns-then-not-p_fits
unfolding refusal_within
returns-then-not-p_fits c = search rules

pub returns-then-not-q_fits : goal.returns-then-not-q_fits
unfolding refusal_within
returns-then-not-q_fits c = search rules

pub rest_fits-requires : goal.rest_fits-requires
unfolding kind_fits
rest_fits-requires c = search rules

pub returns-then-not-rest_fits : goal.returns-then-not-rest_fits
unfolding refusal_within
returns-then-not-rest_fits c = search rules

pub returns-then-not-room_fits : goal.returns-then-not-room_fits
unfolding refusal_within
returns-then-not-room_fits c = search rules

pub returns : goal.returns
unfolding refusal_within
returns c = search rules
