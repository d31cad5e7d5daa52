-- Each arm is a row; the others' letter is none of these.
use Rattle.names.specs.Names.{guess_of}
use borrow.Author.Tests.{eq-eqb, ne_eqb}
use Rattle.names.proofs.guess.Goals as goal

pub returns-in-82 : goal.returns-in-82
unfolding guess_of
returns-in-82 c = rw c.in-82.is

pub returns-in-73 : goal.returns-in-73
unfolding guess_of
returns-in-73 c = rw c.in-73.is

pub returns-then-size-eq8 : goal.returns-then-size-eq8
unfolding guess_of
returns-then-size-eq8 c = rw (c.in-65.is, eq-eqb _ _ c.if-size-eq8.true)

pub returns-else-size-eq8 : goal.returns-else-size-eq8
unfolding guess_of
returns-else-size-eq8 c = rw (c.in-65.is, ne_eqb _ _ c.if-size-eq8.false)

pub returns-then-size-eq-SHORTEST : goal.returns-then-size-eq-SHORTEST
unfolding guess_of
returns-then-size-eq-SHORTEST c = rw (c.in-80.is, eq-eqb _ _ c.if-size-eq-SHORTEST.true)

pub returns-else-size-eq-SHORTEST : goal.returns-else-size-eq-SHORTEST
unfolding guess_of
returns-else-size-eq-SHORTEST c = rw (c.in-80.is, ne_eqb _ _ c.if-size-eq-SHORTEST.false)

pub returns-then-size-eq4 : goal.returns-then-size-eq4
unfolding guess_of
returns-then-size-eq4 c = rw (c.in-84.is, eq-eqb _ _ c.if-size-eq4.true)

pub returns-else-size-eq4 : goal.returns-else-size-eq4
unfolding guess_of
returns-else-size-eq4 c = rw (c.in-84.is, ne_eqb _ _ c.if-size-eq4.false)

pub returns-in-76 : goal.returns-in-76
unfolding guess_of
returns-in-76 c = rw c.in-76.is

pub returns-in-78 : goal.returns-in-78
unfolding guess_of
returns-in-78 c = rw c.in-78.is

pub returns-in-68 : goal.returns-in-68
unfolding guess_of
returns-in-68 c = rw c.in-68.is

pub returns-in-69 : goal.returns-in-69
unfolding guess_of
returns-in-69 c = rw c.in-69.is

pub returns-in-79 : goal.returns-in-79
unfolding guess_of
returns-in-79 c = rw c.in-79.is

pub returns-in_default : goal.returns-in_default
unfolding guess_of
returns-in_default c = rw (ne_eqb c.args.third 82 c.in_default.in_default-own.rest.0.0.0.0.0.0.0.0.0.1, ne_eqb c.args.third 73 c.in_default.in_default-own.rest.0.0.0.0.0.0.0.0.1, ne_eqb c.args.third 65 c.in_default.in_default-own.rest.0.0.0.0.0.0.0.1, ne_eqb c.args.third 80 c.in_default.in_default-own.rest.0.0.0.0.0.0.1, ne_eqb c.args.third 84 c.in_default.in_default-own.rest.0.0.0.0.0.1, ne_eqb c.args.third 76 c.in_default.in_default-own.rest.0.0.0.0.1, ne_eqb c.args.third 78 c.in_default.in_default-own.rest.0.0.0.1, ne_eqb c.args.third 68 c.in_default.in_default-own.rest.0.0.1, ne_eqb c.args.third 69 c.in_default.in_default-own.rest.0.1, ne_eqb c.args.third 79 c.in_default.in_default-own.rest.1)
