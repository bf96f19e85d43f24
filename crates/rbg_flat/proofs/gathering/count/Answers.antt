use Rattle.rbg_base.proofs.Common.{◌≡◌, ap, count_ones, arith, ones_le_self}
use Rattle.rbg_flat.proofs.Ones.{few_ones, one_less}
use Rattle.rbg_flat.proofs.gathering.count.Goals as goal

pub returns-then-rest-eq0-clause-ones : goal.returns-then-rest-eq0-clause-ones
returns-then-rest-eq0-clause-ones c =
    let less = one_less c.args.word c.without-rest.result c.lowest.result c.ranges.word.fits c.without-rest.type_inv c.lowest.ensures.small c.lowest.ensures.set c.without-rest.ensures.gone c.without-rest.ensures.others in
    let none : count_ones c.without-rest.result ≡ count_ones 0 = ap count_ones c.if-rest-eq0.true in
    let zero = ones_le_self 0 in
    omega (arith, less, none, zero)

pub returns-else-rest-eq0-clause-ones : goal.returns-else-rest-eq0-clause-ones
returns-else-rest-eq0-clause-ones c =
    let less = one_less c.args.word c.without-rest.result c.lowest.result c.ranges.word.fits c.without-rest.type_inv c.lowest.ensures.small c.lowest.ensures.set c.without-rest.ensures.gone c.without-rest.ensures.others in
    omega (arith, less)

pub returns-else-rest-eq0-clause-few : goal.returns-else-rest-eq0-clause-few
returns-else-rest-eq0-clause-few c =
    let less = one_less c.args.word c.without-rest.result c.lowest.result c.ranges.word.fits c.without-rest.type_inv c.lowest.ensures.small c.lowest.ensures.set c.without-rest.ensures.gone c.without-rest.ensures.others in
    let few = few_ones c.args.word c.ranges.word.fits in
    omega (arith, less, few)
