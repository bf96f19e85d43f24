-- A word is gone.
use Rattle.rbg_base.proofs.Common.{◌≡◌, ◌<◌, ◌≤◌, ◌++◌, length, subst, arith, Some, IsPermutation, All-set, All-pop}
use Rattle.rbg_flat.proofs.Common.{pairs_of, pairs_in, IsFilled, Word}
use Rattle.rbg_flat.proofs.Spellings.{dropped_inside, dropped_last, front_same, last_same}
use Rattle.rbg_flat.proofs.found.drop_word.Goals as goal

pub returns-then-index-len-clause-rest : goal.returns-then-index-len-clause-rest
returns-then-index-len-clause-rest c = λ w there.
    let under : c.args.index < length c.pop.new.self.items = omega (arith, c.if-index-len.true, c.len.ensures, c.pop.new.self.ok.0) in
    dropped_inside c.args.words.now.items c.pop.new.self.items c.in-Some.last w c.args.index c.in-Some.ensures.items under
    (front_same c.args.words.now.items c.pop.new.self.items c.in-Some.last w c.args.index c.in-Some.ensures.items under there)

pub returns-then-index-len-clause-filled : goal.returns-then-index-len-clause-filled
returns-then-index-len-clause-filled c = λ filled.
    let both = All-pop IsFilled c.args.words.now.items c.pop.new.self.items (Some c.in-Some.last) c.in-Some.ensures.items filled in
    All-set IsFilled c.pop.new.self.items c.args.index c.in-Some.last both.1 both.0

pub returns-else-index-len-clause-rest : goal.returns-else-index-len-clause-rest
returns-else-index-len-clause-rest c = λ w there.
    let over : length c.pop.new.self.items ≤ c.args.index = omega (arith, c.if-index-len.false, c.len.ensures, c.pop.new.self.ok.0) in
    let same : c.in-Some.last ≡ w = last_same c.args.words.now.items c.pop.new.self.items c.in-Some.last w c.args.index c.in-Some.ensures.items over c.requires there in
    subst (λ (u : Word). IsPermutation (pairs_in c.args.words.now.items) (pairs_of u ++ pairs_in c.pop.new.self.items)) same
    (dropped_last c.args.words.now.items c.pop.new.self.items c.in-Some.last c.in-Some.ensures.items)
