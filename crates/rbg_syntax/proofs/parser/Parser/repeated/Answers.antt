use Rattle.std.proofs.Common.{◌≡◌, map, true, false, sym, ◌∙◌}
use Rattle.rbg_grammar.specs.Reading.{next_is, repeated_at}
use Rattle.rbg_grammar.proofs.Turns.{prepend-nil, some_turn, some_turn_fails, some_ends, some_smaller, map-push}
use Rattle.rbg_syntax.proofs.Exits.{Gives-from_err}
use Rattle.rbg_syntax.proofs.parser.Parser.repeated.Goals as goal

pub loop-alloc-init : goal.loop-alloc-init
loop-alloc-init g c = rw c.new-found.ensures.items (sym (prepend-nil (repeated_at g.T.Phrase.begins g.T.Phrase.read c.args.self.now)))

pub returns-in_err-read_from : goal.returns-in_err-read_from
returns-in_err-read_from g c =
    let goes_on : next_is g.T.Phrase.begins c.loop-alloc.self ≡ true = sym c.next_begins.ensures ∙ c.loop-alloc-test.true in
    Gives-from_err _ _ _ _ _ c.from_residual.ensures.1
    (λ f e. some_turn_fails g.T.Phrase.read c.requires g.T.Phrase.begins _ _ c.loop-alloc.self f c.loop-alloc.invariant goes_on e) c.in_err-read_from.ensures

pub loop-alloc-smaller : goal.loop-alloc-smaller
loop-alloc-smaller g c = some_smaller g.T.Phrase.read c.requires g.T.Phrase.begins c.loop-alloc.self c.read_from.new.parser _ c.in_ok-read_from.ensures

pub loop-alloc-preserved : goal.loop-alloc-preserved
loop-alloc-preserved g c =
    let goes_on : next_is g.T.Phrase.begins c.loop-alloc.self ≡ true = sym c.next_begins.ensures ∙ c.loop-alloc-test.true in
    let turn = some_turn g.T.Phrase.read c.requires g.T.Phrase.begins _ (map g.T.Phrase.view c.loop-alloc.found.items) c.loop-alloc.self c.read_from.new.parser (g.T.Phrase.view c.in_ok-read_from.field-0)
    c.loop-alloc.invariant goes_on c.in_ok-read_from.ensures in
    rw (map-push g.T.Phrase.view c.loop-alloc.found.items _ c.in_ok-read_from.field-0 c.in_ok-push.ensures.items) turn

pub returns : goal.returns
returns g c =
    let stops : next_is g.T.Phrase.begins c.loop-alloc.self ≡ false = sym c.next_begins.ensures ∙ c.loop-alloc-test.false in
    some_ends g.T.Phrase.read c.requires g.T.Phrase.begins _ _ c.loop-alloc.self c.loop-alloc.invariant stops
