use Rattle.std.proofs.Common.{sym}
use Rattle.rbg_grammar.specs.Reading.{separated_at}
use Rattle.rbg_grammar.proofs.Turns.{map-push, prepend-nil, taken, left}
use Rattle.rbg_syntax.proofs.Exits.{Gives-from_err}
use Rattle.rbg_syntax.proofs.Separated.{part_fails, part_ends, part_goes_on, part_smaller}
use Rattle.rbg_syntax.proofs.parser.Parser.separated.Goals as goal

pub loop-phrases-init : goal.loop-phrases-init
loop-phrases-init g c = rw c.new-phrases.ensures.items (sym (prepend-nil (separated_at c.args.separator g.T.Phrase.read c.args.self.now)))

pub returns-in_err-read_from : goal.returns-in_err-read_from
returns-in_err-read_from g c =
    Gives-from_err _ _ _ _ _ c.from_residual.ensures.1 (part_fails g.T.Phrase.read c.requires c.args.separator _ _ c.loop-phrases.self c.loop-phrases.invariant) c.in_err-read_from.ensures

pub returns-then-not-takes : goal.returns-then-not-takes
returns-then-not-takes g c =
    let (stops, kept) = left c.takes.ensures c.if-not-takes.true in
    rw (kept, map-push g.T.Phrase.view c.loop-phrases.phrases.items _ c.in_ok-read_from.field-0 c.in_ok-push.ensures.items)
    (part_ends g.T.Phrase.read c.requires c.args.separator _ _ c.loop-phrases.self c.loop-phrases.invariant (g.T.Phrase.view c.in_ok-read_from.field-0) c.read_from.new.parser c.in_ok-read_from.ensures stops)

pub loop-phrases-smaller : goal.loop-phrases-smaller
loop-phrases-smaller g c =
    let (goes_on, passed) = taken c.takes.ensures c.if-not-takes.false in
    rw passed (part_smaller g.T.Phrase.read c.requires c.args.separator c.loop-phrases.self c.read_from.new.parser _ c.in_ok-read_from.ensures)

pub loop-phrases-preserved : goal.loop-phrases-preserved
loop-phrases-preserved g c =
    let (goes_on, passed) = taken c.takes.ensures c.if-not-takes.false in
    rw (passed, map-push g.T.Phrase.view c.loop-phrases.phrases.items _ c.in_ok-read_from.field-0 c.in_ok-push.ensures.items)
    (part_goes_on g.T.Phrase.read c.requires c.args.separator _ _ c.loop-phrases.self c.loop-phrases.invariant (g.T.Phrase.view c.in_ok-read_from.field-0) c.read_from.new.parser c.in_ok-read_from.ensures goes_on)
