-- If all bytes are dropped, none is left.
use Rattle.std.proofs.Common.{rules, ◌∙◌, sym, ap}
use Rattle.rbg_wire.proofs.CursorLemmas.{nothing_left}
use Rattle.rbg_wire.proofs.cursor.Cursor.next.Goals as goal

pub returns-then-not-skip : goal.returns-then-not-skip
returns-then-not-skip c =
    let same = c.skip.ensures.same c.args.limit in
    record {
      cursor = search rules;
      found = search rules;
      within = search rules;
      none = (same, sym (ap (λ cut. cut.items) same) ∙ nothing_left c.args.limit c.skip.new.self c.args.bytes.now c.if-not-skip.ensures.all);
    }
