-- The item that ends at the zero byte, or at which the limit is passed.
use Rattle.std.proofs.Common.{rules, ◌≤◌, ◌-◌, length, arith, refl}
use Rattle.rbg_wire.proofs.CursorLemmas.{cursor_too_long, passed_too_long, passed_message, nothing_complete}
use Rattle.rbg_wire.proofs.cursor.Cursor.next_item.Goals as goal

pub returns-then-self-limit : goal.returns-then-self-limit
returns-then-self-limit c = record {
  cursor = cursor_too_long _ _ _ c.look-end.ensures.cursor c.if-self-limit.true;
  found = rw (c.requires.kept, ← c.look-end.ensures.start) (passed_too_long _ _ _ c.look-end.ensures.cursor c.if-self-limit.true);
  within = search rules;
  none = search rules;
}

pub returns-in_err-to : goal.returns-in_err-to
returns-in_err-to c =
    let none = c.in_err-to.ensures.none in
    let room : length c.args.bytes.now - c.look-end.new.self.start ≤ c.args.limit = omega (arith, none.0) in
    record {
      cursor = search rules;
      found = search rules;
      within = search rules;
      none = rw (c.from_residual.ensures, c.look-end.ensures.dropping, c.requires.kept, ← c.look-end.ensures.start) (refl, nothing_complete _ _ _ none.1 room);
    }

pub returns : goal.returns
returns c =
    let found = c.in_ok-to.ensures.found in
    let fits : c.in_ok-to.to - c.look-end.new.self.start ≤ c.args.limit = omega (arith, found.0) in
    record {
      cursor = search rules;
      found = rw (c.look-end.ensures.dropping, c.requires.kept, ← c.look-end.ensures.start) (passed_message _ _ _ _ found.1 fits);
      within = search rules;
      none = search rules;
    }
