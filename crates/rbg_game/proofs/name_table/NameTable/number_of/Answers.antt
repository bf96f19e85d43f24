use Rattle.std.proofs.Common.{◌≡◌, ◌∙◌}
use Rattle.rbg_game.specs.internal.Tables.{number_for}
use Rattle.rbg_game.proofs.name_table.NameTable.number_of.Goals as goal

pub returns : goal.returns
returns c =
    let is : c.copied.result ≡ number_for c.self.inside.numbers c.args.text.now = c.copied.ensures ∙ c.get.ensures.value in
    rw (is, ← c.self.view_is) (c.self.invariant.places c.args.text.now)
