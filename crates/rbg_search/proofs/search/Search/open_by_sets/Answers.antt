use Rattle.std.proofs.Common.{◌≡◌, ◌+◌, ◌*◌, ◌/◌, ap, sym, ◌∙◌, subst}
use Rattle.rbg_rules.specs.Meaning.{AbstractGame}
use Rattle.rbg_flat.specs.declared.flat.Flat.{Flat}
use Rattle.rbg_search.proofs.Common.{Searching, HasSetsFor}
use Rattle.rbg_search.specs.internal.DeadWords.{AreWaiting}
use Rattle.rbg_search.proofs.search.Search.open_by_sets.Goals as goal

pub returns : goal.returns
returns g c =
    let v = c.args.vertex in
    let p = c.args.position in
    let game : AbstractGame = c.game.result.now in
    let flat : Flat = c.deref.result.now in
    let same : game ≡ c.args.self.now.game = c.game.ensures.game ∙ ap (λ (x : Searching). x.game) c.self.view_is in
    let opened : flat ≡ c.args.flat.now.value = c.deref.ensures in
    let sets : HasSetsFor game flat = subst (λ (x : AbstractGame). HasSetsFor x flat) (sym same) (subst (λ (x : Flat). HasSetsFor c.args.self.now.game x) (sym opened) c.requires.sets) in
    let there : AreWaiting game flat p (v / 64) c.open_word.result = record {
      board = λ b set. sets.on.vertex (v / 64 * 64 + b) p (c.open_word.ensures.marked b set).1;
      waits = λ b set. record { small = (c.open_word.ensures.marked b set).0; is_open = c.open_word.ensures.open b set; marked = (c.open_word.ensures.marked b set).1 };
    } in
    subst (λ (x : AbstractGame). AreWaiting x c.args.flat.now.value p (v / 64) c.open_word.result) same
    (subst (λ (x : Flat). AreWaiting game x p (v / 64) c.open_word.result) opened there)
