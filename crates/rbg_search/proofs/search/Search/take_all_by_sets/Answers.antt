use Rattle.rbg_base.proofs.Common.{◌≡◌, ℕ, ◌+◌, ◌*◌, ◌/◌, ◌%◌, ◌<◌, ap, sym, refl, ◌∙◌, subst, arith, bit_at}
use Rattle.rbg_rules.specs.Meaning.{IsGame, AbstractGame}
use Rattle.rbg_flat.specs.declared.flat.Flat.{Flat}
use Rattle.rbg_flat.specs.Paths.{way_of}
use Rattle.rbg_flat.specs.internal.Sets.{IsInWord}
use Rattle.rbg_search.proofs.Common.{Searching, HasSetsFor, IsToBeAsked}
use Rattle.rbg_search.specs.internal.DeadWords.{AreWaiting, TakesWord}
use Rattle.rbg_search.proofs.TakenWords.{asked_word, bits_hold}
use Rattle.rbg_search.proofs.search.Search.take_all_by_sets.Goals as goal

in_word : (c p asked b : ℕ) → b < 64 → bit_at asked b ≡ 1 → IsInWord p c asked (c * 64 + b) p
in_word c p asked b small set = record { position = refl; column = omega (arith, small); set = subst (λ (k : ℕ). bit_at asked k ≡ 1) (sym rest) set }
  where
    rest : (c * 64 + b) % 64 ≡ b
    rest = omega (arith, small)

pub returns : goal.returns
returns g c =
    let s = c.args.state.now.state in
    let v = c.args.vertex in
    let p = c.args.position in
    let asked : ℕ = c.args.answers.asked in
    let held : ℕ = c.args.answers.held in
    let game : AbstractGame = c.game.result.now in
    let old : Flat = c.deref_mut.result.now in
    let new : Flat = c.take_all.new.self in
    let same : game ≡ c.args.self.now.game = c.game.ensures.game ∙ ap (λ (x : Searching). x.game) c.self.view_is in
    let lawful : IsGame game = subst IsGame (sym c.game.ensures.game) c.game.ensures.lawful in
    let opened : old ≡ c.args.flat.now.value = c.deref_mut.ensures.value in
    let next : IsToBeAsked game old v p = subst (λ (x : AbstractGame). IsToBeAsked x old v p) (sym same) (subst (λ (x : Flat). IsToBeAsked c.args.self.now.game x v p) (sym opened) c.requires.next) in
    let sets : HasSetsFor game old = subst (λ (x : AbstractGame). HasSetsFor x old) (sym same) (subst (λ (x : Flat). HasSetsFor c.args.self.now.game x) (sym opened) c.requires.sets) in
    let waits : AreWaiting game old p (v / 64) asked = subst (λ (x : AbstractGame). AreWaiting x old p (v / 64) asked) (sym same) (subst (λ (x : Flat). AreWaiting c.args.self.now.game x p (v / 64) asked) (sym opened) c.requires.waits) in
    let there : TakesWord (way_of c.args.paths.now) game s old new p (v / 64) asked held = record {
      sets = record { sized = c.take_all.ensures.sized; on = c.take_all.ensures.on sets.on };
      begun = λ f tells begun. record { begun = c.take_all.ensures.begun f (bits_hold game lawful.numbered s p (v / 64) asked held next.pattern tells) begun.begun };
      done = asked_word game old new p (v / 64) asked c.take_all.ensures.still_done c.take_all.ensures.done c.take_all.ensures.quiet;
      lighter = λ b set. c.take_all.ensures.less (v / 64 * 64 + b) (waits.waits b set).is_open (in_word (v / 64) p asked b (waits.waits b set).small set);
    } in
    subst (λ (x : AbstractGame). TakesWord (way_of c.args.paths.now) x s c.args.flat.now.value new p (v / 64) asked held) same
    (subst (λ (x : Flat). TakesWord (way_of c.args.paths.now) game s x new p (v / 64) asked held) opened there)
